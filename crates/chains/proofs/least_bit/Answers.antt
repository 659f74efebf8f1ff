use Rattle.chains.proofs.Least.{trailing_least}
use Rattle.chains.proofs.least_bit.Goals as goal

pub returns : goal.returns
returns c = trailing_least 64 c.args.w
