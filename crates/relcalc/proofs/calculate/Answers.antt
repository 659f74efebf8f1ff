use Rattle.relcalc.proofs.Printing.{prints}
use Rattle.relcalc.proofs.calculate.Goals as goal

pub returns : goal.returns
returns c = prints c.run-a.ensures.run_meets c.requires c.shown-n.ensures c.close-k.ensures
