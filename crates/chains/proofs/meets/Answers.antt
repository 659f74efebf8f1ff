use mathlib.Core.Path.{refl}
use Rattle.chains.specs.Levels.{meets}
use Rattle.chains.proofs.meets.Goals as goal

pub returns : goal.returns
unfolding meets
returns c = refl
