use mathlib.Core.Path.{◌≡◌}
use Rattle.actions.specs.Parts.{start}
use Rattle.actions.proofs.start_of.Given as goal

-- n places are left
abbrev pub invariant-loop-n : goal.invariant-loop-n
invariant-loop-n l = start l.words l.n ≡ start l.words l.at
