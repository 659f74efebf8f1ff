use mathlib.Core.Path.{◌≡◌}
use mathlib.Core.List.{◌∷◌, ◌++◌}
use lib.ListN.{take, drop}
use Rattle.parts.proofs.insert_at.Given as goal

-- with the carried word at its place, they are the words of before with v before them
abbrev pub invariant-loop-w : goal.invariant-loop-w
invariant-loop-w g l = take l.w-index l.w-items ++ l.carried ∷ drop l.w-index l.w-items ≡ l.fn.v ∷ l.initial.w-items
