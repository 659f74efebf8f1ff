use mathlib.Core.Path.{◌≡◌}
use Prim.Native.Nat.{◌+◌, ◌-◌}
use lib.ListN.{drop}
use Rattle.definition.specs.Token.{comment}
use Rattle.lexer.proofs.comment_at.Given as goal

abbrev pub invariant-loop-i : goal.invariant-loop-i
invariant-loop-i l = comment 2 (drop (l.at + 2) l.text) ≡ comment (l.i - l.at) (drop l.i l.text)
