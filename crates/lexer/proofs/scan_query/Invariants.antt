use mathlib.Core.Path.{◌≡◌}
use Prim.Native.Nat.{◌-◌, ◌≤◌}
use lib.ListN.{length, drop}
use Rattle.definition.specs.Token.{lex}
use Rattle.lexer.specs.Scans.{Before}
use Rattle.lexer.proofs.scan_query.Given as goal

abbrev pub invariant-loop-at : goal.invariant-loop-at
invariant-loop-at l = (l.at ≤ length l.query) × (l.count ≤ l.at) × (length l.words ≡ length l.initial.words) × Before l.query l.words l.count l.over (lex (drop l.at l.query) 0 l.at l.count)

abbrev pub decreases-loop-at : goal.decreases-loop-at
decreases-loop-at l = length l.query - l.at
