use Rattle.rows.specs.Statements.{Setting, Rows}
use Rattle.free.specs.Words.{Small}
use Rattle.words.specs.Parts.{parts}
use Rattle.definition.specs.Answer.{Answer}
use lib.ListN.{drop}
use Prim.Native.Nat.{◌≤◌}
use Rattle.rows.proofs.program_rows.Given as goal

abbrev pub invariant-loop-k : goal.invariant-loop-k
invariant-loop-k l = (l.s ≤ l.k) × Small l.fr
    × ((S : Setting l.words l.ids l.known) (total : Answer (Unit {0})) → Rows l.words l.ids l.known S (parts l.words 0 0) total → Rows l.words l.ids l.known S (parts (drop l.k l.words) l.s l.k) total)
