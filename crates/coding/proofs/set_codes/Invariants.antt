use mathlib.Core.Path.{◌≡◌}
use lib.ListN.{length}
use Rattle.coding.specs.Turns.{Coded}
use Rattle.coding.proofs.set_codes.Given as goal

abbrev pub invariant-loop-i : goal.invariant-loop-i
invariant-loop-i l = (length l.codes ≡ length l.initial.codes) × Coded l.facts l.query l.places l.tokens l.ids l.known l.f l.depths l.words l.codes l.s l.i
