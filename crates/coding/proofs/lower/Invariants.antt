use mathlib.Core.Path.{◌≡◌}
use lib.ListN.{length}
use Rattle.free.specs.Words.{Small}
use Rattle.coding.proofs.Passing.{Going}
use Rattle.coding.proofs.lower.Given as goal

abbrev pub invariant-loop-k : goal.invariant-loop-k
invariant-loop-k l = (length l.depths ≡ length l.initial.depths) × (length l.codes ≡ length l.initial.codes) × (length l.fr ≡ length l.initial.fr) × Small l.fr
    × Going l.facts l.query l.places l.tokens l.ids l.known l.words l.u l.initial.depths l.initial.low l.depths l.low l.s l.deep l.k
