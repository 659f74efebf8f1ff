use Rattle.free.specs.Words.{Filled, Small}
use Rattle.slots.specs.Slots.{digit_at}
use lib.ListN.{length}
use mathlib.Core.Path.{◌≡◌}
use Rattle.free.proofs.fill.Given as goal

abbrev pub invariant-loop-k : goal.invariant-loop-k
invariant-loop-k l = (length l.fr ≡ length l.initial.fr) × Filled l.words (digit_at l.f l.ids) l.fr l.s l.k × Small l.fr
