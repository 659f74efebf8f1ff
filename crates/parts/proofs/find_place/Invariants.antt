use Prim.Native.Nat.{◌<◌, ◌≤◌, ◌-◌}
use mathlib.Core.Path.{◌≡◌}
use lib.ListN.{length, get_or}
use Rattle.texts.specs.Orders.{order}
use Rattle.std.specs.declared.cmp.Ordering.TheVariants.{Less}
use Rattle.parts.specs.Packed.{text_of}
use Rattle.parts.proofs.EntryLaws.{Passed}
use Rattle.parts.proofs.find_place.Given as goal

abbrev pub invariant-loop-low : goal.invariant-loop-low
invariant-loop-low l = (l.low ≤ l.high) × (l.high ≤ length l.parts) × (l.text ≡ text_of l.facts l.query l.v) × Passed l.facts l.query l.v l.parts l.low
    × (l.high < length l.parts → order (text_of l.facts l.query l.v) (text_of l.facts l.query (get_or l.parts l.high 0)) ≡ Less)

abbrev pub decreases-loop-low : goal.decreases-loop-low
decreases-loop-low l = l.high - l.low
