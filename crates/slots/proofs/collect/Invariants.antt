use Rattle.slots.proofs.Arrays.{Going}
use Rattle.slots.specs.Slots.{names_of}
use mathlib.Core.List.{[]}
use Rattle.slots.proofs.collect.Given as goal

abbrev pub invariant-loop-w : goal.invariant-loop-w
invariant-loop-w l = Going l.ids l.known (names_of l.ids l.known [] l.part) l.part l.w-index l.f
