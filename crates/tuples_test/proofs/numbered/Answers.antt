use borrow.Author.Tests.{eq-eqb}
use Prim.Native.Nat.{ℕ, ◌<◌}
use mathlib.Core.Path.{◌≡◌, ap, sym, ◌∙◌}
use mathlib.Core.Bool.{true}
use mathlib.Core.List.{List}
use lib.Dec.{eqb, lit<}
use lib.ListN.{get_or, take}
use lib.Seq.{get_or-take}
use Rattle.tuples.specs.Places.{digits}
use Rattle.tuples_test.proofs.numbered.Goals as goal

-- an element of a tuple whose elements are the digits of 27
element : (t : List ℕ) → take 3 t ≡ digits 4 3 27 → (i : ℕ) → i < 3 → eqb (get_or t i 0) (get_or (digits 4 3 27) i 0) ≡ true
element t e i h = eq-eqb _ _ (sym (get_or-take 3 t i 0 h) ∙ ap (λ (l : List ℕ). get_or l i 0) e)

pub expect-requires : goal.expect-requires
unfolding digits
expect-requires c = element c.tuple_of-t.result c.tuple_of-t.ensures 0 (lit< tt)

pub expect-requires-2 : goal.expect-requires-2
unfolding digits
expect-requires-2 c = element c.tuple_of-t.result c.tuple_of-t.ensures 1 (lit< tt)

pub expect-requires-3 : goal.expect-requires-3
unfolding digits
expect-requires-3 c = element c.tuple_of-t.result c.tuple_of-t.ensures 2 (lit< tt)
