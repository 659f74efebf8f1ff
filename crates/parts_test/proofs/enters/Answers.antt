use borrow.Author.Tests.{eq-eqb}
use Prim.Native.Nat.{ℕ}
use mathlib.Core.Path.{◌≡◌, ap, sym, ◌∙◌}
use mathlib.Core.Bool.{true}
use mathlib.Core.List.{List, ◌++◌}
use native.Mathlib.Omega.{arith}
use lib.Dec.{eqb}
use lib.ListN.{get_or, drop}
use lib.Seq.{length-take-le}
use Rattle.parts_test.specs.Texts.{four}
use Rattle.parts_test.proofs.enters.Goals as goal

-- a word of what is left
left : (room : ℕ) {l front after : List ℕ} → l ≡ front → front ++ drop room four ≡ after → (i : ℕ) → eqb (get_or (l ++ drop room four) i 0) (get_or after i 0) ≡ true
left room e h i = eq-eqb _ _ (ap (λ (l : List ℕ). get_or l i 0) (ap (λ (l : List ℕ). l ++ drop room four) e ∙ h))

pub slice_bounds-enter-end : goal.slice_bounds-enter-end
slice_bounds-enter-end c = sym (length-take-le _ four c.requires.le_room.1)

pub enter-requires : goal.enter-requires
enter-requires c = (omega (arith, length-take-le c.args.room four c.requires.le_room.1), c.requires.le_room.2)

pub expect-requires : goal.expect-requires
expect-requires c = eq-eqb _ _ (c.enter.ensures.count ∙ c.requires.four_value)

pub expect-requires-2 : goal.expect-requires-2
expect-requires-2 c = left c.args.room c.enter.ensures.words c.requires.four_value_2 0

pub expect-requires-3 : goal.expect-requires-3
expect-requires-3 c = left c.args.room c.enter.ensures.words c.requires.four_value_2 1

pub expect-requires-4 : goal.expect-requires-4
expect-requires-4 c = left c.args.room c.enter.ensures.words c.requires.four_value_2 2

pub expect-requires-5 : goal.expect-requires-5
expect-requires-5 c = left c.args.room c.enter.ensures.words c.requires.four_value_2 3
