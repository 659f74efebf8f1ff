-- The order and the equality of two texts, as the library compares slices, and what the order says.
use Prim.Native.Nat.{ℕ}
use mathlib.Core.Path.{◌≡◌, refl, ap}
use mathlib.Core.List.{[], ◌∷◌}
use mathlib.Core.Bool.{Bool, true, false, ◌&&◌, cond}
use native.Mathlib.Omega.{arith}
use lib.Dec.{eqb, ltb}
use lib.ListN.{take}
use borrow.Author.Tests.{eqb-true, ltb-true}
use Rattle.std.specs.Prelude.{nat_eq}
use Rattle.std.specs.Cmp.Lexicographic.{pointwise, slice_cmp}
use Rattle.std.specs.Ordering.{ordering_then, nat_cmp}
use Rattle.std.specs.declared.cmp.Ordering.{Ordering}
use Rattle.std.specs.declared.cmp.Ordering.TheVariants.{Less, Equal, Greater}
use Rattle.definition.specs.Text.{Text, same, earlier, starts}
use Rattle.texts.specs.Orders.{order}

-- the library's equality and order of two slices of bytes
pub same_bytes : (s t : Text) → pointwise nat_eq s t ≡ same s t
unfolding same
same_bytes [] [] = refl
same_bytes [] (y ∷ ys) = refl
same_bytes (x ∷ xs) [] = refl
same_bytes (x ∷ xs) (y ∷ ys) = ap (λ (r : Bool). eqb x y && r) (same_bytes xs ys)

pub order_bytes : (s t : Text) → slice_cmp nat_cmp s t ≡ order s t
unfolding order same earlier
order_bytes [] [] = refl
order_bytes [] (y ∷ ys) = refl
order_bytes (x ∷ xs) [] = refl
order_bytes (x ∷ xs) (y ∷ ys) = go (eqb x y) (ltb x y) refl refl (order_bytes xs ys)
  where
    go : (a b : Bool) → eqb x y ≡ a → ltb x y ≡ b → slice_cmp nat_cmp xs ys ≡ order xs ys
        → ordering_then (cond b Less (cond a Equal Greater)) (slice_cmp nat_cmp xs ys) ≡ cond (a && same xs ys) Equal (cond (cond a (earlier xs ys) b) Less Greater)
    go true true e l ih = absurd (omega (arith, eqb-true x y e, ltb-true x y l))
    go true false e l ih = ih
    go false true e l ih = refl
    go false false e l ih = refl

-- what an order says of equality and of the definition's byte order
by_tests : Bool → Bool → Ordering
by_tests a b = cond a Equal (cond b Less Greater)

tests_same : (a b : Bool) → by_tests a b ≡ Equal → a ≡ true
unfolding by_tests
tests_same true b e = refl
tests_same false true e = let z : ◌≡◌ {A = ℕ} 0 1 = cc in absurd (omega arith)
tests_same false false e = let z : ◌≡◌ {A = ℕ} 0 1 = cc in absurd (omega arith)

tests_before : (a b : Bool) → by_tests a b ≡ Less → (a ≡ false) × (b ≡ true)
unfolding by_tests
tests_before true b e = let z : ◌≡◌ {A = ℕ} 0 1 = cc in absurd (omega arith)
tests_before false true e = (refl, refl)
tests_before false false e = let z : ◌≡◌ {A = ℕ} 0 1 = cc in absurd (omega arith)

tests_after : (a b : Bool) → by_tests a b ≡ Greater → (a ≡ false) × (b ≡ false)
unfolding by_tests
tests_after true b e = let z : ◌≡◌ {A = ℕ} 0 1 = cc in absurd (omega arith)
tests_after false true e = let z : ◌≡◌ {A = ℕ} 0 1 = cc in absurd (omega arith)
tests_after false false e = (refl, refl)

module _ (s t : Text) where
  pub is_same : order s t ≡ Equal → same s t ≡ true
  unfolding order by_tests
  is_same e = tests_same (same s t) (earlier s t) e

  pub is_before : order s t ≡ Less → (same s t ≡ false) × (earlier s t ≡ true)
  unfolding order by_tests
  is_before e = tests_before (same s t) (earlier s t) e

  pub is_after : order s t ≡ Greater → (same s t ≡ false) × (earlier s t ≡ false)
  unfolding order by_tests
  is_after e = tests_after (same s t) (earlier s t) e

-- the first byte of a text, by the library's test
pub starts_byte : (b : ℕ) (l : Text) → pointwise nat_eq (b ∷ []) (take 1 l) ≡ starts (b ∷ []) l
unfolding starts
starts_byte b [] = refl
starts_byte b (x ∷ l) = refl
