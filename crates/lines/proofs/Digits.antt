-- A number's digits.
use Prim.Native.Nat.{ℕ, zero, suc, ◌+◌, ◌-◌, ◌/◌, ◌%◌, ◌<◌, ◌≤◌}
use mathlib.Core.Path.{◌≡◌, refl, sym, ap, ◌∙◌}
use mathlib.Core.Bool.{Bool, true, false, cond}
use mathlib.Core.List.{[], ◌∷◌, ◌++◌}
use native.Mathlib.Omega.{arith}
use borrow.Author.Tests.{lt-ltb, le-ltb}
use lib.Dec.{ltb}
use lib.ListN.{length, length-append}
use Rattle.definition.specs.Decimals.{digits}

-- by how many it may have
pub digits_none : (k n : ℕ) → k ≡ 0 → [] ≡ digits k n
unfolding digits
digits_none k n e = sym (ap (λ (j : ℕ). digits j n) e)

pub digits_last : (k n : ℕ) → (k ≡ 0 → ⊥) → n < 10 → (48 + n) ∷ [] ≡ digits k n
unfolding digits
digits_last zero n h l = absurd (h refl)
digits_last (suc k) n h l = ap (λ (b : Bool). cond b ((48 + n) ∷ []) (digits k (n / 10) ++ ((48 + n % 10) ∷ []))) (sym (lt-ltb n 10 l))

pub digits_more : (k n : ℕ) → (k ≡ 0 → ⊥) → 10 ≤ n → digits (k - 1) (n / 10) ++ ((48 + n % 10) ∷ []) ≡ digits k n
unfolding digits
digits_more zero n h l = absurd (h refl)
digits_more (suc k) n h l =
    let e : suc k - 1 ≡ k = omega arith in
    ap (λ (j : ℕ). digits j (n / 10) ++ ((48 + n % 10) ∷ [])) e
    ∙ ap (λ (b : Bool). cond b ((48 + n) ∷ []) (digits k (n / 10) ++ ((48 + n % 10) ∷ []))) (sym (le-ltb n 10 l))

pub few_digits : (k n : ℕ) → length (digits k n) ≤ k
unfolding digits
few_digits zero n = omega arith
few_digits (suc k) n = go (ltb n 10) (few_digits k (n / 10))
  where
    go : (b : Bool) → length (digits k (n / 10)) ≤ k → length (cond b ((48 + n) ∷ []) (digits k (n / 10) ++ ((48 + n % 10) ∷ []))) ≤ suc k
    go true h = omega arith
    go false h = omega (arith, length-append (digits k (n / 10)) ((48 + n % 10) ∷ []))
