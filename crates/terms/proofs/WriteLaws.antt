-- Words written one after the other, and a word written once what follows it is there.
use mathlib.Core.List.{List, [], ◌∷◌, ◌++◌}
use mathlib.Core.Path.{◌≡◌, refl, ap, sym, ◌∙◌}
use native.Mathlib.Omega.{arith}
use Prim.Native.Nat.{ℕ, suc, ◌+◌, ◌<◌}
use lib.ListN.{length, set, length-append}
use lib.Seq.{sets, set_comm}
use Rattle.terms.specs.Phrases.{Wrote}

sets_append : (A : List ℕ) (n : ℕ) (xs ys : List ℕ) → sets A n (xs ++ ys) ≡ sets (sets A n xs) (n + length xs) ys
sets_append A n [] ys = let e : n ≡ n + 0 = omega arith in ap (λ i. sets A i ys) e
sets_append A n (x ∷ xs) ys = let e : suc n + length xs ≡ n + suc (length xs) = omega arith in sets_append (set A n x) (suc n) xs ys ∙ ap (λ i. sets (sets (set A n x) (suc n) xs) i ys) e

set_before : (A : List ℕ) (n m w : ℕ) (xs : List ℕ) → n < m → set (sets A m xs) n w ≡ sets (set A n w) m xs
set_before A n m w [] h = refl
set_before A n m w (x ∷ xs) h = set_before (set A m x) n (suc m) w xs (omega arith) ∙ ap (λ B. sets B (suc m) xs) (set_comm A m n x w (λ e. omega arith))

pub wrote_none : (A : List ℕ) (n : ℕ) → Wrote A n [] n A
wrote_none A n = record { is = refl; many = omega arith }

pub wrote_then : {A A₁ A₂ : List ℕ} {n m l : ℕ} {xs ys : List ℕ} → Wrote A n xs m A₁ → Wrote A₁ m ys l A₂ → Wrote A n (xs ++ ys) l A₂
wrote_then {A} {A₁} {A₂} {n} {m} {l} {xs} {ys} f g = record {
  is = g.is ∙ ap (λ i. sets A₁ i ys) f.many ∙ ap (λ B. sets B (n + length xs) ys) f.is ∙ sym (sets_append A n xs ys);
  many = simp length-append (omega (arith, f.many, g.many));
}

pub wrote_one : (A : List ℕ) (n w : ℕ) → Wrote A n (w ∷ []) (n + 1) (set A n w)
wrote_one A n w = record { is = refl; many = refl }

pub wrote_next : {A A₁ : List ℕ} {n m : ℕ} {xs : List ℕ} → Wrote A n xs m A₁ → (w : ℕ) → Wrote A n (xs ++ (w ∷ [])) (m + 1) (set A₁ m w)
wrote_next {A₁ = A₁} {m = m} f w = wrote_then f (wrote_one A₁ m w)

pub wrote_before : {A A₁ : List ℕ} {n m : ℕ} {xs : List ℕ} → Wrote A (n + 1) xs m A₁ → (w : ℕ) → Wrote A n (w ∷ xs) m (set A₁ n w)
wrote_before {A} {A₁} {n} {m} {xs} f w = let e : n + 1 ≡ suc n = omega arith in record {
  is = ap (λ B. set B n w) f.is ∙ set_before A n (n + 1) w xs (omega arith) ∙ ap (λ i. sets (set A n w) i xs) e;
  many = omega (arith, f.many);
}

pub wrote_as : {A A₁ : List ℕ} {n m : ℕ} {xs ys : List ℕ} → xs ≡ ys → Wrote A n xs m A₁ → Wrote A n ys m A₁
wrote_as e f = rw e at f

-- three words in a row, and four
pub three : (A : List ℕ) (n x y z w : ℕ) → z ≡ w → set (set (set A n x) (n + 1) y) (n + 2) z ≡ sets A n (x ∷ y ∷ w ∷ [])
three A n x y z w e = let f : n + 1 ≡ suc n = omega arith in let g : n + 2 ≡ suc (suc n) = omega arith in ap (λ i. set (set (set A n x) i y) (n + 2) z) f ∙ ap (λ i. set (set (set A n x) (suc n) y) i z) g ∙ ap (set (set (set A n x) (suc n) y) (suc (suc n))) e

pub four : (A : List ℕ) (n x y z w y' z' w' : ℕ) → y ≡ y' → z ≡ z' → w ≡ w' → set (set (set (set A n x) (n + 1) y) (n + 2) z) (n + 3) w ≡ sets A n (x ∷ y' ∷ z' ∷ w' ∷ [])
four A n x y z w y' z' w' e f g =
    let i : n + 3 ≡ suc (suc (suc n)) = omega arith in
    ap (λ a. set (set (set (set A n x) (n + 1) a) (n + 2) z) (n + 3) w) e
    ∙ ap (λ B. set B (n + 3) w) (three A n x y' z z' f)
    ∙ ap (λ j. set (sets A n (x ∷ y' ∷ z' ∷ [])) j w) i
    ∙ ap (set (sets A n (x ∷ y' ∷ z' ∷ [])) (suc (suc (suc n)))) g
