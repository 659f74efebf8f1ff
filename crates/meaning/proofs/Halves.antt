-- The elements of a set, in two halves of 32.
use Prim.Native.Nat.{ℕ, ◌+◌, ◌-◌, ◌<◌, ◌≤◌}
use mathlib.Core.Path.{◌≡◌, refl, ap, ap₂, subst, ◌∙◌}
use mathlib.Core.Bool.{Bool, true, false, ◌||◌, ◌&&◌}
use mathlib.Core.List.{List, [], ◌∷◌}
use native.Mathlib.Nat.{zero-add}
use native.Mathlib.Omega.{arith}
use borrow.Author.Tests.{ltb-true, ltb-false, le-leb, lt-leb}
use lib.Dec.{ltb, leb}
use Rattle.definition.specs.Text.{some_of}
use Rattle.definition.specs.Tables.{bit}
use Rattle.bits.proofs.Laws.{bit_past}

module _ (M : ℕ → Bool) (x u a : ℕ) where
  pub first_half : x < 4294967296 → ((i : ℕ) → i < 32 → 0 + i < u → bit x i ≡ M (0 + i)) → a < u → leb 0 a && bit x (a - 0) ≡ ltb a 32 && M a
  first_half l h k = ap₂ (λ (t : Bool) (i : ℕ). t && bit x i) (le-leb 0 a (omega arith)) (omega arith) ∙ go (ltb a 32) refl
    where
      go : (b : Bool) → ltb a 32 ≡ b → bit x a ≡ b && M a
      go true e = subst (λ (i : ℕ). bit x a ≡ M i) (zero-add a) (h a (ltb-true a 32 e) (omega arith))
      go false e = bit_past 32 x a l (ltb-false a 32 e)

  pub second_half : u ≤ 64 → ((i : ℕ) → i < 32 → 32 + i < u → bit x i ≡ M (32 + i)) → a < u → leb 32 a && bit x (a - 32) ≡ leb 32 a && M a
  second_half f h k = go (ltb a 32) refl
    where
      go : (b : Bool) → ltb a 32 ≡ b → leb 32 a && bit x (a - 32) ≡ leb 32 a && M a
      go true e = rw (lt-leb 32 a (ltb-true a 32 e)) refl
      go false e =
          let g : 32 ≤ a = ltb-false a 32 e in
          let j : 32 + (a - 32) ≡ a = omega arith in
          ap (λ (t : Bool). leb 32 a && t) (subst (λ (i : ℕ). bit x (a - 32) ≡ M i) j (h (a - 32) (omega arith) (omega arith)))

-- an element is in one of them
in_halves : (M : ℕ → Bool) (a : ℕ) → (ltb a 32 && M a) || (leb 32 a && M a) ≡ M a
in_halves M a = go (ltb a 32) (M a) refl
  where
    go : (b m : Bool) → ltb a 32 ≡ b → (b && m) || (leb 32 a && m) ≡ m
    go true true e = refl
    go true false e = rw (lt-leb 32 a (ltb-true a 32 e)) refl
    go false m e = rw (le-leb 32 a (ltb-false a 32 e)) refl

either : (f g h : ℕ → Bool) (cs : List ℕ) → ((a : ℕ) → f a || g a ≡ h a) → some_of f cs || some_of g cs ≡ some_of h cs
unfolding some_of
either f g h [] e = refl
either f g h (a ∷ cs) e = swap (f a) (g a) (some_of f cs) (some_of g cs) ∙ ap₂ ◌||◌ (e a) (either f g h cs e)
  where
    swap : (p q r s : Bool) → (p || r) || (q || s) ≡ (p || q) || (r || s)
    swap true q r s = refl
    swap false true true s = refl
    swap false true false s = refl
    swap false false r s = refl

pub some_halves : (M : ℕ → Bool) (cs : List ℕ) → some_of (λ a. ltb a 32 && M a) cs || some_of (λ a. leb 32 a && M a) cs ≡ some_of M cs
some_halves M cs = either (λ a. ltb a 32 && M a) (λ a. leb 32 a && M a) M cs (in_halves M)
