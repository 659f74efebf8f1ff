-- The byte 13 of a line's end: a line without it, and how far the bytes are legal.
use Prim.Native.Nat.{ℕ, suc, ◌+◌, ◌-◌, ◌<◌, ◌≤◌}
use mathlib.Core.Path.{◌≡◌, refl, sym, ap, ◌∙◌}
use mathlib.Core.List.{[], ◌∷◌, ◌++◌, append-nil}
use mathlib.Core.Bool.{Bool, true, false, ◌||◌, cond, or-true, or-false}
use native.Mathlib.Numerals.{add-one}
use native.Mathlib.Decide.{dec_lt}
use native.Mathlib.Nat.{zero-add}
use native.Mathlib.Omega.{arith}
use lib.Dec.{eqb}
use lib.ListN.{length, get_or, take, drop, drop_of_length-le, length-drop}
use lib.Seq.{take-suc, get_or-drop, drop-cons, drop-drop}
use borrow.Author.Tests.{eq-eqb, ne_eqb}
use Rattle.definition.specs.Text.{Text, span, between, is_legal}
use Rattle.definition.specs.Facts.{without_return, legal_at, legal_bytes}

last_byte : (l : Text) (x : ℕ) → without_return (l ++ (x ∷ [])) ≡ l ++ cond (eqb x 13) [] (x ∷ [])
unfolding without_return
last_byte [] x = refl
last_byte (y ∷ []) x = refl
last_byte (y ∷ z ∷ l) x = ap (λ (m : Text). y ∷ m) (last_byte (z ∷ l) x)

-- the line from a to e
module _ (xs : Text) (a e : ℕ) (from : a ≤ e) (within : e ≤ length xs) where
  pub end_empty : a ≡ e → take (e - a) (drop a xs) ≡ without_return (take (e - a) (drop a xs))
  unfolding without_return
  end_empty h = let n : e - a ≡ 0 = omega arith in rw n

  module _ (some : a < e) where
    split : take (e - a) (drop a xs) ≡ take (e - 1 - a) (drop a xs) ++ (get_or xs (e - 1) 0 ∷ [])
    split =
        let n : e - a ≡ suc (e - 1 - a) = omega arith in
        let m : a + (e - 1 - a) ≡ e - 1 = omega arith in
        ap (λ (k : ℕ). take k (drop a xs)) n ∙ take-suc (drop a xs) (e - 1 - a) 0 (rw length-drop (omega arith))
        ∙ ap (λ (x : ℕ). take (e - 1 - a) (drop a xs) ++ (x ∷ [])) (get_or-drop a xs (e - 1 - a) 0 ∙ ap (λ (k : ℕ). get_or xs k 0) m)

    trimmed : without_return (take (e - a) (drop a xs)) ≡ take (e - 1 - a) (drop a xs) ++ cond (eqb (get_or xs (e - 1) 0) 13) [] (get_or xs (e - 1) 0 ∷ [])
    trimmed = ap without_return split ∙ last_byte (take (e - 1 - a) (drop a xs)) (get_or xs (e - 1) 0)

    pub end_return : get_or xs (e - 1) 0 ≡ 13 → take (e - 1 - a) (drop a xs) ≡ without_return (take (e - a) (drop a xs))
    end_return h = sym (trimmed ∙ rw (eq-eqb (get_or xs (e - 1) 0) 13 h) (append-nil (take (e - 1 - a) (drop a xs))))

    pub end_kept : (get_or xs (e - 1) 0 ≡ 13 → ⊥) → take (e - a) (drop a xs) ≡ without_return (take (e - a) (drop a xs))
    end_kept h = sym (trimmed ∙ rw (ne_eqb (get_or xs (e - 1) 0) 13 h) (sym split))

-- whether a legal byte stands at n
module _ (xs : Text) (n : ℕ) where
  pub legal_none : length xs ≤ n → false ≡ legal_at (drop n xs)
  legal_none h = rw (drop_of_length-le xs {i = n} h)

  module _ (h : n < length xs) where
    pub legal_other : (get_or xs n 0 ≡ 13 → ⊥) → is_legal (get_or xs n 0) ≡ legal_at (drop n xs)
    legal_other e = rw (drop-cons xs n 0, ne_eqb (get_or xs n 0) 13 e) (sym (or-false (is_legal (get_or xs n 0))))

    module _ (e : get_or xs n 0 ≡ 13) where
      pub legal_last : n + 1 ≡ length xs → true ≡ legal_at (drop n xs)
      unfolding is_legal
      legal_last k = let m : length xs ≤ suc n = omega arith in rw (drop-cons xs n 0, e, drop_of_length-le xs {i = suc n} m)

      pub legal_before : n + 1 < length xs → eqb (get_or xs (n + 1) 0) 10 ≡ legal_at (drop n xs)
      unfolding is_legal
      legal_before k = let m : suc n < length xs = omega arith in rw (drop-cons xs n 0 h, e, drop-cons xs (suc n) 0 m, add-one)

  pub legal_within : legal_at (drop n xs) ≡ true → n < length xs
  legal_within e = go (dec_lt n (length xs))
    where
      go : Dec (n < length xs) → n < length xs
      go (yes l) = l
      go (no l) = let m : false ≡ true = legal_none (omega arith) ∙ e in let z : ◌≡◌ {A = ℕ} 0 1 = cc in absurd (omega arith)

-- the legal bytes up to i, and those after
pub record LegalTo (xs : Text) (i : ℕ) : Type 0 where
  pub is : legal_bytes xs ≡ i + legal_bytes (drop i xs)

pub legal_start : (xs : Text) → LegalTo xs 0
legal_start xs = record { is = sym (zero-add _) }

abbrev printable : ℕ → Bool
printable = between 32 126

printable_legal : (x : ℕ) → printable x ≡ true → is_legal x ≡ true
unfolding is_legal
printable_legal x e = rw e (or-true (eqb x 9 || eqb x 10))

legal_run : (xs : Text) → legal_bytes xs ≡ span printable xs + legal_bytes (drop (span printable xs) xs)
unfolding span legal_bytes
legal_run [] = refl
legal_run (x ∷ xs) = go (printable x) refl (legal_run xs)
  where
    go : (b : Bool) → printable x ≡ b → legal_bytes xs ≡ span printable xs + legal_bytes (drop (span printable xs) xs)
        → legal_bytes (x ∷ xs) ≡ cond b (suc (span printable xs)) 0 + legal_bytes (drop (cond b (suc (span printable xs)) 0) (x ∷ xs))
    go true e ih = rw (printable_legal x e) (omega (arith, ih))
    go false e ih = sym (zero-add _)

legal_stop : (ys : Text) → legal_at ys ≡ false → legal_bytes ys ≡ 0
unfolding legal_bytes
legal_stop [] h = refl
legal_stop (y ∷ ys) h = rw h

legal_step : (ys : Text) → legal_at ys ≡ true → legal_bytes ys ≡ suc (legal_bytes (drop 1 ys))
unfolding legal_bytes
legal_step [] h = let z : ◌≡◌ {A = ℕ} 0 1 = cc in absurd (omega arith)
legal_step (y ∷ ys) h = rw h

module _ (xs : Text) (i n : ℕ) (r : n ≡ i + span printable (drop i xs)) (h : LegalTo xs i) where
  past : LegalTo xs n
  past =
      record {
        is = h.is ∙ ap (λ (k : ℕ). i + k) (legal_run (drop i xs)) ∙ ap (λ (l : Text). i + (span printable (drop i xs) + legal_bytes l)) (drop-drop (span printable (drop i xs)) i xs)
            ∙ rw r (omega arith);
      }

  pub legal_end : legal_at (drop n xs) ≡ false → n ≡ legal_bytes xs
  legal_end e = omega (arith, past.is, legal_stop (drop n xs) e)

  pub legal_more : legal_at (drop n xs) ≡ true → LegalTo xs (n + 1)
  legal_more e =
      let z : legal_bytes (drop n xs) ≡ suc (legal_bytes (drop (n + 1) xs)) = legal_step (drop n xs) e ∙ ap (λ (l : Text). suc (legal_bytes l)) (drop-drop 1 n xs) in
      record { is = omega (arith, past.is, z) }
