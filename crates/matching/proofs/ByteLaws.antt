-- A byte of a set: the loop over the set's bytes, and what it has to do with the ranges listed.
use mathlib.Core.Path.{◌≡◌, refl, sym, ap, ◌∙◌, subst}
use mathlib.Core.Bool.{Bool, true, false, ◌&&◌, ◌||◌, not, cond}
use mathlib.Core.List.{List, [], ◌∷◌}
use Prim.Native.Nat.{ℕ, zero, suc, ◌+◌, ◌-◌, ◌≤◌, ◌<◌}
use native.Mathlib.Numerals.{add-one, add-two, add-three}
use native.Mathlib.Nat.{not-suc-le-zero, le_of_suc-le-suc}
use native.Mathlib.Omega.{arith}
use lib.Dec.{T, leb, eqb, leb→le, le→leb, eqb→eq, eqb_refl}
use lib.ListN.{length, drop, get_or, length-drop}
use lib.Seq.{drop-cons}
use borrow.Author.Tests.{le-leb, lt-leb}
use Rattle.definition.specs.Text.{Text, between, some_of}
use Rattle.definition.specs.Pattern.{Range, in_ranges, goes_on, Lists, no_byte, a_range, a_byte}
use Rattle.definition.proofs.BoolLaws.{and_left, and_right, and_both}
use Rattle.patterns.proofs.ByteLaws.{eqb_true, eqb_false}
use Rattle.matching.specs.Bytes.{is_held}

pub held_none : (t : Text) (i b : ℕ) → length t ≤ i → is_held (drop i t) b ≡ false
unfolding is_held
held_none [] zero b h = refl
held_none [] (suc i) b h = refl
held_none (x ∷ t) zero b h = absurd (not-suc-le-zero h)
held_none (x ∷ t) (suc i) b h = held_none t i b (le_of_suc-le-suc h)

-- the last two bytes stand for themselves
short_held : (a : ℕ) (xs : Text) (b : ℕ) → length xs < 2 → is_held (a ∷ xs) b ≡ eqb a b || is_held xs b
unfolding is_held
short_held a [] b h = or_none (eqb a b)
  where
    or_none : (x : Bool) → x ≡ x || false
    or_none true = refl
    or_none false = refl
short_held a (d ∷ []) b h = refl
short_held a (d ∷ c ∷ xs) b h = absurd (omega arith)

by_true : {A : Type 0} (x y : A) (b : Bool) → b ≡ true → cond b x y ≡ x
by_true x y b e = rw e

by_false : {A : Type 0} (x y : A) (b : Bool) → b ≡ false → cond b x y ≡ y
by_false x y b e = rw e

module _ (t : Text) (i b : ℕ) where
  one_held : i < length t → length t - i < 3 → is_held (drop i t) b ≡ eqb (get_or t i 0) b || is_held (drop (i + 1) t) b
  one_held h l =
      ap (λ x. is_held x b) (drop-cons t i 0 h)
      ∙ short_held (get_or t i 0) (drop (suc i) t) b (let e = length-drop (suc i) t in omega arith)
      ∙ ap (λ k. eqb (get_or t i 0) b || is_held (drop k t) b) (sym (add-one i))

  three : i + 2 < length t → drop i t ≡ get_or t i 0 ∷ get_or t (i + 1) 0 ∷ get_or t (i + 2) 0 ∷ drop (i + 3) t
  three h =
      rw (add-one i, add-two i, add-three i)
      (drop-cons t i 0 (omega arith)
      ∙ ap (λ x. get_or t i 0 ∷ x) (drop-cons t (suc i) 0 (omega arith) ∙ ap (λ x. get_or t (suc i) 0 ∷ x) (drop-cons t (suc (suc i)) 0 (omega arith))))

  two : i + 2 < length t → drop (i + 1) t ≡ get_or t (i + 1) 0 ∷ get_or t (i + 2) 0 ∷ drop (i + 3) t
  two h = rw (add-one i, add-two i, add-three i) (drop-cons t (suc i) 0 (omega arith) ∙ ap (λ x. get_or t (suc i) 0 ∷ x) (drop-cons t (suc (suc i)) 0 (omega arith)))

  plain_held : i + 2 < length t → (get_or t (i + 1) 0 ≡ 45 → ⊥) → is_held (drop i t) b ≡ eqb (get_or t i 0) b || is_held (drop (i + 1) t) b
  unfolding is_held
  plain_held h n =
      ap (λ x. is_held x b) (three h) ∙ by_false _ _ (eqb (get_or t (i + 1) 0) 45) (eqb_false (get_or t (i + 1) 0) 45 n)
      ∙ ap (λ x. eqb (get_or t i 0) b || is_held x b) (sym (two h))

  range_held : i + 2 < length t → get_or t (i + 1) 0 ≡ 45 → is_held (drop i t) b ≡ between (get_or t i 0) (get_or t (i + 2) 0) b || is_held (drop (i + 3) t) b
  unfolding is_held
  range_held h n = ap (λ x. is_held x b) (three h) ∙ by_true _ _ (eqb (get_or t (i + 1) 0) 45) (eqb_true (get_or t (i + 1) 0) 45 n)

  hit : (c : Bool) → is_held (drop i t) b ≡ eqb (get_or t i 0) b || c → get_or t i 0 ≡ b → is_held (drop i t) b ≡ true
  hit c q e = q ∙ ap (λ x. x || c) (eqb_true (get_or t i 0) b e)

  miss : (c : Bool) → is_held (drop i t) b ≡ eqb (get_or t i 0) b || c → (get_or t i 0 ≡ b → ⊥) → is_held (drop i t) b ≡ c
  miss c q e = q ∙ ap (λ x. x || c) (eqb_false (get_or t i 0) b e)

  pub last_hit : i < length t → length t - i < 3 → get_or t i 0 ≡ b → is_held (drop i t) b ≡ true
  last_hit h l e = hit (is_held (drop (i + 1) t) b) (one_held h l) e

  pub last_miss : i < length t → length t - i < 3 → (get_or t i 0 ≡ b → ⊥) → is_held (drop i t) b ≡ is_held (drop (i + 1) t) b
  last_miss h l e = miss (is_held (drop (i + 1) t) b) (one_held h l) e

  pub plain_hit : i + 2 < length t → (get_or t (i + 1) 0 ≡ 45 → ⊥) → get_or t i 0 ≡ b → is_held (drop i t) b ≡ true
  plain_hit h n e = hit (is_held (drop (i + 1) t) b) (plain_held h n) e

  pub plain_miss : i + 2 < length t → (get_or t (i + 1) 0 ≡ 45 → ⊥) → (get_or t i 0 ≡ b → ⊥) → is_held (drop i t) b ≡ is_held (drop (i + 1) t) b
  plain_miss h n e = miss (is_held (drop (i + 1) t) b) (plain_held h n) e

  pub range_below : i + 2 < length t → get_or t (i + 1) 0 ≡ 45 → b < get_or t i 0 → is_held (drop i t) b ≡ is_held (drop (i + 3) t) b
  range_below h n l = range_held h n ∙ rw (lt-leb (get_or t i 0) b l)

  pub range_hit : i + 2 < length t → get_or t (i + 1) 0 ≡ 45 → get_or t i 0 ≤ b → b ≤ get_or t (i + 2) 0 → is_held (drop i t) b ≡ true
  range_hit h n l m = range_held h n ∙ rw (le-leb (get_or t i 0) b l, le-leb b (get_or t (i + 2) 0) m)

  pub range_above : i + 2 < length t → get_or t (i + 1) 0 ≡ 45 → get_or t i 0 ≤ b → get_or t (i + 2) 0 < b → is_held (drop i t) b ≡ is_held (drop (i + 3) t) b
  range_above h n l m = range_held h n ∙ rw (le-leb (get_or t i 0) b l, lt-leb b (get_or t (i + 2) 0) m)

same_test : (a b : Bool) → (T a → T b) → (T b → T a) → a ≡ b
same_test true true f g = refl
same_test true false f g = absurd (f tt)
same_test false true f g = absurd (g tt)
same_test false false f g = refl

only : (a b : ℕ) → eqb a b ≡ between a a b
only a b = same_test (eqb a b) (between a a b) out back
  where
    out : T (eqb a b) → T (leb a b && leb b a)
    out t = let e : a ≡ b = eqb→eq a b t in and_both (leb a b) (leb b a) (le→leb a b (omega arith)) (le→leb b a (omega arith))

    back : T (leb a b && leb b a) → T (eqb a b)
    back t =
        let h : a ≤ b = leb→le a b (and_left (leb a b) (leb b a) t) in
        let l : b ≤ a = leb→le b a (and_right (leb a b) (leb b a) t) in
        let e : a ≡ b = omega arith in
        subst (λ k. T (eqb a k)) e (eqb_refl a)

byte_held : (a : ℕ) (x : Text) (b : ℕ) → T (not (goes_on x)) → is_held (a ∷ x) b ≡ eqb a b || is_held x b
unfolding is_held
byte_held a [] b t = short_held a [] b (omega arith)
byte_held a (d ∷ []) b t = refl
byte_held a (d ∷ c ∷ x) b t = by_false _ _ (eqb d 45) (left_not (eqb d 45) t)
  where
    left_not : (x : Bool) → T (not (x && true)) → x ≡ false
    left_not true t = absurd t
    left_not false t = refl

-- the ranges that a text lists hold what it holds
pub held_lists : {t : Text} {rs : List Range} (b : ℕ) → Lists t rs → is_held t b ≡ in_ranges rs b
unfolding is_held in_ranges some_of
held_lists b no_byte = refl
held_lists b (a_range {a} {b = c} {x} t h) = ap (λ y. between a c b || y) (held_lists b h)
held_lists b (a_byte {a} {x} t h) = byte_held a x b t ∙ ap (λ y. y || is_held x b) (only a b) ∙ ap (λ y. between a a b || y) (held_lists b h)
