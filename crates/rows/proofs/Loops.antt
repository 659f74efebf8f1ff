-- The loops over a statement's words.
use Prim.Native.Nat.{ℕ, suc, ◌+◌, ◌-◌, ◌/◌, ◌%◌, ◌<◌, ◌≤◌}
use mathlib.Core.Path.{◌≡◌, refl, sym, ap, ◌∙◌}
use mathlib.Core.Bool.{Bool, true, false, cond}
use mathlib.Core.List.{List}
use native.Mathlib.Omega.{arith}
use native.Mathlib.Numerals.{add-one}
use lib.ListN.{length, get_or, drop, drop_of_length-le}
use lib.Seq.{drop-cons}
use lib.Dec.{eqb, leb}
use borrow.Author.Tests.{eq-eqb, ne_eqb, eqb-false}
use Rattle.digits.specs.Packed.{plus, count}
use Rattle.rows.specs.Tests.{limit, fits, all_fit, left_from, same_digits, own_fits}

-- t is the whole test, of which the words from i on are left
module _ (F : ℕ → ℕ) (part : List ℕ) (s i : ℕ) (t : Bool) (inv : t ≡ all_fit F (drop i part) (s + i)) where
  fit_step : i < length part → t ≡ cond (fits F (s + i) (get_or part i 0)) (all_fit F (drop (i + 1) part) (s + i + 1)) false
  unfolding all_fit
  fit_step h = inv ∙ rw (drop-cons part i 0 h, add-one i) refl

  pub fit_no : (b : Bool) → i < length part → b ≡ fits F (s + i) (get_or part i 0) → b ≡ false → false ≡ t
  fit_no b h e f = let q : fits F (s + i) (get_or part i 0) ≡ false = sym e ∙ f in sym (fit_step h ∙ rw q refl)

  pub fit_yes : (b : Bool) → i < length part → b ≡ fits F (s + i) (get_or part i 0) → b ≡ true → t ≡ all_fit F (drop (i + 1) part) (s + (i + 1))
  fit_yes b h e f =
      let q : fits F (s + i) (get_or part i 0) ≡ true = sym e ∙ f in
      let j : s + i + 1 ≡ s + (i + 1) = omega arith in
      fit_step h ∙ rw (q, j) refl

  pub fit_end : length part ≤ i → true ≡ t
  unfolding all_fit
  fit_end h = sym (inv ∙ rw (drop_of_length-le part h) refl)

pub left_step : (R D : ℕ → ℕ) (i n a : ℕ) → left_from R D i (suc n) a ≡ left_from R D (i + 1) n (plus a (D (R i)))
unfolding left_from
left_step R D i n a = refl

pub left_start : (R D : ℕ → ℕ) (i n : ℕ) → left_from R D i n 0 ≡ left_from R D (i + 0) (n - 0) 0
left_start R D i n =
    let p : i + 0 ≡ i = omega arith in
    let q : n - 0 ≡ n = omega arith in
    rw (p, q) refl

-- v is the whole sum, of which n - j words are left
module _ (R D : ℕ → ℕ) (i n j a v : ℕ) (inv : v ≡ left_from R D (i + j) (n - j) a) where
  pub left_on : (d b : ℕ) → j < n → d ≡ D (R (i + j)) → b ≡ plus a d → v ≡ left_from R D (i + (j + 1)) (n - (j + 1)) b
  left_on d b h e f =
      let q : n - j ≡ suc (n - (j + 1)) = omega arith in
      let r : i + j + 1 ≡ i + (j + 1) = omega arith in
      inv ∙ ap (λ (m : ℕ). left_from R D (i + j) m a) q ∙ left_step R D (i + j) (n - (j + 1)) a
      ∙ ap (λ (x : ℕ). left_from R D x (n - (j + 1)) (plus a (D (R (i + j))))) r
      ∙ ap (λ (x : ℕ). left_from R D (i + (j + 1)) (n - (j + 1)) x) (sym (f ∙ ap (plus a) e))

  pub left_end : n ≤ j → a ≡ v
  unfolding left_from
  left_end h = let q : n - j ≡ 0 = omega arith in sym (inv ∙ rw q refl)

-- the kinds of items with an expression
item_limit : (c a b : ℕ) → 29 ≤ c → c < 31 → limit c a b ≡ leb b 3
unfolding limit
item_limit c a b l h = rw (ne_eqb c 21 (λ e. omega arith), ne_eqb c 24 (λ e. omega arith)) (go (eqb c 29) (eqb c 30) refl refl)
  where
    go : (x y : Bool) → eqb c 29 ≡ x → eqb c 30 ≡ y → cond x (leb b 3) (cond y (leb b 3) true) ≡ leb b 3
    go true y e f = refl
    go false true e f = refl
    go false false e f = absurd (omega (arith, eqb-false c 29 e, eqb-false c 30 f))

-- the tests of one word
module _ (F : ℕ → ℕ) (j w v m : ℕ) (em : m ≡ count v) where
  pub fits_closure : w % 256 ≡ 21 → v ≡ F (w / 256 % 65536) → eqb m 2 ≡ fits F j w
  unfolding fits limit
  fits_closure e ev = rw (e, em, ev) refl

  pub fits_count : w % 256 ≡ 24 → v ≡ F (w / 256 % 65536) → leb m 3 ≡ fits F j w
  unfolding fits limit
  fits_count e ev = rw (e, em, ev) refl

  pub fits_item : 29 ≤ w % 256 → w % 256 < 31 → v ≡ F (j - 1) → leb m 3 ≡ fits F j w
  unfolding fits
  fits_item l h ev = sym (item_limit (w % 256) _ _ l h ∙ rw (em, ev) refl)

pub fits_other : (F : ℕ → ℕ) (j w : ℕ) → (w % 256 ≡ 21 → ⊥) → (w % 256 ≡ 24 → ⊥) → (w % 256 ≡ 29 → ⊥) → (w % 256 ≡ 30 → ⊥) → true ≡ fits F j w
unfolding fits limit
fits_other F j w a b c d = rw (ne_eqb (w % 256) 21 a, ne_eqb (w % 256) 24 b, ne_eqb (w % 256) 29 c, ne_eqb (w % 256) 30 d) refl

module _ (R D F : ℕ → ℕ) (k w v : ℕ) (ev : v ≡ F (k - 1)) where
  pub own_test : (m : ℕ) → m ≡ count v → w % 256 ≡ 34 → eqb m 0 ≡ own_fits R D F k w
  unfolding own_fits
  own_test m em e = rw (eq-eqb (w % 256) 34 e, em, ev) refl

  pub own_range : (m : ℕ) → m ≡ count v → (w % 256 ≡ 34 → ⊥) → w % 256 ≡ 6 → eqb m 1 ≡ own_fits R D F k w
  unfolding own_fits
  own_range m em n e = rw (ne_eqb (w % 256) 34 n, eq-eqb (w % 256) 6 e, em, ev) refl

  pub own_assign : (a : ℕ) (b : Bool) → (w % 256 ≡ 34 → ⊥) → (w % 256 ≡ 6 → ⊥) → w % 256 ≡ 33 → a ≡ left_from R D (w / 256 % 65536 + 1) (w / 16777216 % 65536) 0 → b ≡ same_digits a v → b ≡ own_fits R D F k w
  unfolding own_fits
  own_assign a b n o e ea eb = rw (ne_eqb (w % 256) 34 n, ne_eqb (w % 256) 6 o, eq-eqb (w % 256) 33 e, ← ea, ← ev) eb

  pub own_other : (w % 256 ≡ 34 → ⊥) → (w % 256 ≡ 6 → ⊥) → (w % 256 ≡ 33 → ⊥) → true ≡ own_fits R D F k w
  unfolding own_fits
  own_other n o e = rw (ne_eqb (w % 256) 34 n, ne_eqb (w % 256) 6 o, ne_eqb (w % 256) 33 e) refl
