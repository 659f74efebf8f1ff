-- Each part of a quantity of an accepted program is at most 8 × 999,999, whatever the tables hold: no arithmetic can go wrong in a run.
-- A number below 10 ^ 10 is printed in full: its digits read back are the number.
use mathlib.Core.Path.{◌≡◌, refl, sym, ap, ◌∙◌}
use mathlib.Core.Bool.{Bool, true, false, cond}
use mathlib.Core.List.{List, [], ◌∷◌, ◌++◌, map}
use Prim.Native.Nat.{ℕ, zero, suc, ◌+◌, ◌-◌, ◌*◌, ◌/◌, ◌%◌, ◌^◌, ◌≤◌, ◌<◌}
use native.Mathlib.Nat.{mul-le-mul, suc-mul, zero-mul, pow-suc, div-lt_iff_lt-mul, div-add-mod', mod-lt}
use native.Mathlib.Omega.{arith}
use lib.Dec.{ltb}
use lib.ListN.{length, length-append, length-map}
use borrow.Author.Tests.{ltb-false, ltb-true, lt-ltb, le-ltb}
use Rattle.definition.specs.Text.{Text, keep, gather, from, below}
use Rattle.definition.specs.Limits.{Limits, PRINTED_ATTRIBUTES, LARGEST_LITERAL}
use Rattle.definition.specs.Token.{Token, value, value_after}
use Rattle.definition.specs.Syntax.{Expression, sum_of, ratio_of}
use Rattle.definition.specs.Names.{free, counted_in}
use Rattle.definition.specs.Tables.{Tuple, tuples}
use Rattle.definition.specs.Accept.{Accepted, elements}
use Rattle.definition.specs.Decimals.{digits, decimal}
use Rattle.definition.specs.Meaning.{Tables, Environment, bind_all, whole, top, bottom, mean, figure}
use Rattle.definition.proofs.RowLaws.{Every}
use Rattle.definition.proofs.QuantityLaws.{Shaped, a_sum, a_quantity, literal_sum, count_sum, more_sum, whole_quantity, ratio_quantity}

-- no more tuples than assignments to three attributes in a universe of 64 elements
length_keep : {A : Type 0} (p : A → Bool) (xs : List A) → length (keep p xs) ≤ length xs
unfolding keep
length_keep p [] = omega arith
length_keep p (x ∷ xs) = go (p x) (length_keep p xs)
  where
    go : (b : Bool) → length (keep p xs) ≤ length xs → length (cond b (x ∷ keep p xs) (keep p xs)) ≤ suc (length xs)
    go true h = omega arith
    go false h = omega arith

length_gathered : (u m n a : ℕ) → length (gather (λ a. map (λ t. a ∷ t) (tuples u m)) (from n a)) ≡ n * length (tuples u m)
unfolding gather from
length_gathered u m zero a = sym (zero-mul (length (tuples u m)))
length_gathered u m (suc n) a = rw (length-append, length-map, length_gathered u m n (suc a), suc-mul) (omega arith)

one_more : (u n c : ℕ) → u ≤ 64 → length (tuples u n) ≤ c → length (tuples u (suc n)) ≤ 64 * c
unfolding tuples
one_more u n c h l = let e = length_gathered u n u 0 in let m : u * length (tuples u n) ≤ 64 * c = mul-le-mul h l in omega arith

few_tuples : (u n : ℕ) → u ≤ 64 → n ≤ PRINTED_ATTRIBUTES → length (tuples u n) ≤ 262144
few_tuples u zero h l = unfold tuples in omega arith
few_tuples u (suc zero) h l = let a = one_more u 0 1 h (unfold tuples in omega arith) in omega arith
few_tuples u (suc (suc zero)) h l = let a = one_more u 1 64 h (one_more u 0 1 h (unfold tuples in omega arith)) in omega arith
few_tuples u (suc (suc (suc zero))) h l = one_more u 2 4096 h (one_more u 1 64 h (one_more u 0 1 h (unfold tuples in omega arith)))
few_tuples u (suc (suc (suc (suc n)))) h l = absurd (omega arith)

every_left : (P : Expression → Type 0) (xs ys : List Expression) → Every P (xs ++ ys) → Every P xs
unfolding Every
every_left P [] ys h = tt
every_left P (x ∷ xs) ys h = (h.0, every_left P xs ys h.1)

every_right : (P : Expression → Type 0) (xs ys : List Expression) → Every P (xs ++ ys) → Every P ys
unfolding Every
every_right P [] ys h = h
every_right P (x ∷ xs) ys h = every_right P xs ys h.1

module _ (w : Accepted) (ts : Tables) (env : Environment) (small : elements w ≤ 64) where
  -- "Its e has no more free attributes than a printed expression may"
  abbrev Small : Expression → Type 0
  Small c = length (free w.variables c) ≤ PRINTED_ATTRIBUTES

  abbrev pub Few : Expression → Type 0
  Few e = Every (λ c. length (free w.variables c) ≤ PRINTED_ATTRIBUTES) (counted_in e)

  pub sum_small : {n : ℕ} (e : Expression) → Shaped (a_sum n) e → Few e → top (figure w ts env e) ≤ n * LARGEST_LITERAL
  unfolding mean counted_in Every
  sum_small e (literal_sum h) f = omega arith
  sum_small e (count_sum {n} {e = c} h) f =
      let k = length (free w.variables c) in
      let l = length_keep (λ t. mean w ts (bind_all (free w.variables c) t env) c) (tuples (elements w) k) in
      let m = few_tuples (elements w) k small f.0 in
      omega arith
  sum_small e (more_sum {n} {a} {b} h k) f =
      let p = sum_small a h (every_left Small (counted_in a) (counted_in b) f) in
      let q = sum_small b k (every_right Small (counted_in a) (counted_in b) f) in
      omega arith

  sum_bottom : {n : ℕ} (e : Expression) → Shaped (a_sum n) e → bottom (figure w ts env e) ≡ 1
  unfolding mean
  sum_bottom e (literal_sum h) = refl
  sum_bottom e (count_sum h) = refl
  sum_bottom e (more_sum h k) = refl

  -- top and bottom of a quantity
  pub figure_small : (e : Expression) → Shaped a_quantity e → Few e → (top (figure w ts env e) ≤ 8 * LARGEST_LITERAL) × (bottom (figure w ts env e) ≤ 8 * LARGEST_LITERAL)
  unfolding mean counted_in
  figure_small e (whole_quantity h) f = let b = sum_bottom e h in (sum_small e h f, omega arith)
  figure_small e (ratio_quantity {a} {b} h k) f = (sum_small a h (every_left Small (counted_in a) (counted_in b) f), sum_small b k (every_right Small (counted_in a) (counted_in b) f))

-- the digits of a number are its value
value_snoc : (m : ℕ) (xs : Text) (x : ℕ) → value_after m (xs ++ (x ∷ [])) ≡ 10 * value_after m xs + (x - 48)
unfolding value_after
value_snoc m [] x = refl
value_snoc m (y ∷ ys) x = value_snoc (10 * m + (y - 48)) ys x

digits_value : (k n : ℕ) → n < 10 ^ k → value (digits k n) ≡ n
unfolding digits value_after
digits_value zero n h = omega (arith, h)
digits_value (suc k) n h = go (ltb n 10) refl (λ l. digits_value k (n / 10) l)
  where
    fewer : n / 10 < 10 ^ k
    fewer = (div-lt_iff_lt-mul {k = 10} {x = n} {y = 10 ^ k} (omega arith)).1 (omega (arith, h, pow-suc 10 k))

    go : (b : Bool) → ltb n 10 ≡ b → (n / 10 < 10 ^ k → value (digits k (n / 10)) ≡ n / 10) → value (cond b ((48 + n) ∷ []) (digits k (n / 10) ++ ((48 + n % 10) ∷ []))) ≡ n
    go true e ih = omega arith
    go false e ih = value_snoc 0 (digits k (n / 10)) (48 + n % 10) ∙ ap (λ v. 10 * v + (48 + n % 10 - 48)) (ih fewer) ∙ omega (arith, div-add-mod' n 10)

pub decimal_value : (n : ℕ) → n < 10 ^ 10 → value (decimal n) ≡ n
decimal_value n h = digits_value 10 n h
