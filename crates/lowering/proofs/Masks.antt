-- The mask of a comparison's slots.
use Prim.Native.Nat.{ℕ, zero, suc, ◌+◌, ◌-◌, ◌*◌, ◌/◌, ◌%◌, ◌<◌, ◌≤◌}
use mathlib.Core.Path.{◌≡◌, refl, sym, ap, ◌∙◌, subst}
use mathlib.Core.Bool.{Bool, true, false, not, ◌||◌, cond}
use mathlib.Core.List.{List, [], ◌∷◌, ◌++◌, map}
use native.Mathlib.Omega.{arith}
use borrow.Author.Tests.{eq-eqb, ne_eqb, eqb-true, eqb-false}
use lib.Dec.{T, eqb}
use Rattle.definition.specs.Text.{Text, same, some_of, member, keep}
use Rattle.definition.specs.Tables.{bit}
use Rattle.definition.specs.Names.{join}
use Rattle.definition.proofs.MeaningLaws.{same_eq}
use Rattle.digits.specs.Lists as Lists
use Rattle.digits.specs.Lists.{pack}
use Rattle.digits.specs.Packed.{has}
use Rattle.digits.proofs.Listing.{Within, Listed}
use Rattle.digits.proofs.Packing.{has_law}
use Rattle.lowering.specs.Lowering.{slot_bit, mask}

-- the bits of a sum of different powers of two
unfoldable bit_of : Bool → Bool → Bool → Bool → ℕ → Bool
bit_of x y z t zero = x
bit_of x y z t (suc zero) = y
bit_of x y z t (suc (suc zero)) = z
bit_of x y z t (suc (suc (suc zero))) = t
bit_of x y z t (suc (suc (suc (suc i)))) = false

yes_no : (b : Bool) → eqb (cond b 1 0) 1 ≡ b
yes_no true = refl
yes_no false = refl

twice : (b : Bool) → cond b 2 0 ≡ cond b 1 0 * 2
twice true = refl
twice false = refl

four : (b : Bool) → cond b 4 0 ≡ cond b 1 0 * 4
four true = refl
four false = refl

eight : (b : Bool) → cond b 8 0 ≡ cond b 1 0 * 8
eight true = refl
eight false = refl

one : (b : Bool) → cond b 1 0 ≤ 1
one true = omega arith
one false = omega arith

-- the same with numbers up to 1
module _ (x y z t w : ℕ) (e : w ≡ x + y * 2 + z * 4 + t * 8) (hx : x ≤ 1) (hy : y ≤ 1) (hz : z ≤ 1) (ht : t ≤ 1) where
  at_0 : w / 1 % 2 ≡ x
  at_0 = omega arith

  at_1 : w / 2 % 2 ≡ y
  at_1 = omega arith

  at_2 : w / 4 % 2 ≡ z
  at_2 = omega arith

  at_3 : w / 8 % 2 ≡ t
  at_3 = omega arith

  at_4 : w / 16 % 2 ≡ 0
  at_4 = omega arith

  at_5 : w / 32 % 2 ≡ 0
  at_5 = omega arith

  at_6 : w / 64 % 2 ≡ 0
  at_6 = omega arith

  at_7 : w / 128 % 2 ≡ 0
  at_7 = omega arith

sum_bit : (x y z t : Bool) (w i : ℕ) → w ≡ cond x 1 0 + cond y 2 0 + cond z 4 0 + cond t 8 0 → i < 8 → bit w i ≡ bit_of x y z t i
unfolding bit bit_of
sum_bit x y z t w i e h = go i h
  where
    s : w ≡ cond x 1 0 + cond y 1 0 * 2 + cond z 1 0 * 4 + cond t 1 0 * 8
    s = omega (arith, e, twice y, four z, eight t)

    go : (i : ℕ) → i < 8 → bit w i ≡ bit_of x y z t i
    go zero h = rw (at_0 (cond x 1 0) (cond y 1 0) (cond z 1 0) (cond t 1 0) w s (one x) (one y) (one z) (one t)) (yes_no x)
    go (suc zero) h = rw (at_1 (cond x 1 0) (cond y 1 0) (cond z 1 0) (cond t 1 0) w s (one x) (one y) (one z) (one t)) (yes_no y)
    go (suc (suc zero)) h = rw (at_2 (cond x 1 0) (cond y 1 0) (cond z 1 0) (cond t 1 0) w s (one x) (one y) (one z) (one t)) (yes_no z)
    go (suc (suc (suc zero))) h = rw (at_3 (cond x 1 0) (cond y 1 0) (cond z 1 0) (cond t 1 0) w s (one x) (one y) (one z) (one t)) (yes_no t)
    go (suc (suc (suc (suc zero)))) h = rw (at_4 (cond x 1 0) (cond y 1 0) (cond z 1 0) (cond t 1 0) w s (one x) (one y) (one z) (one t)) refl
    go (suc (suc (suc (suc (suc zero))))) h = rw (at_5 (cond x 1 0) (cond y 1 0) (cond z 1 0) (cond t 1 0) w s (one x) (one y) (one z) (one t)) refl
    go (suc (suc (suc (suc (suc (suc zero)))))) h = rw (at_6 (cond x 1 0) (cond y 1 0) (cond z 1 0) (cond t 1 0) w s (one x) (one y) (one z) (one t)) refl
    go (suc (suc (suc (suc (suc (suc (suc zero))))))) h = rw (at_7 (cond x 1 0) (cond y 1 0) (cond z 1 0) (cond t 1 0) w s (one x) (one y) (one z) (one t)) refl
    go (suc (suc (suc (suc (suc (suc (suc (suc i)))))))) h = absurd (omega arith)

-- one that passes is among the first, or is left among the second
some_append : (p : Text → Bool) (xs ys : List Text) → some_of p (xs ++ ys) ≡ some_of p xs || some_of p ys
unfolding some_of
some_append p [] ys = refl
some_append p (x ∷ xs) ys = rw (some_append p xs ys) (go (p x))
  where
    go : (b : Bool) → b || (some_of p xs || some_of p ys) ≡ (b || some_of p xs) || some_of p ys
    go true = refl
    go false = refl

some_has : (p : Text → Bool) (y : Text) (xs : List Text) → member y xs ≡ true → p y ≡ true → some_of p xs ≡ true
unfolding some_of member
some_has p y [] m h = m
some_has p y (x ∷ xs) m h = go (same y x) refl m (some_has p y xs)
  where
    or_true : (b : Bool) → b || true ≡ true
    or_true true = refl
    or_true false = refl

    go : (b : Bool) → same y x ≡ b → b || some_of (same y) xs ≡ true → (some_of (same y) xs ≡ true → p y ≡ true → some_of p xs ≡ true) → p x || some_of p xs ≡ true
    go true e k more = let z : y ≡ x = same_eq y x (subst T (sym e) tt) in rw (sym (ap p z) ∙ h) refl
    go false e k more = rw (more k h) (or_true (p x))

some_keep : (p : Text → Bool) (xs ys : List Text) → some_of p xs || some_of p (keep (λ y. not (member y xs)) ys) ≡ some_of p xs || some_of p ys
unfolding some_of keep
some_keep p xs [] = refl
some_keep p xs (y ∷ ys) = go (member y xs) (p y) (some_of p xs) refl refl refl (some_keep p xs ys)
  where
    go : (m b s : Bool) → member y xs ≡ m → p y ≡ b → some_of p xs ≡ s → some_of p xs || some_of p (keep (λ y. not (member y xs)) ys) ≡ some_of p xs || some_of p ys
        → some_of p xs || some_of p (cond (not m) (y ∷ keep (λ y. not (member y xs)) ys) (keep (λ y. not (member y xs)) ys)) ≡ some_of p xs || (p y || some_of p ys)
    go true true s em eb es ih = rw (some_has p y xs em eb) refl
    go true false s em eb es ih = rw eb ih
    go false b true em eb es ih = rw es refl
    go false true false em eb es ih = rw (es, eb) refl
    go false false false em eb es ih = rw eb ih

pub some_join : (p : Text → Bool) (xs ys : List Text) → some_of p (join xs ys) ≡ some_of p xs || some_of p ys
unfolding join
some_join p xs ys = some_append p xs (keep (λ y. not (member y xs)) ys) ∙ some_keep p xs ys

-- an attribute by its slot, and by its digit
shift : (b i : ℕ) → 0 < b - 63 → eqb (b - 64) i ≡ eqb (b - 63) (i + 1)
shift b i h = go (eqb (b - 64) i) refl
  where
    go : (d : Bool) → eqb (b - 64) i ≡ d → d ≡ eqb (b - 63) (i + 1)
    go true e = let z : b - 64 ≡ i = eqb-true (b - 64) i e in sym (eq-eqb (b - 63) (i + 1) (omega arith))
    go false e = let z : b - 64 ≡ i → ⊥ = eqb-false (b - 64) i e in sym (ne_eqb (b - 63) (i + 1) (λ q. z (omega arith)))

module _ (β : Text → ℕ) where
  abbrev digits : List Text → List ℕ
  digits xs = map (λ x. β x - 63) xs

  some_digit : (i : ℕ) (xs : List Text) → Within 4 (digits xs) → some_of (λ x. eqb (β x - 64) i) xs ≡ Lists.member (i + 1) (digits xs)
  unfolding some_of Lists.member Within
  some_digit i [] h = refl
  some_digit i (x ∷ xs) h = rw (shift (β x) i h.0, some_digit i xs h.2) (go (eqb (β x - 63) (i + 1)))
    where
      go : (b : Bool) → b || Lists.member (i + 1) (digits xs) ≡ cond b true (Lists.member (i + 1) (digits xs))
      go true = refl
      go false = refl

  over_four : (i : ℕ) (ds : List ℕ) → Within 4 ds → 4 < i → Lists.member i ds ≡ false
  unfolding Lists.member Within
  over_four i [] h l = refl
  over_four i (d ∷ ds) h l = rw (ne_eqb d i (λ z. omega (arith, h.1)), over_four i ds h.2 l) refl

  module _ (xs ys : List Text) (hx : Listed 4 (digits xs)) (hy : Listed 4 (digits ys)) where
    abbrev both : ℕ → Bool
    both d = cond (has (pack (digits xs)) d) true (has (pack (digits ys)) d)

    slot_both : (d v : ℕ) → slot_bit (pack (digits xs)) (pack (digits ys)) d v ≡ cond (both d) v 0
    unfolding slot_bit
    slot_both d v = go (has (pack (digits xs)) d) (has (pack (digits ys)) d)
      where
        go : (a b : Bool) → cond a v (cond b v 0) ≡ cond (cond a true b) v 0
        go true b = refl
        go false b = refl

    some_both : (i : ℕ) → both (i + 1) ≡ some_of (λ x. eqb (β x - 64) i) (join xs ys)
    some_both i =
        rw (some_join (λ x. eqb (β x - 64) i) xs ys, some_digit i xs hx.within, some_digit i ys hy.within, has_law (digits xs) (i + 1) hx (omega arith), has_law (digits ys) (i + 1) hy (omega arith))
        (go (Lists.member (i + 1) (digits xs)) (Lists.member (i + 1) (digits ys)))
      where
        go : (a b : Bool) → cond a true b ≡ a || b
        go true b = refl
        go false b = refl

    none_above : (i : ℕ) → 4 ≤ i → some_of (λ x. eqb (β x - 64) i) (join xs ys) ≡ false
    none_above i l =
        rw (some_join (λ x. eqb (β x - 64) i) xs ys, some_digit i xs hx.within, some_digit i ys hy.within, over_four (i + 1) (digits xs) hx.within (omega arith), over_four (i + 1) (digits ys) hy.within (omega arith)) refl

    pub mask_bit : (i : ℕ) → i < 8 → bit (mask (pack (digits xs)) (pack (digits ys))) i ≡ some_of (λ x. eqb (β x - 64) i) (join xs ys)
    unfolding mask bit_of
    mask_bit i h =
        sum_bit (both 1) (both 2) (both 3) (both 4) _ i (rw (slot_both 1 1, slot_both 2 2, slot_both 3 4, slot_both 4 8) refl) h ∙ go i
      where
        go : (i : ℕ) → bit_of (both 1) (both 2) (both 3) (both 4) i ≡ some_of (λ x. eqb (β x - 64) i) (join xs ys)
        go zero = some_both 0
        go (suc zero) = some_both 1
        go (suc (suc zero)) = some_both 2
        go (suc (suc (suc zero))) = some_both 3
        go (suc (suc (suc (suc i)))) = sym (none_above (suc (suc (suc (suc i)))) (omega arith))
