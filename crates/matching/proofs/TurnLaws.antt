-- Repeats, as turns: some that are asked for, then some that are taken.
use mathlib.Core.Path.{◌≡◌, refl, sym, ap, ◌∙◌, subst⁻¹}
use mathlib.Core.Bool.{Bool, true, false, ◌&&◌, cond}
use mathlib.Core.List.{[], ◌∷◌}
use Prim.Native.Nat.{ℕ, zero, suc, ◌-◌, ◌^◌, ◌≤◌, ◌<◌}
use native.Mathlib.Omega.{arith}
use lib.Bits.{bit_or, or_lt}
use lib.Dec.{T, leb, eqb, leb→le}
use lib.ListN.{length, get_or}
use Rattle.definition.specs.Text.{Text}
use Rattle.definition.specs.Pattern.{Pattern, empty, sequence, choice, star, up_to, times, repeated_by, Reading, read, wrong, read_count, read_repeat}
use Rattle.patterns.proofs.ByteLaws.{eqb_false}
use Rattle.patterns.proofs.EndLaws.{by_false}
use Rattle.matching.specs.Images.{ends_of, grown, least, further, up_to_or_any}
use Rattle.matching.proofs.ImageLaws.{ends_lt, ends_empty, ends_sequence, ends_choice, ends_up_to, ends_star, ends_within, grown_fixed, grown_lt, same_set, set_left, star_turn}

abbrev pub pattern_of : Reading → Pattern
pattern_of wrong = empty
pattern_of (read p ys) = p

pub never_read : {A : Type 0} {p : Pattern} {ys : Text} → wrong ≡ read p ys → A
never_read e = let z : ◌≡◌ {A = ℕ} 0 1 = cc in absurd (omega arith)

pub any_star : (h : ℕ) → h ≡ 9 → (p : Pattern) → star p ≡ up_to_or_any h p
unfolding up_to_or_any
any_star h e p = sym (ap (λ k. cond (eqb k 9) (star p) (up_to k p)) e)

pub any_up_to : (h : ℕ) → (h ≡ 9 → ⊥) → (p : Pattern) → up_to h p ≡ up_to_or_any h p
unfolding up_to_or_any
any_up_to h n p = sym (by_false (star p) (up_to h p) (eqb h 9) (eqb_false h 9 n))

module _ (e : Text) where
  abbrev Fits : ℕ → Type 0
  Fits a = a < 2 ^ suc (length e)

  pub no_turn : (p : Pattern) (a : ℕ) → Fits a → a ≡ ends_of e (times 0 0 p) a
  unfolding times up_to
  no_turn p a b = sym (ends_empty e a b)

  pub none_more : (p : Pattern) (a : ℕ) → Fits a → a ≡ ends_of e (up_to 0 p) a
  unfolding up_to
  none_more p a b = sym (ends_empty e a b)

  -- a set that a turn does not change
  pub times_fixed : (p : Pattern) (k a : ℕ) → Fits a → ends_of e p a ≡ a → a ≡ ends_of e (times k 0 p) a
  unfolding times
  times_fixed p zero a b q = none_more p a b
  times_fixed p (suc k) a b q = times_fixed p k a b q ∙ ap (ends_of e (times k 0 p)) (sym q) ∙ sym (ends_sequence e p (times k 0 p) a)

  pub times_again : (p : Pattern) (k a : ℕ) → ends_of e (times k 0 p) (ends_of e p a) ≡ ends_of e (times (suc k) 0 p) a
  unfolding times
  times_again p k a = sym (ends_sequence e p (times k 0 p) a)

  pub up_to_fixed : (p : Pattern) (k a : ℕ) → Fits a → bit_or a (ends_of e p a) ≡ a → a ≡ ends_of e (up_to k p) a
  up_to_fixed p k a b q = sym (grown_fixed e p k a q) ∙ sym (ends_up_to e p k a (grown_lt e p k a b))

  grows : (p : Pattern) (a : ℕ) → Fits a → Fits (bit_or a (ends_of e p a))
  grows p a b = or_lt (suc (length e)) a (ends_of e p a) b (ends_lt e p a)

  grown_again : (p : Pattern) (k a : ℕ) → grown e p k (bit_or a (ends_of e p a)) ≡ grown e p (suc k) a
  unfolding grown
  grown_again p k a = refl

  pub up_to_again : (p : Pattern) (k a : ℕ) → Fits a → ends_of e (up_to k p) (bit_or a (ends_of e p a)) ≡ ends_of e (up_to (suc k) p) a
  up_to_again p k a b =
      ends_up_to e p k (bit_or a (ends_of e p a)) (grown_lt e p k (bit_or a (ends_of e p a)) (grows p a b))
      ∙ grown_again p k a ∙ sym (ends_up_to e p (suc k) a (grown_lt e p (suc k) a b))

  grown_none : (p : Pattern) (a : ℕ) → grown e p 0 a ≡ a
  unfolding grown
  grown_none p a = refl

  pub star_fixed : (p : Pattern) (a : ℕ) → Fits a → bit_or a (ends_of e p a) ≡ a → a ≡ ends_of e (star p) a
  star_fixed p a b q =
      let z = grown_none p a in
      sym z ∙ ends_star e p 0 a (subst⁻¹ Fits z b) (subst⁻¹ (λ x. bit_or x (ends_of e p x) ≡ x) z q)

  pub star_again : (p : Pattern) (a : ℕ) → ends_of e (star p) (bit_or a (ends_of e p a)) ≡ ends_of e (star p) a
  star_again p a =
      let g = bit_or a (ends_of e p a) in
      same_set e (ends_of e (star p) g) (ends_of e (star p) a) (ends_lt e (star p) g) (ends_lt e (star p) a) (star_turn e p a)
      (ends_within e (star p) a g (λ j h t. set_left e a (ends_of e p a) j t))

  pub grows_fits : (p : Pattern) (a x : ℕ) → Fits a → x ≡ ends_of e p a → Fits (bit_or a x)
  grows_fits p a x b q = subst⁻¹ (λ z. Fits (bit_or a z)) q (grows p a b)

  -- m turns, then up to k more, or any number
  unfoldable pub turned : ℕ → ℕ → Pattern → ℕ → ℕ
  turned m k p a = ends_of e (up_to_or_any k p) (ends_of e (times m 0 p) a)

  ends_times : (p : Pattern) (m k a : ℕ) → Fits a → ends_of e (times m k p) a ≡ ends_of e (up_to k p) (ends_of e (times m 0 p) a)
  unfolding times
  ends_times p zero k a b = ap (ends_of e (up_to k p)) (none_more p a b)
  ends_times p (suc m) k a b =
      ends_sequence e p (times m k p) a ∙ ends_times p m k (ends_of e p a) (ends_lt e p a) ∙ ap (ends_of e (up_to k p)) (sym (ends_sequence e p (times m 0 p) a))

  counted : (p : Pattern) (m k a : ℕ) → Fits a → k < 9 → ends_of e (times m k p) a ≡ turned m k p a
  unfolding turned
  counted p m k a b h = ends_times p m k a b ∙ ap (λ z. ends_of e z (ends_of e (times m 0 p) a)) (any_up_to k (λ q. omega (arith, q, h)) p)

  alone : (p : Pattern) (a : ℕ) → Fits a → ends_of e p a ≡ ends_of e (times 1 0 p) a
  alone p a b = no_turn p (ends_of e p a) (ends_lt e p a) ∙ times_again p 0 a

  once : (p : Pattern) (a : ℕ) → Fits a → ends_of e p a ≡ turned 1 0 p a
  once p a b = alone p a b ∙ counted p 1 0 a b (omega arith)

  any : (p : Pattern) (a : ℕ) → Fits a → ends_of e (star p) a ≡ turned 0 9 p a
  unfolding turned
  any p a b = ap (ends_of e (star p)) (no_turn p a b) ∙ ap (λ z. ends_of e z (ends_of e (times 0 0 p) a)) (any_star 9 refl p)

  some_turns : (p : Pattern) (a : ℕ) → Fits a → ends_of e (sequence p (star p)) a ≡ turned 1 9 p a
  unfolding turned
  some_turns p a b = ends_sequence e p (star p) a ∙ ap (ends_of e (star p)) (alone p a b) ∙ ap (λ z. ends_of e z (ends_of e (times 1 0 p) a)) (any_star 9 refl p)

  perhaps : (p : Pattern) (a : ℕ) → Fits a → ends_of e (choice empty p) a ≡ turned 0 1 p a
  perhaps p a b =
      ends_choice e empty p a ∙ ap (bit_or (ends_of e empty a)) (alone p a b) ∙ sym (ends_choice e empty (times 1 0 p) a) ∙ opened ∙ counted p 0 1 a b (omega arith)
    where
      opened : ends_of e (choice empty (times 1 0 p)) a ≡ ends_of e (times 0 1 p) a
      opened = unfold times up_to in refl

  -- what a repeat sign makes of an atom
  module _ (p q : Pattern) (ys : Text) (a : ℕ) (b : Fits a) where
    count_ends : (xs : Text) → read_count p xs ≡ read q ys → ends_of e q a ≡ turned (get_or xs 0 0 - 48) ((get_or xs 2 0 - 48) - (get_or xs 0 0 - 48)) p a
    unfolding read_count repeated_by
    count_ends [] x = never_read x
    count_ends (c ∷ []) x = never_read x
    count_ends (c ∷ d ∷ []) x = never_read x
    count_ends (c ∷ d ∷ f ∷ []) x = never_read x
    count_ends (c ∷ d ∷ f ∷ g ∷ xs) x = go (leb 48 c) (leb c f) (leb f 56) (eqb d 44) (eqb g 125) (leb→le f 56) x
      where
        go : (i j k l n : Bool) → (T k → f ≤ 56) → cond (i && j && k && l && n) (read (times (c - 48) ((f - 48) - (c - 48)) p) xs) wrong ≡ read q ys
            → ends_of e q a ≡ turned (c - 48) ((f - 48) - (c - 48)) p a
        go true true true true true h x = let w : f ≤ 56 = h tt in sym (ap (λ z. ends_of e z a) (ap pattern_of x)) ∙ counted p (c - 48) ((f - 48) - (c - 48)) a b (omega arith)
        go false j k l n h x = never_read x
        go true false k l n h x = never_read x
        go true true false l n h x = never_read x
        go true true true false n h x = never_read x
        go true true true true false h x = never_read x

    pub repeat_ends : (xs : Text) → read_repeat p xs ≡ read q ys → ends_of e q a ≡ turned (least (get_or xs 0 0) (get_or xs 1 0)) (further (get_or xs 0 0) (get_or xs 1 0) (get_or xs 3 0)) p a
    unfolding read_repeat repeated_by least further
    repeat_ends [] x = sym (ap (λ z. ends_of e z a) (ap pattern_of x)) ∙ once p a b
    repeat_ends (c ∷ xs) x = go (eqb c 42) (eqb c 43) (eqb c 63) (eqb c 123) x
      where
        go : (i j k l : Bool) → cond i (read (star p) xs) (cond j (read (sequence p (star p)) xs) (cond k (read (choice empty p) xs) (cond l (read_count p xs) (read p (c ∷ xs))))) ≡ read q ys
            → ends_of e q a ≡ turned (cond i 0 (cond j 1 (cond k 0 (cond l (get_or xs 0 0 - 48) 1)))) (cond i 9 (cond j 9 (cond k 1 (cond l ((get_or xs 2 0 - 48) - (get_or xs 0 0 - 48)) 0)))) p a
        go true j k l x = sym (ap (λ z. ends_of e z a) (ap pattern_of x)) ∙ any p a b
        go false true k l x = sym (ap (λ z. ends_of e z a) (ap pattern_of x)) ∙ some_turns p a b
        go false false true l x = sym (ap (λ z. ends_of e z a) (ap pattern_of x)) ∙ perhaps p a b
        go false false false true x = count_ends xs x
        go false false false false x = sym (ap (λ z. ends_of e z a) (ap pattern_of x)) ∙ once p a b
