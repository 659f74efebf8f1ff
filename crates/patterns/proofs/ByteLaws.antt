-- A byte at a place, and the loops over the bytes of a set.
use mathlib.Core.Path.{◌≡◌, refl, sym, ap, ◌∙◌, subst, subst⁻¹}
use mathlib.Core.Bool.{Bool, true, false, ◌&&◌, ◌||◌, not, cond}
use mathlib.Core.List.{List, [], ◌∷◌}
use mathlib.Core.Option.{Option, some, none}
use Prim.Native.Nat.{ℕ, zero, suc, ◌+◌, ◌-◌, ◌≤◌, ◌<◌}
use native.Mathlib.Numerals.{add-one, add-two, add-three}
use native.Mathlib.Nat.{not-suc-le-zero, le_of_suc-le-suc}
use native.Mathlib.Omega.{arith}
use lib.Dec.{T, leb, eqb, eqb→eq, eqb_refl}
use lib.ListN.{length, drop, get_or, length-drop}
use lib.Seq.{drop-cons}
use borrow.Author.Tests.{le-leb, lt-leb}
use Rattle.std.specs.List.{list_any}
use Rattle.definition.specs.Text.{Text, ascii, some_of, starts}
use Rattle.definition.specs.Pattern.{Range, range, add, no_class, listed, is_close, is_some}
use Rattle.patterns.specs.Ends.{is_listed, to_close_at}
use Rattle.texts.proofs.RunLaws.{run_step, run_stop, run_out}

eq→eqb : (m n : ℕ) → m ≡ n → T (eqb m n)
eq→eqb m n e = subst (λ k. T (eqb m k)) e (eqb_refl m)

same_test : (a b : Bool) → (T a → T b) → (T b → T a) → a ≡ b
same_test true true f g = refl
same_test true false f g = absurd (f tt)
same_test false true f g = absurd (g tt)
same_test false false f g = refl

pub eqb_sym : (m n : ℕ) → eqb m n ≡ eqb n m
eqb_sym m n = same_test (eqb m n) (eqb n m) (λ t. eq→eqb n m (sym (eqb→eq m n t))) (λ t. eq→eqb m n (sym (eqb→eq n m t)))

pub eqb_true : (m n : ℕ) → m ≡ n → eqb m n ≡ true
eqb_true m n e = same_test (eqb m n) true (λ t. tt) (λ t. eq→eqb m n e)

pub eqb_false : (m n : ℕ) → (m ≡ n → ⊥) → eqb m n ≡ false
eqb_false m n e = same_test (eqb m n) false (λ t. e (eqb→eq m n t)) (λ t. absurd t)

-- a text starts with the byte at its place
pub starts_byte : (k : ℕ) (s : Text) (i : ℕ) → eqb 0 k ≡ false → starts (k ∷ []) (drop i s) ≡ eqb (get_or s i 0) k
unfolding starts
starts_byte k [] zero z = sym z
starts_byte k [] (suc i) z = sym z
starts_byte k (x ∷ xs) zero z = and_true (eqb k x) ∙ eqb_sym k x
  where
    and_true : (b : Bool) → b && true ≡ b
    and_true true = refl
    and_true false = refl
starts_byte k (x ∷ xs) (suc i) z = starts_byte k xs i z

-- one of some bytes
pub among_is : (b : ℕ) (l : Text) → list_any (λ (x : ℕ). eqb x b) l ≡ some_of (eqb b) l
unfolding some_of
among_is b [] = refl
among_is b (x ∷ l) = ap (λ c. c || list_any (λ (y : ℕ). eqb y b) l) (eqb_sym x b) ∙ ap (λ c. eqb b x || c) (among_is b l)

-- no `[:`, `[.`, `[=`
pub class_none : (t : Text) (i : ℕ) → length t ≤ i → no_class (drop i t) ≡ true
unfolding no_class
class_none [] zero h = refl
class_none [] (suc i) h = refl
class_none (x ∷ t) zero h = absurd (not-suc-le-zero h)
class_none (x ∷ t) (suc i) h = class_none t i (le_of_suc-le-suc h)

abbrev CLASS : Text
CLASS = ascii ":.="

class_at : (t : Text) (i : ℕ) → i < length t → no_class (drop i t) ≡ not (eqb (get_or t i 0) 91 && some_of (eqb (get_or t (i + 1) 0)) CLASS) && no_class (drop (i + 1) t)
unfolding no_class some_of
class_at t i h =
    ap no_class (drop-cons t i 0 h)
    ∙ ap (λ k. not (eqb (get_or t i 0) 91 && (starts (ascii ":") (drop k t) || starts (ascii ".") (drop k t) || starts (ascii "=") (drop k t))) && no_class (drop k t)) (sym (add-one i))
    ∙ ap (λ b. not (eqb (get_or t i 0) 91 && b) && no_class (drop (i + 1) t))
    (rw (starts_byte 58 t (i + 1) refl, starts_byte 46 t (i + 1) refl, starts_byte 61 t (i + 1) refl) (regroup (eqb (get_or t (i + 1) 0) 58) (eqb (get_or t (i + 1) 0) 46) (eqb (get_or t (i + 1) 0) 61)))
  where
    regroup : (a b c : Bool) → a || b || c ≡ a || (b || (c || false))
    regroup true b c = refl
    regroup false true c = refl
    regroup false false true = refl
    regroup false false false = refl

pub class_hit : (t : Text) (i : ℕ) → i < length t → get_or t i 0 ≡ 91 → some_of (eqb (get_or t (i + 1) 0)) CLASS ≡ true → no_class (drop i t) ≡ false
class_hit t i h e a = class_at t i h ∙ rw (eqb_true (get_or t i 0) 91 e, a)

pub class_other : (t : Text) (i : ℕ) → i < length t → (get_or t i 0 ≡ 91 → ⊥) → no_class (drop i t) ≡ no_class (drop (i + 1) t)
class_other t i h e = class_at t i h ∙ rw (eqb_false (get_or t i 0) 91 e)

pub class_miss : (t : Text) (i : ℕ) → i < length t → some_of (eqb (get_or t (i + 1) 0)) CLASS ≡ false → no_class (drop i t) ≡ no_class (drop (i + 1) t)
class_miss t i h a = class_at t i h ∙ go (eqb (get_or t i 0) 91) (no_class (drop (i + 1) t))
  where
    go : (b c : Bool) → not (b && some_of (eqb (get_or t (i + 1) 0)) CLASS) && c ≡ c
    go true c = rw a
    go false c = refl

-- ranges that ascend
some_add : (r : Range) (o : Option (List Range)) → is_some (add r o) ≡ is_some o
some_add r none = refl
some_add r (some rs) = refl

pub listed_short : (t : Text) → length t < 3 → is_listed t ≡ true
unfolding is_listed listed
listed_short [] h = refl
listed_short (a ∷ []) h = refl
listed_short (a ∷ d ∷ []) h = refl
listed_short (a ∷ d ∷ b ∷ t) h = absurd (omega arith)

if_false : {A : Type 0} (x y : A) (b : Bool) → b ≡ false → cond b x y ≡ y
if_false x y b e = rw e

if_true : {A : Type 0} (x y : A) (b : Bool) → b ≡ true → cond b x y ≡ x
if_true x y b e = rw e

three : (t : Text) (i : ℕ) → i + 2 < length t → drop i t ≡ get_or t i 0 ∷ get_or t (i + 1) 0 ∷ get_or t (i + 2) 0 ∷ drop (i + 3) t
three t i h =
    rw (add-one i, add-two i, add-three i)
    (drop-cons t i 0 (omega arith)
    ∙ ap (λ x. get_or t i 0 ∷ x) (drop-cons t (suc i) 0 (omega arith) ∙ ap (λ x. get_or t (suc i) 0 ∷ x) (drop-cons t (suc (suc i)) 0 (omega arith))))

two : (t : Text) (i : ℕ) → i + 2 < length t → drop (i + 1) t ≡ get_or t (i + 1) 0 ∷ get_or t (i + 2) 0 ∷ drop (i + 3) t
two t i h =
    rw (add-one i, add-two i, add-three i) (drop-cons t (suc i) 0 (omega arith) ∙ ap (λ x. get_or t (suc i) 0 ∷ x) (drop-cons t (suc (suc i)) 0 (omega arith)))

listed_three : (a d b : ℕ) (xs : Text) → is_listed (a ∷ d ∷ b ∷ xs) ≡ cond (eqb d 45) (cond (leb a b) (is_listed xs) false) (is_listed (d ∷ b ∷ xs))
unfolding is_listed listed
listed_three a d b xs = outer (eqb d 45) ∙ ap (λ y. cond (eqb d 45) y (is_some (listed (d ∷ b ∷ xs)))) (inner (leb a b))
  where
    inner : (l : Bool) → is_some (cond l (add (range a b) (listed xs)) none) ≡ cond l (is_some (listed xs)) false
    inner true = some_add (range a b) (listed xs)
    inner false = refl

    outer : (c : Bool) → is_some (cond c (cond (leb a b) (add (range a b) (listed xs)) none) (add (range a a) (listed (d ∷ b ∷ xs))))
        ≡ cond c (is_some (cond (leb a b) (add (range a b) (listed xs)) none)) (is_some (listed (d ∷ b ∷ xs)))
    outer true = refl
    outer false = some_add (range a a) (listed (d ∷ b ∷ xs))

module _ (t : Text) (i : ℕ) (h : i + 2 < length t) where
  listed_at : is_listed (drop i t)
      ≡ cond (eqb (get_or t (i + 1) 0) 45) (cond (leb (get_or t i 0) (get_or t (i + 2) 0)) (is_listed (drop (i + 3) t)) false) (is_listed (drop (i + 1) t))
  listed_at =
      ap is_listed (three t i h) ∙ listed_three (get_or t i 0) (get_or t (i + 1) 0) (get_or t (i + 2) 0) (drop (i + 3) t)
      ∙ ap (λ x. cond (eqb (get_or t (i + 1) 0) 45) (cond (leb (get_or t i 0) (get_or t (i + 2) 0)) (is_listed (drop (i + 3) t)) false) (is_listed x)) (sym (two t i h))

  pub listed_byte : (get_or t (i + 1) 0 ≡ 45 → ⊥) → is_listed (drop i t) ≡ is_listed (drop (i + 1) t)
  listed_byte e = listed_at ∙ if_false _ _ (eqb (get_or t (i + 1) 0) 45) (eqb_false (get_or t (i + 1) 0) 45 e)

  listed_dash : get_or t (i + 1) 0 ≡ 45 → is_listed (drop i t) ≡ cond (leb (get_or t i 0) (get_or t (i + 2) 0)) (is_listed (drop (i + 3) t)) false
  listed_dash e = listed_at ∙ if_true _ _ (eqb (get_or t (i + 1) 0) 45) (eqb_true (get_or t (i + 1) 0) 45 e)

  pub listed_falls : get_or t (i + 1) 0 ≡ 45 → get_or t (i + 2) 0 < get_or t i 0 → is_listed (drop i t) ≡ false
  listed_falls e l = listed_dash e ∙ if_false _ _ (leb (get_or t i 0) (get_or t (i + 2) 0)) (lt-leb (get_or t i 0) (get_or t (i + 2) 0) l)

  pub listed_range : get_or t (i + 1) 0 ≡ 45 → get_or t i 0 ≤ get_or t (i + 2) 0 → is_listed (drop i t) ≡ is_listed (drop (i + 3) t)
  listed_range e l = listed_dash e ∙ if_true _ _ (leb (get_or t i 0) (get_or t (i + 2) 0)) (le-leb (get_or t i 0) (get_or t (i + 2) 0) l)

pub listed_end : (t : Text) (i : ℕ) → length t - i < 3 → is_listed (drop i t) ≡ true
listed_end t i h = listed_short (drop i t) (subst⁻¹ (λ n. n < 3) (length-drop i t) h)

-- the first `]`
pub close_here : (s : Text) (i : ℕ) → i < length s → get_or s i 0 ≡ 93 → to_close_at s i ≡ i
unfolding to_close_at
close_here s i h e = run_stop (λ x. not (is_close x)) s i h (ap not (eqb_true (get_or s i 0) 93 e))

pub close_later : (s : Text) (i : ℕ) → i < length s → (get_or s i 0 ≡ 93 → ⊥) → to_close_at s i ≡ to_close_at s (i + 1)
unfolding to_close_at
close_later s i h e = run_step (λ x. not (is_close x)) s i h (ap not (eqb_false (get_or s i 0) 93 e))

pub close_none : (s : Text) (i : ℕ) → length s ≤ i → to_close_at s i ≡ i
unfolding to_close_at
close_none s i h = run_out (λ x. not (is_close x)) s i h
