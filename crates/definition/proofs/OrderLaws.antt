-- Lists in order, each element before all that follow: tuples ascend by their first difference, which `earlier` asks for, and so do their
-- texts.
use mathlib.Core.Path.{◌≡◌, refl, sym, ap, subst}
use mathlib.Core.Logic.{◌↔◌}
use mathlib.Core.Bool.{Bool, true, false, cond}
use mathlib.Core.List.{List, [], ◌∷◌, ◌++◌, map}
use Prim.Native.Nat.{ℕ, zero, suc, ◌<◌}
use native.Mathlib.Omega.{arith}
use borrow.Author.Tests.{eq-eqb, ne_eqb, lt-ltb}
use lib.Dec.{T, eqb, ltb, eqb→eq, ltb→lt}
use lib.ListN.{length, get_or}
use Rattle.definition.specs.Text.{Text, earlier, keep, gather, from}
use Rattle.definition.specs.Facts.{Ascending}
use Rattle.definition.specs.Tables.{Tuple, tuples}
use Rattle.definition.proofs.ListLaws.{Every, every_none, every_one, every_both, every_weaken, every_keep, every_at}
use Rattle.definition.proofs.InLaws.{In, here, there, all_in, every_in, map_in, gather_in}
use Rattle.definition.proofs.UniverseLaws.{earlier_trans}

pub data Sorted {A : Type 0} (R : A → A → Type 0) : List A → Type 0 where
  sorted_none : Sorted R []
  sorted_one : {x : A} {xs : List A} → Every (R x) xs → Sorted R xs → Sorted R (x ∷ xs)

-- the first difference decides
pub data Lex {A : Type 0} (R : A → A → Type 0) : List A → List A → Type 0 where
  at_once : {x y : A} {xs ys : List A} → R x y → Lex R (x ∷ xs) (y ∷ ys)
  after : {x y : A} {xs ys : List A} → x ≡ y → Lex R xs ys → Lex R (x ∷ xs) (y ∷ ys)

module _ {A : Type 0} {R : A → A → Type 0} where
  sorted_append : {xs ys : List A} → Sorted R xs → Sorted R ys → ((x y : A) → In x xs → In y ys → R x y) → Sorted R (xs ++ ys)
  sorted_append sorted_none k f = k
  sorted_append {ys = ys} (sorted_one {x} h hs) k f = sorted_one (every_both h (all_in ys (λ y j. f x y (here refl) j))) (sorted_append hs k (λ x y i j. f x y (there i) j))

  pub sorted_keep : (p : A → Bool) {xs : List A} → Sorted R xs → Sorted R (keep p xs)
  unfolding keep
  sorted_keep p sorted_none = sorted_none
  sorted_keep p (sorted_one {x} {xs} h hs) = go (p x) (sorted_keep p hs)
    where
      go : (b : Bool) → Sorted R (keep p xs) → Sorted R (cond b (x ∷ keep p xs) (keep p xs))
      go true k = sorted_one (every_keep p h) k
      go false k = k

  -- of two different elements that are related, and nothing else, no list of them is before itself
  pub lex_other : ((x y : A) → R x y → x ≡ y → ⊥) → {xs ys : List A} → Lex R xs ys → xs ≡ ys → ⊥
  lex_other f (at_once {x} {y} h) e = let k : x ≡ y = cc in f x y h k
  lex_other f (after {xs = xs} {ys = ys} d h) e = let k : xs ≡ ys = cc in lex_other f h k

module _ {A B : Type 0} {R : A → A → Type 0} {S : B → B → Type 0} where
  pub sorted_map : (f : A → B) {xs : List A} → ((x y : A) → In x xs → In y xs → R x y → S (f x) (f y)) → Sorted R xs → Sorted S (map f xs)
  sorted_map f g sorted_none = sorted_none
  sorted_map f {xs = _} g (sorted_one {x} {xs} h hs) = sorted_one (all_in (map f xs) rest) (sorted_map f (λ x y i j. g x y (there i) (there j)) hs)
    where
      rest : (z : B) → In z (map f xs) → S (f x) z
      rest z i = let (y, j, e) = map_in f xs i in subst (S (f x)) (sym e) (g x y (here refl) (there j) (every_in h j))

  pub sorted_gather : (f : A → List B) {xs : List A} → Sorted R xs → ((x : A) → In x xs → Sorted S (f x)) → ((x y : A) → R x y → (a b : B) → In a (f x) → In b (f y) → S a b) → Sorted S (gather f xs)
  unfolding gather
  sorted_gather f sorted_none g k = sorted_none
  sorted_gather f (sorted_one {x} {xs} h hs) g k =
      sorted_append (g x (here refl)) (sorted_gather f hs (λ y i. g y (there i)) k)
      (λ a b i j. let (y, l, m) = gather_in f xs j in k x y (every_in h l) a b i m)

-- numbers and tuples of numbers
from_after : (n a b : ℕ) → a < b → Every (λ c. a < c) (from n b)
unfolding from
from_after zero a b h = every_none
from_after (suc n) a b h = every_one h (from_after n a (suc b) (omega arith))

from_sorted : (n a : ℕ) → Sorted ◌<◌ (from n a)
unfolding from
from_sorted zero a = sorted_none
from_sorted (suc n) a = sorted_one (from_after n a (suc a) (omega arith)) (from_sorted n (suc a))

-- "all tuples of n elements, ascending"
pub tuples_sorted : (u n : ℕ) → Sorted (Lex ◌<◌) (tuples u n)
unfolding tuples
tuples_sorted u zero = sorted_one every_none sorted_none
tuples_sorted u (suc n) =
    sorted_gather (λ a. map (λ t. a ∷ t) (tuples u n)) (from_sorted u 0) (λ a i. sorted_map (λ t. a ∷ t) (λ s t j k h. after refl h) (tuples_sorted u n)) across
  where
    across : (a b : ℕ) → a < b → (s t : Tuple) → In s (map (λ t. a ∷ t) (tuples u n)) → In t (map (λ t. b ∷ t) (tuples u n)) → Lex ◌<◌ s t
    across a b h s t i j =
        let (x, k, e) = map_in (λ t. a ∷ t) (tuples u n) i in
        let (y, l, d) = map_in (λ t. b ∷ t) (tuples u n) j in
        subst (λ (z : Tuple). Lex ◌<◌ s z) (sym d) (subst (λ (z : Tuple). Lex ◌<◌ z (b ∷ y)) (sym e) (at_once h))

-- of two lists of one length the earlier is the smaller at the earliest difference
pub lex_earlier : {c d : List ℕ} → Lex ◌<◌ c d → T (earlier c d)
unfolding earlier
lex_earlier (at_once {x} {y} h) = rw (ne_eqb x y (λ e. omega arith), lt-ltb x y h) tt
lex_earlier (after {x} {y} e h) = rw (eq-eqb x y e) (lex_earlier h)

earlier_lex : (c d : List ℕ) → length d ≡ length c → T (earlier c d) → Lex ◌<◌ c d
unfolding earlier
earlier_lex [] [] l t = absurd t
earlier_lex [] (y ∷ d) l t = absurd (omega arith)
earlier_lex (x ∷ c) [] l t = absurd (omega arith)
earlier_lex (x ∷ c) (y ∷ d) l t = go (eqb x y) refl t (earlier_lex c d (omega arith))
  where
    go : (b : Bool) → eqb x y ≡ b → T (cond b (earlier c d) (ltb x y)) → (T (earlier c d) → Lex ◌<◌ c d) → Lex ◌<◌ (x ∷ c) (y ∷ d)
    go true e s ih = after (eqb→eq x y (rw e tt)) (ih s)
    go false e s ih = at_once (ltb→lt x y s)

pub earlier_smaller : (c d : List ℕ) → length d ≡ length c → T (earlier c d) ↔ Lex ◌<◌ c d
earlier_smaller c d l = (earlier_lex c d l, lex_earlier)

-- texts in byte order, and tuples of their numbers
abbrev pub Earlier : Text → Text → Type 0
Earlier x y = T (earlier x y)

pub ascending_sorted : (us : List Text) → Ascending us → Sorted Earlier us
ascending_sorted [] a = sorted_none
ascending_sorted (u ∷ us) a = sorted_one (behind u us a) (ascending_sorted us a.1)
  where
    behind : (u : Text) (us : List Text) → Ascending (u ∷ us) → Every (Earlier u) us
    behind u [] a = every_none
    behind u (v ∷ us) a = every_one a.0 (every_weaken (λ x h. earlier_trans u v x a.0 h) (behind v us a.1))

sorted_at : {us : List Text} → Sorted Earlier us → (a b : ℕ) → a < b → b < length us → Earlier (get_or us a []) (get_or us b [])
sorted_at sorted_none a b h l = absurd (omega arith)
sorted_at (sorted_one {x} {xs} h hs) zero zero k l = absurd (omega arith)
sorted_at (sorted_one {x} {xs} h hs) zero (suc b) k l = let m : b < length xs = omega arith in every_at h [] b m
sorted_at (sorted_one {x} {xs} h hs) (suc a) zero k l = absurd (omega arith)
sorted_at (sorted_one {x} {xs} h hs) (suc a) (suc b) k l = sorted_at hs a b (omega arith) (omega arith)

pub texts_sorted : {us : List Text} → Sorted Earlier us → {s t : Tuple} → Every (λ a. a < length us) t → Lex ◌<◌ s t → Lex Earlier (map (λ a. get_or us a []) s) (map (λ a. get_or us a []) t)
texts_sorted {us = us} h {s = s} every_none x3 = elim x3 [ ]
texts_sorted h (every_one {a = b} l ls) (at_once {x = a} k) = at_once (sorted_at h a b k l)
texts_sorted {us} h (every_one l ls) (after e k) = after (ap (λ (a : ℕ). get_or us a []) e) (texts_sorted h ls k)
