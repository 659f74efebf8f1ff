-- A test over a list, and the lists that a function gives, where two lists follow each other; lists that are related one by one,
-- and lists whose every element has a property.
use mathlib.Core.Path.{◌≡◌, refl, sym, ap, ap₂, ◌∙◌}
use mathlib.Core.Bool.{Bool, true, false, ◌&&◌, ◌||◌, cond, and_assoc, or_assoc}
use mathlib.Core.List.{List, [], ◌∷◌, ◌++◌, map, append_assoc, append-nil}
use Prim.Native.Nat.{ℕ, zero, suc, ◌+◌, ◌<◌}
use native.Mathlib.Nat.{add-zero, zero-add, add-suc, suc-add, le_of_suc-le-suc}
use native.Mathlib.Omega.{arith}
use lib.ListN.{length, get_or}
use Rattle.definition.specs.Text.{some_of, all_of, keep, gather, from}

pub some_append : {A : Type 0} (p : A → Bool) (xs ys : List A) → some_of p (xs ++ ys) ≡ some_of p xs || some_of p ys
unfolding some_of
some_append p [] ys = refl
some_append p (x ∷ xs) ys = ap (λ (b : Bool). p x || b) (some_append p xs ys) ∙ sym (or_assoc (p x) (some_of p xs) (some_of p ys))

pub some_map : {A B : Type 0} (p : B → Bool) (f : A → B) (xs : List A) → some_of p (map f xs) ≡ some_of (λ x. p (f x)) xs
unfolding some_of
some_map p f [] = refl
some_map p f (x ∷ xs) = ap (λ (b : Bool). p (f x) || b) (some_map p f xs)

pub some_gather : {A B : Type 0} (p : B → Bool) (f : A → List B) (xs : List A) → some_of p (gather f xs) ≡ some_of (λ x. some_of p (f x)) xs
unfolding some_of gather
some_gather p f [] = refl
some_gather p f (x ∷ xs) = some_append p (f x) (gather f xs) ∙ ap (λ (b : Bool). some_of p (f x) || b) (some_gather p f xs)

-- m + n numbers in a row are m of them, then n
pub from_add : (m n a : ℕ) → from (m + n) a ≡ from m a ++ from n (a + m)
unfolding from
from_add zero n a = rw (zero-add, add-zero)
from_add (suc m) n a = rw suc-add (ap (λ l. a ∷ l) (from_add m n (suc a) ∙ rw (suc-add, ← add-suc)))

pub all_append : {A : Type 0} (p : A → Bool) (xs ys : List A) → all_of p (xs ++ ys) ≡ all_of p xs && all_of p ys
unfolding all_of
all_append p [] ys = refl
all_append p (x ∷ xs) ys = ap (λ (b : Bool). p x && b) (all_append p xs ys) ∙ sym (and_assoc (p x) (all_of p xs) (all_of p ys))

pub gather_append : {A B : Type 0} (f : A → List B) (xs ys : List A) → gather f (xs ++ ys) ≡ gather f xs ++ gather f ys
unfolding gather
gather_append f [] ys = refl
gather_append f (x ∷ xs) ys = ap (λ zs. f x ++ zs) (gather_append f xs ys) ∙ sym (append_assoc (f x) (gather f xs) (gather f ys))

pub gather_one : {A B : Type 0} (f : A → List B) (x : A) → gather f (x ∷ []) ≡ f x
unfolding gather
gather_one f x = append-nil (f x)

-- two lists, related one by one
pub data Each {A B : Type 0} (R : A → B → Type 0) : List A → List B → Type 0 where
  each_none : Each R [] []
  each_one : {a : A} {b : B} {xs : List A} {ys : List B} → R a b → Each R xs ys → Each R (a ∷ xs) (b ∷ ys)

module _ {A B : Type 0} {R : A → B → Type 0} where
  pub each_length : {xs : List A} {ys : List B} → Each R xs ys → length xs ≡ length ys
  each_length each_none = refl
  each_length (each_one h hs) = ap suc (each_length hs)

  pub each_more : {xs : List A} {ys : List B} {a : A} {b : B} → Each R xs ys → R a b → Each R (xs ++ (a ∷ [])) (ys ++ (b ∷ []))
  each_more each_none h = each_one h each_none
  each_more (each_one g gs) h = each_one g (each_more gs h)

  pub each_some : (p : A → Bool) (q : B → Bool) → ((a : A) (b : B) → R a b → p a ≡ q b) → {xs : List A} {ys : List B} → Each R xs ys → some_of p xs ≡ some_of q ys
  unfolding some_of
  each_some p q e each_none = refl
  each_some p q e (each_one {a} {b} h hs) = ap₂ ◌||◌ (e a b h) (each_some p q e hs)

  pub each_map : {C : Type 0} (f : A → C) (g : B → C) → ((a : A) (b : B) → R a b → f a ≡ g b) → {xs : List A} {ys : List B} → Each R xs ys → map f xs ≡ map g ys
  each_map f g e each_none = refl
  each_map f g e (each_one {a} {b} h hs) = ap₂ ◌∷◌ (e a b h) (each_map f g e hs)

-- a list whose every element has a property
pub data Every {A : Type 0} (P : A → Type 0) : List A → Type 0 where
  every_none : Every P []
  every_one : {a : A} {xs : List A} → P a → Every P xs → Every P (a ∷ xs)

module _ {A : Type 0} {P : A → Type 0} where
  pub every_head : {x : A} {xs : List A} → Every P (x ∷ xs) → P x
  every_head (every_one h hs) = h

  pub every_tail : {x : A} {xs : List A} → Every P (x ∷ xs) → Every P xs
  every_tail (every_one h hs) = hs

  pub every_both : {xs ys : List A} → Every P xs → Every P ys → Every P (xs ++ ys)
  every_both every_none k = k
  every_both (every_one h hs) k = every_one h (every_both hs k)

  pub every_left : (xs ys : List A) → Every P (xs ++ ys) → Every P xs
  every_left [] ys h = every_none
  every_left (x ∷ xs) ys (every_one h hs) = every_one h (every_left xs ys hs)

  pub every_right : (xs : List A) {ys : List A} → Every P (xs ++ ys) → Every P ys
  every_right [] h = h
  every_right (x ∷ xs) (every_one h hs) = every_right xs hs

  pub every_at : {xs : List A} → Every P xs → (d : A) (k : ℕ) → k < length xs → P (get_or xs k d)
  every_at every_none d k h = absurd (omega arith)
  every_at (every_one h hs) d zero l = h
  every_at (every_one h hs) d (suc k) l = every_at hs d k (le_of_suc-le-suc l)

  pub every_keep : {xs : List A} (p : A → Bool) → Every P xs → Every P (keep p xs)
  unfolding keep
  every_keep p every_none = every_none
  every_keep p (every_one {a = x} {xs} h hs) = go (p x) (every_keep p hs)
    where
      go : (b : Bool) → Every P (keep p xs) → Every P (cond b (x ∷ keep p xs) (keep p xs))
      go true k = every_one h k
      go false k = k

  pub every_weaken : {Q : A → Type 0} → ((x : A) → P x → Q x) → {xs : List A} → Every P xs → Every Q xs
  every_weaken f every_none = every_none
  every_weaken f (every_one {a} h hs) = every_one (f a h) (every_weaken f hs)

module _ {A B : Type 0} {P : B → Type 0} where
  pub every_map : (f : A → B) {xs : List A} → Every (λ x. P (f x)) xs → Every P (map f xs)
  every_map f every_none = every_none
  every_map f (every_one h hs) = every_one h (every_map f hs)

  pub every_gather : (f : A → List B) {xs : List A} → Every (λ x. Every P (f x)) xs → Every P (gather f xs)
  unfolding gather
  every_gather f every_none = every_none
  every_gather f (every_one h hs) = every_both h (every_gather f hs)

module _ {A : Type 0} where
  pub some_same : (p q : A → Bool) {xs : List A} → Every (λ x. p x ≡ q x) xs → some_of p xs ≡ some_of q xs
  unfolding some_of
  some_same p q every_none = refl
  some_same p q (every_one h hs) = ap₂ ◌||◌ h (some_same p q hs)

  pub keep_same : (p q : A → Bool) {xs : List A} → Every (λ x. p x ≡ q x) xs → keep p xs ≡ keep q xs
  unfolding keep
  keep_same p q every_none = refl
  keep_same p q (every_one h hs) = rw (h, keep_same p q hs)

  pub keep_all : (p : A → Bool) {xs : List A} → Every (λ x. p x ≡ true) xs → keep p xs ≡ xs
  unfolding keep
  keep_all p every_none = refl
  keep_all p (every_one h hs) = rw (h, keep_all p hs)

  pub keep_none : (p : A → Bool) {xs : List A} → Every (λ x. p x ≡ false) xs → keep p xs ≡ []
  unfolding keep
  keep_none p every_none = refl
  keep_none p (every_one h hs) = rw (h, keep_none p hs)

pub gather_map : {A B C : Type 0} (f : B → List C) (g : A → B) (xs : List A) → gather f (map g xs) ≡ gather (λ x. f (g x)) xs
unfolding gather
gather_map f g [] = refl
gather_map f g (x ∷ xs) = ap (λ l. f (g x) ++ l) (gather_map f g xs)
