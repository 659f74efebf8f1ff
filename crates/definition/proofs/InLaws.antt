-- One of a list: what tests, maps, choices, lists of lists and tuples do with it.
use mathlib.Core.Path.{◌≡◌, refl, sym, ap, subst}
use mathlib.Core.Logic.{◌⊎◌, inl, inr}
use mathlib.Core.Bool.{Bool, true, false, cond}
use mathlib.Core.List.{List, [], ◌∷◌, ◌++◌, map}
use Prim.Native.Nat.{ℕ, zero, suc, ◌+◌, ◌≤◌, ◌<◌}
use native.Mathlib.Decide.{dec_le}
use native.Mathlib.Omega.{arith}
use lib.Dec.{T}
use lib.ListN.{length}
use Rattle.definition.specs.Text.{some_of, keep, gather, from}
use Rattle.definition.specs.Tables.{Tuple, tuples}
use Rattle.definition.proofs.BoolLaws.{or_cases, or_left, or_right}
use Rattle.definition.proofs.ListLaws.{Each, each_none, each_one, Every, every_none, every_one}

pub data In {A : Type 0} (x : A) : List A → Type 0 where
  here : {y : A} {xs : List A} → x ≡ y → In x (y ∷ xs)
  there : {y : A} {xs : List A} → In x xs → In x (y ∷ xs)

module _ {A : Type 0} where
  pub in_left : {x : A} {xs : List A} (ys : List A) → In x xs → In x (xs ++ ys)
  in_left ys (here e) = here e
  in_left ys (there i) = there (in_left ys i)

  pub in_right : {x : A} (xs : List A) {ys : List A} → In x ys → In x (xs ++ ys)
  in_right [] i = i
  in_right (y ∷ xs) i = there (in_right xs i)

  in_either : {x : A} (xs : List A) {ys : List A} → In x (xs ++ ys) → In x xs ⊎ In x ys
  in_either [] i = inr i
  in_either (y ∷ xs) (here e) = inl (here e)
  in_either {x} (y ∷ xs) {ys} (there i) = go (in_either xs i)
    where
      go : In x xs ⊎ In x ys → In x (y ∷ xs) ⊎ In x ys
      go (inl j) = inl (there j)
      go (inr j) = inr j

  pub in_keep : (p : A → Bool) {x : A} {xs : List A} → In x xs → T (p x) → In x (keep p xs)
  unfolding keep
  in_keep p {x} (here {y} {xs} e) t = go (p y) (subst (λ z. T (p z)) e t)
    where
      go : (b : Bool) → T b → In x (cond b (y ∷ keep p xs) (keep p xs))
      go true t = here e
      go false t = absurd t
  in_keep p {x} (there {y} {xs} i) t = go (p y) (in_keep p i t)
    where
      go : (b : Bool) → In x (keep p xs) → In x (cond b (y ∷ keep p xs) (keep p xs))
      go true j = there j
      go false j = j

  pub keep_in : (p : A → Bool) {x : A} (xs : List A) → In x (keep p xs) → In x xs × T (p x)
  unfolding keep
  keep_in p {x = x} [] i = elim i [ ]
  keep_in p {x} (y ∷ xs) i = go (p y) refl i (keep_in p xs)
    where
      next : (In x (keep p xs) → In x xs × T (p x)) → In x (keep p xs) → In x (y ∷ xs) × T (p x)
      next ih j = let k = ih j in (there k.0, k.1)

      found : p y ≡ true → (In x (keep p xs) → In x xs × T (p x)) → In x (y ∷ keep p xs) → In x (y ∷ xs) × T (p x)
      found e ih (here d) = (here d, rw (d, e) tt)
      found e ih (there j) = next ih j

      go : (b : Bool) → p y ≡ b → In x (cond b (y ∷ keep p xs) (keep p xs)) → (In x (keep p xs) → In x xs × T (p x)) → In x (y ∷ xs) × T (p x)
      go true e i ih = found e ih i
      go false e i ih = next ih i

  pub in_some : (p : A → Bool) {x : A} {xs : List A} → In x xs → T (p x) → T (some_of p xs)
  unfolding some_of
  in_some p (here {y} {xs} e) t = or_left (p y) (some_of p xs) (subst (λ z. T (p z)) e t)
  in_some p (there {y} {xs} i) t = or_right (p y) (some_of p xs) (in_some p i t)

  pub some_in : (p : A → Bool) (xs : List A) → T (some_of p xs) → (x : A) × In x xs × T (p x)
  unfolding some_of
  some_in p [] t = absurd t
  some_in p (y ∷ xs) t = go (or_cases (p y) (some_of p xs) t) (some_in p xs)
    where
      go : T (p y) ⊎ T (some_of p xs) → (T (some_of p xs) → (x : A) × In x xs × T (p x)) → (x : A) × In x (y ∷ xs) × T (p x)
      go (inl s) ih = (y, here refl, s)
      go (inr s) ih = let k = ih s in (k.0, there k.1, k.2)

  pub every_in : {P : A → Type 0} {x : A} {xs : List A} → Every P xs → In x xs → P x
  every_in {P = P} every_none x4 = elim x4 [ ]
  every_in {P} (every_one h hs) (here e) = subst P (sym e) h
  every_in (every_one h hs) (there i) = every_in hs i

  pub all_in : {P : A → Type 0} (xs : List A) → ((x : A) → In x xs → P x) → Every P xs
  all_in [] f = every_none
  all_in (x ∷ xs) f = every_one (f x (here refl)) (all_in xs (λ y i. f y (there i)))

module _ {A B : Type 0} where
  pub in_map : (f : A → B) {x : A} {xs : List A} → In x xs → In (f x) (map f xs)
  in_map f (here e) = here (ap f e)
  in_map f (there i) = there (in_map f i)

  pub map_in : (f : A → B) {y : B} (xs : List A) → In y (map f xs) → (x : A) × In x xs × (y ≡ f x)
  map_in f {y = y} [] x' = elim x' [ ]
  map_in f (x ∷ xs) (here e) = (x, here refl, e)
  map_in f (x ∷ xs) (there i) = let k = map_in f xs i in (k.0, there k.1, k.2)

  pub in_gather : (f : A → List B) {x : A} {y : B} {xs : List A} → In x xs → In y (f x) → In y (gather f xs)
  unfolding gather
  in_gather f {x} {y} (here {xs = xs} e) j = in_left (gather f xs) (subst (λ z. In y (f z)) e j)
  in_gather f (there {y = z} i) j = in_right (f z) (in_gather f i j)

  pub gather_in : (f : A → List B) {y : B} (xs : List A) → In y (gather f xs) → (x : A) × In x xs × In y (f x)
  unfolding gather
  gather_in f {y = y} [] i = elim i [ ]
  gather_in f {y} (x ∷ xs) i = go (in_either (f x) i) (gather_in f xs)
    where
      go : In y (f x) ⊎ In y (gather f xs) → (In y (gather f xs) → (z : A) × In z xs × In y (f z)) → (z : A) × In z (x ∷ xs) × In y (f z)
      go (inl j) ih = (x, here refl, j)
      go (inr j) ih = let k = ih j in (k.0, there k.1, k.2)

  pub each_left : {R : A → B → Type 0} {x : A} {xs : List A} {ys : List B} → Each R xs ys → In x xs → (y : B) × In y ys × R x y
  each_left {R = R} each_none x5 = elim x5 [ ]
  each_left {R} (each_one {b} h hs) (here e) = (b, here refl, subst (λ z. R z b) (sym e) h)
  each_left (each_one h hs) (there i) = let k = each_left hs i in (k.0, there k.1, k.2)

  pub each_right : {R : A → B → Type 0} {y : B} {xs : List A} {ys : List B} → Each R xs ys → In y ys → (x : A) × In x xs × R x y
  each_right {R = R} {y = y} each_none x4 = elim x4 [ ]
  each_right {R} (each_one {a} h hs) (here e) = (a, here refl, subst (λ z. R a z) (sym e) h)
  each_right (each_one h hs) (there i) = let k = each_right hs i in (k.0, there k.1, k.2)

-- all numbers below u, and all tuples of them
pub in_from : (n a b : ℕ) → a ≤ b → b < a + n → In b (from n a)
unfolding from
in_from zero a b l h = absurd (omega arith)
in_from (suc n) a b l h = go (dec_le b a) (in_from n (suc a) b)
  where
    go : Dec (b ≤ a) → (suc a ≤ b → b < suc a + n → In b (from n (suc a))) → In b (a ∷ from n (suc a))
    go (yes k) ih = let e : b ≡ a = omega arith in here e
    go (no k) ih = there (ih (omega arith) (omega arith))

pub in_tuples : (u : ℕ) {t : Tuple} → Every (λ a. a < u) t → In t (tuples u (length t))
unfolding tuples
in_tuples u every_none = here refl
in_tuples u (every_one {a} {xs = t} h hs) =
    in_gather (λ b. map (λ s. b ∷ s) (tuples u (length t))) (in_from u 0 a (omega arith) (omega arith)) (in_map (λ s. a ∷ s) (in_tuples u hs))
