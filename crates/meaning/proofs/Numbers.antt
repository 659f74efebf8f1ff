-- Tests over the numbers below u, and over tuples.
use Prim.Native.Nat.{ℕ, zero, suc, ◌+◌, ◌<◌, ◌≤◌}
use mathlib.Core.Path.{◌≡◌, refl, sym, ap, ap₂, ◌∙◌}
use mathlib.Core.Bool.{Bool, true, false, ◌||◌, ◌&&◌, and-eq-true_iff}
use mathlib.Core.List.{List, [], ◌∷◌, map}
use native.Mathlib.Omega.{arith}
use borrow.Author.Tests.{eqb-true, eqb-false}
use lib.Dec.{eqb}
use Rattle.definition.specs.Text.{some_of, all_of, gather, from, below}
use Rattle.definition.specs.Tables.{Tuple}
use Rattle.definition.proofs.ListLaws.{all_append}

pub bool_ext : (a b : Bool) → (a ≡ true → b ≡ true) → (b ≡ true → a ≡ true) → a ≡ b
bool_ext true b f g = sym (f refl)
bool_ext false true f g = g refl
bool_ext false false f g = refl

-- equal tests where they count
some_from : (f g : ℕ → Bool) (n a u : ℕ) → a + n ≤ u → ((v : ℕ) → v < u → f v ≡ g v) → some_of f (from n a) ≡ some_of g (from n a)
unfolding some_of from
some_from f g zero a u l h = refl
some_from f g (suc n) a u l h = ap₂ ◌||◌ (h a (omega arith)) (some_from f g n (suc a) u (omega arith) h)

pub some_same : (f g : ℕ → Bool) (u : ℕ) → ((v : ℕ) → v < u → f v ≡ g v) → some_of f (below u) ≡ some_of g (below u)
some_same f g u h = some_from f g u 0 u (omega arith) h

all_from : (f g : ℕ → Bool) (n a u : ℕ) → a + n ≤ u → ((v : ℕ) → v < u → f v ≡ g v) → all_of f (from n a) ≡ all_of g (from n a)
unfolding all_of from
all_from f g zero a u l h = refl
all_from f g (suc n) a u l h = ap₂ ◌&&◌ (h a (omega arith)) (all_from f g n (suc a) u (omega arith) h)

pub all_same : (f g : ℕ → Bool) (u : ℕ) → ((v : ℕ) → v < u → f v ≡ g v) → all_of f (below u) ≡ all_of g (below u)
all_same f g u h = all_from f g u 0 u (omega arith) h

-- a test that holds of all numbers below u
all_each : (f : ℕ → Bool) (n a u : ℕ) → a + n ≤ u → ((v : ℕ) → v < u → f v ≡ true) → all_of f (from n a) ≡ true
unfolding all_of from
all_each f zero a u l h = refl
all_each f (suc n) a u l h = ap₂ ◌&&◌ (h a (omega arith)) (all_each f n (suc a) u (omega arith) h)

pub all_intro : (f : ℕ → Bool) (u : ℕ) → ((v : ℕ) → v < u → f v ≡ true) → all_of f (below u) ≡ true
all_intro f u h = all_each f u 0 u (omega arith) h

all_one : (f : ℕ → Bool) (n a v : ℕ) → a ≤ v → v < a + n → all_of f (from n a) ≡ true → f v ≡ true
unfolding all_of from
all_one f zero a v l h e = absurd (omega arith)
all_one f (suc n) a v l h e =
    let p = (and-eq-true_iff (f a) (all_of f (from n (suc a)))).0 e in
    go (eqb a v) refl p.0 (λ i j. all_one f n (suc a) v i j p.1)
  where
    go : (b : Bool) → eqb a v ≡ b → f a ≡ true → (suc a ≤ v → v < suc a + n → f v ≡ true) → f v ≡ true
    go true q p r = ap f (sym (eqb-true a v q)) ∙ p
    go false q p r = let d : a ≡ v → ⊥ = eqb-false a v q in r (omega arith) (omega arith)

pub all_elim : (f : ℕ → Bool) (u v : ℕ) → all_of f (below u) ≡ true → v < u → f v ≡ true
all_elim f u v e h = all_one f u 0 v (omega arith) (omega arith) e

-- tuples by their first element
all_map : (f : Tuple → Bool) (a : ℕ) (xs : List Tuple) → all_of f (map (λ t. a ∷ t) xs) ≡ all_of (λ t. f (a ∷ t)) xs
unfolding all_of
all_map f a [] = refl
all_map f a (x ∷ xs) = ap (λ (b : Bool). f (a ∷ x) && b) (all_map f a xs)

pub all_gather : (f : Tuple → Bool) (r : List Tuple) (cs : List ℕ) → all_of f (gather (λ a. map (λ t. a ∷ t) r) cs) ≡ all_of (λ a. all_of (λ t. f (a ∷ t)) r) cs
unfolding all_of gather
all_gather f r [] = refl
all_gather f r (c ∷ cs) = all_append f (map (λ t. c ∷ t) r) (gather (λ a. map (λ t. a ∷ t) r) cs) ∙ ap₂ ◌&&◌ (all_map f c r) (all_gather f r cs)
