-- What `map` makes of a list, element by element.
use Prim.Native.Nat.{ℕ, suc, ◌<◌}
use mathlib.Core.Path.{◌≡◌, refl, ap₂}
use mathlib.Core.List.{List, [], ◌∷◌, map}
use native.Mathlib.Omega.{arith}
use lib.ListN.{length, get_or}

pub mapped : {A B : Type 0} (f : A → B) (d : A) (e : B) (xs : List A) (ys : List B) → length ys ≡ length xs → ((i : ℕ) → i < length xs → get_or ys i e ≡ f (get_or xs i d)) → ys ≡ map f xs
mapped f d e [] [] n h = refl
mapped f d e [] (y ∷ ys) n h = absurd (omega arith)
mapped f d e (x ∷ xs) [] n h = absurd (omega arith)
mapped f d e (x ∷ xs) (y ∷ ys) n h = ap₂ ◌∷◌ (h 0 (omega arith)) (mapped f d e xs ys (omega arith) (λ i l. h (suc i) (omega arith)))
