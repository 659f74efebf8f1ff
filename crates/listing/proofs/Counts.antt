-- How many bytes of a buffer are 255, as the standard library counts them.
use Prim.Native.Nat.{ℕ, ◌+◌}
use mathlib.Core.Path.{◌≡◌, refl}
use mathlib.Core.Bool.{Bool, true, false, cond}
use mathlib.Core.List.{List, ◌∷◌}
use native.Mathlib.Omega.{arith}
use lib.Dec.{eqb}
use lib.ListN.{length}
use Rattle.std.specs.Prelude.{count_by}
use Rattle.std.proofs.lemmas.List.Recursion.{is_count_by}
use Rattle.definition.specs.Text.{keep}

pub kept_counted : (xs : List ℕ) → length (keep (λ x. eqb x 255) xs) ≡ count_by (λ x. eqb x 255) xs
unfolding keep
kept_counted xs = is_count_by (λ ys. length (keep (λ x. eqb x 255) ys)) (λ x. eqb x 255) refl (λ y ys. go (eqb y 255) y (keep (λ x. eqb x 255) ys)) xs
  where
    go : (b : Bool) (y : ℕ) (ys : List ℕ) → length (cond b (y ∷ ys) ys) ≡ cond b (1 + length ys) (length ys)
    go true y ys = omega arith
    go false y ys = refl
