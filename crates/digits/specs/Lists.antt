-- Lists of different numbers, in order of first occurrence; 0 stands for none.
use Rattle.std.specs.Prelude.{ℕ, ◌+◌, ◌*◌, Bool, true, false, cond, List, [], ◌∷◌, ◌++◌, eqb}

unfoldable pub member : ℕ → List ℕ → Bool
member d [] = false
member d (x ∷ xs) = cond (eqb x d) true (member d xs)

-- one more at the end
unfoldable pub add : List ℕ → ℕ → List ℕ
add xs d = cond (eqb d 0) xs (cond (member d xs) xs (xs ++ (d ∷ [])))

unfoldable pub adds : List ℕ → List ℕ → List ℕ
adds xs [] = xs
adds xs (y ∷ ys) = adds (add xs y) ys

unfoldable pub remove : ℕ → List ℕ → List ℕ
remove x [] = []
remove x (y ∷ ys) = cond (eqb y x) (remove x ys) (y ∷ remove x ys)

-- each of the first is among the second
unfoldable pub within : List ℕ → List ℕ → Bool
within [] ys = true
within (x ∷ xs) ys = cond (member x ys) (within xs ys) false

-- as a number: the first digit lowest, in base 8
unfoldable pub pack : List ℕ → ℕ
pack [] = 0
pack (x ∷ xs) = x + 8 * pack xs
