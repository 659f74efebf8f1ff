-- A set of numbers as a list in strictly ascending order, each number once.
use Rattle.std.specs.Prelude.{ℕ, ◌<◌, List, [], ◌∷◌, ltb, eqb, if◌then◌else◌}
use Rattle.definition.proofs.InLaws.{In}

-- each number is below all that follow it
pub data Ascending : List ℕ → Type 0 where
  none : Ascending []
  rises : {w : ℕ} {ws : List ℕ} → ((x : ℕ) → In x ws → w < x) → Ascending ws → Ascending (w ∷ ws)

-- one number more: at its place, or not again
unfoldable pub entered : ℕ → List ℕ → List ℕ
entered v [] = v ∷ []
entered v (w ∷ ws) = let r = entered v ws in if eqb v w then (w ∷ ws) else if ltb v w then (v ∷ w ∷ ws) else (w ∷ r)

-- several numbers, one after another
unfoldable pub entered_all : List ℕ → List ℕ → List ℕ
entered_all [] ws = ws
entered_all (v ∷ vs) ws = entered_all vs (entered v ws)
