-- What makes an element need quotes, test by test.
use Prim.Native.Nat.{ℕ, ◌+◌}
use mathlib.Core.Path.{◌≡◌, refl}
use mathlib.Core.List.{[], ◌∷◌}
use mathlib.Core.Bool.{true}
use native.Mathlib.Omega.{arith}
use lib.Dec.{ltb}
use lib.ListN.{length, drop}
use Rattle.definition.specs.Text.{Text, span, is_blank, needs_quotes}
use Rattle.definition.specs.Facts.{is_inside}
use Rattle.texts.proofs.RunLaws.{some_span}

pub quotes_empty : (s : Text) → length s ≡ 0 → needs_quotes s ≡ true
unfolding needs_quotes
quotes_empty [] h = refl
quotes_empty (x ∷ xs) h = absurd (omega arith)

-- with its run of no blanks up to e
pub quotes_blank : (s : Text) (e : ℕ) → (length s ≡ 0 → ⊥) → e ≡ 0 + span is_inside (drop 0 s) → ltb e (length s) ≡ needs_quotes s
unfolding needs_quotes
quotes_blank [] e h r = absurd (h refl)
quotes_blank (x ∷ xs) e h r = let f : e ≡ span is_inside (x ∷ xs) = omega arith in rw f (some_span is_blank (x ∷ xs))
