use Prim.Native.Nat.{ℕ}
use mathlib.Core.Path.{◌≡◌, refl, ap}
use mathlib.Core.Bool.{Bool, true, false, beq}
use mathlib.Core.List.{List}
use native.Mathlib.Omega.{arith}
use lib.ListN.{get_or}
use Rattle.tuples_test.proofs.apart.Goals as goal

is_false : (b : Bool) → (b ≡ true → ⊥) → beq b false ≡ true
is_false false h = refl
is_false true h = absurd (h refl)

pub expect-requires : goal.expect-requires
expect-requires c = is_false _ (λ e. let h : 4 ≡ 12 = ap (λ (l : List ℕ). get_or l 1 0) (c.same_words.ensures.0 e) in absurd (omega arith))
