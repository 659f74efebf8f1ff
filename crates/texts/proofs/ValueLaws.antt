-- The value of a run of digits where all that is larger than m counts as m.
use mathlib.Core.Path.{◌≡◌, sym, ap, ◌∙◌}
use mathlib.Core.List.{[], ◌∷◌}
use Prim.Native.Nat.{ℕ, suc, ◌+◌, ◌-◌, ◌*◌, min, ◌≤◌, ◌<◌}
use native.Mathlib.Numerals.{add-one}
use native.Mathlib.Omega.{arith}
use lib.ListN.{length, get_or, drop, drop_of_length-le}
use lib.Seq.{drop-cons}
use Rattle.definition.specs.Text.{Text}
use Rattle.definition.specs.Token.{value_after}

module _ (m : ℕ) where
  cut_digit : (n d : ℕ) → min (10 * min n m + d) m ≡ min (10 * n + d) m
  cut_digit n d = omega arith

  -- the value before may be cut too
  cut_value : (n : ℕ) (xs : Text) → min (value_after (min n m) xs) m ≡ min (value_after n xs) m
  unfolding value_after
  cut_value n [] = omega arith
  cut_value n (x ∷ xs) =
      sym (cut_value (10 * min n m + (x - 48)) xs)
      ∙ ap (λ (k : ℕ). min (value_after k xs) m) (cut_digit n (x - 48))
      ∙ cut_value (10 * n + (x - 48)) xs

  -- one digit on
  pub value_step : (s : Text) (i v : ℕ) → i < length s → min (value_after v (drop i s)) m ≡ min (value_after (min (10 * v + (get_or s i 0 - 48)) m) (drop (i + 1) s)) m
  unfolding value_after
  value_step s i v h = rw (drop-cons s i 0 h, add-one i) (sym (cut_value (10 * v + (get_or s i 0 - 48)) (drop (suc i) s)))

  pub value_end : (s : Text) (i v : ℕ) → length s ≤ i → v ≤ m → min (value_after v (drop i s)) m ≡ v
  unfolding value_after
  value_end s i v h l = rw (drop_of_length-le s h) (omega arith)
