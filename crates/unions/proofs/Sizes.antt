-- How long a line is, and its length as it is measured.
use Prim.Native.Nat.{ℕ, ◌≤◌}
use mathlib.Core.Path.{◌≡◌, ◌∙◌}
use mathlib.Core.Bool.{Bool}
use mathlib.Core.List.{List, [], ◌∷◌}
use native.Mathlib.Nat.{le_trans, min-eq_left}
use native.Mathlib.Omega.{arith}
use lib.ListN.{length, get_or, take, length-take}
use Rattle.definition.specs.Text.{Text}
use Rattle.definition.specs.Tables.{Tuple}
use Rattle.lines.specs.Lines.{Texts, line_of}
use Rattle.lines.specs.Put.{Put}
use Rattle.lines.proofs.Lengths.{most_small, shown_within, line_most_labelled}

module _ (T : Texts) (l : Text) (t : Tuple) (n : ℕ) (few : n ≤ 4) (short : length l ≤ 63) where
  line_few : length (line_of T (l ∷ []) (take n t)) ≤ 512
  line_few =
      omega (arith, few, short, length-take n t, line_most_labelled T 65 (λ a. le_trans (shown_within T a) (most_small (get_or T.places a 0))) l (take n t))

  -- put to a buffer that is long enough
  pub line_measured : {w : Bool} {out : List ℕ} {r : ℕ} {out₁ : List ℕ} → length out ≡ 512 → Put w out 0 (line_of T (l ∷ []) (take n t)) r out₁
      → (r ≡ length (line_of T (l ∷ []) (take n t))) × (r ≤ 512)
  line_measured {w} {out} {r} {out₁} e p = let same : r ≡ length (line_of T (l ∷ []) (take n t)) = omega (arith, p.end ∙ min-eq_left (omega (arith, e, line_few))) in
      (same, omega (arith, same, line_few))
