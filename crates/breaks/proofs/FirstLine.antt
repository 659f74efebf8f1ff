-- The line that starts at a place of a text, and the lines after it.
use Prim.Native.Nat.{ℕ, ◌+◌, ◌-◌, ◌≤◌}
use mathlib.Core.Path.{◌≡◌, ap, ◌∙◌}
use mathlib.Core.List.{◌∷◌}
use native.Mathlib.Omega.{arith}
use lib.ListN.{length, take, drop, length-drop}
use lib.Seq.{length-take-le, drop-drop}
use Rattle.definition.specs.Text.{Text, span}
use Rattle.definition.specs.Facts.{cut}
use Rattle.definition.proofs.TextLaws.{cut_line, later_lines, no_end}

pub line_size : (facts : Text) (a e : ℕ) → a ≤ e → e ≤ length facts → length (take (e - a) (drop a facts)) ≡ e - a
line_size facts a e h w = length-take-le (e - a) (drop a facts) (rw length-drop (omega arith))

-- the line that starts at a and ends at e, and the lines after it
module _ (xs : Text) (a e : ℕ) (within : a ≤ length xs) (r : e ≡ a + span no_end (drop a xs)) (b : e ≤ length xs) where
  run : span no_end (drop a xs) ≡ e - a
  run = omega (arith, r)

  from : a ≤ e
  from = omega (arith, r)

  rest : drop (e - a) (drop a xs) ≡ drop e xs
  rest = let k : a + (e - a) ≡ e = omega (arith, r) in rw (drop-drop, k)

  pub cut_first : cut (drop a xs) ≡ take (e - a) (drop a xs) ∷ later_lines (drop e xs)
  cut_first = cut_line (drop a xs) ∙ ap (λ (n : ℕ). take n (drop a xs) ∷ later_lines (drop n (drop a xs))) run ∙ ap (λ (l : Text). take (e - a) (drop a xs) ∷ later_lines l) rest
