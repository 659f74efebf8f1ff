-- The facts read again, line by line.
use Prim.Native.Nat.{ℕ, ◌+◌, ◌-◌, ◌<◌, ◌≤◌}
use mathlib.Core.Path.{◌≡◌, sym, ap, ◌∙◌}
use mathlib.Core.List.{List, [], ◌∷◌, ◌++◌}
use mathlib.Core.Bool.{true, false}
use native.Mathlib.Omega.{arith}
use native.Mathlib.Decide.{dec_lt}
use lib.ListN.{length, take, drop, drop_of_length-le}
use Rattle.definition.specs.Text.{Text, ascii, starts, span, gather, all_of}
use Rattle.definition.specs.Facts.{Fact, cut, without_return, lines, skipped}
use Rattle.definition.proofs.TextLaws.{no_end}
use Rattle.facts.specs.Reading.{line_facts, facts_from, line_of}
use Rattle.facts.proofs.ReadingLaws.{lines_dot, lines_last, lines_more}

-- a line that is not skipped has a byte
pub some_byte : (l : Text) → skipped l ≡ false → 0 < length l
unfolding starts all_of
some_byte [] e = let z : ◌≡◌ {A = ℕ} 0 1 = cc in absurd (omega arith)
some_byte (x ∷ l) e = omega arith

-- past the end there is nothing but an empty line
pub facts_end : (xs : Text) (a : ℕ) → length xs ≤ a → facts_from xs a ≡ []
unfolding facts_from cut lines without_return starts gather line_facts all_of
facts_end xs a h = rw (drop_of_length-le xs)

module _ (xs : Text) (a e t : ℕ) (within : a ≤ length xs) (r : e ≡ a + span no_end (drop a xs)) (b : e ≤ length xs) (w : take (t - a) (drop a xs) ≡ without_return (take (e - a) (drop a xs))) where
  pub facts_dot : starts (ascii ".") (take (t - a) (drop a xs)) ≡ true → facts_from xs a ≡ []
  unfolding facts_from gather
  facts_dot d = ap (gather line_facts) (lines_dot xs a e within r b t w d)

  pub facts_step : starts (ascii ".") (take (t - a) (drop a xs)) ≡ false → facts_from xs a ≡ line_facts (line_of xs a t) ++ facts_from xs (e + 1)
  unfolding facts_from gather
  facts_step d = go (dec_lt e (length xs))
    where
      go : Dec (e < length xs) → facts_from xs a ≡ line_facts (line_of xs a t) ++ facts_from xs (e + 1)
      go (yes l) = ap (gather line_facts) (lines_more xs a e within r b t w d l)
      go (no l) = ap (gather line_facts) (lines_last xs a e within r b t w d (omega arith)) ∙ ap (λ (fs : List Fact). line_facts (line_of xs a t) ++ fs) (sym (facts_end xs (e + 1) (omega arith)))
