-- How a run of bytes that pass a test goes on at one place, and what is known of its end.
use Prim.Native.Nat.{ℕ, suc, ◌+◌, ◌<◌, ◌≤◌}
use mathlib.Core.Path.{◌≡◌, refl, ◌∙◌}
use mathlib.Core.List.{[], ◌∷◌}
use mathlib.Core.Bool.{Bool, true, false, ◌&&◌, ◌||◌, not, cond}
use native.Mathlib.Numerals.{add-one}
use native.Mathlib.Omega.{arith}
use borrow.Author.Tests.{lt-ltb}
use lib.Dec.{ltb, leb-suc-suc}
use lib.ListN.{length, get_or, take, drop, drop_of_length-le}
use lib.Seq.{drop-cons, length-take-le}
use Rattle.definition.specs.Text.{Text, span, some_of, all_of}

module _ (p : ℕ → Bool) where
  pub run_step : (s : Text) (i : ℕ) → i < length s → p (get_or s i 0) ≡ true → i + span p (drop i s) ≡ (i + 1) + span p (drop (i + 1) s)
  unfolding span
  run_step s i h e = rw (drop-cons s i 0, e, add-one) (omega arith)

  pub run_stop : (s : Text) (i : ℕ) → i < length s → p (get_or s i 0) ≡ false → i + span p (drop i s) ≡ i
  unfolding span
  run_stop s i h e = rw (drop-cons s i 0, e) (omega arith)

  pub run_out : (s : Text) (i : ℕ) → length s ≤ i → i + span p (drop i s) ≡ i
  unfolding span
  run_out s i h = rw (drop_of_length-le s) (omega arith)

  pub span_within : (s : Text) → span p s ≤ length s
  unfolding span
  span_within [] = omega arith
  span_within (x ∷ xs) = go (p x) (span_within xs)
    where
      go : (b : Bool) → span p xs ≤ length xs → cond b (suc (span p xs)) 0 ≤ suc (length xs)
      go true h = omega arith
      go false h = omega arith

  pub run_length : (s : Text) → length (take (span p s) s) ≡ span p s
  run_length s = length-take-le (span p s) s (span_within s)

  -- all bytes pass if the run is all there is
  pub all_span : (s : Text) → span p s ≡ length s → all_of p s ≡ true
  unfolding span all_of
  all_span [] h = refl
  all_span (x ∷ xs) h = go (p x) h (all_span xs)
    where
      go : (b : Bool) → cond b (suc (span p xs)) 0 ≡ suc (length xs) → (span p xs ≡ length xs → all_of p xs ≡ true) → b && all_of p xs ≡ true
      go true e ih = ih (omega arith)
      go false e ih = absurd (omega arith)

  pub not_all_span : (s : Text) → span p s < length s → all_of p s ≡ false
  unfolding span all_of
  not_all_span [] h = absurd (omega arith)
  not_all_span (x ∷ xs) h = go (p x) h (not_all_span xs)
    where
      go : (b : Bool) → cond b (suc (span p xs)) 0 < suc (length xs) → (span p xs < length xs → all_of p xs ≡ false) → b && all_of p xs ≡ false
      go true e ih = ih (omega arith)
      go false e ih = refl

  -- some byte passes if the run of those that do not ends before the text does
  pub some_span : (s : Text) → ltb (span (λ y. not (p y)) s) (length s) ≡ some_of p s
  unfolding span some_of
  some_span [] = refl
  some_span (x ∷ xs) = go (p x) (some_span xs)
    where
      go : (b : Bool) → ltb (span (λ y. not (p y)) xs) (length xs) ≡ some_of p xs → ltb (cond (not b) (suc (span (λ y. not (p y)) xs)) 0) (suc (length xs)) ≡ b || some_of p xs
      go true h = lt-ltb 0 (suc (length xs)) (omega arith)
      go false h = leb-suc-suc (suc (span (λ y. not (p y)) xs)) (length xs) ∙ h
