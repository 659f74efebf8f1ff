-- A comment's end, one byte at a time.
use mathlib.Core.Path.{◌≡◌, refl, ◌∙◌}
use mathlib.Core.Bool.{Bool, true, false, ◌&&◌, cond}
use mathlib.Core.List.{[], ◌∷◌}
use Prim.Native.Nat.{ℕ, suc, ◌+◌, ◌≤◌, ◌<◌}
use native.Mathlib.Numerals.{add-one}
use native.Mathlib.Omega.{arith}
use lib.Dec.{eqb}
use lib.ListN.{length, drop, get_or, length-drop}
use lib.Seq.{drop-cons}
use Rattle.definition.specs.Text.{Text, ascii, starts}
use Rattle.definition.specs.Token.{gap, neither, comment}

module _ (text : Text) (n i : ℕ) where
  -- by the next two bytes
  two : i + 1 < length text
      → comment n (drop i text) ≡ cond (starts (ascii "*/") (get_or text i 0 ∷ get_or text (i + 1) 0 ∷ [])) (gap (n + 2)) (comment (suc n) (drop (i + 1) text))
  unfolding comment starts
  two h =
      let a : i < length text = omega arith in
      let b : suc i < length text = omega arith in
      rw (add-one i, drop-cons text i 0 a, drop-cons text (suc i) 0 b)

  pub comment_closed : i + 1 < length text → starts (ascii "*/") (get_or text i 0 ∷ get_or text (i + 1) 0 ∷ []) ≡ true → comment n (drop i text) ≡ gap (n + 2)
  comment_closed h e = two h ∙ rw e

  pub comment_on : i + 1 < length text → starts (ascii "*/") (get_or text i 0 ∷ get_or text (i + 1) 0 ∷ []) ≡ false → comment n (drop i text) ≡ comment (suc n) (drop (i + 1) text)
  comment_on h e = two h ∙ rw e

short : (n : ℕ) (xs : Text) → length xs ≤ 1 → comment n xs ≡ neither
unfolding comment starts
short n [] h = refl
short n (x ∷ []) h = go (eqb 42 x)
  where
    go : (b : Bool) → cond (b && false) (gap (n + 2)) neither ≡ neither
    go true = refl
    go false = refl
short n (x ∷ y ∷ ys) h = absurd (omega arith)

-- too few bytes are left to close it
pub comment_out : (text : Text) (n i : ℕ) → length text ≤ i + 1 → comment n (drop i text) ≡ neither
comment_out text n i h = short n (drop i text) (omega (arith, length-drop i text))
