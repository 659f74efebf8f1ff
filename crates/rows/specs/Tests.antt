-- The tests of a statement's words, by the free attributes that stand at their places.
use Rattle.std.specs.Prelude.{ℕ, zero, suc, ◌+◌, ◌-◌, Bool, true, false, cond, List, [], ◌∷◌, eqb, leb, ltb}
use Rattle.words.specs.Fields.{kind_of, p_of, q_of, RANGE, CLOSURE, COUNT, AMOUNT, ROWS, ASSIGN, TEST}
use Rattle.digits.specs.Packed.{plus, count, inside}

-- "TC and TCFAST two, a printed expression at most 3"; `#(e)`: "Its e has no more free attributes than a printed expression may":
-- of a word's kind, by how many are free at its operand and at the place before it
unfoldable pub limit : ℕ → ℕ → ℕ → Bool
limit c of before =
    cond (eqb c CLOSURE) (eqb of 2)
    (cond (eqb c COUNT) (leb of 3) (cond (eqb c AMOUNT) (leb before 3) (cond (eqb c ROWS) (leb before 3) true)))

module _ (F : ℕ → ℕ) where
  -- the word w at j
  unfoldable pub fits : ℕ → ℕ → Bool
  fits j w = limit (kind_of w) (count (F (p_of w))) (count (F (j - 1)))

  unfoldable pub all_fit : List ℕ → ℕ → Bool
  all_fit [] j = true
  all_fit (w ∷ ws) j = cond (fits j w) (all_fit ws (j + 1)) false

-- the digits of n words from i on
unfoldable pub left_from : (ℕ → ℕ) → (ℕ → ℕ) → ℕ → ℕ → ℕ → ℕ
left_from R D i zero acc = acc
left_from R D i (suc n) acc = left_from R D (i + 1) n (plus acc (D (R i)))

-- the same digits
unfoldable pub same_digits : ℕ → ℕ → Bool
same_digits a b = cond (inside a b) (inside b a) false

-- a statement's own word w at k: "IF and WHILE have none, FOR one", "An assignment's left attributes equal the free ones of its right side"
unfoldable pub own_fits : (ℕ → ℕ) → (ℕ → ℕ) → (ℕ → ℕ) → ℕ → ℕ → Bool
own_fits R D F k w =
    let v = F (k - 1) in
    cond (eqb (kind_of w) TEST) (eqb (count v) 0)
    (cond (eqb (kind_of w) RANGE) (eqb (count v) 1) (cond (eqb (kind_of w) ASSIGN) (same_digits (left_from R D (p_of w + 1) (q_of w) 0) v) true))

-- "5th attribute, 17th closure"
unfoldable pub too_much : ℕ → ℕ → Bool
too_much n m = cond (ltb 4 n) true (ltb 16 m)
