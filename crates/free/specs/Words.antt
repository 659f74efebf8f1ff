-- The free attributes of the words of a statement, bottom up, each as a number of up to four digits: a slot and 1, in order of first
-- free occurrence.
use Rattle.std.specs.Prelude.{ℕ, ◌+◌, ◌-◌, ◌<◌, ◌≤◌, ◌≡◌, Bool, true, cond, List, eqb, ltb, leb, get_or}
use Rattle.words.specs.Fields.{kind_of, p_of, q_of, TERM, ANYTHING, ATOM, NEGATION, EXISTS, CLOSURE, MATCH, STRING}
use Rattle.digits.specs.Packed.{plus, joined, without}

-- the words of terms
unfoldable pub is_leaf : ℕ → Bool
is_leaf c = cond (eqb c TERM) true (cond (eqb c (STRING + TERM)) true (eqb c ANYTHING))

abbrev pub at : List ℕ → ℕ → ℕ
at xs i = get_or xs i 0

-- what stands at a lower place
unfoldable pub below : (ℕ → ℕ) → ℕ → ℕ → ℕ
below F k c = cond (ltb c k) (F c) 0

-- the terms just before the place k of a statement whose words begin at s
unfoldable pub terms : (ℕ → ℕ) → (ℕ → ℕ) → ℕ → ℕ → ℕ
terms R F s k = cond (leb k s) 0 (cond (is_leaf (kind_of (R (k - 1)))) (F (k - 1)) 0)

module _ (R D F : ℕ → ℕ) where
  -- an operator at k: a quantifier takes its attribute away; a relation comparison, a quantity and a comparison of quantities have none free
  unfoldable pub operator : ℕ → ℕ → ℕ
  operator k w =
      let c = kind_of w in
      let a = p_of w in
      let b = q_of w in
      cond (eqb c NEGATION) (below F k a)
      (cond (ltb c EXISTS) (joined (below F k a) (below F k b)) (cond (ltb c CLOSURE) (without (below F k b) (D (R a))) (cond (eqb c CLOSURE) (below F k a) 0)))

  -- a pattern's term stands just before its first half alone
  unfoldable pub free_word : ℕ → ℕ → ℕ
  free_word s k =
      let c = kind_of (R k) in
      cond (is_leaf c) (plus (terms R F s k) (D (R k)))
      (cond (ltb c ATOM) 0 (cond (ltb c NEGATION) (terms R F s k) (cond (eqb c MATCH) (terms R F s k) (operator k (R k)))))

-- the places from s up to n of fr hold the free attributes of the words
abbrev pub Filled : List ℕ → (ℕ → ℕ) → List ℕ → ℕ → ℕ → Type 0
Filled words D fr s n = (k : ℕ) → s ≤ k → k < n → get_or fr k 0 ≡ free_word (at words) D (at fr) s k

-- four digits
abbrev pub Small : List ℕ → Type 0
Small fr = (k : ℕ) → get_or fr k 0 < 4096
