-- The statements among the words: each statement's own word ends the part of the words that belongs to it.
use Rattle.std.specs.Prelude.{ℕ, ◌+◌, cond, List, [], ◌∷◌, ◌++◌, eqb, length}
use Rattle.definition.specs.Syntax.{Program, end, assign, print, test, while, for, block}
use Rattle.words.specs.Fields.{kind_of, RANGE, NEXT, ASSIGN, TEST, JUMP, AGAIN, PRINT}
use Rattle.words.specs.Raw.{size, size_items, size_program}

-- 2 a statement's own word, 1 a word that belongs to no statement, 0 any other
unfoldable pub ends : ℕ → ℕ
ends k =
    cond (eqb k ASSIGN) 2
    (cond (eqb k TEST) 2 (cond (eqb k PRINT) 2 (cond (eqb k RANGE) 2 (cond (eqb k JUMP) 1 (cond (eqb k AGAIN) 1 (cond (eqb k NEXT) 1 0))))))

-- a part: its first place, and the place of the statement's own word
pub record Part : Type 0 where
  pub from : ℕ
  pub own : ℕ

abbrev pub part : ℕ → ℕ → Part
part a b = record { from = a; own = b }

abbrev pub turn : ℕ → Part → List Part → List Part → List Part
turn r p fresh same = cond (eqb r 2) (p ∷ fresh) (cond (eqb r 1) fresh same)

-- the parts of words whose first stands at k, where the open part began at s
unfoldable pub parts : List ℕ → ℕ → ℕ → List Part
parts [] s k = []
parts (w ∷ ws) s k = turn (ends (kind_of w)) (part s k) (parts ws (k + 1) (k + 1)) (parts ws s (k + 1))

-- the parts of a program whose words stand from n on, in the order of its statements, a compound one before its inner ones
unfoldable pub owns : Program → ℕ → List Part
owns end n = []
owns (assign i r ps e k) n = let m = n + 1 + length ps + size e in part n m ∷ owns k (m + 1)
owns (print i is k) n = part n (n + size_items is) ∷ owns k (n + size_items is + 1)
owns (test i e a b k) n =
    let m = n + size e + 1 in
    let l = m + size_program a + 1 in
    part n (n + size e) ∷ (owns a m ++ (owns b l ++ owns k (l + size_program b)))
owns (while i e a k) n =
    let m = n + size e + 1 in
    part n (n + size e) ∷ (owns a m ++ owns k (m + size_program a + 1))
owns (for i v e a k) n =
    let m = n + 1 + size e + 1 in
    part n (n + 1 + size e) ∷ (owns a m ++ owns k (m + size_program a + 1))
owns (block a k) n = owns a n ++ owns k (n + size_program a)
