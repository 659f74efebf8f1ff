-- The attribute names of a statement, in order of first occurrence, by the numbers of names.
use Rattle.std.specs.Prelude.{ℕ, ◌+◌, ◌≤◌, ◌<◌, ◌≡◌, Bool, true, cond, List, [], ◌∷◌, ◌++◌, eqb, get_or, length, take}
use Rattle.words.specs.Fields.{kind_of, p_of, ATTRIBUTE, TERM, CLOSURE}
use Rattle.digits.specs.Lists.{member}
use Rattle.slots.specs.declared.Found.{Found}

-- the kinds of words whose place takes an attribute
unfoldable pub takes : ℕ → Bool
takes k = cond (eqb k ATTRIBUTE) true (eqb k TERM)

-- what is known of a loop variable
unfoldable pub of_loop : ℕ → Bool
of_loop k = cond (eqb k 2) true (eqb k 3)

-- one name more
unfoldable pub add_name : List ℕ → ℕ → List ℕ
add_name xs j = cond (member j xs) xs (xs ++ (j ∷ []))

-- the attribute at a word, if there is one
unfoldable pub add_word : List ℕ → List ℕ → List ℕ → ℕ → List ℕ
add_word ids known xs w =
    let j = get_or ids (p_of w) 0 in
    cond (takes (kind_of w)) (cond (of_loop (get_or known j 0)) xs (add_name xs j)) xs

unfoldable pub names_of : List ℕ → List ℕ → List ℕ → List ℕ → List ℕ
names_of ids known xs [] = xs
names_of ids known xs (w ∷ ws) = names_of ids known (add_word ids known xs w) ws

-- the names found, or that they are more than four
pub data Holds (xs : List ℕ) (r : Found) : Type 0 where
  fits : length r.names ≡ 4 → r.count ≤ 4 → xs ≡ take r.count r.names → Holds xs r
  over : r.count ≡ 5 → 4 < length xs → Holds xs r

-- one more than a name's place among names that stand from i on, 0 if it is not there
unfoldable pub place_from : ℕ → List ℕ → ℕ → ℕ
place_from x [] i = 0
place_from x (y ∷ ys) i = cond (eqb y x) (i + 1) (place_from x ys (i + 1))

abbrev pub slot_of : Found → ℕ → ℕ
slot_of f x = place_from x (take f.count f.names) 0

-- the slot, and 1, of the name at a word; 0 if the word has no attribute
unfoldable pub digit_at : Found → List ℕ → ℕ → ℕ
digit_at f ids w = cond (takes (kind_of w)) (slot_of f (get_or ids (p_of w) 0)) 0

-- how many closures
unfoldable pub one_closure : ℕ → ℕ
one_closure w = cond (eqb (kind_of w) CLOSURE) 1 0

unfoldable pub closure_count : List ℕ → ℕ
closure_count [] = 0
closure_count (w ∷ ws) = one_closure w + closure_count ws
