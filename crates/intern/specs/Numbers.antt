-- Names as numbers: a name's number is the first place at which its text stands among the relations of the facts, then the tokens of the
-- query. Two names are the same text if and only if they have the same number.
use Rattle.std.specs.Prelude.{ℕ, zero, suc, ◌+◌, ◌-◌, ◌<◌, ◌≡◌, Bool, true, cond, List, eqb, ltb, length, get_or}
use Rattle.definition.specs.Text.{Text, same}
use Rattle.parts.specs.Packed.{text_of}
use Rattle.intern.specs.Entries.{text_at}

-- all names: of the facts' relations, then of the query's tokens
unfoldable pub name_of : Text → Text → List ℕ → List ℕ → ℕ → Text
name_of facts query relations tokens i =
    cond (ltb i (length relations)) (text_of facts query (get_or relations i 0)) (text_at query (get_or tokens (i - length relations) 0))

-- the first of the f places from j on whose name is x, else the one after them
unfoldable pub seek : (ℕ → Text) → Text → ℕ → ℕ → ℕ
seek names x zero j = j
seek names x (suc f) j = cond (same x (names j)) j (seek names x f (j + 1))

unfoldable pub number_of : (ℕ → Text) → ℕ → ℕ
number_of names i = seek names (names i) i 0

-- the numbers of the first n tokens' names stand in ids, where k relations come first
abbrev pub Numbered : (ℕ → Text) → ℕ → List ℕ → ℕ → Type 0
Numbered names k ids n = (t : ℕ) → t < n → get_or ids t 0 ≡ number_of names (k + t)

-- the place j can be the first of its text, where k relations come first: no number says otherwise
unfoldable pub may_be_first : ℕ → List ℕ → ℕ → Bool
may_be_first k ids j = cond (ltb j k) true (cond (ltb (j - k) (length ids)) (eqb (get_or ids (j - k) 0) j) true)
