-- The lines of a union by the facts' numbers: a number is its relation's place × 2 ^ 24 and the number of a tuple.
use Rattle.std.specs.Prelude.{ℕ, ◌+◌, ◌^◌, ◌/◌, ◌%◌, ◌<◌, ◌≡◌, Bool, cond, List, [], ◌∷◌, eqb, length}
use Rattle.std.proofs.lemmas.List.Edits.{sets}
use Rattle.definition.specs.Text.{Text, keep, gather}
use Rattle.definition.proofs.InLaws.{In}
use Rattle.tuples.specs.Places.{digits}
use Rattle.parts.specs.Packed.{tag_of, text_of}
use Rattle.parts.specs.Entries.{index, enter}
use Rattle.lines.specs.Lines.{Texts, line_of}

-- the relation of a number
abbrev pub relation_part : ℕ → ℕ
relation_part x = x / 16777216 % 16

-- the lines of the numbers of relation k, which has the name r and the arity n
unfoldable pub number_lines : Texts → Text → ℕ → ℕ → List ℕ → Text
number_lines T r k n xs = gather (λ x. line_of T (r ∷ []) (digits (length T.places) n (x % 16777216))) (keep (λ x. eqb (relation_part x) k) xs)

-- the lines of some relations, by the parts that their names are: the tag is the arity
unfoldable pub all_lines : Texts → List ℕ → List ℕ → List ℕ → Text
all_lines T relations xs vs =
    gather (λ v. number_lines T (text_of T.facts T.query v) (index T.facts T.query v relations) (tag_of v) xs) vs

-- the relations in byte order of name
module _ (facts query : Text) where
  unfoldable pub sorted : List ℕ → List ℕ
  sorted [] = []
  sorted (v ∷ vs) = enter facts query v (sorted vs)

-- the numbers of relation k are those of tuples of n elements out of u
abbrev pub Numbered : ℕ → ℕ → ℕ → List ℕ → Type 0
Numbered u k n xs = (x : ℕ) → In x xs → relation_part x ≡ k → x % 16777216 < u ^ n

abbrev pub AllNumbered : Text → Text → List ℕ → ℕ → List ℕ → List ℕ → Type 0
AllNumbered facts query relations u xs vs = (v : ℕ) → In v vs → Numbered u (index facts query v relations) (tag_of v) xs

-- the bytes x from place p on, which end at place r: out' has them where they are written and as far as there is room
pub record Laid (write : Bool) (out : List ℕ) (p : ℕ) (x : Text) (r : ℕ) (out' : List ℕ) : Type 0 where
  pub end : r ≡ p + length x
  pub bytes : out' ≡ cond write (sets out p x) out
