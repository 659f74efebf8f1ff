-- Joining two fact texts: "Add a call that takes two fact texts and writes one".
use Rattle.std.specs.Prelude.{Bool, false, ◌&&◌, ◌||◌, not, List, [], ◌∷◌, map, ℕ, ltb, eqb, length, if◌then◌else◌}
use Rattle.definition.specs.Text.{Text, same, earlier, some_of, keep, gather}
use Rattle.definition.specs.Limits.{Limits, FACT_BYTES}
use Rattle.definition.specs.Answer.{Answer, ok, refused, ◌>>=◌, ◌>>◌, refuse_if}
use Rattle.definition.specs.Facts.{Line, Fact, Relation, Facts, cut, fact_lines, skipped, fact, with_fact, bytes_read, legal_bytes, read_facts}
use Rattle.definition.specs.Syntax.{end}
use Rattle.definition.specs.Tables.{Tuple, tuples}
use Rattle.definition.specs.Accept.{Accepted, elements}
use Rattle.definition.specs.Assignment.{fact_holds}
use Rattle.definition.specs.Print.{fact_line, shown}

-- Reading the second text after the first. Of the relations read so far, text is 0 where the text at hand gives it, and 1 where the first did.

-- the facts of the first text, before the second is read
abbrev pub of_first : Facts → Facts
of_first f =
    record {
      relations = map (λ r. record { name = r.name; arity = r.arity; text = 1; at = r.at }) f.relations;
      universe = f.universe;
      facts = f.facts;
    }

-- whether the first text gives the relation r "an arity other than" n
unfoldable pub clashes : Text → ℕ → List Relation → Bool
clashes r n [] = false
clashes r n (q ∷ qs) = let k = clashes r n qs in if same r q.name then (eqb q.text 1 && not (eqb q.arity n)) else k

-- the facts of both texts with one more of the second. Rows 5 to 7 are those of one text that goes on: "6 and 7 count the union, with the place
-- in the second"
unfoldable pub join_fact : Limits → Facts → Fact → Answer Facts
join_fact limits s f = do
  -- "20 with the name's offset in the second text, an arity other than the first text gives that relation, instead of row 5's other arity
  -- and at that point"
  refuse_if (clashes f.name (length f.elements) s.relations) 20 f.at
  with_fact limits s f

-- "line by line, in each 3, then per element 4 and, at the first too many, 5; then 5 for another arity .." or 20; "then 6, 7"
unfoldable pub join_lines : Limits → List Line → Facts → Answer Facts
join_lines limits [] s = ok s
join_lines limits (l ∷ ls) s =
    let skip = join_lines limits ls s in
    let take_in : Answer Facts = (do f ← fact l; t ← join_fact limits s f; join_lines limits ls t) in
    if skipped l.bytes then skip else take_in

-- the facts of a text after those read before it: "Order: 1; 2 over all lines read; then line by line", of this text
unfoldable pub read_second : Limits → Facts → Text → Answer Facts
read_second limits s xs =
    let legal = legal_bytes xs in do
      refuse_if (ltb FACT_BYTES (length xs)) 1 FACT_BYTES
      refuse_if (ltb legal (length xs) && ltb legal (bytes_read (cut xs))) 2 legal
      join_lines limits (fact_lines xs) s

-- What is written.

-- the facts of both texts as accepted ones without a program, so that tuples, quotes and lines are those of a run and of its PRINT
abbrev pub as_accepted : Facts → Accepted
as_accepted f = record { universe = f.universe; relations = f.relations; variables = λ x. false; facts = f.facts; program = end }

-- "relations in byte order of name": with one more, and all
unfoldable pub insert_by_name : Relation → List Relation → List Relation
insert_by_name r [] = r ∷ []
insert_by_name r (q ∷ qs) = let n = insert_by_name r qs in if earlier r.name q.name then (r ∷ q ∷ qs) else (q ∷ n)

unfoldable pub by_name : List Relation → List Relation
by_name [] = []
by_name (r ∷ rs) = insert_by_name r (by_name rs)

-- "tuples ascending": those that some fact of either text gives the relation
unfoldable pub relation_tuples : Accepted → Relation → List Tuple
relation_tuples w r = keep (λ t. some_of (fact_holds w r.name t) w.facts) (tuples (elements w) r.arity)

-- "each line once", "a line is the name, then each element after one space, then byte 10", "an element in quotes if either text quoted it
-- or Paper 3 requires it"
unfoldable pub relation_lines : Accepted → Relation → Text
relation_lines w r = gather (λ t. fact_line r.name (map (shown w) t)) (relation_tuples w r)

unfoldable pub union_text : Facts → Text
union_text f = gather (relation_lines (as_accepted f)) (by_name f.relations)

-- The call.

-- "the answer says which text": 1 the first, 2 the second, 0 neither; then the row's number and the place
pub data Told (A : Type 0) : Type 0 where
  right : A → Told A
  wrong : ℕ → ℕ → ℕ → Told A

module _ {A B : Type 0} where
  -- on with what was found, or a refusal of the text with that number
  abbrev pub of_text : ℕ → Answer A → (A → Told B) → Told B
  of_text n (ok a) f = f a
  of_text n (refused r p) f = wrong n r p

-- "21 with the length needed and neither text, a result over 32,768 bytes or the lent output"
unfoldable pub within_room : ℕ → Text → Answer Text
within_room room t = do refuse_if (ltb FACT_BYTES (length t) || ltb room (length t)) 21 (length t); ok t

-- "Refusals of the first text come before those of the second"; 21 comes "last"; room is the lent output's length
unfoldable pub join : Limits → Text → Text → ℕ → Told Text
join limits first second room =
    of_text 1 (read_facts limits first) (λ f.
    of_text 2 (read_second limits (of_first f) second) (λ u.
    of_text 0 (within_room room (union_text u)) right))

-- opens every definition of this module, for a proof by computation
unfoldable pub computes : Unit {0}
unfolding clashes join_fact join_lines read_second insert_by_name by_name relation_tuples relation_lines union_text within_room join
computes = tt
