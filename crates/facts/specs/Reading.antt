-- The facts of a text, line by line, and what the pass over its lines answers.
use Rattle.std.specs.Prelude.{ℕ, ◌-◌, ◌≡◌, true, false, List, [], ◌∷◌, ◌++◌, map, length, take, drop, replicate, if◌then◌else◌, Option, Some, None, Result, Ok, Err}
use Rattle.definition.specs.Text.{Text, ascii, starts, gather}
use Rattle.definition.specs.Answer.{Answer, ok, refused, refusal}
use Rattle.definition.specs.declared.Refusal.{Refusal}
use Rattle.definition.specs.Facts.{Line, Fact, Facts, cut, lines, fact_lines, skipped, fact, read_facts}
use Rattle.definition.specs.Join.{join_lines, read_second}
use Rattle.parts.specs.Entries.{Held, note_all, enter_all}
use Rattle.facts.specs.Lines.{line_at}
use Rattle.facts.specs.Words.{element_word, fact_word, noted, entered}
use Rattle.facts.specs.Pass.{limits_of, facts_of}
use Rattle.facts.specs.declared.Counts.{Counts}

-- the fact of a line: none or one
abbrev pub answered : Answer Fact → List Fact
answered (ok f) = f ∷ []
answered (refused r p) = []

unfoldable pub line_facts : Line → List Fact
line_facts l = if skipped l.bytes then [] else (answered (fact l))

-- the facts of the lines from the place a on, and of all lines
unfoldable pub facts_from : Text → ℕ → List Fact
facts_from xs a = gather line_facts (lines a (cut (drop a xs)))

abbrev pub all_facts : Text → List Fact
all_facts xs = facts_from xs 0

-- the line from a to e
abbrev pub line_of : Text → ℕ → ℕ → Line
line_of xs a e = line_at (take (e - a) (drop a xs)) a

module _ (facts query : Text) where
  abbrev pub more_relations : List Fact → List ℕ → List ℕ
  more_relations fs ws = note_all facts query (map fact_word fs) ws

  abbrev pub more_elements : List Fact → List ℕ → List ℕ
  more_elements fs ws = enter_all facts query (gather (λ f. map element_word f.elements) fs) ws

  -- a line taken in after the first relations and elements of the words
  abbrev pub Taken : Line → List ℕ → List ℕ → List ℕ → List ℕ → Counts → Result (Option Counts) Refusal → Type 0
  Taken l rs rs' us us' c (Ok (Some d)) =
      (starts (ascii ".") l.bytes ≡ false)
      × Held rs rs' (more_relations (line_facts l) (take c.relations rs)) d.relations
      × Held us us' (more_elements (line_facts l) (take c.elements us)) d.elements
      × ((ls : List Line) (fs : List Fact) → join_lines (limits_of (length rs) (length us)) (l ∷ ls) (facts_of facts query (take c.relations rs) (take c.elements us) fs)
      ≡ join_lines (limits_of (length rs) (length us)) ls
      (facts_of facts query (more_relations (line_facts l) (take c.relations rs)) (more_elements (line_facts l) (take c.elements us)) (fs ++ line_facts l)))
  Taken l rs rs' us us' c (Ok None) = (starts (ascii ".") l.bytes ≡ true) × (rs' ≡ rs) × (us' ≡ us)
  Taken l rs rs' us us' c (Err q) =
      (starts (ascii ".") l.bytes ≡ false)
      × ((ls : List Line) (fs : List Fact) → join_lines (limits_of (length rs) (length us)) (l ∷ ls) (facts_of facts query (take c.relations rs) (take c.elements us) fs) ≡ refusal q)

  -- what a reader of this text answers after the first relations and elements of the words
  abbrev pub AnswersAfter : (Facts → Answer Facts) → Counts → List ℕ → List ℕ → List ℕ → List ℕ → Result Counts Refusal → Type 0
  AnswersAfter read c rs rs' us us' (Ok d) =
      ((fs : List Fact) → read (facts_of facts query (take c.relations rs) (take c.elements us) fs)
      ≡ ok (facts_of facts query (more_relations (all_facts facts) (take c.relations rs)) (more_elements (all_facts facts) (take c.elements us)) (fs ++ all_facts facts)))
      × Held rs rs' (more_relations (all_facts facts) (take c.relations rs)) d.relations
      × Held us us' (more_elements (all_facts facts) (take c.elements us)) d.elements
  AnswersAfter read c rs rs' us us' (Err q) = (fs : List Fact) → read (facts_of facts query (take c.relations rs) (take c.elements us) fs) ≡ refusal q

  -- all lines read
  abbrev pub LinesRead : Counts → List ℕ → List ℕ → List ℕ → List ℕ → Result Counts Refusal → Type 0
  LinesRead c rs rs' us us' r = AnswersAfter (join_lines (limits_of (length rs) (length us)) (fact_lines facts)) c rs rs' us us' r

  -- rows 1 and 2, then all lines
  abbrev pub MeetsAfter : Counts → List ℕ → List ℕ → List ℕ → List ℕ → Result Counts Refusal → Type 0
  MeetsAfter c rs rs' us us' r = AnswersAfter (λ s. read_second (limits_of (length rs) (length us)) s facts) c rs rs' us us' r

  -- rows 1 to 7, and all lent words: a refusal clears them
  abbrev pub Meets : List ℕ → List ℕ → List ℕ → List ℕ → Result Counts Refusal → Type 0
  Meets rs rs' us us' (Ok c) =
      (read_facts (limits_of (length rs) (length us)) facts ≡ ok (facts_of facts query (noted facts query (all_facts facts)) (entered facts query (all_facts facts)) (all_facts facts)))
      × Held rs rs' (noted facts query (all_facts facts)) c.relations
      × Held us us' (entered facts query (all_facts facts)) c.elements
  Meets rs rs' us us' (Err q) =
      (read_facts (limits_of (length rs) (length us)) facts ≡ refusal q) × (rs' ≡ replicate (length rs) 0) × (us' ≡ replicate (length us) 0)
