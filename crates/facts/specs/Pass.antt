-- What the functions that fill the lists answer.
use Rattle.std.specs.Prelude.{ℕ, ◌≡◌, Bool, true, false, List, [], ◌∷◌, ◌++◌, map, length, take, Result, Ok, Err}
use Rattle.definition.specs.Text.{Text}
use Rattle.definition.specs.Limits.{Limits}
use Rattle.definition.specs.Answer.{ok, refused, refusal}
use Rattle.definition.specs.declared.Refusal.{Refusal}
use Rattle.definition.specs.Facts.{Fact, Facts, use_relation, use_elements}
use Rattle.definition.specs.Join.{clashes, join_fact}
use Rattle.parts.specs.Entries.{Held, note, enter_all, texts_of}
use Rattle.facts.specs.Words.{relation_of, relations_of, elements_at, fact_at, item_word, line_word}
use Rattle.facts.specs.Lines.{items_of}
use Rattle.facts.specs.declared.FactLine.{FactLine}
use Rattle.facts.specs.declared.Counts.{Counts}
use Rattle.facts.specs.declared.NotUsed.{NotUsed}
use Rattle.facts.specs.declared.NotUsed.TheVariants.{OtherArity, Clash, Full}

-- the limits are the lengths of the lent words
abbrev pub limits_of : ℕ → ℕ → Limits
limits_of relations elements = record { elements = elements; relations = relations }

module _ (facts query : Text) where
  -- whether the first text gives the name v an arity other than v's
  abbrev pub clash_of : ℕ → List ℕ → Bool
  clash_of v ws = clashes (relation_of facts query v).name (relation_of facts query v).arity (relations_of facts query ws)

  -- row 5 at a place p that the caller knows, row 6, and what row 20 asks
  abbrev pub RelationUsed : ℕ → List ℕ → List ℕ → ℕ → Result ℕ NotUsed → Type 0
  RelationUsed v words new n (Ok m) =
      Held words new (note facts query v (take n words)) m
      × ((k p : ℕ) → use_relation (limits_of (length words) k) (relation_of facts query v) p (relations_of facts query (take n words)) ≡ ok (relations_of facts query (note facts query v (take n words))))
      × (clash_of v (take n words) ≡ false)
  RelationUsed v words new n (Err OtherArity) =
      ((k p : ℕ) → use_relation (limits_of (length words) k) (relation_of facts query v) p (relations_of facts query (take n words)) ≡ refused 5 p) × (clash_of v (take n words) ≡ false)
  RelationUsed v words new n (Err Clash) = clash_of v (take n words) ≡ true
  RelationUsed v words new n (Err Full) =
      ((k p : ℕ) → use_relation (limits_of (length words) k) (relation_of facts query v) p (relations_of facts query (take n words)) ≡ refused 6 (relation_of facts query v).at)
      × (clash_of v (take n words) ≡ false)

  -- the universe with the elements of a fact of the line that starts at a
  abbrev pub with_elements : ℕ → FactLine → List ℕ → List ℕ
  with_elements a f ws = enter_all facts query (map (item_word a) (items_of f)) ws

  abbrev pub UniverseUsed : ℕ → FactLine → List ℕ → List ℕ → ℕ → Result ℕ ℕ → Type 0
  UniverseUsed a f words new n (Ok m) =
      Held words new (with_elements a f (take n words)) m
      × ((k : ℕ) → use_elements (limits_of k (length words)) (elements_at facts a (items_of f)) (texts_of facts query (take n words)) ≡ ok (texts_of facts query (with_elements a f (take n words))))
  UniverseUsed a f words new n (Err p) =
      (k : ℕ) → use_elements (limits_of k (length words)) (elements_at facts a (items_of f)) (texts_of facts query (take n words)) ≡ refused 7 p

  -- the facts of two lists of parts
  abbrev pub facts_of : List ℕ → List ℕ → List Fact → Facts
  facts_of rs us fs = record { relations = relations_of facts query rs; universe = texts_of facts query us; facts = fs }

  -- a fact of the line that starts at a, after the first relations and elements of the words
  abbrev pub FactTaken : ℕ → FactLine → List ℕ → List ℕ → List ℕ → List ℕ → Counts → Result Counts Refusal → Type 0
  FactTaken a f rs rs' us us' c (Ok d) =
      Held rs rs' (note facts query (line_word a f) (take c.relations rs)) d.relations
      × Held us us' (with_elements a f (take c.elements us)) d.elements
      × ((fs : List Fact) → join_fact (limits_of (length rs) (length us)) (facts_of (take c.relations rs) (take c.elements us) fs) (fact_at facts a f)
      ≡ ok (facts_of (note facts query (line_word a f) (take c.relations rs)) (with_elements a f (take c.elements us)) (fs ++ (fact_at facts a f ∷ []))))
  FactTaken a f rs rs' us us' c (Err q) =
      (fs : List Fact) → join_fact (limits_of (length rs) (length us)) (facts_of (take c.relations rs) (take c.elements us) fs) (fact_at facts a f) ≡ refusal q
