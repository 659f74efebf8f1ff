-- What the chain call owes once the facts are read: the rest of the definition's chain-asked.
use Rattle.std.specs.Prelude.{ℕ, ◌≤◌, ◌≡◌, ◌||◌, not, List, ltb, eqb, length, get_or}
use Rattle.definition.specs.Text.{Text, some_of}
use Rattle.definition.specs.Limits.{CHAIN_BYTES, document_01}
use Rattle.definition.specs.Answer.{Answer, ok, ◌>>◌, refuse_if}
use Rattle.definition.specs.Facts.{Facts, arities, read_facts}
use Rattle.definition.specs.Calls.{Asked, numbers_of, chain_exists}
use Rattle.facts.specs.Reading.{all_facts}
use Rattle.facts.specs.Pass.{facts_of}

-- row 17, between two elements
unfoldable pub asked_between : Facts → Text → ℕ → ℕ → Answer Asked
asked_between f r a b = do refuse_if (not (chain_exists f r a b)) 17 0; ok (record { facts = f; from = a; to = b })

-- rows 15 and 16, then 17
unfoldable pub asked : Facts → Text → Text → Text → ℕ → Answer Asked
asked f r s t room = do
  refuse_if (not (some_of (eqb 2) (arities r f.relations)) || eqb (length (numbers_of f s)) 0 || eqb (length (numbers_of f t)) 0) 15 0
  refuse_if (ltb room CHAIN_BYTES) 16 0
  asked_between f r (get_or (numbers_of f s) 0 0) (get_or (numbers_of f t) 0 0)

-- the facts of a text whose relations and universe are these parts of it
abbrev pub facts_in : Text → List ℕ → List ℕ → Facts
facts_in facts rs us = facts_of facts facts rs us (all_facts facts)

-- the facts give these parts as relations and universe
pub record AreRead (facts : Text) (rs us : List ℕ) : Type 0 where
  pub read : read_facts document_01 facts ≡ ok (facts_in facts rs us)
  pub few : length us ≤ 64
