-- What the two texts have given at each stage of the join.
use Rattle.std.specs.Prelude.{ℕ, ◌≤◌, ◌≡◌, List, ◌++◌, map, length, take}
use Rattle.definition.specs.Text.{Text}
use Rattle.definition.specs.Limits.{document_01}
use Rattle.definition.specs.Answer.{ok}
use Rattle.definition.specs.Facts.{Fact, Facts, read_facts}
use Rattle.definition.specs.Accept.{Accepted}
use Rattle.definition.specs.Join.{of_first, read_second}
use Rattle.definition.proofs.InLaws.{In}
use Rattle.facts.specs.declared.Counts.{Counts}
use Rattle.facts.specs.Words.{noted, entered}
use Rattle.facts.specs.Pass.{facts_of}
use Rattle.facts.specs.Reading.{all_facts, more_elements}
use Rattle.turning.specs.Turned.{turned}

-- some facts are of w
abbrev pub AreOf : List Fact → Accepted → Type 0
AreOf gs w = (g : Fact) → In g gs → In g w.facts

module _ (first second : Text) where
  -- the facts of the first text
  abbrev pub one : Facts
  one = facts_of first second (noted first second (all_facts first)) (entered first second (all_facts first)) (all_facts first)

  -- the facts of both, by lists of parts of the second text (0) and the first (1)
  abbrev pub union : List ℕ → List ℕ → Facts
  union relations universe = facts_of second first relations universe (all_facts first ++ all_facts second)

  -- the first text is read: its relations and elements stand first in the lists
  pub record FirstRead (relations universe : List ℕ) (c : Counts) : Type 0 where
    pub read : read_facts document_01 first ≡ ok one
    pub sixteen : length relations ≡ 16
    pub sixty_four : length universe ≡ 64
    pub few_relations : c.relations ≤ 16
    pub few_elements : c.elements ≤ 64
    pub relations_are : take c.relations relations ≡ noted first second (all_facts first)
    pub elements_are : take c.elements universe ≡ entered first second (all_facts first)

  -- both texts are read, and the lists are those of their union
  pub record United (relations universe : List ℕ) : Type 0 where
    pub read_one : read_facts document_01 first ≡ ok one
    pub read_both : read_second document_01 (of_first one) second ≡ ok (union relations universe)
    pub elements_are : universe ≡ more_elements second first (all_facts second) (map turned (entered first second (all_facts first)))
