-- What the caller has of facts and of two accepted texts, the numbers of a fact's elements, and a store in which some facts are loaded.
use Rattle.std.specs.Prelude.{ℕ, ◌+◌, ◌%◌, ◌≡◌, List, ◌++◌, map, replicate}
use Rattle.definition.specs.Text.{Text}
use Rattle.definition.specs.Limits.{document_01}
use Rattle.definition.specs.Answer.{ok}
use Rattle.definition.specs.Facts.{Fact}
use Rattle.definition.specs.Tables.{Tuple}
use Rattle.definition.specs.Accept.{Accepted, accept, elements, scratch_words}
use Rattle.definition.specs.Assignment.{loaded}
use Rattle.definition.specs.Claim.{table_image}
use Rattle.definition.proofs.NamedLaws.{names}
use Rattle.definition.proofs.SoundLaws.{Sound}
use Rattle.tuples.proofs.Loading.{tables_by}
use Rattle.parts.specs.Packed.{pack, text_of}
use Rattle.parts.specs.Entries.{index}
use Rattle.facts.specs.declared.Item.{Item}
use Rattle.facts.specs.declared.FactLine.{FactLine}
use Rattle.facts.specs.Lines.{start_of, items_of}
use Rattle.facts.specs.Words.{relation_of}
use Rattle.code.specs.Layout.{Laid}

module _ (facts query : Text) where
  -- an element of the line that starts at a, by its place in the universe
  abbrev pub element_number : List ℕ → ℕ → Item → ℕ
  element_number places a x = index facts query (pack 0 (a + start_of x) x.len 0) places % 256

  abbrev pub tuple_at : List ℕ → ℕ → FactLine → Tuple
  tuple_at places a f = map (element_number places a) (items_of f)

  -- relations and elements as parts
  pub record Known (rs places : List ℕ) (w : Accepted) : Type 0 where
    pub accepted : accept document_01 facts query ≡ ok w
    pub relations : map (relation_of facts query) rs ≡ w.relations
    pub universe : map (text_of facts query) places ≡ w.universe

  -- and the first words of the tables
  pub record Ready (rs places firsts : List ℕ) (u : ℕ) (w : Accepted) : Type 0 where
    pub known : Known rs places w
    pub size : u ≡ elements w
    pub scratch : ℕ
    pub laid : Laid w firsts scratch

  -- relations, by their names, and elements of facts that need not be those of accepted texts
  pub record Stated (rs places : List ℕ) (w : Accepted) : Type 0 where
    pub sound : Sound document_01 w
    pub names : map (text_of facts query) rs ≡ names w.relations
    pub universe : map (text_of facts query) places ≡ w.universe

-- words that hold the tables of all facts but the last ones, gs
pub record Loaded (w : Accepted) (gs : List Fact) (store : List ℕ) : Type 0 where
  pub so_far : List Fact
  pub all : w.facts ≡ so_far ++ gs
  pub words : store ≡ table_image (tables_by w so_far w.relations) ++ replicate (scratch_words w) 0

abbrev pub AllLoaded : Accepted → List ℕ → Type 0
AllLoaded w words = words ≡ table_image (loaded w) ++ replicate (scratch_words w) 0
