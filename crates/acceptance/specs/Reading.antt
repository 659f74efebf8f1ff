-- What the passes over two texts leave in the lent arrays, where the texts are accepted.
use Rattle.std.specs.Prelude.{ℕ, ◌<◌, ◌≤◌, ◌≡◌, List, length, get_or, take, Result, Ok, Err}
use Rattle.definition.specs.Text.{Text}
use Rattle.definition.specs.Limits.{document_01}
use Rattle.definition.specs.Token.{Token}
use Rattle.definition.specs.Answer.{ok, refused, number, place}
use Rattle.definition.specs.Facts.{Facts, read_facts}
use Rattle.definition.specs.Names.{Kinds, in_program, use_names, fact_kinds}
use Rattle.definition.specs.Accept.{Accepted, accept}
use Rattle.definition.specs.declared.Refusal.{Refusal}
use Rattle.lexer.specs.Tokens.{Inside}
use Rattle.facts.specs.Words.{relations_of}
use Rattle.kinds.specs.Resolved.{Parsed, Stands}
use Rattle.universe.proofs.Filling.{Filled}
use Rattle.acceptance.specs.declared.Sizes.{Sizes}

-- the arrays, as long as what they hold, stand for the accepted texts w
pub record Reading (facts query : Text) (tokens words ids known relations places : List ℕ) (w : Accepted) : Type 0 where
  pub accepted : accept document_01 facts query ≡ ok w
  -- the query's tokens and words
  pub ts : List Token
  pub parsed : Parsed query tokens words ts w.program
  pub inside : Inside query tokens
  pub few_tokens : length tokens ≤ 2048
  pub few_words : length words ≤ 2048
  -- the kinds of its names
  pub kinds : Kinds
  pub facts_read : Facts
  pub read : read_facts document_01 facts ≡ ok facts_read
  pub names : use_names document_01 (in_program w.program) (fact_kinds facts_read.relations) ≡ ok kinds
  pub stands : Stands facts query tokens ids known relations (length relations) kinds
  pub numbers : (t : ℕ) → t < length tokens → get_or ids t 0 < 2064
  -- the relations in the store's order, and the universe
  pub relations_are : relations_of facts query relations ≡ w.relations
  pub few_relations : length relations ≤ 16
  pub filled : Filled facts query tokens words places w
  pub few_places : length places ≤ 64

module _ (facts query : Text) (tokens words ids known relations places : List ℕ) where
  -- the sizes of what the arrays hold
  pub record Sized (s : Sizes) (w : Accepted) : Type 0 where
    pub reading : Reading facts query (take s.tokens tokens) (take s.words words) ids known (take s.relations relations) (take s.elements places) w
    pub tokens_inside : s.tokens ≤ length tokens
    pub words_inside : s.words ≤ length words
    pub relations_inside : s.relations ≤ length relations
    pub places_inside : s.elements ≤ length places

  -- the answer of the code: these sizes, or the definition's refusal
  pub data Accepts : Result Sizes Refusal → Type 0 where
    accepts : {s : Sizes} (w : Accepted) → Sized s w → Accepts (Ok s)
    refuses : {q : Refusal} → accept document_01 facts query ≡ refused (number q) (place q) → Accepts (Err q)
