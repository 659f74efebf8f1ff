-- What the passes over two texts leave behind, one after another.
use Rattle.std.specs.Prelude.{ℕ, ◌<◌, ◌≤◌, ◌≡◌, List, length, get_or, Ok}
use Rattle.definition.specs.Text.{Text}
use Rattle.definition.specs.Limits.{document_01}
use Rattle.definition.specs.Token.{Token}
use Rattle.definition.specs.Syntax.{Program}
use Rattle.definition.specs.Answer.{ok}
use Rattle.definition.specs.Names.{Kinds, program_patterns, pattern_rows, in_program, use_names, fact_kinds}
use Rattle.definition.specs.Accept.{read_query}
use Rattle.lexer.specs.Tokens.{Inside}
use Rattle.facts.specs.declared.Counts.{Counts}
use Rattle.facts.specs.Words.{relations_of}
use Rattle.facts.specs.Reading.{Meets}
use Rattle.kinds.specs.Resolved.{Parsed, Stands}

-- the facts are read: their relations and elements stand first in the lent words
pub record FactsIn (facts query : Text) (relations places : List ℕ) (c : Counts) : Type 0 where
  pub old_relations : List ℕ
  pub old_places : List ℕ
  pub sixteen : length old_relations ≡ 16
  pub sixty_four : length old_places ≡ 64
  pub read : Meets facts query old_relations relations old_places places (Ok c)

-- the query is read
pub record QueryIn (query : Text) (tokens words : List ℕ) (ts : List Token) (p : Program) : Type 0 where
  pub read : read_query query ≡ ok p
  pub parsed : Parsed query tokens words ts p
  pub inside : Inside query tokens
  pub few_tokens : length tokens ≤ 2048
  pub few_words : length words ≤ 2048

-- and its patterns are well formed
pub record FormedIn (query : Text) (tokens words : List ℕ) (ts : List Token) (p : Program) : Type 0 where
  pub query_in : QueryIn query tokens words ts p
  pub formed : pattern_rows (program_patterns p) ≡ ok tt

-- its names have their kinds, where the facts gave the words `given`; the first r words are the relations
pub record NamesIn (facts query : Text) (tokens ids known given relations : List ℕ) (r : ℕ) (p : Program) (k : Kinds) : Type 0 where
  pub named : use_names document_01 (in_program p) (fact_kinds (relations_of facts query given)) ≡ ok k
  pub stands : Stands facts query tokens ids known relations r k
  pub room : length relations ≡ 16
  pub numbers : (t : ℕ) → t < length tokens → get_or ids t 0 < 2064
