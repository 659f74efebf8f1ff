-- What the pass over names answers, in terms of the definition.
use Rattle.std.specs.Prelude.{ℕ, ◌%◌, ◌<◌, ◌≤◌, ◌≡◌, cond, List, map, eqb, ltb, get_or, length, take, Result, Ok, Err}
use Rattle.definition.specs.Text.{Text, same}
use Rattle.definition.specs.Token.{Token}
use Rattle.definition.specs.Syntax.{Program}
use Rattle.definition.specs.Names.{Kinds}
use Rattle.definition.specs.Answer.{Answer, ok, refused, number, place}
use Rattle.definition.specs.declared.Refusal.{Refusal}
use Rattle.words.specs.Raw.{size_program, flat_program}
use Rattle.words.specs.Tokens.{OwnProgram}
use Rattle.facts.specs.Words.{relation_of}
use Rattle.intern.specs.Entries.{text_at, Stand}
use Rattle.kinds.specs.Walk.{known_of, relation_code}

-- a program as the parser leaves it: the tokens it was read from, and its words
pub record Parsed (query : Text) (tokens words : List ℕ) (ts : List Token) (p : Program) : Type 0 where
  pub stand : Stand query tokens ts
  pub own : OwnProgram ts p
  pub few : length ts < 65536
  pub small : size_program p < 65536
  pub flat : words ≡ flat_program p 0

-- the arrays stand for what is known: by the number of each token's name, and the relations by their words
pub record Stands (facts query : Text) (tokens ids known relations : List ℕ) (count : ℕ) (k : Kinds) : Type 0 where
  -- "two names are the same text if and only if they have the same number"
  pub apart : (s t : ℕ) → s < length tokens → t < length tokens → same (text_at query (get_or tokens s 0)) (text_at query (get_or tokens t 0)) ≡ eqb (get_or ids s 0) (get_or ids t 0)
  pub knows : (t : ℕ) → t < length tokens → k.known (text_at query (get_or tokens t 0)) ≡ known_of (get_or known (get_or ids t 0) 0)
  pub named : k.relations ≡ map (relation_of facts query) (take count relations)
  pub few : count ≤ 16

-- the code's answer is the definition's
pub data Resolved (facts query : Text) (tokens ids known relations : List ℕ) : Result ℕ Refusal → Answer Kinds → Type 0 where
  done : {c : ℕ} {k : Kinds} → Stands facts query tokens ids known relations c k → Resolved facts query tokens ids known relations (Ok c) (ok k)
  refuses : {q : Refusal} → Resolved facts query tokens ids known relations (Err q) (refused (number q) (place q))

-- what is known by number before the walk: the relations of the facts come first
unfoldable pub fact_code : List ℕ → ℕ → ℕ
fact_code relations i = cond (ltb i (length relations)) (relation_code i (get_or relations i 0 % 4)) 0

abbrev pub FactsKnown : List ℕ → List ℕ → ℕ → Type 0
FactsKnown relations known n = (i : ℕ) → i < n → get_or known i 0 ≡ fact_code relations i
