-- What is given where a program has been lowered: the two texts are accepted, the arrays stand for what the definition has, and the pass
-- has made the words.
use Prim.Native.Nat.{ℕ, suc, ◌<◌, ◌≤◌}
use mathlib.Core.Path.{◌≡◌}
use mathlib.Core.Bool.{true}
use mathlib.Core.List.{List, map}
use lib.ListN.{length, get_or}
use Rattle.definition.specs.Text.{Text, member}
use Rattle.definition.specs.Token.{Token}
use Rattle.definition.specs.Names.{Kinds, variables, attribute}
use Rattle.definition.specs.Accept.{Accepted, elements}
use Rattle.definition.proofs.RelationLaws.{no_relation}
use Rattle.definition.proofs.NameLaws.{Numbered}
use Rattle.definition.specs.Facts.{Ascending}
use Rattle.words.specs.Raw.{number}
use Rattle.words.specs.Tokens.{OwnName}
use Rattle.parts.specs.Packed.{text_of}
use Rattle.intern.specs.Entries.{start_of, Stand}
use Rattle.kinds.specs.Resolved.{Stands}
use Rattle.slots.proofs.Attributes.{Coded}
use Rattle.lowering.specs.Lowering.{at, TokenValues, token_values, closures_before}
use Rattle.code.specs.Statements.{depth_in}
use Rattle.coding.specs.Pass.{Depths, depths_at, names_between, Made, Passed}

pub record Case : Type 0 where
  pub facts : Text
  pub query : Text
  pub w : Accepted
  pub tokens : List ℕ
  pub ids : List ℕ
  pub known : List ℕ
  pub relations : List ℕ
  pub words : List ℕ
  pub places : List ℕ
  pub low : List ℕ
  pub count : ℕ
  pub kinds : Kinds
  pub ts : List Token
  -- names, strings and literals
  pub stand : Stand query tokens ts
  pub few : length ts < 65536
  pub small : length words < 65536
  pub near : (i : ℕ) → i < length tokens → start_of (get_or tokens i 0) < 65536
  pub stands : Stands facts query tokens ids known relations count kinds
  -- the definition's side
  pub same_variables : variables kinds ≡ w.variables
  pub same_relations : kinds.relations ≡ w.relations
  pub numbered : Numbered kinds
  pub few_relations : length w.relations ≤ 16
  pub arities : (i : ℕ) → (get_or w.relations i no_relation).arity ≤ 3
  pub universe : map (text_of facts query) places ≡ w.universe
  pub ascending : Ascending w.universe
  pub few_elements : elements w ≤ 64
  -- the pass, from the depths `first` on
  pub first : Depths
  pub room : (i : ℕ) → i < length tokens → get_or ids i 0 < length first.depths
  pub long : length low ≡ length words
  pub passed : Passed facts query places tokens ids known words low (elements w) first

-- before the word at a place
abbrev pub depths_before : Case → ℕ → Depths
depths_before C n = depths_at C.ids C.words C.first n

-- what the texts of tokens come to
abbrev pub values_of : Case → TokenValues
values_of C = token_values C.facts C.query C.places (at C.tokens)

-- the statement whose words stand from s up to its own at k: its attribute names, its open loop variables and their depths
pub record Place (C : Case) (scope : List Text) (s k : ℕ) (names : List Text) : Type 0 where
  pub made : Made C.facts C.query C.places C.tokens C.ids C.known C.words C.low (elements C.w) (depths_before C (suc k)).depths s k
  pub coded : Coded C.facts C.query C.tokens C.ids C.known C.relations C.count C.kinds C.stands C.ts C.stand
      (names_between C.facts C.query C.places C.tokens C.ids C.known C.words s k) names
  pub attributes : (x : Text) → member x names ≡ true → C.kinds.known x ≡ attribute
  pub loops : (x : Text) → member x scope ≡ true → C.w.variables x ≡ true
  pub shallow : length scope ≤ 32
  pub deep : (t : Token) → OwnName C.ts t → member t.text scope ≡ true → get_or (depths_before C (suc k)).depths (get_or C.ids (number t) 0) 0 ≡ depth_in t.text scope
  pub few_closures : closures_before (at C.words) s (suc k) ≤ 16
  pub order : s ≤ k
  pub inside : k < length C.words
