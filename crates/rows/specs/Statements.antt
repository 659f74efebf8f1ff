-- The statements of a program's words, and what the pass over them answers.
use Rattle.std.specs.Prelude.{ℕ, ◌+◌, ◌<◌, ◌≤◌, ◌≡◌, Bool, ◌&&◌, List, [], ◌∷◌, ◌++◌, eqb, leb, length, drop, Result, Ok, Err}
use Rattle.definition.specs.Text.{Text, all_of, gather}
use Rattle.definition.specs.Limits.{PRINTED_ATTRIBUTES}
use Rattle.definition.specs.Token.{Token}
use Rattle.definition.specs.Syntax.{Term, Expression, Item}
use Rattle.definition.specs.declared.Refusal.{Refusal}
use Rattle.definition.specs.Answer.{Answer, ok, refused, number, place, ◌>>◌}
use Rattle.definition.specs.Names.{Kinds, variables, Use, attribute_only, in_terms, in_expression, in_item, attributes, free, subset, item_expressions, statement_rows}
use Rattle.words.specs.Fields.{word, RELATION_NAME, ATTRIBUTE, BIND, RANGE, ASSIGN, TEST, PRINT}
use Rattle.words.specs.Raw as Raw
use Rattle.words.specs.Raw.{leaves, size, flat, size_items, flat_items}
use Rattle.words.specs.Tokens.{OwnName, OwnTerms, OwnExpression, OwnItems}
use Rattle.words.specs.Parts.{Part, part, parts}
use Rattle.intern.specs.Entries.{Stand}
use Rattle.kinds.specs.Resolved.{Stands}
use Rattle.words.specs.Standing.{Has}

-- the answer of the code is the definition's
abbrev pub meets : Result (Unit {0}) Refusal → Answer (Unit {0}) → Type 0
meets (Ok done) a = a ≡ ok done
meets (Err q) a = a ≡ refused (number q) (place q)

-- what the passes before have left: numbers of names and what is known of them
pub record Setting (words ids known : List ℕ) : Type 0 where
  pub facts : Text
  pub query : Text
  pub tokens : List ℕ
  pub relations : List ℕ
  pub count : ℕ
  pub kinds : Kinds
  pub stands : Stands facts query tokens ids known relations count kinds
  pub ts : List Token
  pub stand : Stand query tokens ts
  pub few : length ts < 65536
  pub small : length words < 65536

module _ (words ids known : List ℕ) (S : Setting words ids known) where
  abbrev pub vs : Text → Bool
  vs = variables S.kinds

  -- a statement whose words stand from s up to its own at k: its place, its names, its expressions, and whether its free attributes are right
  pub data Stated (s k : ℕ) : ℕ → List Use → List Expression → Bool → Type 0 where
    assigned : (i : ℕ) (r : Token) (ps : List Term) (e : Expression) → i < 65536 → OwnName S.ts r → OwnTerms S.ts ps → OwnExpression S.ts e → k ≡ s + 1 + length ps + size e
        → Has words s ((word RELATION_NAME (Raw.number r) (length ps) 0 ∷ (leaves ATTRIBUTE ps ++ flat e (s + 1 + length ps))) ++ (word ASSIGN s (length ps) i ∷ []))
        → Stated s k i (in_terms attribute_only ps ++ in_expression e) (e ∷ []) (subset (attributes vs ps) (free vs e) && subset (free vs e) (attributes vs ps))
    printed : (i : ℕ) (is : List Item) → i < 65536 → OwnItems S.ts is → k ≡ s + size_items is → Has words s (flat_items is s ++ (word PRINT s 0 i ∷ []))
        → Stated s k i (gather in_item is) (gather item_expressions is) (all_of (λ e. leb (length (free vs e)) PRINTED_ATTRIBUTES) (gather item_expressions is))
    tested : (i l : ℕ) (e : Expression) → i < 65536 → l < 65536 → OwnExpression S.ts e → k ≡ s + size e → Has words s (flat e s ++ (word TEST 0 l i ∷ []))
        → Stated s k i (in_expression e) (e ∷ []) (eqb (length (free vs e)) 0)
    ranged : (i l : ℕ) (v : Token) (e : Expression) → i < 65536 → l < 65536 → OwnName S.ts v → OwnExpression S.ts e → k ≡ s + 1 + size e
        → Has words s ((word BIND (Raw.number v) 0 0 ∷ flat e (s + 1)) ++ (word RANGE (Raw.number v) l i ∷ []))
        → Stated s k i (in_expression e) (e ∷ []) (eqb (length (free vs e)) 1)

  -- the rows of statements, one after another
  pub data Rows : List Part → Answer (Unit {0}) → Type 0 where
    none : Rows [] (ok tt)
    then : {s k i : ℕ} {us : List Use} {es : List Expression} {right : Bool} {ps : List Part} {a : Answer (Unit {0})} → Stated s k i us es right → Rows ps a
        → Rows (part s k ∷ ps) (◌>>◌ (statement_rows vs i us es right) a)

  -- after a word at k, where the open part began at s: what is left of the answer
  abbrev pub turned : ℕ → Answer (Unit {0}) → Result ℕ Refusal → Type 0
  turned k rest (Ok n) = Rows (parts (drop (k + 1) words) n (k + 1)) rest
  turned k rest (Err q) = rest ≡ refused (number q) (place q)

-- the next part begins no later than the next word
abbrev pub Near : ℕ → Result ℕ Refusal → Type 0
Near k (Ok n) = n ≤ k + 1
Near k (Err q) = Unit {0}
