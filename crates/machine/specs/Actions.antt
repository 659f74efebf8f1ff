-- The actions of statements, and what it means that they do what the definition says. An action has the loop variables by the depth of
-- their FOR, the outermost first, the store, and the place of the statement's word.
use Rattle.std.specs.Prelude.{ℕ, ◌≤◌, ◌<◌, ◌≡◌, Bool, List, [], ◌∷◌, map, length, get_or}
use Rattle.definition.specs.Text.{Text, keep, from}
use Rattle.definition.specs.Token.{Token}
use Rattle.definition.specs.Syntax.{Term, Expression, Item}
use Rattle.definition.specs.Tables.{Tuple, bit}
use Rattle.definition.specs.Accept.{Accepted, elements, words_needed}
use Rattle.definition.specs.Meaning.{Environment, nowhere, bind, mean, answers}
use Rattle.definition.specs.Assignment.{assign_tables}
use Rattle.definition.specs.Print.{print_text}
use Rattle.definition.specs.Run.{point}
use Rattle.definition.specs.Claim.{store_image}
use Rattle.definition.proofs.RelationLaws.{place_of, no_relation}

pub record Actions : Type 0 where
  -- whether the test at a place is true
  pub tests : List ℕ → List ℕ → ℕ → Bool
  -- the set of the FOR at a place: bit a is element a
  pub ranges : List ℕ → List ℕ → ℕ → ℕ
  -- the whole store after the assignment at a place
  pub assigns : List ℕ → List ℕ → ℕ → List ℕ
  -- the bytes of the PRINT at a place
  pub prints : List ℕ → List ℕ → ℕ → Text
  -- the store after a test, a FOR's set or a PRINT at a place, which work in the scratch words
  pub leaves : List ℕ → List ℕ → ℕ → List ℕ
  -- the number of the relation that the assignment at a place changes, and how many columns it has
  pub target : ℕ → ℕ
  pub columns : ℕ → ℕ

-- of the n numbers from a on, those whose bit is set in s, ascending
unfoldable pub members : ℕ → ℕ → ℕ → List ℕ
members s a n = keep (bit s) (from n a)

abbrev pub single : ℕ → Tuple
single a = a ∷ []

-- what the names of the open FORs, the innermost first, stand for
unfoldable pub scope_environment : List Text → List ℕ → Environment
scope_environment [] vs = nowhere
scope_environment (x ∷ xs) vs = bind x (get_or vs (length xs) 0) (scope_environment xs vs)

module _ (w : Accepted) (A : Actions) where
  -- what an action is handed: an element for each open FOR, and a store that was long enough from the start
  pub record Handed (scope : List Text) (vs store₀ : List ℕ) : Type 0 where
    pub inside : (d : ℕ) → d < length scope → get_or vs d 0 < elements w
    pub long : words_needed w ≤ length store₀

  -- the store at a point of the run
  abbrev pub store_at : ℕ → List ℕ → List ℕ
  store_at n store₀ = store_image w (point w n).tables store₀

  -- at every point of the run, the scratch words are left as they were
  pub record Leaves (scope : List Text) (at : ℕ) : Type 0 where
    pub right : (n : ℕ) (vs store₀ : List ℕ) → Handed scope vs store₀ → A.leaves vs (store_at n store₀) at ≡ store_at n store₀

  -- at every point of the run, the action at a place does what the definition says of the statement
  pub record Tests (scope : List Text) (at : ℕ) (e : Expression) : Type 0 where
    pub leaves : Leaves scope at
    pub right : (n : ℕ) (vs store₀ : List ℕ) → Handed scope vs store₀
        → A.tests vs (store_at n store₀) at ≡ mean w (point w n).tables (scope_environment scope vs) e

  pub record Ranges (scope : List Text) (at : ℕ) (e : Expression) : Type 0 where
    pub leaves : Leaves scope at
    pub right : (n : ℕ) (vs store₀ : List ℕ) → Handed scope vs store₀
        → answers w (point w n).tables (scope_environment scope vs) e ≡ map single (members (A.ranges vs (store_at n store₀) at) 0 (elements w))

  pub record Assigns (scope : List Text) (at : ℕ) (r : Token) (ps : List Term) (e : Expression) : Type 0 where
    pub right : (n : ℕ) (vs store₀ : List ℕ) → Handed scope vs store₀
        → A.assigns vs (store_at n store₀) at
        ≡ store_image w (assign_tables w (point w n).tables (scope_environment scope vs) r.text ps e w.relations (point w n).tables) store₀
    pub relation : A.target at ≡ place_of r.text w.relations
    pub known : place_of r.text w.relations < length w.relations
    pub arity : A.columns at ≡ (get_or w.relations (place_of r.text w.relations) no_relation).arity
    pub few : A.columns at ≤ 4

  pub record Prints (scope : List Text) (at : ℕ) (is : List Item) : Type 0 where
    pub leaves : Leaves scope at
    pub right : (n : ℕ) (vs store₀ : List ℕ) → Handed scope vs store₀
        → A.prints vs (store_at n store₀) at ≡ print_text w (point w n).tables (scope_environment scope vs) is
