-- The uses of names that words show, in order.
use Rattle.std.specs.Prelude.{ℕ, ◌<◌, ◌≤◌, ◌≡◌, cond, List, [], ◌∷◌, eqb}
use Rattle.definition.specs.Token.{Token}
use Rattle.definition.specs.Names.{Role, before_terms, attribute_only, term, variable_only, after_for, enter, leave, Use, use_as}
use Rattle.words.specs.Fields.{kind_of, p_of, q_of, RELATION_NAME, ATTRIBUTE, TERM, WORD, BIND, RANGE, NEXT}
use Rattle.words.specs.Raw.{number}
use Rattle.words.specs.Tokens.{OwnName}

-- what the place of a name takes, by its word's kind and number of terms
unfoldable pub role_of : ℕ → ℕ → Role
role_of k n =
    cond (eqb k RELATION_NAME) (before_terms n)
    (cond (eqb k ATTRIBUTE) attribute_only (cond (eqb k TERM) term (cond (eqb k WORD) variable_only (cond (eqb k BIND) after_for (cond (eqb k RANGE) enter leave)))))

-- a word shows a use if its kind is that of a name: the role by the kind, the name by the number of its token
pub data Shows (ts : List Token) : List ℕ → List Use → Type 0 where
  none : Shows ts [] []
  other : {w : ℕ} {ws : List ℕ} {us : List Use} → NEXT < kind_of w → Shows ts ws us → Shows ts (w ∷ ws) us
  named : {w : ℕ} {ws : List ℕ} {us : List Use} {t : Token} {k q : ℕ} → kind_of w ≡ k → q_of w ≡ q → 0 < k → k ≤ NEXT → p_of w ≡ number t → OwnName ts t → Shows ts ws us
      → Shows ts (w ∷ ws) (use_as (role_of k q) t ∷ us)
