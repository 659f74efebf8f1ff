-- The patterns that words show, in order.
use Rattle.std.specs.Prelude.{ℕ, ◌≡◌, Bool, true, false, ◌&&◌, List, [], ◌∷◌, eqb}
use Rattle.definition.specs.Token.{Token}
use Rattle.words.specs.Fields.{kind_of, p_of, q_of, MATCH}
use Rattle.words.specs.Raw.{number}
use Rattle.words.specs.Tokens.{OwnString}

-- each pattern has two words, one for each half of the elements: the first one shows it
unfoldable pub first_half : ℕ → Bool
first_half w = eqb (kind_of w) MATCH && eqb (q_of w) 0

-- a word that shows a pattern has the number of its token
pub data ShowsPatterns (ts : List Token) : List ℕ → List Token → Type 0 where
  none : ShowsPatterns ts [] []
  other : {w : ℕ} {ws : List ℕ} {ss : List Token} → first_half w ≡ false → ShowsPatterns ts ws ss → ShowsPatterns ts (w ∷ ws) ss
  shown : {w : ℕ} {ws : List ℕ} {s : Token} {ss : List Token} → first_half w ≡ true → p_of w ≡ number s → OwnString ts s → ShowsPatterns ts ws ss
      → ShowsPatterns ts (w ∷ ws) (s ∷ ss)
