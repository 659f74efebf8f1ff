-- Row 18 by the words of a program.
use Rattle.std.specs.Prelude.{ℕ, ◌≡◌, not, cond, List, [], ◌∷◌, get_or, Result, Ok, Err}
use Rattle.definition.specs.Text.{Text}
use Rattle.definition.specs.declared.Refusal.{Refusal}
use Rattle.definition.specs.Answer.{Answer, ok, refused, refusal}
use Rattle.definition.specs.Pattern.{well_formed}
use Rattle.lexer.specs.Tokens.{at_of}
use Rattle.intern.specs.Entries.{text_at}
use Rattle.words.specs.Fields.{p_of}
use Rattle.words.specs.ShownPatterns.{first_half}

-- the code's answer is the definition's
abbrev pub meets : Result (Unit {0}) Refusal → Answer (Unit {0}) → Type 0
meets (Ok done) a = a ≡ ok done
meets (Err q) a = a ≡ refusal q

module _ (query : Text) (tokens : List ℕ) where
  -- the token of a pattern's word
  abbrev pub token_of : ℕ → ℕ
  token_of w = get_or tokens (p_of w) 0

  -- the first word of a pattern that is empty or malformed
  unfoldable pub word_rows : List ℕ → Answer (Unit {0})
  word_rows [] = ok tt
  word_rows (w ∷ ws) =
      let r = word_rows ws in
      cond (first_half w) (cond (not (well_formed (text_at query (token_of w)))) (refused 18 (at_of (token_of w))) r) r
