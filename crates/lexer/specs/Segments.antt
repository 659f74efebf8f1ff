-- What the lexer finds at a place of the query, and what that means.
use Rattle.std.specs.Prelude.{ℕ, ◌+◌, ◌≤◌, ◌<◌, ◌≡◌, [], ◌∷◌, take, drop}
use Rattle.definition.specs.Text.{Text}
use Rattle.definition.specs.Token.{Piece, gap, token, neither, first_mark, marks, piece}
use Rattle.lexer.specs.declared.Segment.{Segment}
use Rattle.lexer.specs.declared.Segment.TheVariants.{Gap, Lexeme, Neither}
use Rattle.lexer.specs.Tokens.{terminal_of, quote_of}

-- a segment at the start of a text, as the definition's piece
abbrev pub piece_of : Text → Segment → Piece
piece_of xs (Gap n) = gap n
piece_of xs (Lexeme k m n) = token (terminal_of k) (take m (drop (quote_of k) xs)) n
piece_of xs Neither = neither

-- what begins a text
abbrev pub first_piece : Text → Piece
first_piece [] = neither
first_piece (x ∷ xs) = piece x xs

-- a token's kind and the length of its text fit six bits each, and the text lies within the token's n bytes
pub record Packs (k m n : ℕ) : Type 0 where
  pub kind : k < 64
  pub size : m < 64
  pub text : quote_of k + m ≤ n

abbrev pub Small : Segment → Type 0
Small (Gap n) = Unit {0}
Small (Lexeme k m n) = Packs k m n
Small Neither = Unit {0}

-- the longest mark that begins with three bytes
pub record Marked (x y z : ℕ) (s : Segment) : Type 0 where
  pub piece : (xs : Text) → piece_of xs s ≡ first_mark marks (x ∷ y ∷ z ∷ [])
  pub small : Small s
