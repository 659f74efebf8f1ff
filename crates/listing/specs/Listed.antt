-- What the test programs print of lists: a token, a word of a parsed program, a byte that is written.
use Rattle.std.specs.Prelude.{ℕ, [], ◌∷◌, ◌++◌, eqb, if◌then◌else◌}
use Rattle.definition.specs.Text.{Text}
use Rattle.definition.specs.Decimals.{decimal}
use Rattle.lexer.specs.Tokens as Tokens
use Rattle.words.specs.Fields as Fields
use Rattle.listing.specs.declared.Item.{Item}
use Rattle.listing.specs.declared.Item.TheVariants.{Token, Word}

-- a comma, and four numbers, each after a space
abbrev pub fields_text : ℕ → ℕ → ℕ → ℕ → Text
fields_text a b c d = 44 ∷ ((32 ∷ decimal a) ++ ((32 ∷ decimal b) ++ ((32 ∷ decimal c) ++ (32 ∷ decimal d))))

-- a token as its kind, its place, and where its text begins and how long it is; a word as its kind and its three fields
unfoldable pub item_text : Item → ℕ → Text
item_text Token w = fields_text (Tokens.kind_of w) (Tokens.at_of w) (Tokens.start_of w) (Tokens.size_of w)
item_text Word w = fields_text (Fields.kind_of w) (Fields.p_of w) (Fields.q_of w) (Fields.r_of w)

-- a byte after a space; 255 stands for a byte that nothing was written to
unfoldable pub byte_text : ℕ → Text
byte_text x = if eqb x 255 then [] else (32 ∷ decimal x)
