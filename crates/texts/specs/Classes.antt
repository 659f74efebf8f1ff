-- The definition's test for each class of bytes.
use Rattle.std.specs.Prelude.{ℕ, Bool, not, ◌&&◌, eqb}
use Rattle.definition.specs.Text.{between, is_digit, is_part, is_legal, is_blank}
use Rattle.definition.specs.Facts.{is_inside}
use Rattle.texts.specs.declared.Class.{Class}
use Rattle.texts.specs.declared.Class.TheVariants.{Blank, Inside, Part, Legal, Printable, NoQuote, NoEnd, InString, Bare, Digit}

abbrev pub is_of : Class → ℕ → Bool
is_of Blank = is_blank
is_of Inside = is_inside
is_of Part = is_part
is_of Legal = is_legal
is_of Printable = between 32 126
is_of NoQuote = λ y. not (eqb y 34)
is_of NoEnd = λ y. not (eqb y 10)
is_of InString = λ y. not (eqb y 34) && not (eqb y 10)
is_of Bare = λ y. not (eqb y 34) && is_inside y
is_of Digit = is_digit
