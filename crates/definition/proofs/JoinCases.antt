-- Joining two fact texts: one table and one theorem. A case has the two texts, the lent output's length and what is owed.
use mathlib.Core.Bool.{Bool, false, ◌&&◌}
use mathlib.Core.List.{List, [], ◌∷◌}
use mathlib.Core.Path.{◌≡◌, refl}
use Prim.Native.Nat.{ℕ}
use Prim.Native.String.{String}
use lib.Dec.{T, eqb}
use lib.ListN.{replicate}
use Rattle.definition.specs.Text.{Text, ascii, same, all_of}
use Rattle.definition.specs.Limits.{document_01}
use Rattle.definition.specs.Join.{Told, right, wrong, join}
use Rattle.definition.specs.Everything.{everything}

pub record Case : Type 0 where
  pub first : String
  pub second : String
  pub room : ℕ
  pub owed : Told Text

-- with room enough, and with some room
abbrev case : String → String → Told Text → Case
case a b t = record { first = a; second = b; room = 32768; owed = t }

abbrev short : String → String → ℕ → Told Text → Case
short a b n t = record { first = a; second = b; room = n; owed = t }

abbrev written : String → Told Text
written t = right (ascii t)

-- 16 and 10 relations; 64 and 63 elements
abbrev SIXTEEN : String
SIXTEEN = "N00\nN01\nN02\nN03\nN04\nN05\nN06\nN07\nN08\nN09\nN10\nN11\nN12\nN13\nN14\nN15\n"

abbrev TEN : String
TEN = "N00\nN01\nN02\nN03\nN04\nN05\nN06\nN07\nN08\nN09\n"

abbrev FULL : String
FULL = "E e00\nE e01\nE e02\nE e03\nE e04\nE e05\nE e06\nE e07\nE e08\nE e09\nE e10\nE e11\nE e12\nE e13\nE e14\nE e15\nE e16\nE e17\nE e18\nE e19\nE e20\nE e21\nE e22\nE e23\nE e24\nE e25\nE e26\nE e27\nE e28\nE e29\nE e30\nE e31\nE e32\nE e33\nE e34\nE e35\nE e36\nE e37\nE e38\nE e39\nE e40\nE e41\nE e42\nE e43\nE e44\nE e45\nE e46\nE e47\nE e48\nE e49\nE e50\nE e51\nE e52\nE e53\nE e54\nE e55\nE e56\nE e57\nE e58\nE e59\nE e60\nE e61\nE e62\nE e63\n"

abbrev ONE_LEFT : String
ONE_LEFT = "E e00\nE e01\nE e02\nE e03\nE e04\nE e05\nE e06\nE e07\nE e08\nE e09\nE e10\nE e11\nE e12\nE e13\nE e14\nE e15\nE e16\nE e17\nE e18\nE e19\nE e20\nE e21\nE e22\nE e23\nE e24\nE e25\nE e26\nE e27\nE e28\nE e29\nE e30\nE e31\nE e32\nE e33\nE e34\nE e35\nE e36\nE e37\nE e38\nE e39\nE e40\nE e41\nE e42\nE e43\nE e44\nE e45\nE e46\nE e47\nE e48\nE e49\nE e50\nE e51\nE e52\nE e53\nE e54\nE e55\nE e56\nE e57\nE e58\nE e59\nE e60\nE e61\nE e62\n"

unfoldable pub cases : List Case
cases =
    -- the union, each line once
    case "" "" (written "")
    ∷ case "R a\nR b\n" "R b\nR c\n" (written "R a\nR b\nR c\n")
    ∷ case "R a\nR a\n" "S b\nS b\nS  b\n" (written "R a\nS b\n")
    ∷ case "" "S b\nR a\n" (written "R a\nS b\n")
    ∷ case "S b\nR a" "" (written "R a\nS b\n")
    -- a line is the name, then each element after one space, then byte 10
    ∷ case "R  a\t\tb \t\n" "R\tc d" (written "R a b\nR c d\n")
    ∷ case "P\n" "P \nQ" (written "P\nQ\n")
    -- relations in byte order of name, a prefix first
    ∷ case "a\nA2\n_x\nB\n" "A10\nA\nA1\n" (written "A\nA1\nA10\nA2\nB\n_x\na\n")
    -- tuples ascending by element, with the numbers of the union, and not by the bytes of the lines
    ∷ case "R b a\nR a c\n" "R a b\nR aa a\nR C2 z\nR C10 z\n" (written "R C10 z\nR C2 z\nR a b\nR a c\nR aa a\nR b a\n")
    ∷ case "R m\n" "R z\nR a\n" (written "R a\nR m\nR z\n")
    ∷ case "R b a a\nR a b c\n" "R a b a\nR a a z\n" (written "R a a z\nR a b a\nR a b c\nR b a a\n")
    ∷ case "R !\n" "R \"\"\n" (written "R \"\"\nR !\n")
    ∷ case "R \"a\"\n" "R B\n" (written "R B\nR \"a\"\n")
    -- quotes if either text quoted the element, in any relation and column, also in a repeated line; not where no line read has them
    ∷ case "S a\nT a b\n" "R \"a\"\n" (written "R \"a\"\nS \"a\"\nT \"a\" b\n")
    ∷ case "R \"a\"\n" "S b a\n" (written "R \"a\"\nS b \"a\"\n")
    ∷ case "R a\n" "R \"a\"\n" (written "R \"a\"\n")
    ∷ case "R a\nR \"a\"\n" "" (written "R \"a\"\n")
    ∷ case "R \"5Y off the run\"\n" "R 5Y\n" (written "R 5Y\nR \"5Y off the run\"\n")
    ∷ case "R a\n.\nR \"a\"\n" "S a\n. R \"a\"\n" (written "R a\nS a\n")
    -- each text has its own dot line, comments and line ends
    ∷ case "R a\n.\n" "R b\n" (written "R a\nR b\n")
    ∷ case "R a\n.\nR c\n" "R b\n.\nR d\n" (written "R a\nR b\n")
    ∷ case "# one\n\n \t\nR a\n" "\n#\nR b\n#" (written "R a\nR b\n")
    ∷ case "\r\n \r\nR a\r\n" "R b\r" (written "R a\nR b\n")
    -- refusals of the first text come before those of the second
    ∷ case "R b\rc\n" "9\n" (wrong 1 2 3)
    ∷ case "R a\nR \"b\n" "R a\n" (wrong 1 4 6)
    ∷ case "R a b\nR c\n" "R\n" (wrong 1 5 8)
    ∷ case "S a b c d\n" "\u{80}" (wrong 1 5 8)
    -- rows 2, 3 and 4 of the second; 2 over all its lines read
    ∷ case "R a\n" "R b\rc\n" (wrong 2 2 3)
    ∷ case "R a\n" "R a b\n#\u{7f}\n" (wrong 2 2 7)
    ∷ case "R a\n" "R a\nTRUE b\n" (wrong 2 3 4)
    ∷ case "R a\n" "R a\nR \"b\n" (wrong 2 4 6)
    -- 20 at the name, for an arity other than the first text's, also where the second had it right before
    ∷ case "R a\n" "S x\nR a b\n" (wrong 2 20 4)
    ∷ case "R a\n" "S x\nR\n" (wrong 2 20 4)
    ∷ case "R\n" "R a\n" (wrong 2 20 0)
    ∷ case "R a b\n" "R a b\nR a\n" (wrong 2 20 6)
    ∷ case "R a\n" "R a b\n9\n" (wrong 2 20 0)
    -- 5 where the first text does not give the relation, at the last element or the name; too many elements, and 4, come before 20
    ∷ case "S a\n" "R a\nR b \"c\"\n" (wrong 2 5 8)
    ∷ case "S a\n" "R a\nR\n" (wrong 2 5 4)
    ∷ case "R a\n" "R a b c d\n" (wrong 2 5 8)
    ∷ case "R a\n" "S a b c d\"\n" (wrong 2 4 8)
    ∷ case "R a\n" "R a b\"c\n" (wrong 2 4 4)
    -- 6 and 7 count the union, with the place in the second
    ∷ case SIXTEEN "#\nN00\nM\n" (wrong 2 6 6)
    ∷ case TEN "N10\nN11\nN12\nN13\nN14\nN15\n" (written SIXTEEN)
    ∷ case TEN "N10\nN11\nN12\nN13\nN14\nN15\nN16\n" (wrong 2 6 24)
    ∷ case FULL "R e00 e63 x\n" (wrong 2 7 10)
    ∷ case ONE_LEFT "E x\nS x y\n" (wrong 2 7 8)
    ∷ case ONE_LEFT "S e00 e63 e64\n" (wrong 2 7 10)
    -- 20 before 6 and 7 of its line, 6 before 7
    ∷ case FULL "E x y\n" (wrong 2 20 0)
    ∷ case SIXTEEN "N00 x\nM\n" (wrong 2 20 0)
    -- 21 with the length needed, last
    ∷ short "" "" 0 (written "")
    ∷ short "" "P" 0 (wrong 0 21 2)
    ∷ short "R \"a\"\n" "R b\n" 9 (wrong 0 21 10)
    ∷ short "R \"a\"\n" "R b\n" 10 (written "R \"a\"\nR b\n")
    ∷ short "R a\n" "R\n" 0 (wrong 2 20 0)
    ∷ []

unfoldable same_told : Told Text → Told Text → Bool
same_told (right s) (right t) = same s t
same_told (wrong a r p) (wrong b s q) = eqb a b && eqb r s && eqb p q
same_told (right s) (wrong b r p) = false
same_told (wrong a r p) (right t) = false

unfoldable pub holds : Case → Bool
unfolding everything same_told
holds c = same_told (join document_01 (ascii c.first) (ascii c.second) c.room) c.owed

pub cases_hold : T (all_of holds cases)
unfolding holds all_of cases
cases_hold = tt

-- row 1 of each text
pub first_too_long : join document_01 (replicate 32769 35) (replicate 32769 35) 0 ≡ wrong 1 1 32768
unfolding everything
first_too_long = refl

pub second_too_long : join document_01 [] (replicate 32769 35) 0 ≡ wrong 2 1 32768
unfolding everything
second_too_long = refl
