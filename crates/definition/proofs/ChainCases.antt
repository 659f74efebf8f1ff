-- The first chain on worked facts: one table and one theorem. What the call writes is what the plain search finds (`ChainSearch.found_searched`).
use mathlib.Core.Bool.{Bool, false, ◌&&◌}
use mathlib.Core.List.{List, [], ◌∷◌}
use Prim.Native.Nat.{ℕ}
use Prim.Native.String.{String}
use lib.Dec.{T, eqb}
use Rattle.definition.specs.Text.{ascii, same, all_of}
use Rattle.definition.specs.Limits.{document_01}
use Rattle.definition.specs.Answer.{Answer, ok, refused, ◌>>=◌}
use Rattle.definition.specs.Calls.{chain_asked}
use Rattle.definition.specs.Everything.{everything}
use Rattle.definition.proofs.CaseTable.{F, F_RETURNS}
use Rattle.definition.proofs.ChainSearch.{first_chain, computes}

-- a question, with the buffer's length, and the numbers or the refusal that are owed
pub record Question : Type 0 where
  pub facts : String
  pub name : String
  pub first : String
  pub second : String
  pub room : ℕ
  pub answer : Answer (List ℕ)

abbrev asks : String → String → String → String → List ℕ → Question
asks facts name first second c = record { facts = facts; name = name; first = first; second = second; room = 65; answer = ok c }

abbrev refuses : String → String → String → String → ℕ → ℕ → Question
refuses facts name first second room row = record { facts = facts; name = name; first = first; second = second; room = room; answer = refused row 0 }

abbrev same_answer : Answer (List ℕ) → Answer (List ℕ) → Bool
same_answer (ok c) (ok d) = same c d
same_answer (refused r p) (refused s q) = eqb r s && eqb p q
same_answer (ok c) (refused s q) = false
same_answer (refused r p) (ok d) = false

unfoldable pub holds : Question → Bool
unfolding everything computes
holds q = same_answer (do k ← chain_asked document_01 (ascii q.facts) (ascii q.name) (ascii q.first) (ascii q.second) q.room; ok (first_chain k.facts (ascii q.name) k.from k.to)) q.answer

unfoldable pub questions : List Question
questions =
    -- the only one of F, whichever way its lines end
    asks F "On" "B7" "C2" (0 ∷ 1 ∷ 3 ∷ 2 ∷ [])
    ∷ asks F_RETURNS "On" "B7" "C2" (0 ∷ 1 ∷ 3 ∷ 2 ∷ [])
    -- "fewest elements": with a pair more, B7 C5 C2; a smaller number that leads a longer way, or nowhere
    ∷ asks "On C10 C5\nOn C5 C2\nOn B7 C10\nOn B7 C5" "On" "B7" "C2" (0 ∷ 3 ∷ 2 ∷ [])
    ∷ asks "E a b\nE b c\nE c z\nE a d\nE d z" "E" "a" "z" (0 ∷ 3 ∷ 4 ∷ [])
    ∷ asks "E a b\nE a c\nE c z" "E" "a" "z" (0 ∷ 2 ∷ 3 ∷ [])
    -- "and among those the smallest element number": in byte order, C10 before C2
    ∷ asks "E a c\nE c z\nE a b\nE b z" "E" "a" "z" (0 ∷ 1 ∷ 3 ∷ [])
    ∷ asks "E B C2\nE C2 D\nE B C10\nE C10 D" "E" "B" "D" (0 ∷ 1 ∷ 3 ∷ [])
    ∷ asks "E \"\" c\nE c z\nE \"\" \"a b\"\nE \"a b\" z" "E" "" "z" (0 ∷ 1 ∷ 3 ∷ [])
    -- "at the earliest difference": a b y z, though a c d z has the smaller number at the next
    ∷ asks "E a b\nE b y\nE y z\nE a c\nE c d\nE d z" "E" "a" "z" (0 ∷ 1 ∷ 4 ∷ 5 ∷ [])
    -- "the last may equal the first": the shortest cycle, and of two the first
    ∷ asks "E a a\nE a b\nE b a" "E" "a" "a" (0 ∷ 0 ∷ [])
    ∷ asks "E a c\nE c a\nE a b\nE b a" "E" "a" "a" (0 ∷ 1 ∷ 0 ∷ [])
    -- "each neighbouring pair a fact of that name": from the first to the second, and of no other name, whose elements still count
    ∷ asks "E d c\nE c b\nE b a" "E" "d" "a" (3 ∷ 2 ∷ 1 ∷ 0 ∷ [])
    ∷ asks "D a b\nE a c\nE c b" "E" "a" "b" (0 ∷ 2 ∷ 1 ∷ [])
    ∷ asks "H a\nE m n" "E" "m" "n" (1 ∷ 2 ∷ [])
    -- "Refusal 17 keeps its condition", and the order "15, 16, 17", whatever the first chain's length
    ∷ refuses "E a b\nE b c\nE c b" "E" "a" "a" 65 17
    ∷ refuses "E a b" "E" "b" "a" 65 17
    ∷ refuses "E a b" "E" "a" "b" 64 16
    ∷ refuses "E a b" "E" "a" "z" 64 15
    ∷ []

pub questions_hold : T (all_of holds questions)
unfolding holds all_of questions
questions_hold = tt
