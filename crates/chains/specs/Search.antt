-- What the search for a chain answers and writes.
use Rattle.std.specs.Prelude.{◌≡◌, Result, Bool, true, false, List, [], ◌∷◌, ◌++◌, ℕ, length, drop}
use Rattle.definition.specs.Answer.{ok}
use Rattle.definition.specs.Tables.{holds, closure}
use Rattle.definition.specs.Calls.{FirstChain, ChainRefuses, chained_answer}
use Rattle.definition.specs.declared.Refusal.{Refusal}

-- the first chain of the table's pairs; "it answers their count and leaves the rest of the buffer"
pub record Found (rows : List ℕ) (a b : ℕ) (buffer : List ℕ) (c : Result ℕ Refusal) (buffer' : List ℕ) : Type 0 where
  pub chain : List ℕ
  pub right : FirstChain (λ x y. holds (length rows) rows (x ∷ y ∷ [])) a b chain
  pub answer : chained_answer c ≡ ok (length chain)
  pub written : buffer' ≡ chain ++ drop (length chain) buffer

-- by whether the closure holds the pair: if not, row 17, "no chain exists"
abbrev pub searched : Bool → List ℕ → ℕ → ℕ → List ℕ → Result ℕ Refusal → List ℕ → Type 0
searched true rows a b buffer c buffer' = Found rows a b buffer c buffer'
searched false rows a b buffer c buffer' = ChainRefuses 17 0 buffer c buffer'

pub record Searched (rows : List ℕ) (a b : ℕ) (buffer : List ℕ) (c : Result ℕ Refusal) (buffer' : List ℕ) : Type 0 where
  pub meets : searched (holds (length rows) (closure (length rows) rows) (a ∷ b ∷ [])) rows a b buffer c buffer'
