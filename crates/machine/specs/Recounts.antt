-- The counts of the relations' tuples: an assignment makes that of its own relation anew, and nothing else changes any.
use Rattle.std.specs.Prelude.{ℕ, ◌≤◌, ◌<◌, ◌≡◌, List, length, get_or, take}
use Rattle.definition.specs.Accept.{Accepted, elements, relation_words}
use Rattle.words.specs.Fields.{p_of}
use Rattle.leaves.specs.Nodes.{n_of}
use Rattle.counts.specs.Counting.{recounted}
use Rattle.machine.specs.Instructions.{Instr, END, PASS, ASSIGN, PRINT, TEST, AGAIN, RANGE, NEXT, JUMP, instr}

-- the relation and the columns of the assignment at a place, by its word
abbrev pub target_in : List ℕ → ℕ → ℕ
target_in words at = p_of (get_or words at 0)

abbrev pub columns_in : List ℕ → ℕ → ℕ
columns_in words at = n_of (get_or words at 0)

-- the old counts or the new ones
abbrev pub counts_by : Instr → List ℕ → List ℕ → List ℕ
counts_by END old new = old
counts_by PASS old new = old
counts_by ASSIGN old new = new
counts_by PRINT old new = old
counts_by (TEST n) old new = old
counts_by (AGAIN n) old new = old
counts_by (RANGE d n) old new = old
counts_by (NEXT d n) old new = old
counts_by (JUMP n) old new = old

-- after the step at a place, which leaves the store s
unfoldable pub counts_after : (ℕ → ℕ) → (ℕ → ℕ) → ℕ → List ℕ → List ℕ → ℕ → List ℕ → List ℕ → List ℕ
counts_after target columns u firsts code at s cs =
    counts_by (instr code at) cs (recounted s (get_or firsts (target at) 0) u (columns at) (target at) cs)

-- the first words of the relations, one table after another
pub record Firsts (w : Accepted) (firsts : List ℕ) : Type 0 where
  pub few : length w.relations ≤ 16
  pub are : (i : ℕ) → i < length w.relations → get_or firsts i 0 ≡ relation_words (elements w) (take i w.relations)
