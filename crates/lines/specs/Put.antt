-- Bytes put to a buffer, or only counted. Places past the buffer's end are all taken for the one just past it.
use Rattle.std.specs.Prelude.{ℕ, ◌+◌, min, ◌≡◌, Bool, cond, List, leb, length}
use Rattle.std.proofs.lemmas.List.Edits.{sets}
use Rattle.definition.specs.Text.{Text}

-- the bytes x from place `at` on, which end at place r: out' has them where they are written
pub record Put (write : Bool) (out : List ℕ) (at : ℕ) (x : Text) (r : ℕ) (out' : List ℕ) : Type 0 where
  pub end : r ≡ min (at + length x) (length out + 1)
  pub bytes : out' ≡ cond write (sets out at x) out

-- the bytes x from place `at` on where they fit, and nothing where not
pub record Printed (out : List ℕ) (at : ℕ) (x : Text) (r : ℕ) (out' : List ℕ) : Type 0 where
  pub end : r ≡ min (at + length x) (length out + 1)
  pub bytes : out' ≡ cond (leb (at + length x) (length out)) (sets out at x) out
