-- Rows: several sets of positions, side by side.
use Rattle.std.specs.Prelude.{ℕ, suc, ◌*◌, ◌<◌, ◌≡◌, List, length, get_or}
use Rattle.std.specs.Int.Bits.{bit_and}
use Rattle.definition.specs.Text.{Text}
use Rattle.definition.specs.Pattern.{Reading, times}
use Rattle.bits.specs.Bits.{with_bit}
use Rattle.matching.specs.Images.{Leads, itself, up_to_or_any}

-- P holds of each place in a list, what stood there, and what stands there
pub record Each (P : ℕ → ℕ → ℕ → Type 0) (old new : List ℕ) : Type 0 where
  pub long : length new ≡ length old
  pub each : (i : ℕ) → i < length old → P i (get_or old i 0) (get_or new i 0)

-- each row is where a phrase leads from what it was
abbrev pub Led : Reading → Text → List ℕ → List ℕ → Type 0
Led o e old new = Each (λ i a r. Leads o e itself a r) old new

-- a phrase leads one position on from the places in w
pub record Moves (o : Reading) (e : Text) (w : ℕ) : Type 0 where
  pub leads : (a : ℕ) → Leads o e itself a (bit_and a w * 2)

-- row k of a table is where a phrase leads from position k
pub record Turn (o : Reading) (e : Text) (table : List ℕ) : Type 0 where
  pub short : length e < 64
  pub long : length table ≡ suc (length e)
  pub row : (k : ℕ) → k < suc (length e) → Leads o e itself (with_bit 0 k) (get_or table k 0)

-- k turns of a phrase lead from a to some set, and up to h more from there to r; 9 is any number
pub record Turns (o : Reading) (e : Text) (k h a r : ℕ) : Type 0 where
  pub first : ℕ
  pub asked : Leads o e (times k 0) a first
  pub taken : Leads o e (up_to_or_any h) first r
