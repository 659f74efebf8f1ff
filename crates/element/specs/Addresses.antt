-- Where a part of one of two texts begins.
use Rattle.std.specs.Prelude.{ℕ, ◌+◌, ◌≤◌, eqb, length, if◌then◌else◌}
use Rattle.definition.specs.Text.{Text}
use Rattle.definition.specs.Calls.{Part}

-- the address of a part's first byte (a block of memory and an offset there), by those of the facts and of the query
abbrev pub address : ℕ × ℕ → ℕ × ℕ → Part → ℕ × ℕ
address facts query p = let start = if eqb p.text 0 then facts else query in (start.0, start.1 + p.offset)

-- the text that a part is of
abbrev pub source : Text → Text → ℕ → Text
source facts query k = if eqb k 0 then facts else query

-- a part begins in its text, or at its end
abbrev pub Begins : Text → Text → Part → Type 0
Begins facts query p = p.offset ≤ length (source facts query p.text)
