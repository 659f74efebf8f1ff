-- A part of two texts as a part of them in the other order: the number of its text is the other one.
use Rattle.std.specs.Prelude.{ℕ, ◌+◌, ◌-◌, ◌/◌, ◌%◌, cond, eqb}

unfoldable pub turned : ℕ → ℕ
turned w = cond (eqb (w / 4 % 2) 0) (w + 4) (w - 4)
