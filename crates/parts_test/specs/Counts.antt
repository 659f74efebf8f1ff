-- The count of an answer as a number, for the checks.
use Rattle.std.specs.Prelude.{ℕ, Option, Some, None}

abbrev pub count_of : Option ℕ → ℕ
count_of (Some n) = n
count_of None = 0
