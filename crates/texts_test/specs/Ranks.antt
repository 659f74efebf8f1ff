-- An order as a number, for the checks.
use Rattle.std.specs.Prelude.{ℕ}
use Rattle.std.specs.declared.cmp.Ordering.{Ordering}
use Rattle.std.specs.declared.cmp.Ordering.TheVariants.{Less, Equal, Greater}

abbrev pub rank_of : Ordering → ℕ
rank_of Less = 0
rank_of Equal = 1
rank_of Greater = 2
