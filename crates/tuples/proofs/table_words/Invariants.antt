use Prim.Native.Nat.{suc, ◌-◌, ◌≤◌}
use mathlib.Core.Path.{◌≡◌}
use Rattle.definition.specs.Tables.{table_words}
use Rattle.tuples.proofs.table_words.Given as goal

abbrev pub invariant-loop : goal.invariant-loop
invariant-loop l = (l.counter ≤ suc (l.n - 1)) × (l.words ≡ table_words l.u l.counter)
