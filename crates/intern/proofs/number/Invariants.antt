use Prim.Native.Nat.{◌-◌}
use mathlib.Core.Path.{◌≡◌}
use Rattle.intern.specs.Numbers.{name_of, seek, number_of}
use Rattle.intern.proofs.number.Given as goal

abbrev pub invariant-loop-j : goal.invariant-loop-j
invariant-loop-j l = number_of (name_of l.facts l.query l.relations l.tokens) l.i ≡ seek (name_of l.facts l.query l.relations l.tokens) l.x (l.i - l.j) l.j
