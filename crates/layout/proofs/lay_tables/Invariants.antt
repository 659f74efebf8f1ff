use Rattle.layout.proofs.SizeLaws.{Laying}
use Rattle.layout.proofs.lay_tables.Given as goal

abbrev pub invariant-loop-i : goal.invariant-loop-i
invariant-loop-i l = Laying l.u l.relations l.firsts l.next l.i
