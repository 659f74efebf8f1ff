use Rattle.layout.proofs.SizeLaws.{Closing}
use Rattle.layout.proofs.lay_closures.Given as goal

abbrev pub invariant-loop-c : goal.invariant-loop-c
invariant-loop-c l = Closing l.u l.from l.initial.firsts l.firsts l.next l.c
