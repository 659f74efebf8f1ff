use Rattle.simple.proofs.AssignLaws.{Repeated}
use Rattle.simple.proofs.repeat.Given as goal

abbrev pub invariant-loop-j : goal.invariant-loop-j
invariant-loop-j l = Repeated l.tokens l.p l.m l.k l.initial.words l.words l.j
