use Rattle.expressions.proofs.QuantifierLaws.{Binding}
use Rattle.expressions.proofs.bind.Given as goal

abbrev pub invariant-loop-i : goal.invariant-loop-i
invariant-loop-i l = Binding l.initial.words l.kind l.n l.m l.l l.words l.i l.k
