use Rattle.facts.proofs.UseLaws.{Entering}
use Rattle.facts.proofs.use_elements.Given as goal

abbrev pub invariant-loop-i : goal.invariant-loop-i
invariant-loop-i l = Entering l.facts l.query l.a l.f l.initial.universe l.n l.universe l.count l.i
