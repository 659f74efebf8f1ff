use Rattle.universe.proofs.Entering.{Entering}
use Rattle.universe.proofs.enter_strings.Given as goal

abbrev pub invariant-loop-w : goal.invariant-loop-w
invariant-loop-w l = Entering l.facts l.query l.tokens l.words l.initial.places l.n l.places l.count l.w-index
