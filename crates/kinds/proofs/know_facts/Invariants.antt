use Rattle.kinds.specs.Resolved.{FactsKnown}
use Rattle.kinds.proofs.know_facts.Given as goal

abbrev pub invariant-loop-i : goal.invariant-loop-i
invariant-loop-i l = FactsKnown l.relations l.known l.i
