use Rattle.layout.proofs.RecordLaws.{Recording}
use Rattle.layout.proofs.records.Given as goal

abbrev pub invariant-loop-i : goal.invariant-loop-i
invariant-loop-i l = Recording l.facts l.query l.u l.relations l.sizes l.rs l.next l.i
