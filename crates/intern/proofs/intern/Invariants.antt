use lib.ListN.{length}
use Rattle.intern.specs.Numbers.{name_of, Numbered}
use Rattle.intern.proofs.intern.Given as goal

abbrev pub invariant-loop-t : goal.invariant-loop-t
invariant-loop-t l = Numbered (name_of l.facts l.query l.relations l.tokens) (length l.relations) l.ids l.t
