use Rattle.eval.proofs.Trees.{child_below}
use Rattle.closures.proofs.Parts.{past_end}
use Rattle.closures.proofs.child_place.Goals as goal

pub returns-then-m-k : goal.returns-then-m-k
returns-then-m-k c = let a = c.args in child_below a.nodes.now a.k a.c c.if-m-k.true

pub returns-else-m-k : goal.returns-else-m-k
returns-else-m-k c = let a = c.args in past_end a.nodes.now a.k a.c c.if-m-k.false
