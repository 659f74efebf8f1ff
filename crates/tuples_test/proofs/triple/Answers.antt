use Rattle.definition.specs.Tables.{bit, holds, holds_from}
use Rattle.tuples_test.proofs.triple.Goals as goal

pub expect-requires : goal.expect-requires
unfolding bit holds holds_from
expect-requires c = c.has.ensures

pub expect-requires-2 : goal.expect-requires-2
unfolding bit holds holds_from
expect-requires-2 c = simp c.has-2.ensures
