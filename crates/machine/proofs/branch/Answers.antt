use Rattle.machine.proofs.Acting.{by_yes, by_no}
use Rattle.machine.proofs.branch.Goals as goal

pub returns-then-test_at : goal.returns-then-test_at
returns-then-test_at c = record { value = by_yes c.test_at.ensures.value c.if-test_at.true _ _; store_after = c.test_at.ensures.store_after }

pub returns : goal.returns
returns c = record { value = by_no c.test_at.ensures.value c.if-test_at.false _ _; store_after = c.test_at.ensures.store_after }
