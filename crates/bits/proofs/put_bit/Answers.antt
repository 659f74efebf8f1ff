use Rattle.bits.proofs.put_bit.Goals as goal

pub returns-then-on : goal.returns-then-on
returns-then-on c = simp c.if-on.true c.set_bit.ensures
