use borrow.Author.Tests.{eq-eqb}
use Rattle.definition.specs.Tables.{bit, word}
use Rattle.bits.specs.Bits.{with_bit}
use Rattle.bits_test.proofs.main.Goals as goal

pub expect-requires : goal.expect-requires
unfolding bit word with_bit
expect-requires c = c.test_bit.ensures

pub expect-requires-2 : goal.expect-requires-2
unfolding bit word with_bit
expect-requires-2 c = simp c.test_bit-2.ensures

pub expect-requires-3 : goal.expect-requires-3
unfolding bit word with_bit
expect-requires-3 c = c.test_bit-3.ensures

pub expect-requires-4 : goal.expect-requires-4
unfolding bit word with_bit
expect-requires-4 c = simp c.test_bit-4.ensures

pub expect-requires-5 : goal.expect-requires-5
unfolding bit word with_bit
expect-requires-5 c = eq-eqb _ _ c.set_bit.ensures

pub expect-requires-6 : goal.expect-requires-6
unfolding bit word with_bit
expect-requires-6 c = eq-eqb _ _ c.set_bit-2.ensures

pub expect-requires-7 : goal.expect-requires-7
unfolding bit word with_bit
expect-requires-7 c = eq-eqb _ _ c.set_bit-3.ensures

pub expect-requires-8 : goal.expect-requires-8
unfolding bit word with_bit
expect-requires-8 c = eq-eqb _ _ c.put_bit.ensures

pub expect-requires-9 : goal.expect-requires-9
unfolding bit word with_bit
expect-requires-9 c = eq-eqb _ _ c.put_bit-2.ensures
