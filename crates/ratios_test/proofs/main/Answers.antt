use borrow.Author.Tests.{eq-eqb}
use Rattle.definition.specs.Decimals.{gcd}
use Rattle.definition.specs.Decimals.{common, gcd}
use Rattle.ratios_test.proofs.main.Goals as goal

pub expect-requires : goal.expect-requires
unfolding common gcd
expect-requires c = eq-eqb _ _ c.gcd.ensures

pub expect-requires-2 : goal.expect-requires-2
unfolding common gcd
expect-requires-2 c = eq-eqb _ _ c.gcd-2.ensures

pub expect-requires-3 : goal.expect-requires-3
unfolding common gcd
expect-requires-3 c = eq-eqb _ _ c.gcd-3.ensures

pub expect-requires-4 : goal.expect-requires-4
unfolding common gcd
expect-requires-4 c = eq-eqb _ _ c.gcd-4.ensures

pub expect-requires-5 : goal.expect-requires-5
unfolding common gcd
expect-requires-5 c = eq-eqb _ _ c.gcd-5.ensures

pub expect-requires-6 : goal.expect-requires-6
unfolding common gcd
expect-requires-6 c = eq-eqb _ _ c.reduced-most.ensures.0

pub expect-requires-7 : goal.expect-requires-7
unfolding common gcd
expect-requires-7 c = eq-eqb _ _ c.reduced-most.ensures.1

pub expect-requires-8 : goal.expect-requires-8
unfolding common gcd
expect-requires-8 c = eq-eqb _ _ c.reduced-none.ensures.0

pub expect-requires-9 : goal.expect-requires-9
unfolding common gcd
expect-requires-9 c = eq-eqb _ _ c.reduced-none.ensures.1

pub expect-requires-10 : goal.expect-requires-10
unfolding common gcd
expect-requires-10 c = eq-eqb _ _ c.reduced-zero.ensures.1
