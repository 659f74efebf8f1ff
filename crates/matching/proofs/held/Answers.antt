use borrow.Author.Rules.{rules}
use mathlib.Core.Path.{refl, sym, ◌∙◌}
use native.Mathlib.Omega.{arith}
use Rattle.matching.proofs.ByteLaws.{held_none, last_hit, last_miss, plain_hit, plain_miss, range_below, range_hit, range_above}
use Rattle.matching.proofs.held.Goals as goal

pub loop-i-init : goal.loop-i-init
loop-i-init c = (search rules, refl)

pub overflow_sub-n : goal.overflow_sub-n
overflow_sub-n c = omega arith

pub bounds-t-i : goal.bounds-t-i
bounds-t-i c = omega arith

pub returns-then-t-i : goal.returns-then-t-i
returns-then-t-i c = sym (c.loop-i.invariant.1 ∙ last_hit c.args.t.now c.loop-i.i c.args.b c.loop-i-test.true c.if-n-i-lt3.true c.if-t-i.true)

pub overflow_add-i : goal.overflow_add-i
overflow_add-i c = omega arith

pub loop-i-smaller-then-n-i-lt3 : goal.loop-i-smaller-then-n-i-lt3
loop-i-smaller-then-n-i-lt3 c = omega arith

pub loop-i-preserved-then-n-i-lt3 : goal.loop-i-preserved-then-n-i-lt3
loop-i-preserved-then-n-i-lt3 c = (omega arith, c.loop-i.invariant.1 ∙ last_miss c.args.t.now c.loop-i.i c.args.b c.loop-i-test.true c.if-n-i-lt3.true c.if-t-i.false)

pub overflow_add-i-in-loop-i : goal.overflow_add-i-in-loop-i
overflow_add-i-in-loop-i c = omega arith

pub bounds-t-i-in-loop-i : goal.bounds-t-i-in-loop-i
bounds-t-i-in-loop-i c = omega arith

pub bounds-t-i-then-t-i-ne45 : goal.bounds-t-i-then-t-i-ne45
bounds-t-i-then-t-i-ne45 c = omega arith

pub returns-then-t-i-2 : goal.returns-then-t-i-2
returns-then-t-i-2 c = sym (c.loop-i.invariant.1 ∙ plain_hit c.args.t.now c.loop-i.i c.args.b (omega (arith, c.if-n-i-lt3.false)) c.if-t-i-ne45.true c.if-t-i-2.true)

pub overflow_add-i-then-t-i-ne45 : goal.overflow_add-i-then-t-i-ne45
overflow_add-i-then-t-i-ne45 c = omega arith

pub loop-i-smaller-then-t-i-ne45 : goal.loop-i-smaller-then-t-i-ne45
loop-i-smaller-then-t-i-ne45 c = omega arith

pub loop-i-preserved-then-t-i-ne45 : goal.loop-i-preserved-then-t-i-ne45
loop-i-preserved-then-t-i-ne45 c = (omega arith, c.loop-i.invariant.1 ∙ plain_miss c.args.t.now c.loop-i.i c.args.b (omega (arith, c.if-n-i-lt3.false)) c.if-t-i-ne45.true c.if-t-i-2.false)

pub bounds-t-i-in-loop-i-2 : goal.bounds-t-i-in-loop-i-2
bounds-t-i-in-loop-i-2 c = omega arith

pub overflow_add-i-then-b-t : goal.overflow_add-i-then-b-t
overflow_add-i-then-b-t c = omega arith

pub loop-i-smaller-then-b-t : goal.loop-i-smaller-then-b-t
loop-i-smaller-then-b-t c = omega arith

pub loop-i-preserved-then-b-t : goal.loop-i-preserved-then-b-t
loop-i-preserved-then-b-t c = (omega arith, c.loop-i.invariant.1 ∙ range_below c.args.t.now c.loop-i.i c.args.b (omega (arith, c.if-n-i-lt3.false)) c.if-t-i-ne45.false c.if-b-t.true)

pub overflow_add-i-in-loop-i-2 : goal.overflow_add-i-in-loop-i-2
overflow_add-i-in-loop-i-2 c = omega arith

pub bounds-t-i-in-loop-i-3 : goal.bounds-t-i-in-loop-i-3
bounds-t-i-in-loop-i-3 c = omega arith

pub returns-then-b-t-2 : goal.returns-then-b-t-2
returns-then-b-t-2 c = sym (c.loop-i.invariant.1 ∙ range_hit c.args.t.now c.loop-i.i c.args.b (omega (arith, c.if-n-i-lt3.false)) c.if-t-i-ne45.false c.if-b-t.false c.if-b-t-2.true)

pub overflow_add-i-in-loop-i-3 : goal.overflow_add-i-in-loop-i-3
overflow_add-i-in-loop-i-3 c = omega arith

pub loop-i-smaller : goal.loop-i-smaller
loop-i-smaller c = omega arith

pub loop-i-preserved : goal.loop-i-preserved
loop-i-preserved c = (omega arith, c.loop-i.invariant.1 ∙ range_above c.args.t.now c.loop-i.i c.args.b (omega (arith, c.if-n-i-lt3.false)) c.if-t-i-ne45.false c.if-b-t.false c.if-b-t-2.false)

pub returns : goal.returns
returns c = sym (c.loop-i.invariant.1 ∙ held_none c.args.t.now c.loop-i.i c.args.b c.loop-i-test.false)
