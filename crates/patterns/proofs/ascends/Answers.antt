use mathlib.Core.Path.{refl, sym, ◌∙◌}
use borrow.Author.Rules.{rules}
use native.Mathlib.Omega.{arith}
use Rattle.patterns.proofs.ByteLaws.{listed_end, listed_byte, listed_falls, listed_range}
use Rattle.patterns.proofs.ascends.Goals as goal

pub loop-i-init : goal.loop-i-init
loop-i-init c = (search rules, refl)

pub overflow_sub-n : goal.overflow_sub-n
overflow_sub-n c = omega arith

pub returns-then-n-i-lt3 : goal.returns-then-n-i-lt3
returns-then-n-i-lt3 c = sym (c.loop-i.invariant.1 ∙ listed_end _ c.loop-i.i c.if-n-i-lt3.true)

pub overflow_add-i : goal.overflow_add-i
overflow_add-i c = omega arith

pub bounds-t-i : goal.bounds-t-i
bounds-t-i c = omega arith

pub overflow_add-i-then-t-i-ne45 : goal.overflow_add-i-then-t-i-ne45
overflow_add-i-then-t-i-ne45 c = omega arith

pub loop-i-smaller-then-t-i-ne45 : goal.loop-i-smaller-then-t-i-ne45
loop-i-smaller-then-t-i-ne45 c = omega arith

pub loop-i-preserved-then-t-i-ne45 : goal.loop-i-preserved-then-t-i-ne45
loop-i-preserved-then-t-i-ne45 c = (omega arith, c.loop-i.invariant.1 ∙ listed_byte _ c.loop-i.i (omega arith) c.if-t-i-ne45.true)

pub overflow_add-i-in-loop-i : goal.overflow_add-i-in-loop-i
overflow_add-i-in-loop-i c = omega arith

pub bounds-t-i-in-loop-i : goal.bounds-t-i-in-loop-i
bounds-t-i-in-loop-i c = omega arith

pub bounds-t-i-in-loop-i-2 : goal.bounds-t-i-in-loop-i-2
bounds-t-i-in-loop-i-2 c = omega arith

pub returns-then-t-i : goal.returns-then-t-i
returns-then-t-i c = sym (c.loop-i.invariant.1 ∙ listed_falls _ c.loop-i.i (omega (arith, c.if-n-i-lt3.false)) c.if-t-i-ne45.false c.if-t-i.true)

pub overflow_add-i-in-loop-i-2 : goal.overflow_add-i-in-loop-i-2
overflow_add-i-in-loop-i-2 c = omega arith

pub loop-i-smaller : goal.loop-i-smaller
loop-i-smaller c = omega arith

pub loop-i-preserved : goal.loop-i-preserved
loop-i-preserved c = (omega arith, c.loop-i.invariant.1 ∙ listed_range _ c.loop-i.i (omega (arith, c.if-n-i-lt3.false)) c.if-t-i-ne45.false c.if-t-i.false)

pub returns : goal.returns
returns c = sym (c.loop-i.invariant.1 ∙ listed_end _ c.loop-i.i (omega arith))
