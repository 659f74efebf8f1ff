use Rattle.rows.proofs.Loops.{left_start, left_on, left_end}
use Rattle.slots.specs.Slots.{digit_at}
use mathlib.Core.Path.{ap, ◌∙◌}
use native.Mathlib.Omega.{arith}
use Rattle.rows.proofs.left.Goals as goal

pub loop-j-init : goal.loop-j-init
loop-j-init c = (omega arith, left_start _ _ _ _)

pub loop-j-preserved : goal.loop-j-preserved
loop-j-preserved c = let l = c.loop-j in
    (c.add-a.ensures.1, left_on _ _ _ _ l.j l.a _ l.invariant.1 c.digit_at.result _ c.loop-j-test.true (c.digit_at.ensures.0 ∙ ap (digit_at _ _) c.word_at.ensures) c.add-a.ensures.0)

pub returns : goal.returns
returns c = let l = c.loop-j in
    (left_end _ _ _ _ l.j l.a _ l.invariant.1 c.loop-j-test.false, l.invariant.0)
