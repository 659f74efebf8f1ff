use mathlib.Core.Path.{◌≡◌, ◌∙◌}
use native.Mathlib.Omega.{arith}
use Rattle.layout.proofs.SizeLaws.{closing_start, closing_next}
use Rattle.layout.proofs.lay_closures.Goals as goal

pub loop-c-init : goal.loop-c-init
loop-c-init c = closing_start c.args.u c.args.from _

pub overflow_add-next : goal.overflow_add-next
overflow_add-next c = omega (arith, c.loop-c.invariant.small)

pub loop-c-preserved : goal.loop-c-preserved
loop-c-preserved c = let l = c.loop-c in closing_next c.args.u c.args.from _ l.firsts l.next l.c l.invariant c.requires.1 (omega arith)

pub returns : goal.returns
returns c = let l = c.loop-c in
    let e : l.c ≡ 16 = omega arith in
    record { value = l.invariant.next_is ∙ rw e; small = omega (arith, l.invariant.small); firsts = (λ j k. l.invariant.at j (omega arith)); before = l.invariant.before }
