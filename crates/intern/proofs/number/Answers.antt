use native.Mathlib.Omega.{arith}
use mathlib.Core.Path.{sym, ◌∙◌}
use Rattle.intern.proofs.Numbering.{seek_miss, seek_hit, seek_none, seek_skip, number_start}
use Rattle.intern.proofs.number.Goals as goal
use Rattle.intern.proofs.number.Goals.{then-may_be_first+else-same, else-may_be_first}

pub loop-j-init : goal.loop-j-init
loop-j-init c = number_start _ _ _ c.name-x.ensures

pub returns-then-same : goal.returns-then-same
returns-then-same c = let l = c.loop-j in
    sym (l.invariant ∙ seek_hit _ _ _ l.j _ _ c.loop-j-test.true c.name-y.ensures c.same.ensures c.if-same.true)

pub loop-j-preserved : goal.loop-j-preserved
loop-j-preserved c = let l = c.loop-j in
    elim c.if-may_be_first.branch [
      | then-may_be_first+else-same w ↦ l.invariant ∙ seek_miss _ _ _ l.j _ _ c.loop-j-test.true w.name-y.ensures w.same.ensures w.if-same.false
      | else-may_be_first w ↦ seek_skip _ _ _ c.args.ids.now c.args.i l.j _ c.name-x.ensures c.loop-j-test.true c.requires.numbered c.may_be_first.ensures w.if-may_be_first.false l.invariant
    ]

pub returns : goal.returns
returns c = let l = c.loop-j in
    sym (l.invariant ∙ seek_none _ _ _ l.j c.loop-j-test.false ∙ omega arith)
