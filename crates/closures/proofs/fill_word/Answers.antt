use mathlib.Core.Path.{◌∙◌}
use native.Mathlib.Omega.{arith}
use Rattle.eval.specs.Nodes.{node_at}
use Rattle.closures.proofs.Fills.{fill_other, fill_short, fill_here}
use Rattle.closures.proofs.fill_word.Goals as goal

pub returns-then-w-ne21 : goal.returns-then-w-ne21
returns-then-w-ne21 c = let a = c.args in
    fill_other a.firsts.now a.vars.now a.u a.nodes.now a.k a.store.now c.word_at-w.result c.word_at-w.ensures c.if-w-ne21.true

pub returns-then-o-len : goal.returns-then-o-len
returns-then-o-len c = let a = c.args in
    fill_short a.firsts.now a.vars.now a.u a.nodes.now a.k a.store.now c.word_at-w.result c.word_at-o.result c.word_at-w.ensures c.word_at-o.ensures (omega (arith, c.if-o-len.true))

pub returns-then-u-len : goal.returns-then-u-len
returns-then-u-len c = let a = c.args in
    fill_short a.firsts.now a.vars.now a.u a.nodes.now a.k a.store.now c.word_at-w.result c.word_at-o.result c.word_at-w.ensures c.word_at-o.ensures (omega (arith, c.if-u-len.true, c.if-o-len.false))

pub returns : goal.returns
returns c = let a = c.args in
    let w = c.word_at-w in
    let o = c.word_at-o in
    let t = c.child_place-n in
    c.fill_closure.ensures
    ∙ fill_here a.firsts.now a.vars.now a.u a.nodes.now a.k a.store.now w.result o.result (node_at a.nodes.now t.result) w.ensures c.if-w-ne21.false o.ensures t.ensures (omega (arith, c.if-u-len.false, c.if-o-len.false))
