use Prim.Native.Nat.{◌+◌, ◌≤◌}
use lib.ListN.{length}
use mathlib.Core.Path.{◌∙◌}
use native.Mathlib.Omega.{arith}
use native.Mathlib.Nat.{add-sub_cancel_left}
use Rattle.actions.proofs.Parts.{clear_other, clear_short, clear_here, cleared_part}
use Rattle.actions.proofs.clear_word.Goals as goal

pub returns-then-w-ne21 : goal.returns-then-w-ne21
returns-then-w-ne21 c = let a = c.args in clear_other a.firsts.now a.u a.nodes.now a.k a.store.now _ c.word_at-w.ensures c.if-w-ne21.true

pub returns-then-o-len : goal.returns-then-o-len
returns-then-o-len c = let a = c.args in clear_short a.firsts.now a.u a.nodes.now a.k a.store.now _ _ c.word_at-w.ensures c.word_at-o.ensures (omega (arith, c.if-o-len.true))

pub returns-then-u-len : goal.returns-then-u-len
returns-then-u-len c = let a = c.args in clear_short a.firsts.now a.u a.nodes.now a.k a.store.now _ _ c.word_at-w.ensures c.word_at-o.ensures (omega (arith, c.if-u-len.true, c.if-o-len.false))

pub returns : goal.returns
returns c = let a = c.args in
    let fits : c.word_at-o.result + a.u ≤ length a.store.now = omega (arith, c.if-u-len.false, c.if-o-len.false) in
    cleared_part a.store.now c.word_at-o.result a.u _ _ fits (add-sub_cancel_left _ _) c.clear.ensures
    ∙ clear_here a.firsts.now a.u a.nodes.now a.k a.store.now _ _ c.word_at-w.ensures c.if-w-ne21.false c.word_at-o.ensures fits
