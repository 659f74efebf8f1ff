use mathlib.Core.Path.{sym, ◌∙◌}
use native.Mathlib.Omega.{arith}
use lib.ListN.{length}
use Rattle.actions.proofs.Rooms.{assign_wide, assign_short, assign_here, has_place, has_scratch, not_true, not_false}
use Rattle.actions.proofs.assign_word.Goals as goal

pub returns-then-n-gt4 : goal.returns-then-n-gt4
returns-then-n-gt4 c = let a = c.args in assign_wide a.words.now a.firsts.now a.u a.scr a.w a.at a.vars.now a.store.now c.if-n-gt4.true

pub returns-then-not-has_room : goal.returns-then-not-has_room
returns-then-not-has_room c = let a = c.args in assign_short a.words.now a.firsts.now a.u a.scr a.w a.at a.vars.now a.store.now c.if-n-gt4.false c.word_at-off.ensures c.table_words-len.ensures (sym c.has_room.ensures ∙ not_true c.has_room.result c.if-not-has_room.true-raw)

pub assign-requires : goal.assign-requires
assign-requires c = let a = c.args in
    let r = (sym c.has_room.ensures ∙ not_false c.has_room.result c.if-not-has_room.false-raw) in
    (omega arith, omega (arith, c.if-n-gt4.false), c.table_words-len.ensures, has_place _ _ a.scr (length a.store.now) r, has_scratch _ _ a.scr (length a.store.now) r)

pub returns : goal.returns
returns c = let a = c.args in
    let r = (sym c.has_room.ensures ∙ not_false c.has_room.result c.if-not-has_room.false-raw) in
    c.assign.ensures
    ∙ assign_here a.words.now a.firsts.now a.u a.scr a.w a.at a.vars.now a.store.now c.if-n-gt4.false c.word_at-off.ensures c.table_words-len.ensures c.previous-e.result c.left_side.result c.previous-e.ensures c.left_side.ensures r
