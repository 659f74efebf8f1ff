use Rattle.rows.proofs.OneStatement.{row_13, refused_words, refused_own, no_row, not_over}
use borrow.Author.Tests.{not-true, not-false}
use native.Mathlib.Omega.{arith}
use Rattle.rows.proofs.statement.Goals as goal

pub returns-then-too_much : goal.returns-then-too_much
returns-then-too_much c = let a = c.args in
    record { rows = (λ S i us es right st. row_13 _ _ _ S a.s a.k i us es right (omega (arith, c.requires)) st _ c.collect-f.ensures _ c.too_much.ensures c.if-too_much.true); small = c.requires.small_2 }

pub fill-requires : goal.fill-requires
fill-requires c = record { s_le_e = (omega arith, (omega arith, not_over _ _ _ c.too_much.ensures c.if-too_much.false)); small = c.requires.small_2 }

pub returns-then-not-all_fit : goal.returns-then-not-all_fit
returns-then-not-all_fit c = let a = c.args in
    record { rows = (λ S i us es right st. refused_words _ _ _ S a.s a.k i us es right (omega (arith, c.requires)) st _ c.collect-f.ensures _ c.too_much.ensures c.if-too_much.false c.fill.new.fr c.fill.ensures.filled _ c.all_fit.ensures (not-true _ c.if-not-all_fit.true-raw)); small = c.fill.ensures.small_2 }

pub own_fits-requires : goal.own_fits-requires
own_fits-requires c = not_over _ _ _ c.too_much.ensures c.if-too_much.false

pub returns-then-not-own_fits : goal.returns-then-not-own_fits
returns-then-not-own_fits c = let a = c.args in
    record { rows = (λ S i us es right st. refused_own _ _ _ S a.s a.k i us es right (omega (arith, c.requires)) st _ c.collect-f.ensures _ c.too_much.ensures c.if-too_much.false c.fill.new.fr c.fill.ensures.filled _ _ c.all_fit.ensures (not-false _ c.if-not-all_fit.false-raw) c.own_fits.ensures (not-true _ c.if-not-own_fits.true-raw)); small = c.fill.ensures.small_2 }

pub returns : goal.returns
returns c = let a = c.args in
    record { rows = (λ S i us es right st. no_row _ _ _ S a.s a.k i us es right (omega (arith, c.requires)) st _ c.collect-f.ensures _ c.too_much.ensures c.if-too_much.false c.fill.new.fr c.fill.ensures.filled _ _ c.all_fit.ensures (not-false _ c.if-not-all_fit.false-raw) c.own_fits.ensures (not-false _ c.if-not-own_fits.false-raw)); small = c.fill.ensures.small_2 }
