use Rattle.rows.proofs.Loops.{fit_no, fit_yes, fit_end}
use Rattle.rows.specs.Tests.{all_fit}
use mathlib.Core.Path.{ap}
use borrow.Author.Tests.{not-true, not-false}
use native.Mathlib.Omega.{arith}
use Rattle.rows.proofs.all_fit.Goals as goal

pub loop-i-init : goal.loop-i-init
loop-i-init c = ap (all_fit _ _) (omega arith)

pub returns-then-not-fits : goal.returns-then-not-fits
returns-then-not-fits c = let l = c.loop-i in
    fit_no _ _ _ l.i _ l.invariant _ c.loop-i-test.true c.fits.ensures (not-true _ c.if-not-fits.true-raw)

pub loop-i-preserved : goal.loop-i-preserved
loop-i-preserved c = let l = c.loop-i in
    fit_yes _ _ _ l.i _ l.invariant _ c.loop-i-test.true c.fits.ensures (not-false _ c.if-not-fits.false-raw)

pub returns : goal.returns
returns c = let l = c.loop-i in
    fit_end _ _ _ l.i _ l.invariant c.loop-i-test.false
