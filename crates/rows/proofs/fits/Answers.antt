use Rattle.rows.proofs.Loops.{fits_closure, fits_count, fits_item, fits_other}
use Rattle.free.specs.Words.{at}
use native.Mathlib.Omega.{arith}
use Rattle.rows.proofs.fits.Goals as goal

pub returns-in-21 : goal.returns-in-21
returns-in-21 c = let a = c.args in
    fits_closure (at a.fr.now) _ a.w _ _ c.count.ensures c.in-21.is c.word_at.ensures

pub returns-in-24 : goal.returns-in-24
returns-in-24 c = let a = c.args in
    fits_count (at a.fr.now) _ a.w _ _ c.count-in-24.ensures c.in-24.is c.word_at-in-24.ensures

pub returns-in-29 : goal.returns-in-29
returns-in-29 c = let a = c.args in
    fits_item (at a.fr.now) a.j a.w _ _ c.count-in-29.ensures (omega arith) (omega arith) c.word_before.ensures

pub returns-in_default : goal.returns-in_default
returns-in_default c = let z = c.in_default.in_default-own.rest in
    fits_other _ _ _ z.0.1 z.1 (λ e. omega arith) (λ e. omega arith)

pub returns-in_default-2 : goal.returns-in_default-2
returns-in_default-2 c = let z = c.in_default.in_default-own.rest in
    fits_other _ _ _ z.0.1 z.1 (λ e. omega arith) (λ e. omega arith)
