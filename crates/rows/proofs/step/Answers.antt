use Rattle.rows.proofs.AllStatements.{turn_none, turn_between, turn_own}
use native.Mathlib.Omega.{arith}
use Rattle.std.specs.Prelude.{Ok, Err}
use Rattle.std.proofs.lemmas.Result.{err_from_is_err_and}
use Rattle.rows.proofs.step.Goals as goal

pub returns-in_err-statement : goal.returns-in_err-statement
returns-in_err-statement c = let a = c.args in
    let m = c.in_err-statement in
    let p = err_from_is_err_and c.from_residual.result c.from_residual.ensures.1 in
    rw (p.1, p.2) (record { rows = (λ S rest q. turn_own a.words.now a.ids.now a.known.now S a.s a.k (omega (arith, c.requires)) _ c.ends-c.ensures (Err m.field-0.0) rest c.if-c-eq2.true q (m.ensures.rows S)); small = (m.ensures.small, tt) })

pub returns-then-c-eq2 : goal.returns-then-c-eq2
returns-then-c-eq2 c = let a = c.args in
    let m = c.in_ok-statement in
    record { rows = (λ S rest q. turn_own a.words.now a.ids.now a.known.now S a.s a.k (omega (arith, c.requires)) _ c.ends-c.ensures (Ok m.field-0) rest c.if-c-eq2.true q (m.ensures.rows S)); small = (m.ensures.small, omega arith) }

pub returns-then-c-eq1 : goal.returns-then-c-eq1
returns-then-c-eq1 c = let a = c.args in
    record { rows = (λ S rest q. turn_between a.words.now a.ids.now a.known.now S a.s a.k (omega (arith, c.requires)) _ c.ends-c.ensures rest c.if-c-eq2.false c.if-c-eq1.true q); small = (c.requires.small_2, omega arith) }

pub returns : goal.returns
returns c = let a = c.args in
    record { rows = (λ S rest q. turn_none a.words.now a.ids.now a.known.now S a.s a.k (omega (arith, c.requires)) _ c.ends-c.ensures rest c.if-c-eq2.false c.if-c-eq1.false q); small = (c.requires.small_2, omega arith) }
