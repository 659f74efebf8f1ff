use Rattle.rows.proofs.AllStatements.{all_parts, rows_end}
use native.Mathlib.Omega.{arith}
use Rattle.std.proofs.lemmas.Result.{err_from_is_err_and}
use Rattle.rows.proofs.program_rows.Goals as goal

pub loop-k-init : goal.loop-k-init
loop-k-init c = (omega arith, c.requires.small, λ S total q. q)

pub step-requires : goal.step-requires
step-requires c = record { s_le_k = (omega arith, (omega arith, (omega arith, omega arith))); small_2 = c.loop-k.invariant.1 }

pub returns-in_err-s : goal.returns-in_err-s
returns-in_err-s c = let a = c.args in
    let p = err_from_is_err_and c.from_residual.result c.from_residual.ensures.1 in
    rw (p.1, p.2) (λ S p o e. c.in_err-s.ensures.rows S _ (c.loop-k.invariant.2 S _ (all_parts a.words.now a.ids.now a.known.now S p o e)))

pub loop-k-preserved : goal.loop-k-preserved
loop-k-preserved c = let e = c.in_ok-s.ensures in
    (e.small.1, e.small.0, λ S total q. e.rows S total (c.loop-k.invariant.2 S total q))

pub returns : goal.returns
returns c = let a = c.args in
    let l = c.loop-k in
    λ S p o e. rows_end a.words.now a.ids.now a.known.now S l.s l.k _ c.loop-k-test.false (l.invariant.2 S _ (all_parts a.words.now a.ids.now a.known.now S p o e))
