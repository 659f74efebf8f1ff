use Rattle.kinds.proofs.Steps.{walk_stops, walk_goes, walk_end}
use mathlib.Core.Path.{◌∙◌}
use Rattle.std.proofs.lemmas.Result.{err_from_is_err_and}
use Rattle.kinds.proofs.use_all.Goals as goal

pub returns-in_err-count : goal.returns-in_err-count
returns-in_err-count c = let l = c.loop-w in
    let p = err_from_is_err_and c.from_residual.result c.from_residual.ensures.1 in
    rw (p.1, p.2) (walk_stops _ _ _ _ _ _ l.w-index _ l.invariant.1 c.loop-w-test.true _ _ c.in_err-count.ensures)

pub loop-w-preserved : goal.loop-w-preserved
loop-w-preserved c = let l = c.loop-w in
    let e = c.in_ok-count.ensures in
    (e.1, walk_goes _ _ _ _ _ _ l.w-index _ l.invariant.1 c.loop-w-test.true _ _ _ e.0)

pub returns : goal.returns
returns c = let l = c.loop-w in
    (l.invariant.1 ∙ walk_end _ _ _ _ l.w-index c.loop-w-test.false, l.invariant.0)
