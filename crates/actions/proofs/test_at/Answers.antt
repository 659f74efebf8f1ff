use Rattle.actions.proofs.Doings.{leaves, tests}
use Rattle.actions.proofs.test_at.Goals as goal

pub returns : goal.returns
returns c = let a = c.args in
    record { value = tests a.words.now a.firsts.now a.u a.vars.now a.store.now a.at c.start_of-lo.result c.start_of-lo.ensures.0 _ c.fill_closures.ensures _ c.previous.ensures _ c.eval-r.ensures; store_after = leaves a.words.now a.firsts.now a.u a.vars.now a.store.now a.at c.start_of-lo.result c.start_of-lo.ensures.0 _ c.fill_closures.ensures _ c.clear_closures.ensures }
