use Rattle.actions.proofs.Doings.{leaves, ranges}
use Rattle.actions.proofs.range_at.Goals as goal

pub returns : goal.returns
returns c = let a = c.args in
    record { value = ranges a.words.now a.firsts.now a.u a.vars.now a.store.now a.at c.start_of-lo.result c.start_of-lo.ensures.0 _ c.fill_closures.ensures _ c.previous.ensures _ _ c.word_at.ensures c.row-r.ensures; store_after = leaves a.words.now a.firsts.now a.u a.vars.now a.store.now a.at c.start_of-lo.result c.start_of-lo.ensures.0 _ c.fill_closures.ensures _ c.clear_closures.ensures }
