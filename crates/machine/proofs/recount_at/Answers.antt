use Rattle.machine.proofs.Recounting.{recount_said}
use Rattle.machine.proofs.recount_at.Goals as goal

pub returns : goal.returns
returns c = let a = c.args in
    recount_said a.words.now a.firsts.now a.store.now a.counts.now _ a.u a.at _ _ c.word_at-w.ensures c.word_at.ensures c.recount.ensures
