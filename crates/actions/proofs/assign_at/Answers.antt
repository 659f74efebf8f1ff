use Rattle.actions.proofs.Doings.{assigns}
use Rattle.actions.proofs.assign_at.Goals as goal

pub returns : goal.returns
returns c = let a = c.args in
    assigns a.words.now a.firsts.now a.u a.vars.now a.store.now a.at c.start_of-lo.result c.start_of-lo.ensures.0 _ c.fill_closures.ensures a.scr _ _ _ c.word_at.ensures c.assign_word.ensures c.clear_closures.ensures
