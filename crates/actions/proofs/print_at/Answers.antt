use Rattle.lines.specs.Lines.{texts}
use Rattle.actions.proofs.Doings.{leaves, prints}
use Rattle.actions.proofs.print_at.Goals as goal

pub returns : goal.returns
returns c = let a = c.args in
    record { printed = prints a.words.now a.firsts.now a.u a.vars.now a.store.now a.at c.start_of-lo.result c.start_of-lo.ensures.0 _ c.fill_closures.ensures (texts a.facts.now a.query.now a.places.now) a.out.now a.from _ _ c.print-r.ensures; store_after = leaves a.words.now a.firsts.now a.u a.vars.now a.store.now a.at c.start_of-lo.result c.start_of-lo.ensures.0 _ c.fill_closures.ensures _ c.clear_closures.ensures }
