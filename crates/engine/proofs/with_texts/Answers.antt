use Rattle.engine.proofs.Begins.{too_short}
use Rattle.engine.proofs.with_texts.Goals as goal

pub returns-then-store-room : goal.returns-then-store-room
returns-then-store-room c = λ w g.
    let l = c.lay-room.ensures c.args.facts.now c.args.query.now w g.known.relations g.size in
    too_short c.args.facts.now c.args.query.now c.args.relations.now c.args.places.now c.args.low.now w g _ _ _ l c.args.store.now c.if-store-room.true c.args.output.now c.args.budget _
    c.not_run.ensures

pub returns : goal.returns
returns c = λ w g. c.from_facts.ensures w g (c.lay-room.ensures c.args.facts.now c.args.query.now w g.known.relations g.size)
