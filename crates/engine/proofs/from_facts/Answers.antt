use mathlib.Core.Path.{refl}
use native.Mathlib.Omega.{arith}
use Rattle.engine.proofs.Begins.{ready, begins}
use Rattle.engine.proofs.from_facts.Goals as goal

pub returns : goal.returns
returns c = let load = c.load_facts in
    λ w g l.
    c.steps.ensures w c.args.store.now
    (begins c.args.facts.now c.args.query.now c.args.relations.now c.args.places.now c.args.low.now w g c.args.firsts.now c.args.room.scratch c.args.room.words l _ refl _
    c.args.store.now _ (omega (arith, c.requires))
    (load.ensures.value w (ready c.args.facts.now c.args.query.now c.args.relations.now c.args.places.now c.args.low.now w g c.args.firsts.now c.args.room.scratch c.args.room.words l _ refl) l.needed)
    c.count_all-sizes.ensures)
