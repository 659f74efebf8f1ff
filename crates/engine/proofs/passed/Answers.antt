use lib.ListN.{length}
use Rattle.engine.proofs.Checks.{known_size, check_accepted}
use Rattle.engine.proofs.passed.Goals as goal

pub returns : goal.returns
returns c = λ w k.
    let size = known_size k in
    check_accepted c.args.facts.now c.args.query.now w c.args.relations.now _ (length c.args.places.now) _ _ _ k.accepted k.relations size
    (c.lay-l.ensures c.args.facts.now c.args.query.now w k.relations size) (c.records.ensures w k.relations size (c.count_facts-sizes.ensures w k))
