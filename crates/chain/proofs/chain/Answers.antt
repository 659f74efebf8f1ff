use mathlib.Core.Path.{refl, sym}
use lib.ListN.{replicate}
use lib.Seq.{length-take-le}
use Rattle.std.proofs.lemmas.Result.{err_from_is_err_and}
use Rattle.chain.proofs.Asking.{relations_room, elements_room, are_read, chain_read, chain_refused}
use Rattle.chain.proofs.chain.Goals as goal

pub slice_bounds-relations-end : goal.slice_bounds-relations-end
slice_bounds-relations-end c = relations_room c.args.facts.now (replicate 16 0) c.read_facts.new.relations (replicate 64 0) c.read_facts.new.universe c.read_facts.result c.read_facts.ensures c.in_ok-c.c c.in_ok-c.was

pub slice_bounds-chain_in-end : goal.slice_bounds-chain_in-end
slice_bounds-chain_in-end c = sym (length-take-le _ _ (relations_room c.args.facts.now (replicate 16 0) c.read_facts.new.relations (replicate 64 0) c.read_facts.new.universe c.read_facts.result c.read_facts.ensures c.in_ok-c.c c.in_ok-c.was))

pub slice_bounds-universe-end : goal.slice_bounds-universe-end
slice_bounds-universe-end c = elements_room c.args.facts.now (replicate 16 0) c.read_facts.new.relations (replicate 64 0) c.read_facts.new.universe c.read_facts.result c.read_facts.ensures c.in_ok-c.c c.in_ok-c.was

pub slice_bounds-chain_in-end-2 : goal.slice_bounds-chain_in-end-2
slice_bounds-chain_in-end-2 c = sym (length-take-le _ _ (elements_room c.args.facts.now (replicate 16 0) c.read_facts.new.relations (replicate 64 0) c.read_facts.new.universe c.read_facts.result c.read_facts.ensures c.in_ok-c.c c.in_ok-c.was))

pub chain_in-requires : goal.chain_in-requires
chain_in-requires c = are_read c.args.facts.now (replicate 16 0) c.read_facts.new.relations (replicate 64 0) c.read_facts.new.universe c.read_facts.result c.read_facts.ensures c.in_ok-c.c c.in_ok-c.was refl refl

pub returns-in_err-c : goal.returns-in_err-c
returns-in_err-c c = let p = err_from_is_err_and c.from_residual.result c.from_residual.ensures.1 in
    rw (p.1, p.2) (chain_refused c.args.facts.now (replicate 16 0) c.read_facts.new.relations (replicate 64 0) c.read_facts.new.universe c.read_facts.result c.read_facts.ensures _ c.in_err-c.was refl refl c.args.name.now c.args.first.now c.args.second.now c.args.buffer.now)

pub returns : goal.returns
returns c = chain_read c.args.facts.now (replicate 16 0) c.read_facts.new.relations (replicate 64 0) c.read_facts.new.universe c.read_facts.result c.read_facts.ensures c.in_ok-c.c c.in_ok-c.was refl refl c.args.name.now c.args.first.now c.args.second.now c.args.buffer.now _ _ c.chain_in.ensures
