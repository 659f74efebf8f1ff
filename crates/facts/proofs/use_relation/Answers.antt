use mathlib.Core.Path.{sym}
use native.Mathlib.Omega.{arith}
use lib.Seq.{length-take-le}
use Rattle.facts.proofs.RelationLaws.{relation_clash, relation_other, relation_known, relation_full, relation_new}
use Rattle.facts.proofs.use_relation.Goals as goal

pub slice_bounds-index_of-end-2 : goal.slice_bounds-index_of-end-2
slice_bounds-index_of-end-2 c = sym (length-take-le _ _ c.requires)

pub returns-then-w-v : goal.returns-then-w-v
returns-then-w-v c = let index_of = c.index_of-k in
    relation_known c.args.facts.now c.args.query.now c.args.v c.args.relations.now c.args.n c.requires index_of.result index_of.ensures.value c.if-k-n.true c.if-w-v.true

pub returns-then-w-eq1 : goal.returns-then-w-eq1
returns-then-w-eq1 c = let index_of = c.index_of-k in
    relation_clash c.args.facts.now c.args.query.now c.args.v c.args.relations.now c.args.n c.requires index_of.result index_of.ensures.value c.if-k-n.true c.if-w-v.false c.if-w-eq1.true

pub returns-then-k-n : goal.returns-then-k-n
returns-then-k-n c = let index_of = c.index_of-k in
    relation_other c.args.facts.now c.args.query.now c.args.v c.args.relations.now c.args.n c.requires index_of.result index_of.ensures.value c.if-k-n.true c.if-w-v.false c.if-w-eq1.false

pub returns-then-n-relations : goal.returns-then-n-relations
returns-then-n-relations c = relation_full c.args.facts.now c.args.query.now c.args.v c.args.relations.now c.args.n c.requires c.index_of-k.result c.index_of-k.ensures.value c.if-k-n.false c.index_of-k.ensures.within c.if-n-relations.true

pub returns : goal.returns
returns c = relation_new c.args.facts.now c.args.query.now c.args.v c.args.relations.now c.args.n c.requires c.index_of-k.result c.index_of-k.ensures.value c.if-k-n.false c.index_of-k.ensures.within (omega (arith, c.requires, c.if-n-relations.false))
