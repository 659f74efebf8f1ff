use mathlib.Core.List.{[]}
use native.Mathlib.Omega.{arith}
use Rattle.definition.specs.Facts.{Fact}
use Rattle.facts.specs.Words.{fact_at}
use Rattle.chain.proofs.Rows.{fill_end, fill_next}
use Rattle.chain.proofs.fill_rows.Goals as goal

abbrev no_fact : Fact
no_fact = record { name = []; at = 0; elements = [] }

pub add_fact-requires : goal.add_fact-requires
add_fact-requires c = let t = c.in-Some.ensures in (omega (arith, t.3), c.requires, t.4)

pub loop-a-preserved : goal.loop-a-preserved
loop-a-preserved c = let t = c.in-Some.ensures in
    let a = c.args in
    fill_next a.facts.now a.universe.now a.name.now c.loop-a.rows (fact_at a.facts.now c.in-Some.a c.in-Some.f) _ _ _ _ t.0 c.add_fact.ensures c.loop-a.invariant

pub returns : goal.returns
returns c = fill_end _ _ _ _ no_fact _ _ c.in_default.ensures c.loop-a.invariant
