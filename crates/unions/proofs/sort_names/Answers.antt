use Prim.Native.Nat.{◌-◌}
use native.Mathlib.Omega.{arith}
use lib.ListN.{get_or, take}
use Rattle.parts.specs.Entries.{enter}
use Rattle.unions.proofs.Sorting.{one_more, sort_none, sort_fits, sort_next, sort_all}
use Rattle.unions.proofs.sort_names.Goals as goal

pub loop-i-init : goal.loop-i-init
loop-i-init c = let a = c.args in
    sort_none a.facts.now a.query.now a.relations.now a.words.now

pub enter_part-requires : goal.enter_part-requires
enter_part-requires c = let L = c.loop-i in omega (arith, c.requires, L.invariant.1)

pub returns-in-None : goal.returns-in-None
returns-in-None c = let a = c.args in
    let L = c.loop-i in
    let v = get_or a.relations.now (L.i - 1) 0 in
    let es = enter a.facts.now a.query.now v (take L.n L.words) in
    absurd (sort_fits a.facts.now a.query.now a.relations.now L.words L.n L.i L.invariant c.loop-i-test.true (omega (arith, c.requires)) es _ c.in-None.is
    c.enter_part.ensures.value (one_more a.facts.now a.query.now v L.words L.n))

pub loop-i-preserved : goal.loop-i-preserved
loop-i-preserved c = let a = c.args in
    let L = c.loop-i in
    let f = c.enter_part in
    let g = sort_next a.facts.now a.query.now a.relations.now L.words L.n L.i L.invariant c.loop-i-test.true _ f.ensures.words _ _ c.in-Some.is f.ensures.value in
    g.0

pub returns : goal.returns
returns c =
    let h = let a = c.args in
    let L = c.loop-i in
    sort_all a.facts.now a.query.now a.relations.now L.words L.n L.i L.invariant c.loop-i-test.false in
    record { value = h.0; within = h.1 }
