use Prim.Native.Nat.{◌+◌}
use Rattle.definition.specs.declared.Refusal.TheVariants.{FactName, FactElement, Arity}
use Rattle.facts.specs.Reading.{line_of}
use Rattle.std.proofs.lemmas.Result.{err_from_is_err_and}
use Rattle.facts.proofs.TakeLaws.{taken_dot, taken_skip, taken_wrong, taken_refused, taken_fact}
use Rattle.facts.proofs.take_line.Goals as goal

pub returns-in-End : goal.returns-in-End
returns-in-End c = let a = c.args in taken_dot a.facts.now a.query.now (line_of a.facts.now a.a a.e) a.relations.now a.universe.now a.c (c.in-End.ensures.value a.a)

pub returns-in-Skipped : goal.returns-in-Skipped
returns-in-Skipped c = let a = c.args in taken_skip a.facts.now a.query.now (line_of a.facts.now a.a a.e) a.relations.now a.universe.now a.c c.requires.0 c.requires.1 (c.in-Skipped.ensures.value a.a)

pub returns-in-BadName : goal.returns-in-BadName
returns-in-BadName c = let a = c.args in taken_wrong a.facts.now a.query.now (line_of a.facts.now a.a a.e) a.relations.now a.universe.now a.c (FactName a.a) (c.in-BadName.ensures.value a.a)

pub returns-in-BadElement : goal.returns-in-BadElement
returns-in-BadElement c = let a = c.args in taken_wrong a.facts.now a.query.now (line_of a.facts.now a.a a.e) a.relations.now a.universe.now a.c (FactElement (a.a + c.in-BadElement.p)) (c.in-BadElement.ensures.value a.a)

pub returns-in-TooMany : goal.returns-in-TooMany
returns-in-TooMany c = let a = c.args in taken_wrong a.facts.now a.query.now (line_of a.facts.now a.a a.e) a.relations.now a.universe.now a.c (Arity (a.a + c.in-TooMany.p)) (c.in-TooMany.ensures.value a.a)

pub returns-in_err-d-in-Holds : goal.returns-in_err-d-in-Holds
returns-in_err-d-in-Holds c =
    let a = c.args in
    let p = err_from_is_err_and c.from_residual.result c.from_residual.ensures.1 in
    rw (p.1, p.2)
    (taken_refused a.facts.now a.query.now a.a a.e c.requires.2 c.requires.3 c.in-Holds.f c.in-Holds.ensures.within (c.in-Holds.ensures.value a.a) a.relations.now c.with_fact.new.relations a.universe.now c.with_fact.new.universe a.c _ c.in_err-d-in-Holds.ensures)

pub returns-in_ok-d-in-Holds : goal.returns-in_ok-d-in-Holds
returns-in_ok-d-in-Holds c =
    let a = c.args in
    taken_fact a.facts.now a.query.now a.a a.e c.requires.2 c.requires.3 c.in-Holds.f c.in-Holds.ensures.within (c.in-Holds.ensures.value a.a) a.relations.now c.with_fact.new.relations a.universe.now c.with_fact.new.universe a.c c.in_ok-d-in-Holds.d c.in_ok-d-in-Holds.ensures
