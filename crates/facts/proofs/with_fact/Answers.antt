use mathlib.Core.Path.{subst, ap, ◌∙◌}
use Rattle.std.specs.declared.result.Result.TheVariants.{Err}
use Rattle.std.proofs.lemmas.Result.{err_from_is_err_and}
use Rattle.facts.specs.Pass.{UniverseUsed}
use Rattle.facts.proofs.FactLaws.{used_as, room_left, no_room_left, taken_clash, taken_full, taken_other, taken_many, taken_fits}
use Rattle.facts.proofs.with_fact.Goals as goal

pub returns-in-Err-Full : goal.returns-in-Err-Full
returns-in-Err-Full c =
    let a = c.args in
    let use_relation = c.use_relation in
    let used = used_as a.facts.now a.query.now a.relations.now use_relation.new.relations a.c.relations c.packed.ensures (c.in-Err-Full.is ∙ ap Err c.in-Err-Full.field-0-is) use_relation.ensures in
    taken_full a.facts.now a.query.now a.a a.f c.requires.4.arity c.requires.4.name a.relations.now a.universe.now a.c use_relation.new.relations a.universe.now used

pub returns-in-Err-Clash : goal.returns-in-Err-Clash
returns-in-Err-Clash c =
    let a = c.args in
    let use_relation = c.use_relation in
    let used = used_as a.facts.now a.query.now a.relations.now use_relation.new.relations a.c.relations c.packed.ensures (c.in-Err-Clash.is ∙ ap Err c.in-Err-Clash.field-0-is) use_relation.ensures in
    taken_clash a.facts.now a.query.now a.a a.f c.requires.4.arity c.requires.4.name a.relations.now a.universe.now a.c use_relation.new.relations a.universe.now used

pub returns-in-Err-OtherArity : goal.returns-in-Err-OtherArity
returns-in-Err-OtherArity c =
    let a = c.args in
    let use_relation = c.use_relation in
    let used = used_as a.facts.now a.query.now a.relations.now use_relation.new.relations a.c.relations c.packed.ensures (c.in-Err-OtherArity.is ∙ ap Err c.in-Err-OtherArity.field-0-is) use_relation.ensures in
    taken_other a.facts.now a.query.now a.a a.f c.requires.4.arity c.requires.4.name a.relations.now a.universe.now a.c use_relation.new.relations a.universe.now c.last_place.result c.last_place.ensures used

pub returns-in_err-e : goal.returns-in_err-e
returns-in_err-e c =
    let a = c.args in
    let use_relation = c.use_relation in
    let use_elements = c.use_elements in
    let used = used_as a.facts.now a.query.now a.relations.now use_relation.new.relations a.c.relations c.packed.ensures c.in-Ok.is use_relation.ensures in
    let full = no_room_left c.map_err.result use_elements.result c.map_err.ensures.cases _ c.in_err-e.was in
    let told = err_from_is_err_and c.from_residual.result c.from_residual.ensures.1 in
    rw (told.1, told.2, full.2)
    (taken_many a.facts.now a.query.now a.a a.f c.requires.4.arity c.requires.4.name a.relations.now a.universe.now a.c use_relation.new.relations use_elements.new.universe c.in-Ok.r used full.0 (subst (UniverseUsed a.facts.now a.query.now a.a a.f a.universe.now use_elements.new.universe a.c.elements) full.1 use_elements.ensures))

pub returns : goal.returns
returns c =
    let a = c.args in
    let use_relation = c.use_relation in
    let use_elements = c.use_elements in
    let used = used_as a.facts.now a.query.now a.relations.now use_relation.new.relations a.c.relations c.packed.ensures c.in-Ok.is use_relation.ensures in
    let room = room_left c.map_err.result use_elements.result c.map_err.ensures.cases _ c.in_ok-e.was in
    taken_fits a.facts.now a.query.now a.a a.f c.requires.4.arity c.requires.4.name a.relations.now a.universe.now a.c use_relation.new.relations use_elements.new.universe c.in-Ok.r used c.in_ok-e.e (subst (UniverseUsed a.facts.now a.query.now a.a a.f a.universe.now use_elements.new.universe a.c.elements) room use_elements.ensures)
