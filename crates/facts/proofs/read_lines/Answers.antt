use Prim.Native.Nat.{◌-◌}
use mathlib.Core.Path.{refl, ap, subst, ◌∙◌}
use mathlib.Core.List.{List}
use native.Mathlib.Omega.{arith}
use Rattle.std.specs.declared.result.Result.TheVariants.{Ok}
use Rattle.std.proofs.lemmas.Result.{err_from_is_err_and}
use Rattle.definition.specs.Facts.{Line}
use Rattle.parts.proofs.HeldLaws.{held_length}
use Rattle.facts.specs.Reading.{line_of, Taken}
use Rattle.facts.proofs.ReadingLaws.{lines_dot, lines_last, lines_more, Reading, reading_start, reading_ascending, reading_end, reading_more, fails_at}
use Rattle.facts.proofs.read_lines.Goals as goal

pub loop-d-init : goal.loop-d-init
loop-d-init c = (omega arith, refl, refl, reading_start _ _ _ _ _ c.requires.0 c.requires.1)

pub take_line-requires : goal.take_line-requires
take_line-requires c = let h = c.loop-d.invariant.3 in
    let line-end = c.line_end-t in
    (omega (arith, h.relations.room, held_length h.relations), omega (arith, h.elements.room, held_length h.elements), line-end.ensures.within.0, omega (arith, line-end.ensures.within.1, c.run_end-e.ensures.within.1), c.requires.2, reading_ascending _ _ _ _ _ c.requires.3 h)

pub returns-in_default : goal.returns-in_default
returns-in_default c = let l = c.loop-d in
    let run-end = c.run_end-e in
    let line-end = c.line_end-t in
    let take-line = c.take_line in
    let t = subst (Taken c.args.facts.now c.args.query.now (line_of c.args.facts.now l.a line-end.result) l.relations take-line.new.relations l.universe take-line.new.universe l.k) (c.in_ok-d.was ∙ ap Ok c.in_default.is) take-line.ensures in
    reading_end _ _ _ _ _ (subst (λ (ls : List Line). Reading c.args.facts.now c.args.query.now c.args.relations.now c.args.universe.now c.args.c ls l.relations l.universe l.k) (lines_dot c.args.facts.now l.a run-end.result l.invariant.0 run-end.ensures.value run-end.ensures.within.1 line-end.result line-end.ensures.value t.0) l.invariant.3) t.1 t.2

pub returns-in_err-d : goal.returns-in_err-d
returns-in_err-d c = let l = c.loop-d in
    let run-end = c.run_end-e in
    let line-end = c.line_end-t in
    let take-line = c.take_line in
    let t = c.in_err-d.ensures in
    let told = err_from_is_err_and c.from_residual.result c.from_residual.ensures.1 in
    rw (told.1, told.2) (fails_at c.args.facts.now l.a run-end.result line-end.result l.invariant.0 run-end.ensures.value run-end.ensures.within.1 line-end.ensures.value t.0 c.args.query.now c.args.relations.now c.args.universe.now c.args.c l.relations l.universe l.k l.invariant.3 take-line.new.relations take-line.new.universe c.in_err-d.field-0.0 t.1)

pub returns-then-e-facts : goal.returns-then-e-facts
returns-then-e-facts c = let l = c.loop-d in
    let run-end = c.run_end-e in
    let line-end = c.line_end-t in
    let take-line = c.take_line in
    let t = subst (Taken c.args.facts.now c.args.query.now (line_of c.args.facts.now l.a line-end.result) l.relations take-line.new.relations l.universe take-line.new.universe l.k) (c.in_ok-d.was ∙ ap Ok c.in-Some.is) take-line.ensures in
    reading_end _ _ _ _ _ (reading_more _ _ _ _ _ (subst (λ (ls : List Line). Reading c.args.facts.now c.args.query.now c.args.relations.now c.args.universe.now c.args.c ls l.relations l.universe l.k) (lines_last c.args.facts.now l.a run-end.result l.invariant.0 run-end.ensures.value run-end.ensures.within.1 line-end.result line-end.ensures.value t.0 c.if-e-facts.true) l.invariant.3) c.in-Some.d t) refl refl

pub loop-d-preserved : goal.loop-d-preserved
loop-d-preserved c = let l = c.loop-d in
    let run-end = c.run_end-e in
    let line-end = c.line_end-t in
    let take-line = c.take_line in
    let t = subst (Taken c.args.facts.now c.args.query.now (line_of c.args.facts.now l.a line-end.result) l.relations take-line.new.relations l.universe take-line.new.universe l.k) (c.in_ok-d.was ∙ ap Ok c.in-Some.is) take-line.ensures in
    let g = reading_more _ _ _ _ _ (subst (λ (ls : List Line). Reading c.args.facts.now c.args.query.now c.args.relations.now c.args.universe.now c.args.c ls l.relations l.universe l.k) (lines_more c.args.facts.now l.a run-end.result l.invariant.0 run-end.ensures.value run-end.ensures.within.1 line-end.result line-end.ensures.value t.0 (omega (arith, run-end.ensures.within, c.if-e-facts.false))) l.invariant.3) c.in-Some.d t in
    (omega (arith, run-end.ensures.within, c.if-e-facts.false), held_length g.relations, held_length g.elements, g)
