use Prim.Native.Nat.{◌≤◌, ◌+◌, ◌-◌}
use mathlib.Core.Path.{◌≡◌, refl, subst, ◌∙◌}
use mathlib.Core.List.{[], ◌∷◌}
use native.Mathlib.Omega.{arith}
use lib.ListN.{length, take, drop}
use Rattle.facts.specs.Words.{fact_at}
use Rattle.facts.specs.Reading.{facts_from}
use Rattle.facts.specs.Again.{FactOfLine}
use Rattle.facts.specs.declared.Counts.{Counts}
use Rattle.breaks.proofs.FirstLine.{line_size}
use Rattle.facts.proofs.TakeLaws.{what, gives, all_wider}
use Rattle.facts.proofs.AgainLaws.{some_byte, facts_end, facts_dot, facts_step}
use Rattle.facts.proofs.next_fact.Goals as goal

abbrev no_counts : Counts
no_counts = record { relations = 0; elements = 0 }

pub loop-a-init : goal.loop-a-init
loop-a-init c = (omega arith, refl)

pub run_end-e-requires : goal.run_end-e-requires
run_end-e-requires c = omega arith

pub line_end-t-requires : goal.line_end-t-requires
line_end-t-requires c = c.run_end-e.ensures.within

pub returns-in-Has : goal.returns-in-Has
returns-in-Has c = let l = c.loop-a in
    let test = c.loop-a-test in
    let run-end = c.run_end-e in
    let line-end = c.line_end-t in
    let t = (subst (FactOfLine (take (line-end.result - l.a) (drop l.a c.args.facts.now))) c.in-Has.is c.line_fact.ensures) in
    let within : line-end.result ≤ length c.args.facts.now = omega (arith, line-end.ensures.within.1, run-end.ensures.within.1) in
    let w = what c.args.facts.now c.args.facts.now l.a line-end.result line-end.ensures.within.0 within c.in-Has.f t.0 (t.1 l.a) [] [] [] [] no_counts in
    let g = gives c.args.facts.now c.args.facts.now l.a line-end.result line-end.ensures.within.0 within c.in-Has.f t.0 (t.1 l.a) [] [] [] [] no_counts in
    let s : facts_from c.args.facts.now l.a ≡ fact_at c.args.facts.now l.a c.in-Has.f ∷ facts_from c.args.facts.now (run-end.result + 1) = facts_step c.args.facts.now l.a run-end.result line-end.result (omega (arith, test.true)) run-end.ensures.value run-end.ensures.within.1 line-end.ensures.value w.0 ∙ rw g in
    let size = line_size c.args.facts.now l.a line-end.result line-end.ensures.within.0 within in
    (l.invariant.1 ∙ s, l.invariant.0, omega (arith, size, some_byte _ w.1, line-end.ensures.within.1), omega (arith, test.true), all_wider _ _ _ (omega (arith, size, within)) t.0)

pub returns-in-Last : goal.returns-in-Last
returns-in-Last c = let l = c.loop-a in
    let run-end = c.run_end-e in
    let line-end = c.line_end-t in
    l.invariant.1 ∙ facts_dot c.args.facts.now l.a run-end.result line-end.result (omega (arith, c.loop-a-test.true)) run-end.ensures.value run-end.ensures.within.1 line-end.ensures.value (subst (FactOfLine (take (line-end.result - l.a) (drop l.a c.args.facts.now))) c.in-Last.is c.line_fact.ensures)

pub overflow_add-a : goal.overflow_add-a
overflow_add-a c = omega (arith, c.run_end-e.ensures.within, c.requires)

pub loop-a-smaller : goal.loop-a-smaller
loop-a-smaller c = omega (arith, c.run_end-e.ensures.within, c.loop-a-test.true)

pub loop-a-preserved : goal.loop-a-preserved
loop-a-preserved c = let l = c.loop-a in
    let run-end = c.run_end-e in
    let line-end = c.line_end-t in
    let t = (subst (FactOfLine (take (line-end.result - l.a) (drop l.a c.args.facts.now))) c.in-Lacks.is c.line_fact.ensures) l.a in let s : facts_from c.args.facts.now l.a ≡ facts_from c.args.facts.now (run-end.result + 1) = facts_step c.args.facts.now l.a run-end.result line-end.result (omega (arith, c.loop-a-test.true)) run-end.ensures.value run-end.ensures.within.1 line-end.ensures.value t.0 ∙ rw t.1 in (omega (arith, l.invariant.0, run-end.ensures.within), l.invariant.1 ∙ s)

pub returns : goal.returns
returns c = c.loop-a.invariant.1 ∙ facts_end _ _ c.loop-a-test.false
