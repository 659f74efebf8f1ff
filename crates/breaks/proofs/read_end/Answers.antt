use Prim.Native.Nat.{◌-◌}
use mathlib.Core.Path.{sym, ◌∙◌}
use native.Mathlib.Omega.{arith}
use Rattle.breaks.proofs.BytesLaws.{to_start, to_dot, to_last, to_next}
use Rattle.breaks.proofs.read_end.Goals as goal

pub loop-a-init : goal.loop-a-init
loop-a-init c = (omega arith, to_start _)

pub run_end-e-requires : goal.run_end-e-requires
run_end-e-requires c = c.loop-a.invariant.0

pub returns-then-starts_with : goal.returns-then-starts_with
returns-then-starts_with c = to_dot c.args.facts.now c.loop-a.a c.run_end-e.result c.loop-a.invariant.0 c.run_end-e.ensures.value c.run_end-e.ensures.within.1 c.loop-a.invariant.1 (sym c.starts_with.ensures ∙ c.if-starts_with.true)

pub overflow_add-result : goal.overflow_add-result
overflow_add-result c = omega arith

pub returns-then-e-facts : goal.returns-then-e-facts
returns-then-e-facts c = let l = c.loop-a in
    let run-end = c.run_end-e in
    to_last c.args.facts.now l.a run-end.result l.invariant.0 run-end.ensures.value run-end.ensures.within.1 l.invariant.1 (sym c.starts_with.ensures ∙ c.if-starts_with.false) c.if-e-facts.true

pub overflow_add-a : goal.overflow_add-a
overflow_add-a c = omega arith

pub loop-a-smaller : goal.loop-a-smaller
loop-a-smaller c = omega arith

pub loop-a-preserved : goal.loop-a-preserved
loop-a-preserved c = let l = c.loop-a in
    let run-end = c.run_end-e in
    (omega arith, to_next c.args.facts.now l.a run-end.result l.invariant.0 run-end.ensures.value run-end.ensures.within.1 l.invariant.1 (sym c.starts_with.ensures ∙ c.if-starts_with.false) (omega arith))
