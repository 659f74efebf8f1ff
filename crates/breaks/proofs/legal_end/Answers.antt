use borrow.Author.Tests.{not-true, not-false}
use Prim.Native.Nat.{◌<◌, ◌-◌}
use mathlib.Core.Path.{sym, ◌∙◌}
use native.Mathlib.Omega.{arith}
use lib.ListN.{length}
use Rattle.breaks.proofs.EndLaws.{legal_start, legal_end, legal_more, legal_within}
use Rattle.breaks.proofs.legal_end.Goals as goal

pub loop-i-init : goal.loop-i-init
loop-i-init c = (omega arith, legal_start _)

pub run_end-n-requires : goal.run_end-n-requires
run_end-n-requires c = c.loop-i.invariant.0

pub returns-then-not-legal_at : goal.returns-then-not-legal_at
returns-then-not-legal_at c = let l = c.loop-i in
    let run-end = c.run_end-n in
    record { value = legal_end c.args.facts.now l.i run-end.result run-end.ensures.value l.invariant.1 (sym c.legal_at.ensures ∙ not-true _ c.if-not-legal_at.true-raw); within = run-end.ensures.within.1 }

pub overflow_add-i : goal.overflow_add-i
overflow_add-i c = let xs = c.args.facts.now in
    let n = c.run_end-n.result in
    let h : n < length xs = legal_within xs n (sym c.legal_at.ensures ∙ not-false _ c.if-not-legal_at.false-raw) in
    omega (arith, h)

pub loop-i-smaller : goal.loop-i-smaller
loop-i-smaller c = let xs = c.args.facts.now in
    let n = c.run_end-n.result in
    let h : n < length xs = legal_within xs n (sym c.legal_at.ensures ∙ not-false _ c.if-not-legal_at.false-raw) in
    omega (arith, h, c.run_end-n.ensures.within)

pub loop-i-preserved : goal.loop-i-preserved
loop-i-preserved c = let l = c.loop-i in
    let run-end = c.run_end-n in
    let xs = c.args.facts.now in
    let e = sym c.legal_at.ensures ∙ not-false _ c.if-not-legal_at.false-raw in
    let h : run-end.result < length xs = legal_within xs run-end.result e in
    (omega (arith, h), legal_more xs l.i run-end.result run-end.ensures.value l.invariant.1 e)
