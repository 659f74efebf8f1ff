use native.Mathlib.Omega.{arith}
use Prim.Native.Nat.{◌-◌, ◌+◌}
use mathlib.Core.Path.{sym, ◌∙◌}
use lib.ListN.{length, length-set}
use Rattle.terms.proofs.LeafLaws.{leaf_within}
use Rattle.terms.proofs.ListLaws.{run_starts, run_none, run_stops, run_ends, run_on, run_empty}
use Rattle.terms.proofs.TokenLaws.{kind_within}
use Rattle.terms.proofs.list.Goals as goal

pub returns-then-kind_at-eq1 : goal.returns-then-kind_at-eq1
returns-then-kind_at-eq1 c = run_empty (sym c.kind_at.ensures ∙ c.if-kind_at-eq1.true)

pub loop-p-init : goal.loop-p-init
loop-p-init c = run_starts (λ e. c.if-kind_at-eq1.false (c.kind_at.ensures ∙ e)) (omega arith)

pub shape_of-words-then-w-eq0 : goal.shape_of-words-then-w-eq0
shape_of-words-then-w-eq0 c = c.loop-p.invariant.long

pub returns-then-w-eq0 : goal.returns-then-w-eq0
returns-then-w-eq0 c = run_none c.loop-p.invariant (sym c.leaf_at-w.ensures ∙ c.if-w-eq0.true)

pub offset_bounds-words-m : goal.offset_bounds-words-m
offset_bounds-words-m c = let l = leaf_within _ _ _ (λ e. c.if-w-eq0.false (c.leaf_at-w.ensures ∙ e)) in omega arith

pub bounds-words-m : goal.bounds-words-m
bounds-words-m c = let l = leaf_within _ _ _ (λ e. c.if-w-eq0.false (c.leaf_at-w.ensures ∙ e)) in omega (arith, c.loop-p.invariant.long)

pub shape_of-words-then-k-eq1 : goal.shape_of-words-then-k-eq1
shape_of-words-then-k-eq1 c = simp length-set c.loop-p.invariant.long

pub returns-then-k-eq1 : goal.returns-then-k-eq1
returns-then-k-eq1 c = run_ends c.loop-p.invariant _ c.leaf_at-w.ensures c.if-w-eq0.false (sym c.kind_at-k.ensures ∙ c.if-k-eq1.true)

pub shape_of-words-then-k-ne6 : goal.shape_of-words-then-k-ne6
shape_of-words-then-k-ne6 c = simp length-set c.loop-p.invariant.long

pub returns-then-k-ne6 : goal.returns-then-k-ne6
returns-then-k-ne6 c = run_stops c.loop-p.invariant _ c.leaf_at-w.ensures c.if-w-eq0.false (λ e. c.if-k-eq1.false (c.kind_at-k.ensures ∙ e)) (λ e. c.if-k-ne6.true (c.kind_at-k.ensures ∙ e))

pub loop-p-smaller : goal.loop-p-smaller
loop-p-smaller c = let l = kind_within c.args.tokens.now (c.loop-p.q + 1) (omega (arith, c.kind_at-k.ensures)) in omega arith

pub loop-p-preserved : goal.loop-p-preserved
loop-p-preserved c = run_on c.loop-p.invariant _ c.leaf_at-w.ensures c.if-w-eq0.false (sym c.kind_at-k.ensures ∙ c.if-k-ne6.false)

pub overflow_add-result : goal.overflow_add-result
overflow_add-result c = omega arith

pub leaf_at-w-requires : goal.leaf_at-w-requires
leaf_at-w-requires c = omega arith

pub overflow_add-m : goal.overflow_add-m
overflow_add-m c = omega arith

pub overflow_add-q : goal.overflow_add-q
overflow_add-q c = omega arith

pub overflow_add-result-then-k-eq1 : goal.overflow_add-result-then-k-eq1
overflow_add-result-then-k-eq1 c = omega arith

pub overflow_add-result-then-k-ne6 : goal.overflow_add-result-then-k-ne6
overflow_add-result-then-k-ne6 c = omega arith

pub overflow_add-q-in-loop-p : goal.overflow_add-q-in-loop-p
overflow_add-q-in-loop-p c = omega arith
