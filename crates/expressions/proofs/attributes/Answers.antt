use native.Mathlib.Omega.{arith}
use Prim.Native.Nat.{◌-◌}
use mathlib.Core.Path.{sym, ◌∙◌}
use lib.ListN.{length, length-set}
use Rattle.expressions.proofs.QuantifierLaws.{attributes_start, attributes_end, attributes_on, bracket_missing, name_missing, comma_missing}
use Rattle.expressions.proofs.attributes.Goals as goal

pub returns-then-kind_at-ne0 : goal.returns-then-kind_at-ne0
returns-then-kind_at-ne0 c = bracket_missing (omega arith) (λ e. c.if-kind_at-ne0.true (c.kind_at.ensures ∙ e))

pub returns-then-kind_at-ne47 : goal.returns-then-kind_at-ne47
returns-then-kind_at-ne47 c = name_missing (sym c.kind_at.ensures ∙ c.if-kind_at-ne0.false) (λ e. c.if-kind_at-ne47.true (c.kind_at-2.ensures ∙ e))

pub returns-then-kind_at-ne6 : goal.returns-then-kind_at-ne6
returns-then-kind_at-ne6 c = comma_missing (sym c.kind_at.ensures ∙ c.if-kind_at-ne0.false) (sym c.kind_at-2.ensures ∙ c.if-kind_at-ne47.false) (λ e. c.if-kind_at-ne6.true (c.kind_at-3.ensures ∙ e))

pub loop-p-init : goal.loop-p-init
loop-p-init c = attributes_start (sym c.kind_at.ensures ∙ c.if-kind_at-ne0.false) (sym c.kind_at-2.ensures ∙ c.if-kind_at-ne47.false) (sym c.kind_at-3.ensures ∙ c.if-kind_at-ne6.false)

pub bounds-words-m : goal.bounds-words-m
bounds-words-m c = omega (arith, c.loop-p.invariant.long)

pub shape_of-words-then-kind_at-ne47-2 : goal.shape_of-words-then-kind_at-ne47-2
shape_of-words-then-kind_at-ne47-2 c = simp length-set c.loop-p.invariant.long

pub returns-then-kind_at-ne47-2 : goal.returns-then-kind_at-ne47-2
returns-then-kind_at-ne47-2 c = attributes_end c.loop-p.invariant c.pack.ensures (λ e f. c.if-kind_at-ne47-2.true (c.kind_at-in-loop-p.ensures ∙ e))

pub shape_of-words-then-kind_at-ne6-2 : goal.shape_of-words-then-kind_at-ne6-2
shape_of-words-then-kind_at-ne6-2 c = simp length-set c.loop-p.invariant.long

pub returns-then-kind_at-ne6-2 : goal.returns-then-kind_at-ne6-2
returns-then-kind_at-ne6-2 c = attributes_end c.loop-p.invariant c.pack.ensures (λ e f. c.if-kind_at-ne6-2.true (c.kind_at-in-loop-p-2.ensures ∙ f))

pub loop-p-preserved : goal.loop-p-preserved
loop-p-preserved c = attributes_on c.loop-p.invariant c.pack.ensures (sym c.kind_at-in-loop-p.ensures ∙ c.if-kind_at-ne47-2.false) (sym c.kind_at-in-loop-p-2.ensures ∙ c.if-kind_at-ne6-2.false)

pub overflow_add-p : goal.overflow_add-p
overflow_add-p c = omega arith

pub overflow_add-result : goal.overflow_add-result
overflow_add-result c = omega arith

pub overflow_add-p-2 : goal.overflow_add-p-2
overflow_add-p-2 c = omega arith

pub overflow_add-result-then-kind_at-ne6 : goal.overflow_add-result-then-kind_at-ne6
overflow_add-result-then-kind_at-ne6 c = omega arith

pub overflow_add-q : goal.overflow_add-q
overflow_add-q c = omega arith

pub pack-requires : goal.pack-requires
pack-requires c = omega arith

pub offset_bounds-words-m : goal.offset_bounds-words-m
offset_bounds-words-m c = omega arith

pub overflow_add-m : goal.overflow_add-m
overflow_add-m c = omega arith

pub overflow_add-q-in-loop-p : goal.overflow_add-q-in-loop-p
overflow_add-q-in-loop-p c = omega arith

pub overflow_add-q-in-loop-p-2 : goal.overflow_add-q-in-loop-p-2
overflow_add-q-in-loop-p-2 c = omega arith

pub loop-p-smaller : goal.loop-p-smaller
loop-p-smaller c = omega arith
