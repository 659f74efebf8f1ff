use mathlib.Core.Path.{sym, ap₂, ◌∙◌}
use native.Mathlib.Omega.{arith}
use Rattle.texts.specs.Orders.{order}
use Rattle.parts.specs.Packed.{text_of}
use Rattle.parts.proofs.EntryLaws.{passed_none, sorted_found, sorted_after, sorted_new}
use Rattle.parts.proofs.find_place.Goals as goal

pub loop-low-init : goal.loop-low-init
loop-low-init c = (omega arith, omega arith, c.text_of-text.ensures, passed_none _ _ _ _, λ l. absurd (omega arith))

pub overflow_sub-p : goal.overflow_sub-p
overflow_sub-p c = omega arith

pub overflow_add-p : goal.overflow_add-p
overflow_add-p c = omega arith

pub offset_bounds-parts-p : goal.offset_bounds-parts-p
offset_bounds-parts-p c = omega arith

pub bounds-parts-p : goal.bounds-parts-p
bounds-parts-p c = omega arith

pub returns-in-Equal : goal.returns-in-Equal
returns-in-Equal c = record { value = sorted_found _ _ _ _ _ c.requires (omega arith) (ap₂ order (sym c.loop-low.invariant.2) (sym c.text_of.ensures) ∙ sym c.compare.ensures ∙ c.in-Equal.is); within = omega arith }

pub loop-low-smaller-in-Less : goal.loop-low-smaller-in-Less
loop-low-smaller-in-Less c = omega arith

pub loop-low-preserved-in-Less : goal.loop-low-preserved-in-Less
loop-low-preserved-in-Less c = let i = c.loop-low.invariant in
    (omega arith, omega arith, i.2, i.3, λ l. ap₂ order (sym c.loop-low.invariant.2) (sym c.text_of.ensures) ∙ sym c.compare.ensures ∙ c.in-Less.is)

pub overflow_add-low : goal.overflow_add-low
overflow_add-low c = omega arith

pub loop-low-smaller : goal.loop-low-smaller
loop-low-smaller c = omega arith

pub loop-low-preserved : goal.loop-low-preserved
loop-low-preserved c = let i = c.loop-low.invariant in
    (omega arith, omega arith, i.2, sorted_after _ _ _ _ _ c.requires (omega arith) (ap₂ order (sym c.loop-low.invariant.2) (sym c.text_of.ensures) ∙ sym c.compare.ensures ∙ c.in-Greater.is), i.4)

pub returns : goal.returns
returns c = let i = c.loop-low.invariant in record { value = sorted_new _ _ _ _ _ c.loop-low.high (omega arith) i.3 i.4; within = omega arith }
