use native.Mathlib.Nat.{zero-add}
use mathlib.Core.Path.{sym, ◌∙◌}
use borrow.Author.Tests.{not-true, not-false}
use lib.Seq.{length-take-le}
use Rattle.facts.proofs.LineLaws.{fact_unnamed, fact_named, name_short}
use Rattle.facts.proofs.read_fact.Goals as goal

pub slice_bounds-is_name-end : goal.slice_bounds-is_name-end
slice_bounds-is_name-end c = sym (length-take-le _ _ c.run_end-n.ensures.within.1)

pub returns-then-not-is_name : goal.returns-then-not-is_name
returns-then-not-is_name c = record { value = fact_unnamed _ _ (c.run_end-n.ensures.value ∙ zero-add _) (sym c.is_name.ensures ∙ not-true _ c.if-not-is_name.true-raw); within = tt }

pub read_elements-requires : goal.read_elements-requires
read_elements-requires c = (c.run_end-n.ensures.within.1, name_short _ _ (c.run_end-n.ensures.value ∙ zero-add _) (sym c.is_name.ensures ∙ not-false _ c.if-not-is_name.false-raw))

pub returns : goal.returns
returns c = record { value = λ i. c.read_elements.ensures.value i ∙ fact_named _ _ (c.run_end-n.ensures.value ∙ zero-add _) (sym c.is_name.ensures ∙ not-false _ c.if-not-is_name.false-raw) i; within = c.read_elements.ensures.within }
