use mathlib.Core.Path.{◌∙◌}
use Rattle.facts.proofs.WordLaws.{next_is, next_nothing}
use Rattle.facts.proofs.next_at.Goals as goal

pub returns-then-b-l : goal.returns-then-b-l
returns-then-b-l c = record { value = next_nothing _ _ _ c.requires c.run_end-b.ensures.value c.if-b-l.true; within = tt }

pub returns-then-l-b-eq34 : goal.returns-then-l-b-eq34
returns-then-l-b-eq34 c = record { value = λ i. next_is _ _ _ c.requires c.run_end-b.ensures.value i ∙ c.quoted_at.ensures.value i; within = c.quoted_at.ensures.within }

pub returns-else-l-b-eq34 : goal.returns-else-l-b-eq34
returns-else-l-b-eq34 c = record { value = λ i. next_is _ _ _ c.requires c.run_end-b.ensures.value i ∙ c.bare_at.ensures.value i; within = c.bare_at.ensures.within }
