use mathlib.Core.Path.{sym, ◌∙◌}
use Rattle.terms.proofs.LeafLaws.{leaf_name, leaf_string, leaf_any, leaf_not_any, leaf_none}
use Rattle.terms.proofs.leaf_at.Goals as goal

pub returns-then-k-eq47 : goal.returns-then-k-eq47
returns-then-k-eq47 c = c.pack.ensures ∙ leaf_name _ _ _ (sym c.kind_at-k.ensures ∙ c.if-k-eq47.true)

pub returns-then-k-eq48 : goal.returns-then-k-eq48
returns-then-k-eq48 c = c.pack-then-k-eq48.ensures ∙ leaf_string _ _ _ (sym c.kind_at-k.ensures ∙ c.if-k-eq48.true)

pub returns-then-kind-eq3 : goal.returns-then-kind-eq3
returns-then-kind-eq3 c = c.pack-then-kind-eq3.ensures ∙ leaf_any _ _ _ (sym c.kind_at-k.ensures ∙ c.if-k-eq14.true) c.if-kind-eq3.true

pub returns-else-kind-eq3 : goal.returns-else-kind-eq3
returns-else-kind-eq3 c = leaf_not_any _ _ _ (sym c.kind_at-k.ensures ∙ c.if-k-eq14.true) c.if-kind-eq3.false

pub returns-else-k-eq14 : goal.returns-else-k-eq14
returns-else-k-eq14 c = leaf_none _ _ _ (λ e. c.if-k-eq47.false (c.kind_at-k.ensures ∙ e)) (λ e. c.if-k-eq48.false (c.kind_at-k.ensures ∙ e)) (λ e. c.if-k-eq14.false (c.kind_at-k.ensures ∙ e))
