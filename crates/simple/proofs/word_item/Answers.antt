use native.Mathlib.Omega.{arith}
use mathlib.Core.Path.{sym, ◌∙◌}
use Rattle.simple.proofs.ItemLaws.{name_call, word_compared, word_alone}
use Rattle.simple.proofs.word_item.Goals as goal
use Rattle.simple.proofs.word_item.Goals.{then-k-eq0+else-kind-eq47, else-k-eq0}

pub expression_item-requires : goal.expression_item-requires
expression_item-requires c = (name_call c.requires.0 c.if-kind-eq47.true (sym c.kind_at-k.ensures ∙ c.if-k-eq0.true), c.requires.1)

pub say-requires : goal.say-requires
say-requires c = (word_alone c.requires.0 (elim c.if-k-eq0.branch [ then-k-eq0+else-kind-eq47 w ↦ (λ e f. w.if-kind-eq47.false e) | else-k-eq0 w ↦ (λ e f. w.if-k-eq0.false (c.kind_at-k.ensures ∙ f)) ]) (λ l h. omega (arith, c.kind_at-k.ensures, c.if-k-lt41.true)), c.requires.1)

pub say-requires-then-k-gt46 : goal.say-requires-then-k-gt46
say-requires-then-k-gt46 c = (word_alone c.requires.0 (elim c.if-k-eq0.branch [ then-k-eq0+else-kind-eq47 w ↦ (λ e f. w.if-kind-eq47.false e) | else-k-eq0 w ↦ (λ e f. w.if-k-eq0.false (c.kind_at-k.ensures ∙ f)) ]) (λ l h. omega (arith, c.kind_at-k.ensures, c.if-k-gt46.true)), c.requires.1)

pub expression_item-requires-2 : goal.expression_item-requires-2
expression_item-requires-2 c = (word_compared c.requires.0 (record { low = omega (arith, c.kind_at-k.ensures, c.if-k-lt41.false); high = omega (arith, c.kind_at-k.ensures, c.if-k-gt46.false) }), c.requires.1)
