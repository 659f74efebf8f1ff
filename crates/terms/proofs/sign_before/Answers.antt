use native.Mathlib.Omega.{arith}
use mathlib.Core.Path.{refl, sym, ◌∙◌}
use Prim.Native.Nat.{◌+◌}
use Rattle.terms.proofs.AtomLaws.{before_open, before_first, before_comma, before_second, before_closed, before_reads}
use Rattle.terms.proofs.TokenLaws.{kind_within}
use Rattle.terms.proofs.sign_before.Goals as goal

pub returns-then-kind_at-ne0 : goal.returns-then-kind_at-ne0
returns-then-kind_at-ne0 c = before_open _ _ _ _ c.requires.0 (λ e. c.if-kind_at-ne0.true (c.kind_at.ensures ∙ e))

pub returns-then-x-eq0 : goal.returns-then-x-eq0
returns-then-x-eq0 c = before_first _ _ _ _ c.requires.0 (sym c.kind_at.ensures ∙ c.if-kind_at-ne0.false) (sym c.leaf_at-x.ensures ∙ c.if-x-eq0.true)

pub returns-then-kind_at-ne6 : goal.returns-then-kind_at-ne6
returns-then-kind_at-ne6 c = before_comma _ _ _ _ c.requires.0 (sym c.kind_at.ensures ∙ c.if-kind_at-ne0.false) (λ e. c.if-x-eq0.false (c.leaf_at-x.ensures ∙ e)) (λ e. c.if-kind_at-ne6.true (c.kind_at-2.ensures ∙ e))

pub returns-then-y-eq0 : goal.returns-then-y-eq0
returns-then-y-eq0 c = before_second _ _ _ _ c.requires.0 (sym c.kind_at.ensures ∙ c.if-kind_at-ne0.false) (λ e. c.if-x-eq0.false (c.leaf_at-x.ensures ∙ e)) (sym c.kind_at-2.ensures ∙ c.if-kind_at-ne6.false) (sym c.leaf_at-y.ensures ∙ c.if-y-eq0.true)

pub returns-then-kind_at-ne1 : goal.returns-then-kind_at-ne1
returns-then-kind_at-ne1 c = before_closed _ _ _ _ c.requires.0 (sym c.kind_at.ensures ∙ c.if-kind_at-ne0.false) (λ e. c.if-x-eq0.false (c.leaf_at-x.ensures ∙ e)) (sym c.kind_at-2.ensures ∙ c.if-kind_at-ne6.false) (λ e. c.if-y-eq0.false (c.leaf_at-y.ensures ∙ e)) (λ e. c.if-kind_at-ne1.true (c.kind_at-3.ensures ∙ e))

pub order-requires : goal.order-requires
order-requires c = let l = kind_within c.args.tokens.now (c.args.p + 5) (omega (arith, c.kind_at-3.ensures, c.if-kind_at-ne1.false)) in (record { low = omega (arith, c.kind_at-g.ensures, c.requires.0.low); high = omega (arith, c.kind_at-g.ensures, c.requires.0.high) }, (omega arith, omega arith))

pub returns : goal.returns
returns c = before_reads _ _ _ _ c.requires.0 (sym c.kind_at.ensures ∙ c.if-kind_at-ne0.false) (λ e. c.if-x-eq0.false (c.leaf_at-x.ensures ∙ e)) (sym c.kind_at-2.ensures ∙ c.if-kind_at-ne6.false) (λ e. c.if-y-eq0.false (c.leaf_at-y.ensures ∙ e)) (sym c.kind_at-3.ensures ∙ c.if-kind_at-ne1.false) (c.order.ensures ∙ rw (c.leaf_at-x.ensures, c.leaf_at-y.ensures, c.kind_at-g.ensures) refl)
