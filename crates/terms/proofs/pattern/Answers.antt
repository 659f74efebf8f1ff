use native.Mathlib.Omega.{arith}
use mathlib.Core.Path.{refl, sym, ◌∙◌}
use Prim.Native.Nat.{◌+◌}
use Rattle.terms.proofs.PatternLaws.{pattern_missing, pattern_open, pattern_term, pattern_closed, pattern_reads}
use Rattle.terms.proofs.TokenLaws.{kind_within}
use Rattle.terms.proofs.pattern.Goals as goal

pub returns-then-kind_at-ne48 : goal.returns-then-kind_at-ne48
returns-then-kind_at-ne48 c = pattern_missing _ _ _ _ c.requires.0 (λ e. c.if-kind_at-ne48.true (c.kind_at.ensures ∙ e))

pub returns-then-kind_at-ne0 : goal.returns-then-kind_at-ne0
returns-then-kind_at-ne0 c = pattern_open _ _ _ _ c.requires.0 (sym c.kind_at.ensures ∙ c.if-kind_at-ne48.false) (λ e. c.if-kind_at-ne0.true (c.kind_at-2.ensures ∙ e))

pub returns-then-x-eq0 : goal.returns-then-x-eq0
returns-then-x-eq0 c = pattern_term _ _ _ _ c.requires.0 (sym c.kind_at.ensures ∙ c.if-kind_at-ne48.false) (sym c.kind_at-2.ensures ∙ c.if-kind_at-ne0.false) (sym c.leaf_at-x.ensures ∙ c.if-x-eq0.true)

pub returns-then-kind_at-ne1 : goal.returns-then-kind_at-ne1
returns-then-kind_at-ne1 c = pattern_closed _ _ _ _ c.requires.0 (sym c.kind_at.ensures ∙ c.if-kind_at-ne48.false) (sym c.kind_at-2.ensures ∙ c.if-kind_at-ne0.false) (λ e. c.if-x-eq0.false (c.leaf_at-x.ensures ∙ e)) (λ e. c.if-kind_at-ne1.true (c.kind_at-3.ensures ∙ e))

pub halves-requires : goal.halves-requires
halves-requires c = let l = kind_within c.args.tokens.now (c.args.p + 4) (omega (arith, c.kind_at-3.ensures, c.if-kind_at-ne1.false)) in (omega arith, (omega arith, omega arith))

pub returns : goal.returns
returns c = pattern_reads _ _ _ _ c.requires.0 (sym c.kind_at.ensures ∙ c.if-kind_at-ne48.false) (sym c.kind_at-2.ensures ∙ c.if-kind_at-ne0.false) (λ e. c.if-x-eq0.false (c.leaf_at-x.ensures ∙ e)) (sym c.kind_at-3.ensures ∙ c.if-kind_at-ne1.false) (c.halves.ensures ∙ rw c.leaf_at-x.ensures refl)
