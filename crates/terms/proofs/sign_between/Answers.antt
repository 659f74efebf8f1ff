use native.Mathlib.Omega.{arith}
use mathlib.Core.Path.{refl, sym, ◌∙◌}
use Prim.Native.Nat.{◌+◌}
use Rattle.terms.proofs.AtomLaws.{between_alone, between_second, between_reads}
use Rattle.terms.proofs.LeafLaws.{leaf_within}
use Rattle.terms.proofs.sign_between.Goals as goal

pub returns-then-g-lt41 : goal.returns-then-g-lt41
returns-then-g-lt41 c = between_alone _ _ _ _ c.requires.0.0 c.requires.0.1 (λ low high. omega (arith, c.kind_at-g.ensures, c.if-g-lt41.true))

pub returns-then-g-gt46 : goal.returns-then-g-gt46
returns-then-g-gt46 c = between_alone _ _ _ _ c.requires.0.0 c.requires.0.1 (λ low high. omega (arith, c.kind_at-g.ensures, c.if-g-gt46.true))

pub returns-then-y-eq0 : goal.returns-then-y-eq0
returns-then-y-eq0 c = between_second _ _ _ _ c.requires.0.0 c.requires.0.1 (omega (arith, c.kind_at-g.ensures, c.if-g-lt41.false)) (omega (arith, c.kind_at-g.ensures, c.if-g-gt46.false)) (sym c.leaf_at-y.ensures ∙ c.if-y-eq0.true)

pub order-requires : goal.order-requires
order-requires c = let l = leaf_within c.args.tokens.now (c.args.p + 2) 3 (λ e. c.if-y-eq0.false (c.leaf_at-y.ensures ∙ e)) in (record { low = omega arith; high = omega arith }, (omega arith, omega arith))

pub returns : goal.returns
returns c = between_reads _ _ _ _ c.requires.0.0 c.requires.0.1 (omega (arith, c.kind_at-g.ensures, c.if-g-lt41.false)) (omega (arith, c.kind_at-g.ensures, c.if-g-gt46.false)) (λ e. c.if-y-eq0.false (c.leaf_at-y.ensures ∙ e)) (c.order.ensures ∙ rw (c.leaf_at-x.ensures, c.leaf_at-y.ensures, c.kind_at-g.ensures) refl)
