use mathlib.Core.Path.{◌≡◌, refl, sym, ap, ◌∙◌}
use Prim.Native.Nat.{ℕ}
use native.Mathlib.Nat.{mod-lt}
use native.Mathlib.Omega.{arith}
use Rattle.definition.specs.Decimals.{gcd}
use Rattle.ratios.proofs.Euclid.{gcd_zero, gcd_step}
use Rattle.ratios.proofs.gcd.Goals as goal

pub loop-y-init : goal.loop-y-init
loop-y-init c = refl

pub nonzero_rem-rest : goal.nonzero_rem-rest
nonzero_rem-rest c = omega arith

pub loop-y-smaller : goal.loop-y-smaller
loop-y-smaller c = mod-lt c.loop-y.x (omega arith)

pub loop-y-preserved : goal.loop-y-preserved
loop-y-preserved c = let L = c.loop-y in gcd_step L.x L.y (omega arith) ∙ L.invariant

pub returns : goal.returns
returns c = let L = c.loop-y in
    let z : L.y ≡ 0 = omega arith in
    sym (gcd_zero L.x) ∙ ap (λ (n : ℕ). gcd L.x n) (sym z) ∙ L.invariant
