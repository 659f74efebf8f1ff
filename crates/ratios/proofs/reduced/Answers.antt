use mathlib.Core.Path.{sym, ap, ◌∙◌}
use Prim.Native.Nat.{ℕ, ◌/◌}
use native.Mathlib.Nat.{div-zero}
use Rattle.ratios.proofs.reduced.Goals as goal

pub returns-then-d-eq0 : goal.returns-then-d-eq0
returns-then-d-eq0 c = let a = c.args in
    let none = sym c.if-d-eq0.true ∙ c.gcd-d.ensures in
    (sym (div-zero a.a) ∙ ap (λ (n : ℕ). a.a / n) none, sym (div-zero a.b) ∙ ap (λ (n : ℕ). a.b / n) none)

pub returns : goal.returns
returns c = let a = c.args in
    let d = c.gcd-d.ensures in
    (ap (λ (n : ℕ). a.a / n) d, ap (λ (n : ℕ). a.b / n) d)
