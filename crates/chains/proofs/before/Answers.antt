use Prim.Native.Nat.{ℕ}
use mathlib.Core.Path.{◌≡◌, refl, sym, ap, ap₂, ◌∙◌}
use mathlib.Core.Bool.{Bool, cond}
use native.Mathlib.Omega.{arith}
use native.Mathlib.Numerals.{add-one}
use lib.ListN.{length, get_or}
use Rattle.definition.specs.Tables.{word}
use Rattle.bits.specs.Bits.{with_bit}
use Rattle.bits.proofs.Laws.{word_more}
use Rattle.chains.specs.Levels.{meets, before}
use Rattle.chains.proofs.before.Goals as goal

pub loop-x-init : goal.loop-x-init
unfolding word
loop-x-init c = refl

pub loop-x-preserved : goal.loop-x-preserved
loop-x-preserved c = let L = c.loop-x in
    let a = c.args in
    let f : ℕ → Bool = λ y. meets (get_or a.rows.now y 0) a.set in
    c.put_bit-w.ensures ∙ ap₂ (λ (t : Bool) (v : ℕ). cond t (with_bit v L.x) v) c.meets.ensures L.invariant
    ∙ word_more L.x f (omega arith) ∙ ap (λ (k : ℕ). word k 0 f) (sym (add-one L.x))

pub returns : goal.returns
unfolding before
returns c = let a = c.args in
    let e : c.loop-x.x ≡ length a.rows.now = omega arith in
    c.loop-x.invariant ∙ ap (λ (k : ℕ). word k 0 (λ y. meets (get_or a.rows.now y 0) a.set)) e
