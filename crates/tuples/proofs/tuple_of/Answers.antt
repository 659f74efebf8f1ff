use Prim.Native.Nat.{ℕ, suc, ◌-◌, ◌/◌, ◌%◌, ◌<◌}
use mathlib.Core.Path.{◌≡◌, refl, sym, ap, ◌∙◌}
use mathlib.Core.List.{◌++◌}
use native.Mathlib.Nat.{mod-lt}
use native.Mathlib.Omega.{arith}
use lib.ListN.{set, take, drop, length-set}
use Rattle.tuples.specs.Places.{digits}
use Rattle.tuples.proofs.Turns.{digit_step, digits_whole, digits_none, base_pos}
use Rattle.tuples.proofs.tuple_of.Goals as goal

pub loop-k-init : goal.loop-k-init
loop-k-init c = (refl, digits_whole c.args.u c.args.n c.args.i _)

pub nonzero_rem-t : goal.nonzero_rem-t
nonzero_rem-t c = base_pos c.args.u c.args.n c.args.i c.requires.1 (omega arith)

pub overflow_cast-t-in-loop-k : goal.overflow_cast-t-in-loop-k
overflow_cast-t-in-loop-k c =
    let positive : 0 < c.args.u = base_pos c.args.u c.args.n c.args.i c.requires.1 (omega arith) in
    omega (arith, mod-lt c.loop-k.rest positive)

pub nonzero_div-rest : goal.nonzero_div-rest
nonzero_div-rest c = base_pos c.args.u c.args.n c.args.i c.requires.1 (omega arith)

pub loop-k-preserved : goal.loop-k-preserved
loop-k-preserved c = let a = c.args in
    let L = c.loop-k in
    let e : suc (L.k - 1) ≡ L.k = omega arith in
    let m : a.n - (L.k - 1) ≡ suc (a.n - L.k) = omega arith in (
      length-set L.t (L.k - 1) (L.rest % a.u) ∙ L.invariant.0,
      ap (λ (j : ℕ). digits a.u (L.k - 1) (L.rest / a.u) ++ take j (drop (L.k - 1) (set L.t (L.k - 1) (L.rest % a.u)))) m
          ∙ sym (digit_step a.u (L.k - 1) (a.n - L.k) L.rest L.t (omega arith))
          ∙ ap (λ (j : ℕ). digits a.u j L.rest ++ take (a.n - L.k) (drop j L.t)) e
          ∙ L.invariant.1,
    )

pub returns : goal.returns
returns c = let a = c.args in
    let L = c.loop-k in
    sym (digits_none a.u L.k a.n L.rest L.t (omega arith)) ∙ L.invariant.1
