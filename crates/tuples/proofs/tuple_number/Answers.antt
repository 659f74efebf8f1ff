use Prim.Native.Nat.{ℕ, ◌+◌, ◌*◌, ◌^◌, ◌≤◌}
use mathlib.Core.Path.{sym, ap, ◌∙◌}
use native.Mathlib.Nat.{pow-le-pow_right, zero-lt-suc}
use native.Mathlib.Numerals.{add-one}
use native.Mathlib.Omega.{arith}
use lib.ListN.{get_or, take, drop, length-take, drop_of_length-le}
use lib.Seq.{drop-cons}
use Rattle.tuples.specs.Places.{number_at}
use Rattle.tuples.proofs.Turns.{step_lt}
use Rattle.tuples.proofs.tuple_number.Goals as goal

-- four digits fit
small : (k : ℕ) → k ≤ 4 → 256 ^ k ≤ 4294967296
small k h = pow-le-pow_right (zero-lt-suc 255) h

pub overflow_mul-i : goal.overflow_mul-i
overflow_mul-i c = let a = c.args in
    let L = c.loop-a in
    omega (arith, step_lt a.u L.i L.a-index 0 c.ranges.u.fits L.invariant.0 (omega arith), small (L.a-index + 1) (omega (arith, length-take a.n a.t)))

pub overflow_add-i : goal.overflow_add-i
overflow_add-i c = let a = c.args in
    let L = c.loop-a in
    omega (arith, step_lt a.u L.i L.a-index (get_or (take a.n a.t) L.a-index 0) c.ranges.u.fits L.invariant.0 (omega arith), small (L.a-index + 1) (omega (arith, length-take a.n a.t)))

pub loop-a-preserved : goal.loop-a-preserved
loop-a-preserved c = let a = c.args in
    let L = c.loop-a in
    let s = take a.n a.t in (
      step_lt a.u L.i L.a-index (get_or s L.a-index 0) c.ranges.u.fits L.invariant.0 (omega arith),
      ap (λ (j : ℕ). number_at a.u (a.u * L.i + get_or s L.a-index 0) (drop j s)) (add-one L.a-index)
          ∙ sym (ap (number_at a.u L.i) (drop-cons s L.a-index 0 (omega arith))) ∙ L.invariant.1,
    )

pub returns : goal.returns
returns c = let a = c.args in
    let L = c.loop-a in
    let s = take a.n a.t in
    (sym (ap (number_at a.u L.i) (drop_of_length-le s {i = L.a-index} (omega arith))) ∙ L.invariant.1, omega (arith, small L.a-index (omega (arith, length-take a.n a.t))))
