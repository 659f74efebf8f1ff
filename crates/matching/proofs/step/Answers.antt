use mathlib.Core.Path.{◌≡◌, ap}
use native.Mathlib.Omega.{arith}
use Prim.Native.Nat.{ℕ, ◌*◌}
use lib.ListN.{get_or}
use lib.Bits.{bit_and, and_le_r}
use Rattle.matching.proofs.RowLaws.{upto_none, upto_more, upto_all}
use Rattle.matching.proofs.step.Goals as goal

pub loop-row-init : goal.loop-row-init
loop-row-init c = upto_none (λ (i a r : ℕ). r ≡ bit_and a c.args.bytes * 2) c.args.rows.now

pub overflow_mul-row : goal.overflow_mul-row
overflow_mul-row c = let h = and_le_r (get_or c.loop-row.rows c.loop-row.row-index 0) c.args.bytes in omega (arith, h, c.requires)

pub loop-row-preserved : goal.loop-row-preserved
loop-row-preserved c = let l = c.loop-row in
    let u = l.invariant in
    upto_more (λ (i a r : ℕ). r ≡ bit_and a c.args.bytes * 2) l.row-index c.args.rows.now l.rows (bit_and (get_or l.rows l.row-index 0) c.args.bytes * 2) u (let h = u.long in omega (arith, h)) (ap (λ w. bit_and w c.args.bytes * 2) (u.rest l.row-index (omega arith)))

pub returns : goal.returns
returns c = let u = c.loop-row.invariant in
    upto_all (λ (i a r : ℕ). r ≡ bit_and a c.args.bytes * 2) c.loop-row.row-index c.args.rows.now c.loop-row.rows u (let h = u.long in omega (arith, h))
