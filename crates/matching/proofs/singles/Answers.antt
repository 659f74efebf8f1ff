use mathlib.Core.Path.{◌≡◌}
use native.Mathlib.Omega.{arith}
use Prim.Native.Nat.{ℕ}
use Rattle.bits.specs.Bits.{with_bit}
use Rattle.matching.proofs.RowLaws.{upto_none, upto_more, upto_all}
use Rattle.matching.proofs.singles.Goals as goal

pub loop-i-init : goal.loop-i-init
loop-i-init c = upto_none (λ (i a r : ℕ). r ≡ with_bit 0 i) c.args.rows.now

pub loop-i-preserved : goal.loop-i-preserved
loop-i-preserved c = let l = c.loop-i in
    let u = l.invariant in
    upto_more (λ (i a r : ℕ). r ≡ with_bit 0 i) l.i c.args.rows.now l.rows (c.put_bit.result) u (let h = u.long in omega (arith, h)) (c.put_bit.ensures)

pub returns : goal.returns
returns c = let u = c.loop-i.invariant in
    upto_all (λ (i a r : ℕ). r ≡ with_bit 0 i) c.loop-i.i c.args.rows.now c.loop-i.rows u (let h = u.long in omega (arith, h))
