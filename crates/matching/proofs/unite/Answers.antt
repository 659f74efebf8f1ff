use mathlib.Core.Path.{◌≡◌, ap}
use native.Mathlib.Omega.{arith}
use Prim.Native.Nat.{ℕ}
use lib.ListN.{get_or}
use lib.Bits.{bit_or}
use Rattle.matching.proofs.RowLaws.{upto_none, upto_more, upto_all}
use Rattle.matching.proofs.unite.Goals as goal

pub loop-i-init : goal.loop-i-init
loop-i-init c = upto_none (λ (i a r : ℕ). r ≡ bit_or a (get_or c.args.other.now i 0)) c.args.rows.now

pub loop-i-preserved : goal.loop-i-preserved
loop-i-preserved c = let l = c.loop-i in
    let u = l.invariant in
    upto_more (λ (i a r : ℕ). r ≡ bit_or a (get_or c.args.other.now i 0)) l.i c.args.rows.now l.rows (bit_or (get_or l.rows l.i 0) (get_or c.args.other.now l.i 0)) u (let h = u.long in omega (arith, h)) (ap (λ w. bit_or w (get_or c.args.other.now l.i 0)) (u.rest l.i (omega arith)))

pub returns : goal.returns
returns c = let u = c.loop-i.invariant in
    upto_all (λ (i a r : ℕ). r ≡ bit_or a (get_or c.args.other.now i 0)) c.loop-i.i c.args.rows.now c.loop-i.rows u (let h = u.long in omega (arith, h))
