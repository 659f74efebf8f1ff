use mathlib.Core.Path.{◌≡◌, ap, ◌∙◌}
use native.Mathlib.Omega.{arith}
use Prim.Native.Nat.{ℕ}
use Rattle.matching.specs.Bytes.{spot}
use Rattle.matching.proofs.RowLaws.{upto_none, upto_more, upto_all}
use Rattle.matching.proofs.keep.Goals as goal

pub loop-row-init : goal.loop-row-init
loop-row-init c = upto_none (λ (i a r : ℕ). r ≡ spot a c.args.k) c.args.rows.now

pub loop-row-preserved : goal.loop-row-preserved
loop-row-preserved c = let l = c.loop-row in
    let u = l.invariant in
    upto_more (λ (i a r : ℕ). r ≡ spot a c.args.k) l.row-index c.args.rows.now l.rows (c.spot.result) u (let h = u.long in omega (arith, h)) (c.spot.ensures ∙ ap (λ w. spot w c.args.k) (u.rest l.row-index (omega arith)))

pub returns : goal.returns
returns c = let u = c.loop-row.invariant in
    upto_all (λ (i a r : ℕ). r ≡ spot a c.args.k) c.loop-row.row-index c.args.rows.now c.loop-row.rows u (let h = u.long in omega (arith, h))
