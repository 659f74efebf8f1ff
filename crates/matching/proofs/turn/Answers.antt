use mathlib.Core.Path.{subst}
use native.Mathlib.Omega.{arith}
use Prim.Native.Nat.{ℕ}
use Rattle.definition.specs.Text.{Text}
use Rattle.definition.specs.Pattern.{Reading}
use Rattle.matching.specs.Rows.{Turn, Turns}
use Rattle.matching.proofs.RowLaws.{upto_none, upto_more, upto_all}
use Rattle.matching.proofs.turn.Goals as goal

pub loop-row-init : goal.loop-row-init
loop-row-init c = upto_none (λ (i a r : ℕ). (o : Reading) (e : Text) → Turn o e c.args.table.now → Turns o e c.args.least c.args.further a r) c.args.rows.now

pub loop-row-preserved : goal.loop-row-preserved
loop-row-preserved c = let l = c.loop-row in
    let u = l.invariant in
    upto_more (λ (i a r : ℕ). (o : Reading) (e : Text) → Turn o e c.args.table.now → Turns o e c.args.least c.args.further a r) l.row-index c.args.rows.now l.rows (c.turned.result) u (let h = u.long in omega (arith, h)) (subst (λ (w : ℕ). (o : Reading) (e : Text) → Turn o e c.args.table.now → Turns o e c.args.least c.args.further w c.turned.result) (u.rest l.row-index (omega arith)) c.turned.ensures)

pub returns : goal.returns
returns c = let u = c.loop-row.invariant in
    upto_all (λ (i a r : ℕ). (o : Reading) (e : Text) → Turn o e c.args.table.now → Turns o e c.args.least c.args.further a r) c.loop-row.row-index c.args.rows.now c.loop-row.rows u (let h = u.long in omega (arith, h))
