use mathlib.Core.Path.{◌≡◌, sym, ◌∙◌}
use native.Mathlib.Omega.{arith}
use Rattle.chains.proofs.Least.{seek_none, seek_more, seek_here, seek_past}
use Rattle.chains.proofs.first_met.Goals as goal

pub loop-k-init : goal.loop-k-init
loop-k-init c = seek_none 64 _

pub returns-then-meets : goal.returns-then-meets
returns-then-meets c = seek_here 64 _ _ c.loop-k.invariant (omega arith) (sym c.meets.ensures ∙ c.if-meets.true)

pub loop-k-preserved : goal.loop-k-preserved
loop-k-preserved c = seek_more 64 _ _ c.loop-k.invariant (omega arith) (sym c.meets.ensures ∙ c.if-meets.false)

pub returns : goal.returns
returns c = let e : 64 ≡ c.loop-k.k = omega arith in
    e ∙ seek_past 64 _ _ c.loop-k.invariant (omega arith)
