use mathlib.Core.Path.{refl}
use mathlib.Core.Bool.{true}
use native.Mathlib.Omega.{arith}
use Prim.Native.Nat.{ℕ, ◌+◌}
use Rattle.matching.proofs.MoveLaws.{word_none, word_next, all_end}
use Rattle.matching.proofs.all.Goals as goal

pub loop-k-init : goal.loop-k-init
loop-k-init c = word_none _

pub loop-k-preserved : goal.loop-k-preserved
loop-k-preserved c = word_next (λ (j : ℕ). true) c.loop-k.k c.loop-k.r c.put_bit-r.result true (omega (arith, c.requires)) c.loop-k.invariant refl c.put_bit-r.ensures

pub returns : goal.returns
returns c = absurd (omega arith)

pub returns-2 : goal.returns-2
returns-2 c = all_end c.args.e.now (c.loop-k.k + 1) c.put_bit-r.result (omega arith) (word_next (λ (j : ℕ). true) c.loop-k.k c.loop-k.r c.put_bit-r.result true (omega (arith, c.requires)) c.loop-k.invariant refl c.put_bit-r.ensures)
