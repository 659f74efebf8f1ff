use Rattle.std.specs.Prelude.{Ok}
use native.Mathlib.Omega.{arith}
use Prim.Native.Nat.{ℕ, ◌-◌}
use mathlib.Core.Path.{ap}
use Rattle.expressions.proofs.QuantifierLaws.{binding_starts, binding_on, binding_ends}
use Rattle.expressions.proofs.bind.Goals as goal

pub loop-i-init : goal.loop-i-init
loop-i-init c = binding_starts (rw c.in_ok-q.was at c.requires)

pub overflow_sub-k : goal.overflow_sub-k
overflow_sub-k c = let s = c.loop-i.invariant.space in omega arith

pub pack-requires : goal.pack-requires
pack-requires c = let s = c.loop-i.invariant.space in omega arith

pub bounds-words-k : goal.bounds-words-k
bounds-words-k c = let s = c.loop-i.invariant.space in omega arith

pub loop-i-preserved : goal.loop-i-preserved
loop-i-preserved c = binding_on c.loop-i.invariant c.loop-i-test.true c.pack.ensures

pub returns : goal.returns
returns c = let h = binding_ends c.loop-i.invariant c.loop-i-test.false in rw c.in_ok-q.was (ap (λ (k : ℕ). Ok (c.in_ok-q.q, k)) h.0, h.1)
