use Prim.Native.Nat.{◌-◌}
use lib.ListN.{length}
use Rattle.terms.proofs.ListLaws.{Run}
use Rattle.terms.proofs.list.Given as goal

abbrev pub invariant-loop-p : goal.invariant-loop-p
invariant-loop-p l = Run l.tokens l.kind l.p l.n l.initial.words l.words l.q l.m

abbrev pub decreases-loop-p : goal.decreases-loop-p
decreases-loop-p l = length l.tokens - l.q
