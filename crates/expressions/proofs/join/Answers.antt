use Prim.Native.Nat.{ℕ}
use lib.ListN.{set}
use native.Mathlib.Omega.{arith}
use mathlib.Core.Path.{refl, ap}
use Rattle.expressions.proofs.join.Goals as goal

pub overflow_sub-m : goal.overflow_sub-m
overflow_sub-m c = let s = rw c.in_ok-q.was at c.requires in omega arith

pub overflow_sub-l : goal.overflow_sub-l
overflow_sub-l c = let s = rw c.in_ok-q.was at c.requires in omega arith

pub pack-requires : goal.pack-requires
pack-requires c = let s = rw c.in_ok-q.was at c.requires in omega arith

pub bounds-words-l : goal.bounds-words-l
bounds-words-l c = let s = rw c.in_ok-q.was at c.requires in omega arith

pub returns : goal.returns
returns c = rw c.in_ok-q.was (refl, ap (λ (w : ℕ). set c.args.words.now c.in_ok-q.l w) c.pack.ensures)
