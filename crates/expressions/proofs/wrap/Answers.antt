use Prim.Native.Nat.{ℕ}
use lib.ListN.{set}
use native.Mathlib.Omega.{arith}
use mathlib.Core.Path.{refl, ap}
use Rattle.expressions.proofs.wrap.Goals as goal

pub overflow_sub-m : goal.overflow_sub-m
overflow_sub-m c = let s = rw c.in_ok-q.was at c.requires in omega arith

pub pack-requires : goal.pack-requires
pack-requires c = let s = rw c.in_ok-q.was at c.requires in omega arith

pub bounds-words-m : goal.bounds-words-m
bounds-words-m c = let s = rw c.in_ok-q.was at c.requires in omega arith

pub returns : goal.returns
returns c = rw c.in_ok-q.was (refl, ap (λ (w : ℕ). set c.args.words.now c.in_ok-q.m w) c.pack.ensures)
