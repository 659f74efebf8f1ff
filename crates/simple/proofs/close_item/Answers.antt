use Prim.Native.Nat.{ℕ}
use lib.ListN.{set}
use native.Mathlib.Omega.{arith}
use mathlib.Core.Path.{refl, ap}
use Rattle.simple.proofs.close_item.Goals as goal

pub pack-requires : goal.pack-requires
pack-requires c = let s = rw c.in_ok-q.was at c.requires in omega arith

pub offset_bounds-words-m : goal.offset_bounds-words-m
offset_bounds-words-m c = let s = rw c.in_ok-q.was at c.requires in omega arith

pub bounds-words-m : goal.bounds-words-m
bounds-words-m c = let s = rw c.in_ok-q.was at c.requires in omega arith

pub overflow_add-result : goal.overflow_add-result
overflow_add-result c = let s = rw c.in_ok-q.was at c.requires in omega arith

pub returns : goal.returns
returns c = rw c.in_ok-q.was (refl, ap (λ (w : ℕ). set c.args.words.now c.in_ok-q.m w) c.pack.ensures)
