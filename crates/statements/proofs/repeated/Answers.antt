use native.Mathlib.Omega.{arith}
use lib.ListN.{length-set}
use Rattle.statements.proofs.repeated.Goals as goal

pub overflow_sub-m : goal.overflow_sub-m
overflow_sub-m c = omega arith

pub overflow_add-m : goal.overflow_add-m
overflow_add-m c = omega arith

pub pack-requires : goal.pack-requires
pack-requires c = omega arith

pub offset_bounds-words-l : goal.offset_bounds-words-l
offset_bounds-words-l c = omega arith

pub bounds-words-l : goal.bounds-words-l
bounds-words-l c = omega arith

pub overflow_add-l : goal.overflow_add-l
overflow_add-l c = omega arith

pub place-requires : goal.place-requires
place-requires c = omega arith

pub pack-requires-2 : goal.pack-requires-2
pack-requires-2 c = omega (arith, c.place.ensures)

pub offset_bounds-words-m : goal.offset_bounds-words-m
offset_bounds-words-m c = omega arith

pub bounds-words-m : goal.bounds-words-m
bounds-words-m c = simp length-set (omega arith)

pub returns : goal.returns
returns c = cc
