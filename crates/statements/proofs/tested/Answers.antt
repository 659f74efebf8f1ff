use Prim.Native.Nat.{ℕ, ◌+◌}
use mathlib.Core.Path.{ap, ap₂, ◌∙◌}
use native.Mathlib.Omega.{arith}
use lib.ListN.{set, length-set}
use Rattle.words.specs.Fields.{word, TEST}
use Rattle.statements.proofs.tested.Goals as goal

pub returns : goal.returns
returns c = let a = c.args in
    ap₂ (λ (x y : ℕ). set (set a.words.now a.l x) a.m y) c.pack.ensures
    (c.pack-2.ensures ∙ ap (word TEST 0 (a.l + 1)) c.place.ensures)

pub overflow_add-other : goal.overflow_add-other
overflow_add-other c = omega arith

pub pack-requires : goal.pack-requires
pack-requires c = omega arith

pub offset_bounds-words-l : goal.offset_bounds-words-l
offset_bounds-words-l c = omega arith

pub bounds-words-l : goal.bounds-words-l
bounds-words-l c = omega arith

pub place-requires : goal.place-requires
place-requires c = omega arith

pub pack-requires-2 : goal.pack-requires-2
pack-requires-2 c = omega (arith, c.place.ensures)

pub offset_bounds-words-m : goal.offset_bounds-words-m
offset_bounds-words-m c = omega arith

pub bounds-words-m : goal.bounds-words-m
bounds-words-m c = simp length-set (omega arith)
