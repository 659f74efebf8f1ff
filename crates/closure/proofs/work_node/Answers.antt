use Prim.Native.Nat.{ℕ, ◌-◌}
use mathlib.Core.Path.{◌≡◌, refl, ap, ap₂, ◌∙◌}
use mathlib.Core.List.{List}
use native.Mathlib.Omega.{arith}
use lib.ListN.{length, get_or, set, length-set}
use Rattle.definition.specs.Tables.{through}
use Rattle.closure.specs.Rows.{join_word}
use Rattle.closure.proofs.Front.{front, front_none, front_more, front_at, front_all}
use Rattle.closure.proofs.Laws.{joined_through, worked_more}
use Rattle.closure.proofs.work_node.Goals as goal

pub offset_bounds-rows-node : goal.offset_bounds-rows-node
offset_bounds-rows-node c = omega arith

pub bounds-rows-node : goal.bounds-rows-node
bounds-rows-node c = omega arith

pub loop-x-init : goal.loop-x-init
loop-x-init c = (front_none _ _, refl, omega arith)

pub offset_bounds-rows-x : goal.offset_bounds-rows-x
offset_bounds-rows-x c = omega arith

pub bounds-rows-x : goal.bounds-rows-x
bounds-rows-x c = omega arith

pub offset_bounds-rows-x-in-loop-x : goal.offset_bounds-rows-x-in-loop-x
offset_bounds-rows-x-in-loop-x c = omega arith

pub bounds-rows-x-in-loop-x : goal.bounds-rows-x-in-loop-x
bounds-rows-x-in-loop-x c = omega arith

pub overflow_step-x : goal.overflow_step-x
overflow_step-x c = omega arith

pub loop-x-smaller : goal.loop-x-smaller
loop-x-smaller c = omega arith

pub loop-x-preserved : goal.loop-x-preserved
loop-x-preserved c = let a = c.args in
    let x = c.loop-x.x in
    let f : ℕ → ℕ = join_word (get_or a.rows.now a.node 0) a.node in
    let e = c.loop-x.invariant.0 in (
      ap₂ (λ (l : List ℕ) (v : ℕ). set l x v) e
          (c.join_word.ensures ∙ ap (λ (l : List ℕ). f (get_or l x 0)) e ∙ ap f (front_at f x a.rows.now 0))
          ∙ front_more f x a.rows.now (omega arith),
      simp length-set (omega arith),
      omega arith,
    )

pub shape_of-rows : goal.shape_of-rows
shape_of-rows c = omega arith

pub returns : goal.returns
returns c = let a = c.args in
    let p = c.requires in
    let f : ℕ → ℕ = join_word (get_or a.rows.now a.node 0) a.node in
    let e : c.loop-x.x ≡ length a.rows.now = omega arith in
    let t : c.loop-x.rows ≡ through (length a.rows.now) a.node a.rows.now =
    c.loop-x.invariant.0 ∙ ap (λ (j : ℕ). front f j a.rows.now) e ∙ front_all f a.rows.now ∙ joined_through a.rows.now a.node p.1
    in
    record { rows_after = t; by_index = λ start w. worked_more start a.node a.rows.now c.loop-x.rows p.0 w t }
