use Prim.Native.Nat.{ℕ, ◌-◌}
use mathlib.Core.Path.{◌≡◌, subst}
use native.Mathlib.Omega.{arith}
use Rattle.closure.specs.Worked.{Worked}
use Rattle.closure.proofs.Laws.{worked_none, worked_length, rows_through}
use Rattle.closure.proofs.work_nodes.Goals as goal

pub loop-node-init : goal.loop-node-init
loop-node-init c = (worked_none c.args.rows.now, c.requires.1, omega arith)

pub work_node-requires : goal.work_node-requires
work_node-requires c = let L = c.loop-node in
    (omega (arith, worked_length c.args.rows.now L.node L.rows L.invariant.0, c.requires.0), L.invariant.1)

pub overflow_step-node : goal.overflow_step-node
overflow_step-node c = omega arith

pub loop-node-smaller : goal.loop-node-smaller
loop-node-smaller c = omega arith

pub loop-node-preserved : goal.loop-node-preserved
loop-node-preserved c = let L = c.loop-node in
    let w = c.work_node.ensures in
    (w.by_index _ L.invariant.0, rows_through L.node L.rows _ w.rows_after, omega arith)

pub shape_of-rows : goal.shape_of-rows
shape_of-rows c = worked_length _ c.loop-node.node _ c.loop-node.invariant.0

pub returns : goal.returns
returns c = let L = c.loop-node in
    let a = c.args in
    let e : L.node ≡ a.m = omega arith in
    subst (λ (m : ℕ). Worked a.rows.now m L.rows) e L.invariant.0
