use Prim.Native.Nat.{ℕ, ◌-◌, ◌%◌}
use mathlib.Core.Path.{◌≡◌, sym, ap, ap₂, ◌∙◌}
use mathlib.Core.Bool.{Bool}
use mathlib.Core.List.{List}
use native.Mathlib.Nat.{add-sub_cancel_left}
use native.Mathlib.Omega.{arith}
use lib.ListN.{get_or, set, replicate, take}
use lib.Seq.{length-take-le, paste}
use Rattle.definition.specs.Tables.{Tuple, word}
use Rattle.closure.proofs.Laws.{row_table, rows_table}
use Rattle.eval.specs.Nodes.{node_at}
use Rattle.eval.specs.Meaning.{world, meaning, pairs}
use Rattle.closures.proofs.Parts.{pasted_none, pasted_more, lent_rows, closed_back}
use Rattle.closures.proofs.fill_closure.Goals as goal

pub loop-a-init : goal.loop-a-init
loop-a-init c = (omega arith, pasted_none _ _ _)

pub slice_bounds-row-end : goal.slice_bounds-row-end
slice_bounds-row-end c = omega arith

pub slice_bounds-row-end-in-loop-a : goal.slice_bounds-row-end-in-loop-a
slice_bounds-row-end-in-loop-a c = sym (length-take-le _ c.loop-a.store (omega arith))

pub row-w-requires : goal.row-w-requires
row-w-requires c = omega arith

pub overflow_cast-i : goal.overflow_cast-i
overflow_cast-i c = omega arith

pub overflow_add-i : goal.overflow_add-i
overflow_add-i c = omega arith

pub offset_bounds-store-i : goal.offset_bounds-store-i
offset_bounds-store-i c = omega arith

pub bounds-store-i : goal.bounds-store-i
bounds-store-i c = omega arith

pub overflow_step-a : goal.overflow_step-a
overflow_step-a c = omega arith

pub loop-a-smaller : goal.loop-a-smaller
loop-a-smaller c = omega arith

pub loop-a-preserved : goal.loop-a-preserved
loop-a-preserved c = let a = c.args in
    let L = c.loop-a in
    let W = world (take a.o a.store.now) a.firsts.now a.vars.now a.u in
    let t = node_at a.nodes.now a.n in
    let x = a.x % 8 in
    let y = a.y % 8 in
    let f : Tuple → Bool = λ p. meaning W t (set (set (replicate 8 0) x (get_or p 0 0)) y (get_or p 1 0)) in (
      omega arith,
      pasted_more a.store.now a.o (pairs W t x y) L.a L.store c.row-w.result (omega arith) (omega (arith, rows_table a.u f)) L.invariant.1
          (c.row-w.ensures
          ∙ ap₂ (λ (s : List ℕ) (e : List ℕ). word a.u 0 (λ b. meaning (world s a.firsts.now a.vars.now a.u) t (set e y b))) L.invariant.1.front c.only-env.ensures
          ∙ sym (row_table a.u f L.a (omega arith))),
    )

pub overflow_add-e : goal.overflow_add-e
overflow_add-e c = omega arith

pub offset_bounds-store-o : goal.offset_bounds-store-o
offset_bounds-store-o c = omega arith

pub slice_bounds-close-count : goal.slice_bounds-close-count
slice_bounds-close-count c = omega arith

pub slice_bounds-close-start : goal.slice_bounds-close-start
slice_bounds-close-start c = omega arith

pub slice_bounds-close-end : goal.slice_bounds-close-end
slice_bounds-close-end c = omega arith

pub close-requires : goal.close-requires
close-requires c = let a = c.args in
    let W = world (take a.o a.store.now) a.firsts.now a.vars.now a.u in
    let f : Tuple → Bool = λ p. meaning W (node_at a.nodes.now a.n) (set (set (replicate 8 0) (a.x % 8) (get_or p 0 0)) (a.y % 8) (get_or p 1 0)) in
    let L = c.loop-a in
    let e : L.a ≡ a.u = omega arith in
    lent_rows a.store.now a.o a.u f (omega arith) _ _ (add-sub_cancel_left a.o a.u) (L.invariant.1.same ∙ ap (paste a.store.now a.o _) e)

pub returns : goal.returns
returns c = let a = c.args in
    let W = world (take a.o a.store.now) a.firsts.now a.vars.now a.u in
    let f : Tuple → Bool = λ p. meaning W (node_at a.nodes.now a.n) (set (set (replicate 8 0) (a.x % 8) (get_or p 0 0)) (a.y % 8) (get_or p 1 0)) in
    let L = c.loop-a in
    let e : L.a ≡ a.u = omega arith in
    closed_back a.store.now a.o a.u f (omega arith) _ _ (add-sub_cancel_left a.o a.u) (L.invariant.1.same ∙ ap (paste a.store.now a.o _) e) _ c.close.ensures
