use mathlib.Core.Path.{refl, sym, ◌∙◌}
use native.Mathlib.Omega.{arith}
use borrow.Author.Tests.{not-true, not-false}
use Rattle.coding.proofs.Passing.{start_le, going_start, going_on, going_turn, going_end}
use Rattle.coding.proofs.lower.Goals as goal

pub loop-k-init : goal.loop-k-init
loop-k-init c = (refl, refl, refl, c.requires.small, going_start _ _ _ _ _ _ _ _ _ _ c.requires.shallow)

pub loop-k-preserved-then-not-statement : goal.loop-k-preserved-then-not-statement
loop-k-preserved-then-not-statement c = let l = c.loop-k in
    let i = l.invariant in
    (i.0, i.1, i.2, i.3, going_on _ _ _ _ _ _ _ _ _ _ _ _ _ _ l.k _ c.loop-k-test.true refl i.4 (sym c.statement.ensures ∙ not-true _ c.if-not-statement.true-raw))

pub note_depth-deep-requires : goal.note_depth-deep-requires
note_depth-deep-requires c = let g = c.loop-k.invariant.4 in
    record { deep_bound = omega (arith, g.bound, c.requires.tokens_in_bounds); shallow = g.shallow }

pub lower_statement-requires : goal.lower_statement-requires
lower_statement-requires c = let l = c.loop-k in
    let i = l.invariant in
    let p = c.requires.tokens_in_bounds in
    record { s_le_k = (omega (arith, i.4.begins, start_le c.args.words.now l.k), (c.loop-k-test.true, (omega arith, (omega arith, omega (arith, i.4.same_length))))); shallow = c.note_depth-deep.ensures.shallow_2; small = i.3 }

pub loop-k-preserved : goal.loop-k-preserved
loop-k-preserved c = let l = c.loop-k in
    let i = l.invariant in (
      omega (arith, i.0),
      omega (arith, i.1),
      omega (arith, i.2),
      c.lower_statement.ensures.small_2,
      going_turn _ _ _ _ _ _ _ _ _ _ _ _ _ _ l.k _ c.loop-k-test.true refl i.4 _ _ _ c.note_depth-deep.ensures.depths_value.0 c.note_depth-deep.ensures.depths_value.1.0 c.lower_statement.ensures.turned
          (sym c.statement.ensures ∙ not-false _ c.if-not-statement.false-raw) c.note_depth-deep.ensures.depths_value.1.1 c.note_depth-deep.ensures.shallow_2,
    )

pub shape_of-depths : goal.shape_of-depths
shape_of-depths c = omega arith

pub shape_of-codes : goal.shape_of-codes
shape_of-codes c = omega arith

pub shape_of-fr : goal.shape_of-fr
shape_of-fr c = omega arith

pub shape_of-low : goal.shape_of-low
shape_of-low c = c.loop-k.invariant.4.same_length

pub returns : goal.returns
returns c = let g = c.loop-k.invariant.4 in
    record { passed = going_end _ _ _ _ _ _ _ _ _ _ _ _ _ _ _ c.loop-k-test.false g; by_index = (g.rest, g.same_length) }
