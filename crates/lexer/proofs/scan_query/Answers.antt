use mathlib.Core.Path.{refl, subst}
use Prim.Native.Nat.{◌<◌, ◌+◌, ◌≤◌}
use native.Mathlib.Omega.{arith}
use lib.ListN.{length, length-set}
use Rattle.lexer.proofs.Steps.{past_gap, past_token, step_gap, step_token, step_stop, step_end}
use Rattle.lexer.specs.Segments.{Small}
use Rattle.lexer.proofs.Reading.{before_none}
use Rattle.lexer.proofs.scan_query.Goals as goal

pub loop-at-init : goal.loop-at-init
loop-at-init c = (omega arith, omega arith, refl, before_none)

pub overflow_add-at : goal.overflow_add-at
overflow_add-at c =
    let gap_past : (let at = c.loop-at.at in let n = c.in-Gap.n in (at < at + n) × (at + n ≤ length c.args.query.now)) = let f = c.segment_at in
    past_gap c.args.query.now c.loop-at.at c.loop-at-test.true f.result f.ensures.value c.in-Gap.is in
    let w = gap_past in omega arith

pub loop-at-smaller-in-Gap : goal.loop-at-smaller-in-Gap
loop-at-smaller-in-Gap c =
    let gap_past : (let at = c.loop-at.at in let n = c.in-Gap.n in (at < at + n) × (at + n ≤ length c.args.query.now)) = let f = c.segment_at in
    past_gap c.args.query.now c.loop-at.at c.loop-at-test.true f.result f.ensures.value c.in-Gap.is in
    let w = gap_past in omega arith

pub loop-at-preserved-in-Gap : goal.loop-at-preserved-in-Gap
loop-at-preserved-in-Gap c =
    let gap_past : (let at = c.loop-at.at in let n = c.in-Gap.n in (at < at + n) × (at + n ≤ length c.args.query.now)) = let f = c.segment_at in
    past_gap c.args.query.now c.loop-at.at c.loop-at-test.true f.result f.ensures.value c.in-Gap.is in
    let l = c.loop-at in
    let f = c.segment_at in
    let w = gap_past in (
      w.1,
      omega arith,
      l.invariant.2,
      step_gap c.args.query.now l.at c.loop-at-test.true f.result f.ensures.value l.invariant.3 c.in-Gap.is,
    )

pub packed-requires : goal.packed-requires
packed-requires c = let f = subst Small c.in-Lexeme.is c.segment_at.ensures.small in
    (f.kind, f.size, omega arith)

pub overflow_add-at-in-Lexeme : goal.overflow_add-at-in-Lexeme
overflow_add-at-in-Lexeme c =
    let token_past : (let at = c.loop-at.at in let n = c.in-Lexeme.n in (at < at + n) × (at + n ≤ length c.args.query.now)) = let f = c.segment_at in
    past_token c.args.query.now c.loop-at.at c.loop-at-test.true f.result f.ensures.value c.in-Lexeme.is in
    let w = token_past in omega arith

pub loop-at-smaller : goal.loop-at-smaller
loop-at-smaller c =
    let token_past : (let at = c.loop-at.at in let n = c.in-Lexeme.n in (at < at + n) × (at + n ≤ length c.args.query.now)) = let f = c.segment_at in
    past_token c.args.query.now c.loop-at.at c.loop-at-test.true f.result f.ensures.value c.in-Lexeme.is in
    let w = token_past in omega arith

pub loop-at-preserved : goal.loop-at-preserved
loop-at-preserved c =
    let token_past : (let at = c.loop-at.at in let n = c.in-Lexeme.n in (at < at + n) × (at + n ≤ length c.args.query.now)) = let f = c.segment_at in
    past_token c.args.query.now c.loop-at.at c.loop-at-test.true f.result f.ensures.value c.in-Lexeme.is in
    let l = c.loop-at in
    let f = c.segment_at in
    let p = c.put.ensures in
    let w = token_past in (
      w.1,
      omega arith,
      rw p (simp length-set l.invariant.2),
      rw (p, c.packed.ensures, c.overflow-over.ensures)
          (step_token c.args.query.now l.at c.loop-at-test.true f.result f.ensures.value l.invariant.3 c.in-Lexeme.is f.ensures.small
          (omega (arith, c.requires, l.invariant.2))),
    )

pub shape_of-words-in-Neither : goal.shape_of-words-in-Neither
shape_of-words-in-Neither c = c.loop-at.invariant.2

pub returns-in-Neither : goal.returns-in-Neither
returns-in-Neither c = let a = c.args in
    let l = c.loop-at in
    let f = c.segment_at in
    step_stop a.query.now l.at c.loop-at-test.true f.result f.ensures.value l.invariant.3 c.in-Neither.is

pub shape_of-words : goal.shape_of-words
shape_of-words c = c.loop-at.invariant.2

pub returns : goal.returns
returns c = step_end c.args.query.now c.loop-at.at c.loop-at-test.false c.loop-at.invariant.3
