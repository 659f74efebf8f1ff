use mathlib.Core.Path.{refl, sym}
use lib.ListN.{length-set}
use native.Mathlib.Omega.{arith}
use Rattle.lowering.specs.Lowering.{at}
use Rattle.lowering.proofs.Filling.{none_before, closures_on, filled_start, filled_on, part_word, filled_end}
use Rattle.lowering.proofs.lower_part.Goals as goal

pub loop-k-init : goal.loop-k-init
loop-k-init c = let a = c.args in
    (omega arith, refl, sym (none_before (at a.words.now) a.lo a.lo (omega arith)), filled_start _ a.lo _)

pub loop-k-preserved : goal.loop-k-preserved
loop-k-preserved c = let l = c.loop-k in
    let a = c.args in (
      omega arith,
      simp length-set l.invariant.1,
      closures_on (at a.words.now) a.lo _ _ _ _ (omega arith) c.word_at.ensures c.one_closure.ensures.0 l.invariant.2,
      filled_on _ a.lo l.k _ _ l.low (omega arith) (omega arith)
          (part_word (at a.words.now) (at a.codes.now) (at a.tokens.now) (at a.free.now) _ _ a.lo _ l.k _ c.lower_word.ensures l.invariant.2) l.invariant.3,
    )

pub returns : goal.returns
returns c = let l = c.loop-k in
    filled_end _ _ l.k _ _ _ (omega arith) l.invariant.3
