use Prim.Native.Nat.{◌+◌}
use mathlib.Core.Path.{◌∙◌}
use native.Mathlib.Omega.{arith}
use lib.Dec.{lit<}
use Rattle.tuples.proofs.Turns.{words_one, words_step, words_end, words_le}
use Rattle.tuples.proofs.table_words.Goals as goal

pub loop-init : goal.loop-init
loop-init c = (omega arith, words_one c.args.u)

pub overflow_mul-words : goal.overflow_mul-words
overflow_mul-words c = let a = c.args in
    let L = c.loop in
    omega (arith, words_step a.u L.counter L.words (omega arith) L.invariant.1, words_le a.u 256 (L.counter + 1) (omega (arith, c.ranges.u.fits)) (lit< tt) (omega arith))

pub loop-preserved : goal.loop-preserved
loop-preserved c = let L = c.loop in (omega arith, words_step c.args.u L.counter L.words (omega arith) L.invariant.1)

pub returns : goal.returns
returns c = let L = c.loop in L.invariant.1 ∙ words_end c.args.u c.args.n L.counter (omega arith) (omega arith) L.invariant.0
