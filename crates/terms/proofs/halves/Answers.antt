use native.Mathlib.Omega.{arith}
use lib.ListN.{length-set}
use Rattle.terms.proofs.WriteLaws.{four}
use Rattle.terms.proofs.halves.Goals as goal

pub bounds-words-n-2 : goal.bounds-words-n-2
bounds-words-n-2 c = simp length-set (omega arith)

pub bounds-words-n-3 : goal.bounds-words-n-3
bounds-words-n-3 c = simp length-set (omega arith)

pub returns : goal.returns
returns c = four c.args.words.now c.args.n c.args.x _ _ _ _ _ _ c.pack.ensures c.pack-2.ensures c.pack-3.ensures
