use native.Mathlib.Omega.{arith}
use lib.ListN.{length-set}
use Rattle.terms.proofs.WriteLaws.{three}
use Rattle.terms.proofs.order.Goals as goal

pub bounds-words-n-2 : goal.bounds-words-n-2
bounds-words-n-2 c = simp length-set (omega arith)

pub returns : goal.returns
returns c = three c.args.words.now c.args.n c.args.x c.args.y _ _ c.pack.ensures
