use native.Mathlib.Omega.{arith}
use lib.ListN.{length-set}
use Rattle.simple.proofs.ItemLaws.{say_item, alone_within}
use Rattle.simple.proofs.say.Goals as goal

pub bounds-words-n-2 : goal.bounds-words-n-2
bounds-words-n-2 c = simp length-set (omega (arith, alone_within c.requires.0))

pub returns : goal.returns
returns c = say_item _ _ _ _ c.args.words.now c.requires.0 (omega arith) c.leaf_at.ensures c.pack.ensures
