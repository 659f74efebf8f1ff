use Rattle.kinds.proofs.Whole.{resolved, inside}
use lib.Seq.{length-take-le}
use mathlib.Core.Path.{sym, refl}
use native.Mathlib.Omega.{arith}
use Rattle.kinds.proofs.resolve.Goals as goal

pub slice_bounds-intern-end-2 : goal.slice_bounds-intern-end-2
slice_bounds-intern-end-2 c = sym (length-take-le _ c.args.relations.now (omega arith))

pub slice_bounds-know_facts-end-2 : goal.slice_bounds-know_facts-end-2
slice_bounds-know_facts-end-2 c = sym (length-take-le _ c.args.relations.now (omega arith))

pub returns : goal.returns
returns c = let numbered = c.intern.ensures in record { kinds = resolved _ _ _ _ _ c.args.given _ (omega (arith, c.requires)) (omega (arith, c.requires)) (omega (arith, c.requires)) numbered _ _ _ _ _ refl c.know_facts.ensures c.use_all.ensures; numbers = inside _ _ _ c.intern.new.ids c.args.relations.now c.args.given _ (omega (arith, c.requires)) (omega (arith, c.requires)) (omega arith) numbered }
