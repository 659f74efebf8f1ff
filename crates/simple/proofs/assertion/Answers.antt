use native.Mathlib.Omega.{arith}
use mathlib.Core.Path.{refl, ap, ◌∙◌}
use Prim.Native.Nat.{◌-◌}
use lib.ListN.{length-set}
use Rattle.simple.proofs.AssignLaws.{two_wrote}
use Rattle.words.specs.Fields.{word}
use Rattle.simple.proofs.assertion.Goals as goal

pub pack-requires-2 : goal.pack-requires-2
pack-requires-2 c = omega (arith, c.place.ensures, c.requires.places.small c.args.p)

pub bounds-words-m-2 : goal.bounds-words-m-2
bounds-words-m-2 c = simp length-set (omega arith)

pub returns : goal.returns
returns c = (refl, two_wrote c.repeat.ensures c.pack.ensures (c.pack-2.ensures ∙ ap (word 33 c.args.n (c.args.m - c.args.n - 1)) c.place.ensures))
