use native.Mathlib.Omega.{arith}
use Rattle.matching.proofs.HalfLaws.{part_short, no_element, an_element}
use Rattle.matching.proofs.is_match.Goals as goal

pub returns-then-n-first : goal.returns-then-n-first
returns-then-n-first c = no_element _ _ _ c.args.places.now c.args.first c.args.k (omega arith)

pub returns-then-n-first-2 : goal.returns-then-n-first-2
returns-then-n-first-2 c = no_element _ _ _ c.args.places.now c.args.first c.args.k (omega arith)

pub found-requires : goal.found-requires
found-requires c = (c.requires.0, part_short _ _ _ _ c.text_of.ensures, c.requires.1)

pub returns : goal.returns
returns c = an_element _ _ _ c.args.places.now c.args.first c.args.k c.found.result c.text_of.result.now (omega arith) c.text_of.ensures c.found.ensures
