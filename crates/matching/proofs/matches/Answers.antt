use borrow.Author.Tests.{not-true, not-false}
use mathlib.Core.Path.{sym, ◌∙◌}
use Rattle.matching.proofs.MatchLaws.{no_match}
use Rattle.matching.proofs.matches.Goals as goal

pub returns-then-not-well_formed : goal.returns-then-not-well_formed
returns-then-not-well_formed c = no_match c.args.element.now c.args.pattern.now (sym c.well_formed-2.ensures ∙ not-true _ c.if-not-well_formed.true-raw)

pub found-requires : goal.found-requires
found-requires c = (c.requires.0, c.requires.1, sym c.well_formed-2.ensures ∙ not-false _ c.if-not-well_formed.false-raw)
