use mathlib.Core.Path.{refl, sym, ◌∙◌}
use Rattle.patterns.proofs.PhraseLaws.{formed_wrong, formed_at}
use Rattle.patterns.proofs.well_formed.Goals as goal

pub returns-in_default : goal.returns-in_default
returns-in_default c = formed_wrong c.args.s.now _ refl (sym c.in_default.is ∙ c.branches_end.ensures)

pub returns : goal.returns
returns c = formed_at c.args.s.now _ c.in-Some.i refl (sym c.in-Some.is ∙ c.branches_end.ensures)
