use mathlib.Core.Path.{◌∙◌}
use Rattle.patterns.proofs.ByteLaws.{among_is}
use Rattle.patterns.proofs.EndLaws.{branch_none, branch_byte}
use Rattle.patterns.proofs.ends_branch.Goals as goal

pub returns-then-s-at : goal.returns-then-s-at
returns-then-s-at c = branch_none _ _ c.if-s-at.true

pub returns : goal.returns
returns c = c.contains.ensures.value ∙ among_is _ _ ∙ branch_byte _ c.args.at c.if-s-at.false
