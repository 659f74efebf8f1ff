use mathlib.Core.Path.{ap, ◌∙◌}
use mathlib.Core.Bool.{not}
use Rattle.definition.specs.Pattern.{is_character}
use Rattle.patterns.proofs.ByteLaws.{among_is}
use Rattle.patterns.proofs.is_character.Goals as goal

pub returns : goal.returns
unfolding is_character
returns c = ap not (c.contains.ensures.value ∙ among_is _ _)
