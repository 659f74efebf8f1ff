use Rattle.intern.proofs.Numbering.{text_part}
use mathlib.Core.Path.{◌∙◌}
use Rattle.intern.proofs.text_at.Goals as goal

pub returns : goal.returns
returns c = c.part.ensures ∙ text_part _ c.args.w _ c.start.ensures.0
