use Rattle.intern.proofs.Numbering.{of_relation, of_token}
use mathlib.Core.Path.{◌∙◌}
use native.Mathlib.Omega.{arith}
use Rattle.intern.proofs.name.Goals as goal

pub returns-then-i-k : goal.returns-then-i-k
returns-then-i-k c = c.text_of.ensures ∙ of_relation _ _ _ _ c.args.i (omega arith)

pub returns : goal.returns
returns c = c.text_at.ensures ∙ of_token _ _ _ _ c.args.i (omega arith)
