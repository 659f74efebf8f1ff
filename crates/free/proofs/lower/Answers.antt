use Rattle.free.proofs.Frame.{below_yes, below_no}
use mathlib.Core.Path.{◌∙◌}
use native.Mathlib.Omega.{arith}
use Rattle.free.proofs.lower.Goals as goal

pub returns-then-c-k : goal.returns-then-c-k
returns-then-c-k c = (c.word_at.ensures ∙ below_yes _ _ _ c.if-c-k.true, omega (arith, c.word_at.ensures, c.requires c.args.c))

pub returns-else-c-k : goal.returns-else-c-k
returns-else-c-k c = (below_no _ _ _ c.if-c-k.false, omega arith)
