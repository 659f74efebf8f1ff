use mathlib.Core.Path.{sym}
use Rattle.patterns.proofs.EndLaws.{by_true}
use Rattle.matching.proofs.with.Goals as goal

pub returns-then-on : goal.returns-then-on
returns-then-on c = sym (by_true _ _ c.args.on c.if-on.true)
