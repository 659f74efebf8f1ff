use mathlib.Core.Path.{refl}
use Rattle.engine.proofs.Checks.{nothing, none_counted, check_refused}
use Rattle.engine.proofs.not_passed.Goals as goal

pub returns : goal.returns
returns c = λ e. check_refused c.args.facts.now c.args.query.now c.args.q _ (c.records.ensures nothing refl refl none_counted) e
