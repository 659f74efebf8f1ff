use native.Mathlib.Omega.{arith}
use Rattle.facts.proofs.UseLaws.{third_item}
use Rattle.facts.proofs.item_at.Goals as goal

pub returns-in_default : goal.returns-in_default
returns-in_default c = third_item c.args.f c.args.i (omega arith) (omega arith)
