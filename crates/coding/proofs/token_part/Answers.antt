use native.Mathlib.Omega.{arith}
use Rattle.coding.proofs.token_part.Goals as goal

pub returns : goal.returns
returns c = rw c.start.ensures.0 (omega arith)
