use native.Mathlib.Omega.{arith}
use Rattle.chain.proofs.Places.{binary_known, binary_unknown}
use Rattle.chain.proofs.is_binary.Goals as goal

pub returns-then-k-relations : goal.returns-then-k-relations
returns-then-k-relations c = binary_known _ _ _ _ c.position_of-k.ensures.value (omega arith)

pub returns : goal.returns
returns c = binary_unknown _ _ _ _ c.position_of-k.ensures.value (omega arith)
