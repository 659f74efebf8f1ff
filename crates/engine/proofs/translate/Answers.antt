use native.Mathlib.Omega.{arith}
use Rattle.coding.proofs.Passing.{zeros_below}
use Rattle.engine.proofs.translate.Goals as goal

pub lower-requires : goal.lower-requires
lower-requires c = record { tokens_in_bounds = (omega arith, (omega arith, (omega arith, omega arith))); shallow = zeros_below 2064 65536 (omega arith); small = zeros_below 2048 4096 (omega arith) }
