use mathlib.Core.Path.{ap, sym}
use Prim.Native.Nat.{ℕ, ◌/◌, ◌^◌}
use lib.Bits.{and_mask}
use lib.Dec.{eqb}
use Rattle.definition.specs.Tables.{bit}
use Rattle.bits.proofs.Laws.{bit_past}
use Rattle.bits.proofs.test_bit.Goals as goal

pub returns-then-b-lt64 : goal.returns-then-b-lt64
unfolding bit
returns-then-b-lt64 c = ap (λ (x : ℕ). eqb x 1) (and_mask (c.args.w / 2 ^ c.args.b) 1)

pub returns-else-b-lt64 : goal.returns-else-b-lt64
returns-else-b-lt64 c = sym (bit_past 64 c.args.w c.args.b c.ranges.w.fits c.if-b-lt64.false)
