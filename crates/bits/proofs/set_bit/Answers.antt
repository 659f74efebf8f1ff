use mathlib.Core.Path.{ap, ◌∙◌}
use Prim.Native.Nat.{◌^◌}
use native.Mathlib.Nat.{one-mul}
use native.Mathlib.Omega.{arith}
use lib.Bits.{bit_or}
use lib.Pow.{shl_exact}
use lib.Dec.{lit<}
use Rattle.bits.proofs.Laws.{with_or, with_past}
use Rattle.bits.proofs.set_bit.Goals as goal

pub returns-then-b-lt64 : goal.returns-then-b-lt64
returns-then-b-lt64 c = let a = c.args in
    ap (bit_or a.w) (shl_exact 1 a.b 64 (lit< tt) (omega arith) ∙ one-mul (2 ^ a.b)) ∙ with_or a.w a.b c.ranges.w.fits c.if-b-lt64.true

pub returns-else-b-lt64 : goal.returns-else-b-lt64
returns-else-b-lt64 c = with_past c.args.w c.args.b c.ranges.w.fits c.if-b-lt64.false
