use mathlib.Core.Path.{refl}
use native.Mathlib.Omega.{arith}
use Prim.Native.Nat.{◌*◌}
use Rattle.matching.proofs.SetLaws.{members_past, members_in}
use lib.Bits.{bit_and}
use Rattle.matching.proofs.MoveLaws.{fitting_lt, moved_by}
use Rattle.matching.proofs.members.Goals as goal

pub returns-then-s-at : goal.returns-then-s-at
returns-then-s-at c = record { leads = record { leads = λ a. members_past c.args.s.now c.args.at c.args.complement (bit_and a 0 * 2) c.if-s-at.true }; few = omega arith }

pub returns : goal.returns
returns c = record { leads = record { leads = λ a. members_in c.args.s.now c.args.at c.args.complement (bit_and a c.fitting.result * 2) c.close_at-j.result _ (omega (arith, c.if-s-at.false)) c.close_at-j.ensures.value c.close_at-j.ensures.within.1 refl (moved_by _ _ _ c.fitting.result a c.fitting.ensures) }; few = fitting_lt _ _ _ c.fitting.result c.requires c.fitting.ensures }
