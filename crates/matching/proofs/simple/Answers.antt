use mathlib.Core.Path.{◌≡◌, refl, sym, ◌∙◌}
use native.Mathlib.Omega.{arith}
use Prim.Native.Nat.{◌+◌, ◌-◌, ◌*◌}
use Rattle.matching.proofs.SetLaws.{simple_past, simple_any, simple_byte, simple_last, simple_escaped, simple_complement, simple_set, one_byte}
use lib.Bits.{bit_and}
use Rattle.matching.proofs.MoveLaws.{fitting_lt, moved_by}
use Rattle.matching.proofs.simple.Goals as goal

pub returns-then-s-at : goal.returns-then-s-at
returns-then-s-at c = record { leads = record { leads = λ a. simple_past c.args.s.now c.args.at (bit_and a 0 * 2) c.if-s-at.true }; few = omega arith }

pub returns-then-b-eq46 : goal.returns-then-b-eq46
returns-then-b-eq46 c = record { leads = record { leads = λ a. simple_any c.args.s.now c.args.at (bit_and a c.fitting.result * 2) (omega (arith, c.if-s-at.false)) _ refl c.if-b-eq46.true (moved_by _ _ _ c.fitting.result a c.fitting.ensures) }; few = fitting_lt _ _ _ c.fitting.result c.requires c.fitting.ensures }

pub returns-then-byte_at-eq94 : goal.returns-then-byte_at-eq94
returns-then-byte_at-eq94 c = record { leads = record { leads = λ a. simple_complement c.args.s.now c.args.at (bit_and a c.members.result * 2) (omega (arith, c.if-s-at.false)) c.if-b-eq91.true (sym c.byte_at.ensures ∙ c.if-byte_at-eq94.true) (c.members.ensures.leads.leads a) }; few = c.members.ensures.few }

pub returns-then-b-eq91 : goal.returns-then-b-eq91
returns-then-b-eq91 c = record { leads = record { leads = λ a. simple_set c.args.s.now c.args.at (bit_and a c.members-then-b-eq91.result * 2) (omega (arith, c.if-s-at.false)) c.if-b-eq91.true (λ q. c.if-byte_at-eq94.false (c.byte_at.ensures ∙ q)) (c.members-then-b-eq91.ensures.leads.leads a) }; few = c.members-then-b-eq91.ensures.few }

pub returns-then-b-ne92 : goal.returns-then-b-ne92
returns-then-b-ne92 c = record { leads = record { leads = λ a. simple_byte c.args.s.now c.args.at (bit_and a c.fitting-then-b-ne92.result * 2) (omega (arith, c.if-s-at.false)) _ (one_byte c.args.s.now c.args.at (c.args.at + 1 - c.args.at) (omega (arith, c.if-s-at.false)) (let k : c.args.at + 1 - c.args.at ≡ 1 = omega arith in k)) c.if-b-eq46.false c.if-b-eq91.false c.if-b-ne92.true (moved_by _ _ _ c.fitting-then-b-ne92.result a c.fitting-then-b-ne92.ensures) }; few = fitting_lt _ _ _ c.fitting-then-b-ne92.result c.requires c.fitting-then-b-ne92.ensures }

pub returns-then-s-at-2 : goal.returns-then-s-at-2
returns-then-s-at-2 c = record { leads = record { leads = λ a. simple_last c.args.s.now c.args.at (bit_and a 0 * 2) (omega (arith, c.if-s-at.false)) c.if-b-ne92.false c.if-s-at-2.true }; few = omega arith }

pub returns : goal.returns
returns c = record { leads = record { leads = λ a. simple_escaped c.args.s.now c.args.at (bit_and a c.fitting-2.result * 2) (omega (arith, c.if-s-at.false)) _ (omega (arith, c.if-s-at-2.false)) (one_byte c.args.s.now (c.args.at + 1) (c.args.at + 2 - (c.args.at + 1)) (omega (arith, c.if-s-at-2.false)) (let k : c.args.at + 2 - (c.args.at + 1) ≡ 1 = omega arith in k)) c.if-b-ne92.false (moved_by _ _ _ c.fitting-2.result a c.fitting-2.ensures) }; few = fitting_lt _ _ _ c.fitting-2.result c.requires c.fitting-2.ensures }
