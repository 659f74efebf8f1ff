use Prim.Native.Nat.{◌+◌, ◌-◌}
use mathlib.Core.Path.{sym, ap, ◌∙◌}
use native.Mathlib.Omega.{arith}
use Rattle.facts.specs.declared.Item.{Item}
use Rattle.facts.proofs.UseLaws.{within_item}
use Rattle.facts.proofs.FactLaws.{last_none, last_some}
use Rattle.facts.proofs.last_place.Goals as goal

pub returns-then-k-eq0 : goal.returns-then-k-eq0
returns-then-k-eq0 c = last_none c.args.a c.args.f c.if-k-eq0.true

pub overflow_add-result : goal.overflow_add-result
overflow_add-result c = let w = within_item _ _ (c.args.f.arity - 1) c.requires.1 in rw c.item_at-x.ensures (omega (arith, w.place))

pub returns : goal.returns
returns c = λ t. last_some c.args.a c.args.f c.requires.1.arity c.if-k-eq0.false t ∙ sym (ap (λ (x : Item). c.args.a + x.place) c.item_at-x.ensures)
