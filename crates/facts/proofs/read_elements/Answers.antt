use Prim.Native.Nat.{◌-◌}
use mathlib.Core.Path.{◌≡◌, refl, ap, subst, ◌∙◌}
use native.Mathlib.Omega.{arith}
use lib.ListN.{length}
use Rattle.facts.specs.Lines.{NextWithin, word_of}
use Rattle.facts.proofs.ElementLaws.{read_start, read_nothing, read_wrong, read_many, read_more}
use Prim.Native.Nat.{ℕ}
use Rattle.definition.specs.Facts.{one}
use Rattle.facts.specs.Lines.{element_of, next_word}
use Rattle.facts.specs.declared.Next.TheVariants.{Found}
use Rattle.facts.proofs.read_elements.Goals as goal

pub loop-p-init : goal.loop-p-init
loop-p-init c = (c.requires.0, refl, record { name = c.requires.1; name_end = c.requires.0; arity = omega arith; first = c.no_item-none.ensures _; second = c.no_item-none.ensures _; third = c.no_item-none.ensures _ }, read_start _ _ _ refl)

pub returns-in-Nothing : goal.returns-in-Nothing
returns-in-Nothing c = record { value = read_nothing _ _ _ _ c.loop-p.invariant.1 c.loop-p.invariant.3 (λ i. c.next_at.ensures.value i ∙ ap (word_of _ i) c.in-Nothing.is); within = c.loop-p.invariant.2 }

pub returns-in-Wrong : goal.returns-in-Wrong
returns-in-Wrong c = record { value = read_wrong _ _ _ _ c.loop-p.invariant.1 c.loop-p.invariant.3 _ (λ i. c.next_at.ensures.value i ∙ ap (word_of _ i) c.in-Wrong.is); within = subst (NextWithin _) c.in-Wrong.is c.next_at.ensures.within }

pub returns-then-k-eq3 : goal.returns-then-k-eq3
returns-then-k-eq3 c =
    let found : (i : ℕ) → next_word c.args.l.now i c.loop-p.j ≡ one (element_of c.args.l.now i c.in-Found.x) c.in-Found.m = λ i. c.next_at.ensures.value i ∙ ap (word_of c.args.l.now i) c.in-Found.is in
    let bounds : NextWithin (length c.args.l.now) (Found c.in-Found.x c.in-Found.m) = subst (NextWithin (length c.args.l.now)) c.in-Found.is c.next_at.ensures.within in
    record { value = read_many _ _ _ _ c.loop-p.invariant.1 c.loop-p.invariant.3 c.in-Found.x c.in-Found.m (found) c.if-k-eq3.true; within = (bounds).0.place }

pub with_item-f-requires : goal.with_item-f-requires
with_item-f-requires c = omega (arith, c.loop-p.invariant.2.arity, c.if-k-eq3.false)

pub overflow_add-j : goal.overflow_add-j
overflow_add-j c =
    let bounds : NextWithin (length c.args.l.now) (Found c.in-Found.x c.in-Found.m) = subst (NextWithin (length c.args.l.now)) c.in-Found.is c.next_at.ensures.within in
    omega (arith, (bounds).1)

pub loop-p-smaller : goal.loop-p-smaller
loop-p-smaller c = omega (arith, c.loop-p.invariant.2.arity, c.if-k-eq3.false, c.with_item-f.ensures)

pub loop-p-preserved : goal.loop-p-preserved
loop-p-preserved c =
    let found : (i : ℕ) → next_word c.args.l.now i c.loop-p.j ≡ one (element_of c.args.l.now i c.in-Found.x) c.in-Found.m = λ i. c.next_at.ensures.value i ∙ ap (word_of c.args.l.now i) c.in-Found.is in
    let bounds : NextWithin (length c.args.l.now) (Found c.in-Found.x c.in-Found.m) = subst (NextWithin (length c.args.l.now)) c.in-Found.is c.next_at.ensures.within in
    let l = c.loop-p in
    ((bounds).1, c.with_item-f.ensures.name ∙ l.invariant.1, c.with_item-f.ensures.within _ l.invariant.2 (bounds).0, read_more _ _ _ _ l.invariant.1 l.invariant.3 _ _ (found) _ (omega (arith, l.invariant.2.arity, c.if-k-eq3.false)) c.with_item-f.ensures.arity c.with_item-f.ensures.items)
