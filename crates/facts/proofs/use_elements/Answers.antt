use mathlib.Core.Path.{sym, ◌∙◌}
use native.Mathlib.Omega.{arith}
use Rattle.parts.proofs.HeldLaws.{held_length}
use Rattle.facts.proofs.UseLaws.{within_item, entering_start, entering_end, entering_full, entering_next, entering_ascending}
use Rattle.facts.proofs.use_elements.Goals as goal

pub loop-i-init : goal.loop-i-init
loop-i-init c = entering_start c.args.facts.now c.args.query.now c.args.a c.args.f c.args.universe.now c.args.n c.requires.0

pub element_word-requires : goal.element_word-requires
element_word-requires c = let w = within_item _ _ c.loop-i.i c.requires.3 in let e = c.item_at-x.ensures in (omega arith, rw e (omega (arith, w.place)), rw e w.len)

pub enter_hinted-requires : goal.enter_hinted-requires
enter_hinted-requires c = let l = c.loop-i in
    (omega (arith, l.invariant.held.room, held_length l.invariant.held), entering_ascending c.args.facts.now c.args.query.now c.args.a c.args.f c.args.universe.now c.args.n l.universe l.count l.i l.invariant c.requires.4)

pub overflow_add-result : goal.overflow_add-result
overflow_add-result c = let w = within_item _ _ c.loop-i.i c.requires.3 in let e = c.item_at-x.ensures in rw e (omega (arith, w.place))

pub returns-in-None : goal.returns-in-None
returns-in-None c = let l = c.loop-i in
    let item-at = c.item_at-x in
    rw item-at.ensures (entering_full c.args.facts.now c.args.query.now c.args.a c.args.f c.args.universe.now c.args.n l.universe l.count l.i l.invariant c.requires.3.arity c.loop-i-test.true (within_item _ _ l.i c.requires.3).len (sym c.in-None.is ∙ c.enter_hinted.ensures.value ∙ rw (c.element_word.ensures, item-at.ensures)))

pub loop-i-preserved : goal.loop-i-preserved
loop-i-preserved c = let l = c.loop-i in
    let item-at = c.item_at-x in
    let element-word = c.element_word in
    let enter-hinted = c.enter_hinted in
    entering_next c.args.facts.now c.args.query.now c.args.a c.args.f c.args.universe.now c.args.n l.universe l.count l.i l.invariant c.requires.3.arity c.loop-i-test.true (within_item _ _ l.i c.requires.3).len _ _ (enter-hinted.ensures.words ∙ rw (element-word.ensures, item-at.ensures)) (sym c.in-Some.is ∙ enter-hinted.ensures.value ∙ rw (element-word.ensures, item-at.ensures))

pub returns : goal.returns
returns c = entering_end c.args.facts.now c.args.query.now c.args.a c.args.f c.args.universe.now c.args.n c.loop-i.universe c.loop-i.count c.loop-i.i c.loop-i.invariant c.loop-i-test.false c.requires.3.arity
