use Prim.Native.Nat.{ℕ, ◌-◌}
use mathlib.Core.Path.{◌≡◌, refl}
use mathlib.Core.List.{List}
use native.Mathlib.Omega.{arith}
use lib.ListN.{length}
use Rattle.lines.specs.Lines.{Texts, texts}
use Rattle.actions.specs.Doing.{print_by}
use Rattle.machine.specs.Actions.{Actions}
use Rattle.machine.specs.Turns.{Held, held}
use Rattle.machine.specs.Bound.{actions, CountsRight}
use Rattle.machine.proofs.Goings.{Going, going_start, going_settled, goes_done, goes_spent, goes_full, going_on, answers}
use Rattle.machine.proofs.Recounting.{right_start, right_on, right_full}
use Rattle.machine.proofs.go.Goals as goal

abbrev all : List ℕ → List ℕ → ℕ → ℕ → Texts → Actions
all words firsts u scr T = actions words firsts u scr (print_by words firsts u T)

pub loop-u-init : goal.loop-u-init
loop-u-init c = (refl, refl, going_start _ _ _ _ _ _ (omega arith), right_start _ _ _ c.args.limit _ _ _ _)

pub returns-then-at-words : goal.returns-then-at-words
returns-then-at-words c =
    let a = c.args in
    let L = c.loop-u in
    let s = c.settle-at in
    let A = all a.words.now a.firsts.now a.u a.scr (texts a.facts.now a.query.now a.places.now) in
    let B = held a.m.pc a.m.used a.store.now a.out.now a.sets.now a.cursors.now a.vars.now in
    let H : ℕ → Held = λ at. held at L.used L.store L.out L.sets L.cursors L.vars in
    let settled : Going A a.u a.words.now a.limit B a.m.steps (H s.result) L.steps =
    going_settled A a.u a.words.now a.limit B a.m.steps (H L.pc) L.steps L.invariant.2 s.result s.ensures.moves
    in
    record {
      goes = answers c.stop.result c.stop.ensures (goes_done A a.u a.words.now a.limit B a.m.steps (H s.result) L.steps settled c.if-at-words.true);
      counts_right = rw c.stop.ensures.2 L.invariant.3;
    }

pub returns-then-steps-limit : goal.returns-then-steps-limit
returns-then-steps-limit c =
    let a = c.args in
    let L = c.loop-u in
    let s = c.settle-at in
    let A = all a.words.now a.firsts.now a.u a.scr (texts a.facts.now a.query.now a.places.now) in
    let B = held a.m.pc a.m.used a.store.now a.out.now a.sets.now a.cursors.now a.vars.now in
    let H : ℕ → Held = λ at. held at L.used L.store L.out L.sets L.cursors L.vars in
    let settled : Going A a.u a.words.now a.limit B a.m.steps (H s.result) L.steps =
    going_settled A a.u a.words.now a.limit B a.m.steps (H L.pc) L.steps L.invariant.2 s.result s.ensures.moves
    in
    let e = c.stop-then-steps-limit in
    record {
      goes = answers e.result e.ensures (goes_spent A a.u a.words.now a.limit B a.m.steps (H s.result) L.steps settled s.ensures.rest c.if-at-words.false c.if-steps-limit.true);
      counts_right = rw e.ensures.2 L.invariant.3;
    }

pub act-a-requires : goal.act-a-requires
act-a-requires c = (omega arith, omega arith)

pub shape_of-store-then-a : goal.shape_of-store-then-a
shape_of-store-then-a c = omega (arith, c.loop-u.invariant.0)

pub shape_of-out-then-a : goal.shape_of-out-then-a
shape_of-out-then-a c = omega (arith, c.loop-u.invariant.1)

pub returns-then-a : goal.returns-then-a
returns-then-a c =
    let a = c.args in
    let L = c.loop-u in
    let s = c.settle-at in
    let A = all a.words.now a.firsts.now a.u a.scr (texts a.facts.now a.query.now a.places.now) in
    let B = held a.m.pc a.m.used a.store.now a.out.now a.sets.now a.cursors.now a.vars.now in
    let H : ℕ → Held = λ at. held at L.used L.store L.out L.sets L.cursors L.vars in
    let settled : Going A a.u a.words.now a.limit B a.m.steps (H s.result) L.steps =
    going_settled A a.u a.words.now a.limit B a.m.steps (H L.pc) L.steps L.invariant.2 s.result s.ensures.moves
    in
    let k = c.act-a.ensures in
    let e = c.stop-then-a in
    record {
      goes = answers e.result e.ensures (goes_full A a.u a.words.now a.limit B a.m.steps (H s.result) L.steps settled s.ensures.rest c.if-at-words.false _ _ k.turned c.if-steps-limit.false c.if-a.true);
      counts_right = rw e.ensures.2 (right_full A a.u a.words.now a.limit a.firsts.now B a.m.steps a.counts.now (H s.result) L.steps L.counts settled L.invariant.3 _ _ k.turned _ k.counts_after c.if-a.true);
    }

pub overflow_add-steps : goal.overflow_add-steps
overflow_add-steps c = omega (arith, c.ranges.limit.fits, c.loop-u.invariant.2.within, c.if-steps-limit.false)

pub loop-u-preserved : goal.loop-u-preserved
loop-u-preserved c =
    let a = c.args in
    let L = c.loop-u in
    let s = c.settle-at in
    let A = all a.words.now a.firsts.now a.u a.scr (texts a.facts.now a.query.now a.places.now) in
    let B = held a.m.pc a.m.used a.store.now a.out.now a.sets.now a.cursors.now a.vars.now in
    let H : ℕ → Held = λ at. held at L.used L.store L.out L.sets L.cursors L.vars in
    let settled : Going A a.u a.words.now a.limit B a.m.steps (H s.result) L.steps =
    going_settled A a.u a.words.now a.limit B a.m.steps (H L.pc) L.steps L.invariant.2 s.result s.ensures.moves
    in
    let k = c.act-a.ensures in (
      omega arith,
      omega arith,
      going_on A a.u a.words.now a.limit B a.m.steps (H s.result) L.steps settled s.ensures.rest c.if-at-words.false _ _ k.turned c.if-steps-limit.false c.if-a.false,
      right_on A a.u a.words.now a.limit a.firsts.now B a.m.steps a.counts.now (H s.result) L.steps L.counts settled L.invariant.3 _ _ k.turned _ k.counts_after s.ensures.rest c.if-at-words.false,
    )
