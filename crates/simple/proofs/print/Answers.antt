use Rattle.std.specs.Prelude.{Ok}
use native.Mathlib.Omega.{arith}
use mathlib.Core.Path.{refl, sym, ◌∙◌}
use lib.ListN.{length-set}
use Rattle.std.proofs.lemmas.Result.{err_from_is_err_and}
use Rattle.simple.proofs.ItemLaws.{IsPrinting, item_span, print_starts, print_stops, print_span, print_unended, print_ends, print_on}
use Rattle.terms.proofs.TokenLaws.{kind_within}
use Rattle.simple.proofs.print.Goals as goal

pub item-requires : goal.item-requires
item-requires c = let l = kind_within c.args.tokens.now c.args.p (omega arith) in omega arith

pub returns-in_err-q : goal.returns-in_err-q
returns-in_err-q c = let p = err_from_is_err_and c.from_residual.result c.from_residual.ensures.1 in rw (p.1, p.2) (print_stops c.requires.1.1.nest c.requires.0 (print_starts c.requires.1.1.nest c.requires.0 c.item.ensures c.item.auto.words) c.in_err-q.was)

pub loop-words-init : goal.loop-words-init
loop-words-init c = λ A h. h

pub overflow_add-q : goal.overflow_add-q
overflow_add-q c =
    let sofar : IsPrinting c.args.tokens.now c.args.p c.args.n c.args.d c.args.words.now c.loop-words.words (Ok (c.loop-words.q, c.loop-words.m)) = c.loop-words.invariant c.args.words.now (rw c.in_ok-q.was at (print_starts c.requires.1.1.nest c.requires.0 c.item.ensures c.item.auto.words)) in
    let o = print_span c.requires.1.1.nest c.requires.0 sofar refl in omega arith

pub item-requires-in-loop-words : goal.item-requires-in-loop-words
item-requires-in-loop-words c =
    let sofar : IsPrinting c.args.tokens.now c.args.p c.args.n c.args.d c.args.words.now c.loop-words.words (Ok (c.loop-words.q, c.loop-words.m)) = c.loop-words.invariant c.args.words.now (rw c.in_ok-q.was at (print_starts c.requires.1.1.nest c.requires.0 c.item.ensures c.item.auto.words)) in
    let o = print_span c.requires.1.1.nest c.requires.0 sofar refl in let l = kind_within c.args.tokens.now c.loop-words.q (omega (arith, c.kind_at.ensures)) in omega (arith, sofar.long)

pub returns-in_err-q-2 : goal.returns-in_err-q-2
returns-in_err-q-2 c =
    let sofar : IsPrinting c.args.tokens.now c.args.p c.args.n c.args.d c.args.words.now c.loop-words.words (Ok (c.loop-words.q, c.loop-words.m)) = c.loop-words.invariant c.args.words.now (rw c.in_ok-q.was at (print_starts c.requires.1.1.nest c.requires.0 c.item.ensures c.item.auto.words)) in
    let p = err_from_is_err_and c.from_residual-in_err-q-2.result c.from_residual-in_err-q-2.ensures.1 in rw (p.1, p.2) (print_stops c.requires.1.1.nest c.requires.0 (print_on c.requires.1.1.nest c.requires.0 sofar refl (sym c.kind_at.ensures ∙ c.loop-words-test.true) c.item-in-loop-words.ensures (c.item-in-loop-words.auto.words ∙ sofar.long)) c.in_err-q-2.was)

pub loop-words-smaller : goal.loop-words-smaller
loop-words-smaller c = let o = item_span c.item-in-loop-words.ensures c.in_ok-q-2.was in let l = kind_within c.args.tokens.now c.loop-words.q (omega (arith, c.kind_at.ensures)) in omega arith

pub loop-words-preserved : goal.loop-words-preserved
loop-words-preserved c = λ A s. let h = c.loop-words.invariant A s in rw c.in_ok-q-2.was at (print_on c.requires.1.1.nest c.requires.0 h refl (sym c.kind_at.ensures ∙ c.loop-words-test.true) c.item-in-loop-words.ensures (c.item-in-loop-words.auto.words ∙ h.long))

pub returns-then-kind_at-ne7 : goal.returns-then-kind_at-ne7
returns-then-kind_at-ne7 c =
    let sofar : IsPrinting c.args.tokens.now c.args.p c.args.n c.args.d c.args.words.now c.loop-words.words (Ok (c.loop-words.q, c.loop-words.m)) = c.loop-words.invariant c.args.words.now (rw c.in_ok-q.was at (print_starts c.requires.1.1.nest c.requires.0 c.item.ensures c.item.auto.words)) in
    print_unended c.requires.1.1.nest c.requires.0 sofar refl (λ e. c.if-kind_at-ne7.true (c.kind_at-2.ensures ∙ e)) (λ e. c.loop-words-test.false (c.kind_at.ensures ∙ e))

pub place-requires : goal.place-requires
place-requires c = let l = kind_within c.args.tokens.now c.args.p (omega (arith, c.requires.0)) in omega arith

pub pack-requires : goal.pack-requires
pack-requires c = omega (arith, c.place.ensures, c.requires.1.0.small c.args.p)

pub offset_bounds-words-m : goal.offset_bounds-words-m
offset_bounds-words-m c =
    let sofar : IsPrinting c.args.tokens.now c.args.p c.args.n c.args.d c.args.words.now c.loop-words.words (Ok (c.loop-words.q, c.loop-words.m)) = c.loop-words.invariant c.args.words.now (rw c.in_ok-q.was at (print_starts c.requires.1.1.nest c.requires.0 c.item.ensures c.item.auto.words)) in
    let o = print_span c.requires.1.1.nest c.requires.0 sofar refl in let l = kind_within c.args.tokens.now c.loop-words.q (omega (arith, c.kind_at-2.ensures, c.if-kind_at-ne7.false)) in omega (arith, sofar.long)

pub bounds-words-m : goal.bounds-words-m
bounds-words-m c =
    let sofar : IsPrinting c.args.tokens.now c.args.p c.args.n c.args.d c.args.words.now c.loop-words.words (Ok (c.loop-words.q, c.loop-words.m)) = c.loop-words.invariant c.args.words.now (rw c.in_ok-q.was at (print_starts c.requires.1.1.nest c.requires.0 c.item.ensures c.item.auto.words)) in
    let o = print_span c.requires.1.1.nest c.requires.0 sofar refl in let l = kind_within c.args.tokens.now c.loop-words.q (omega (arith, c.kind_at-2.ensures, c.if-kind_at-ne7.false)) in omega (arith, sofar.long)

pub overflow_add-result : goal.overflow_add-result
overflow_add-result c =
    let sofar : IsPrinting c.args.tokens.now c.args.p c.args.n c.args.d c.args.words.now c.loop-words.words (Ok (c.loop-words.q, c.loop-words.m)) = c.loop-words.invariant c.args.words.now (rw c.in_ok-q.was at (print_starts c.requires.1.1.nest c.requires.0 c.item.ensures c.item.auto.words)) in
    let o = print_span c.requires.1.1.nest c.requires.0 sofar refl in omega arith

pub overflow_add-result-2 : goal.overflow_add-result-2
overflow_add-result-2 c =
    let sofar : IsPrinting c.args.tokens.now c.args.p c.args.n c.args.d c.args.words.now c.loop-words.words (Ok (c.loop-words.q, c.loop-words.m)) = c.loop-words.invariant c.args.words.now (rw c.in_ok-q.was at (print_starts c.requires.1.1.nest c.requires.0 c.item.ensures c.item.auto.words)) in
    let o = print_span c.requires.1.1.nest c.requires.0 sofar refl in omega arith

pub returns : goal.returns
returns c =
    let sofar : IsPrinting c.args.tokens.now c.args.p c.args.n c.args.d c.args.words.now c.loop-words.words (Ok (c.loop-words.q, c.loop-words.m)) = c.loop-words.invariant c.args.words.now (rw c.in_ok-q.was at (print_starts c.requires.1.1.nest c.requires.0 c.item.ensures c.item.auto.words)) in
    print_ends c.requires.1.1.nest c.requires.0 sofar refl (sym c.kind_at-2.ensures ∙ c.if-kind_at-ne7.false) c.pack.ensures c.place.ensures
