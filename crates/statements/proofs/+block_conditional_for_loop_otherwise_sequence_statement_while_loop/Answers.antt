use Rattle.std.specs.Prelude.{Ok}
use native.Mathlib.Omega.{arith}
use mathlib.Core.Path.{refl, sym, ◌∙◌}
use Prim.Native.Nat.{◌+◌, ◌-◌}
use Rattle.std.proofs.lemmas.Result.{err_from_is_err_and}
use Rattle.expressions.proofs.OperatorLaws.{paid_of}
use Rattle.statements.proofs.SequenceLaws.{no_statement, IsSofar, sequence_starts, sequence_stops, sequence_span, sequence_ends, sequence_on, sequence_less, begins_not, begins_so}
use Rattle.statements.proofs.BlockLaws.{block_open, block_deep, block_closes, nested, else_none, else_some}
use Rattle.statements.proofs.CompoundLaws.{block_span, an_if, a_while, a_for, test_refused, block_refused, for_open, heads, while_ends, for_ends, else_refused, else_span, if_ends}
use Rattle.terms.proofs.TokenLaws.{kind_within}
use Rattle.statements.proofs.+block_conditional_for_loop_otherwise_sequence_statement_while_loop.Goals as goal

pub block-returns-then-kind_at-ne2 : goal.block-returns-then-kind_at-ne2
block-returns-then-kind_at-ne2 t c = block_open (omega arith) (λ e. c.if-kind_at-ne2.true (c.kind_at.ensures ∙ e))

pub block-returns-then-d-ge32 : goal.block-returns-then-d-ge32
block-returns-then-d-ge32 t c = block_deep c.if-d-ge32.true (sym c.kind_at.ensures ∙ c.if-kind_at-ne2.false)

pub block-sequence-a-requires : goal.block-sequence-a-requires
block-sequence-a-requires t c = let l = kind_within c.args.tokens.now c.args.p (omega (arith, c.kind_at.ensures, c.if-kind_at-ne2.false)) in (omega arith, (c.requires.0, omega arith))

pub block-returns : goal.block-returns
block-returns t c = block_closes c.if-d-ge32.false (sym c.kind_at.ensures ∙ c.if-kind_at-ne2.false) c.sequence-a.ensures c.close.ensures

pub conditional-comparison-requires : goal.conditional-comparison-requires
conditional-comparison-requires t c = let l = kind_within c.args.tokens.now c.args.p (omega (arith, c.requires.0)) in omega arith

pub conditional-returns-in_err-q : goal.conditional-returns-in_err-q
conditional-returns-in_err-q t c = let p = err_from_is_err_and c.from_residual.result c.from_residual.ensures.1 in rw (p.1, p.2) (test_refused (an_if _ _ _ c.requires.1.1.nest c.requires.0) c.comparison.ensures c.in_err-q.was)

pub conditional-overflow_add-m : goal.conditional-overflow_add-m
conditional-overflow_add-m t c = let o = paid_of c.comparison.ensures c.in_ok-q.was in omega arith

pub conditional-block-requires : goal.conditional-block-requires
conditional-block-requires t c = let o = paid_of c.comparison.ensures c.in_ok-q.was in let l = kind_within c.args.tokens.now c.args.p (omega (arith, c.requires.0)) in (omega arith, (c.requires.1.0, omega arith))

pub conditional-returns-in_err-r : goal.conditional-returns-in_err-r
conditional-returns-in_err-r t c = let p = err_from_is_err_and c.from_residual-in_err-r.result c.from_residual-in_err-r.ensures.1 in rw (p.1, p.2) (block_refused (an_if _ _ _ c.requires.1.1.nest c.requires.0) c.comparison.ensures c.in_ok-q.was c.block.ensures c.in_err-r.was)

pub conditional-overflow_add-l : goal.conditional-overflow_add-l
conditional-overflow_add-l t c = let o = paid_of c.comparison.ensures c.in_ok-q.was in let o' = block_span c.block.ensures c.in_ok-r.was in omega arith

pub conditional-otherwise-requires : goal.conditional-otherwise-requires
conditional-otherwise-requires t c = let o = paid_of c.comparison.ensures c.in_ok-q.was in let o' = block_span c.block.ensures c.in_ok-r.was in let l = kind_within c.args.tokens.now c.args.p (omega (arith, c.requires.0)) in (omega arith, (c.requires.1.0, omega arith))

pub conditional-returns-in_err-u : goal.conditional-returns-in_err-u
conditional-returns-in_err-u t c = let p = err_from_is_err_and c.from_residual-in_err-u.result c.from_residual-in_err-u.ensures.1 in rw (p.1, p.2) (else_refused c.requires.1.1.nest c.in_ok-q.was c.requires.0 c.comparison.ensures c.block.ensures c.in_ok-r.was c.otherwise.ensures c.in_err-u.was)

pub conditional-tested-requires : goal.conditional-tested-requires
conditional-tested-requires t c = let o = paid_of c.comparison.ensures c.in_ok-q.was in let o' = block_span c.block.ensures c.in_ok-r.was in let o'' = else_span c.otherwise.ensures c.in_ok-u.was in let l = kind_within c.args.tokens.now c.args.p (omega (arith, c.requires.0)) in let i = c.requires.1.0.small c.args.p in omega (arith, c.requires.1.1.small, c.requires.1.1.room, c.requires.1.1.used, c.otherwise.auto.words, c.block.auto.words, c.comparison.auto.words)

pub conditional-returns : goal.conditional-returns
conditional-returns t c = if_ends c.requires.1.1.nest c.in_ok-q.was c.requires.0 c.comparison.ensures c.block.ensures c.in_ok-r.was c.otherwise.ensures c.in_ok-u.was c.tested.ensures

pub for_loop-heading-k-requires : goal.for_loop-heading-k-requires
for_loop-heading-k-requires t c = let l = kind_within c.args.tokens.now c.args.p (omega (arith, c.requires.0)) in omega arith

pub for_loop-returns-then-k-lt3 : goal.for_loop-returns-then-k-lt3
for_loop-returns-then-k-lt3 t c = for_open c.requires.1.1.nest c.requires.0 c.heading-k.ensures c.if-k-lt3.true

pub for_loop-comparison-requires : goal.for_loop-comparison-requires
for_loop-comparison-requires t c = let u = heads c.heading-k.ensures c.if-k-lt3.false in let l = kind_within c.args.tokens.now (c.args.p + 2) (omega (arith, u.in')) in omega arith

pub for_loop-returns-in_err-q : goal.for_loop-returns-in_err-q
for_loop-returns-in_err-q t c = let p = err_from_is_err_and c.from_residual.result c.from_residual.ensures.1 in rw (p.1, p.2) (let u = heads c.heading-k.ensures c.if-k-lt3.false in test_refused (a_for _ _ _ c.requires.1.1.nest c.requires.0 u.name u.in') c.comparison.ensures c.in_err-q.was)

pub for_loop-overflow_add-m : goal.for_loop-overflow_add-m
for_loop-overflow_add-m t c = let o = paid_of c.comparison.ensures c.in_ok-q.was in omega arith

pub for_loop-block-requires : goal.for_loop-block-requires
for_loop-block-requires t c = let o = paid_of c.comparison.ensures c.in_ok-q.was in let l = kind_within c.args.tokens.now c.args.p (omega (arith, c.requires.0)) in (omega arith, (c.requires.1.0, omega arith))

pub for_loop-returns-in_err-r : goal.for_loop-returns-in_err-r
for_loop-returns-in_err-r t c = let p = err_from_is_err_and c.from_residual-in_err-r.result c.from_residual-in_err-r.ensures.1 in rw (p.1, p.2) (let u = heads c.heading-k.ensures c.if-k-lt3.false in block_refused (a_for _ _ _ c.requires.1.1.nest c.requires.0 u.name u.in') c.comparison.ensures c.in_ok-q.was c.block.ensures c.in_err-r.was)

pub for_loop-ranged-requires : goal.for_loop-ranged-requires
for_loop-ranged-requires t c = let o = paid_of c.comparison.ensures c.in_ok-q.was in let o' = block_span c.block.ensures c.in_ok-r.was in let l = kind_within c.args.tokens.now c.args.p (omega (arith, c.requires.0)) in let i = c.requires.1.0.small c.args.p in omega (arith, c.block.auto.words, c.comparison.auto.words, c.heading-k.auto.words)

pub for_loop-returns : goal.for_loop-returns
for_loop-returns t c = for_ends c.requires.1.1.nest c.in_ok-q.was c.requires.0 (heads c.heading-k.ensures c.if-k-lt3.false) c.comparison.ensures c.block.ensures c.in_ok-r.was c.ranged.ensures

pub otherwise-returns-then-kind_at-ne17 : goal.otherwise-returns-then-kind_at-ne17
otherwise-returns-then-kind_at-ne17 t c = else_none (omega arith) (λ e. c.if-kind_at-ne17.true (c.kind_at.ensures ∙ e))

pub otherwise-block-requires : goal.otherwise-block-requires
otherwise-block-requires t c = let l = kind_within c.args.tokens.now c.args.p (omega (arith, c.kind_at.ensures, c.if-kind_at-ne17.false)) in (omega arith, (c.requires.0, omega arith))

pub otherwise-returns : goal.otherwise-returns
otherwise-returns t c = else_some c.requires.1.nest (sym c.kind_at.ensures ∙ c.if-kind_at-ne17.false) c.block.ensures

pub statement-block-requires : goal.statement-block-requires
statement-block-requires t c = (omega arith, c.requires)

pub statement-for_loop-requires : goal.statement-for_loop-requires
statement-for_loop-requires t c = (omega arith, ((sym c.kind_at.ensures ∙ c.in-23.is), c.requires))

pub statement-conditional-requires : goal.statement-conditional-requires
statement-conditional-requires t c = (omega arith, ((sym c.kind_at.ensures ∙ c.in-24.is), c.requires))

pub statement-print-requires : goal.statement-print-requires
statement-print-requires t c = ((sym c.kind_at.ensures ∙ c.in-30.is), c.requires)

pub statement-while_loop-requires : goal.statement-while_loop-requires
statement-while_loop-requires t c = (omega arith, ((sym c.kind_at.ensures ∙ c.in-38.is), c.requires))

pub statement-assignment-requires : goal.statement-assignment-requires
statement-assignment-requires t c = ((sym c.kind_at.ensures ∙ c.in-47.is), c.requires)

pub statement-returns-in-2 : goal.statement-returns-in-2
statement-returns-in-2 t c = nested (sym c.kind_at.ensures ∙ c.in-2.is) c.block.ensures

pub statement-returns-in_default : goal.statement-returns-in_default
statement-returns-in_default t c = no_statement (omega arith) (record { no_name = λ e. c.in_default.in_default-own.rest.1 (c.kind_at.ensures ∙ e); no_if = λ e. c.in_default.in_default-own.rest.0.0.0.1 (c.kind_at.ensures ∙ e); no_while = λ e. c.in_default.in_default-own.rest.0.1 (c.kind_at.ensures ∙ e); no_for = λ e. c.in_default.in_default-own.rest.0.0.0.0.1 (c.kind_at.ensures ∙ e); no_brace = λ e. c.in_default.in_default-own.rest.0.0.0.0.0.1 (c.kind_at.ensures ∙ e); no_print = λ e. c.in_default.in_default-own.rest.0.0.1 (c.kind_at.ensures ∙ e) })

pub while_loop-comparison-requires : goal.while_loop-comparison-requires
while_loop-comparison-requires t c = let l = kind_within c.args.tokens.now c.args.p (omega (arith, c.requires.0)) in omega arith

pub while_loop-returns-in_err-q : goal.while_loop-returns-in_err-q
while_loop-returns-in_err-q t c = let p = err_from_is_err_and c.from_residual.result c.from_residual.ensures.1 in rw (p.1, p.2) (test_refused (a_while _ _ _ c.requires.1.1.nest c.requires.0) c.comparison.ensures c.in_err-q.was)

pub while_loop-overflow_add-m : goal.while_loop-overflow_add-m
while_loop-overflow_add-m t c = let o = paid_of c.comparison.ensures c.in_ok-q.was in omega arith

pub while_loop-block-requires : goal.while_loop-block-requires
while_loop-block-requires t c = let o = paid_of c.comparison.ensures c.in_ok-q.was in let l = kind_within c.args.tokens.now c.args.p (omega (arith, c.requires.0)) in (omega arith, (c.requires.1.0, omega arith))

pub while_loop-returns-in_err-r : goal.while_loop-returns-in_err-r
while_loop-returns-in_err-r t c = let p = err_from_is_err_and c.from_residual-in_err-r.result c.from_residual-in_err-r.ensures.1 in rw (p.1, p.2) (block_refused (a_while _ _ _ c.requires.1.1.nest c.requires.0) c.comparison.ensures c.in_ok-q.was c.block.ensures c.in_err-r.was)

pub while_loop-repeated-requires : goal.while_loop-repeated-requires
while_loop-repeated-requires t c = let o = paid_of c.comparison.ensures c.in_ok-q.was in let o' = block_span c.block.ensures c.in_ok-r.was in let l = kind_within c.args.tokens.now c.args.p (omega (arith, c.requires.0)) in let i = c.requires.1.0.small c.args.p in omega (arith, c.block.auto.words, c.comparison.auto.words)

pub while_loop-returns : goal.while_loop-returns
while_loop-returns t c = while_ends c.requires.1.1.nest c.in_ok-q.was c.requires.0 c.comparison.ensures c.block.ensures c.in_ok-r.was c.repeated.ensures

pub block-overflow_add-p : goal.block-overflow_add-p
block-overflow_add-p t c = omega arith

pub block-overflow_add-d : goal.block-overflow_add-d
block-overflow_add-d t c = omega arith

pub conditional-overflow_add-p : goal.conditional-overflow_add-p
conditional-overflow_add-p t c = omega arith

pub for_loop-overflow_add-result : goal.for_loop-overflow_add-result
for_loop-overflow_add-result t c = omega arith

pub for_loop-overflow_add-p : goal.for_loop-overflow_add-p
for_loop-overflow_add-p t c = omega arith

pub for_loop-overflow_add-n : goal.for_loop-overflow_add-n
for_loop-overflow_add-n t c = omega arith

pub for_loop-overflow_add-result-2 : goal.for_loop-overflow_add-result-2
for_loop-overflow_add-result-2 t c = let o = paid_of c.comparison.ensures c.in_ok-q.was in let o' = block_span c.block.ensures c.in_ok-r.was in omega (arith, c.requires.1.1.small, c.requires.1.1.used)

pub otherwise-overflow_add-p : goal.otherwise-overflow_add-p
otherwise-overflow_add-p t c = omega arith

pub statement-returns-in-23 : goal.statement-returns-in-23
statement-returns-in-23 t c = c.for_loop.ensures

pub statement-returns-in-24 : goal.statement-returns-in-24
statement-returns-in-24 t c = c.conditional.ensures

pub statement-returns-in-30 : goal.statement-returns-in-30
statement-returns-in-30 t c = c.print.ensures

pub statement-returns-in-38 : goal.statement-returns-in-38
statement-returns-in-38 t c = c.while_loop.ensures

pub statement-returns-in-47 : goal.statement-returns-in-47
statement-returns-in-47 t c = c.assignment.ensures

pub while_loop-overflow_add-p : goal.while_loop-overflow_add-p
while_loop-overflow_add-p t c = omega arith

pub while_loop-overflow_add-result : goal.while_loop-overflow_add-result
while_loop-overflow_add-result t c = let o = paid_of c.comparison.ensures c.in_ok-q.was in let o' = block_span c.block.ensures c.in_ok-r.was in omega arith

pub sequence-statement-requires : goal.sequence-statement-requires
sequence-statement-requires t c = (omega arith, (c.requires.0, omega arith))

pub sequence-returns-in_err-q : goal.sequence-returns-in_err-q
sequence-returns-in_err-q t c = let p = err_from_is_err_and c.from_residual.result c.from_residual.ensures.1 in rw (p.1, p.2) (sequence_stops c.requires.1.nest (sequence_starts c.requires.1.nest c.requires.1.place c.statement.ensures c.statement.auto.words) c.in_err-q.was)

pub sequence-statement-requires-in-loop-words : goal.sequence-statement-requires-in-loop-words
sequence-statement-requires-in-loop-words t c =
    let sofar : IsSofar c.args.tokens.now c.args.p c.args.n c.args.d c.args.words.now c.loop-words.words (Ok (c.loop-words.q, c.loop-words.m)) = c.loop-words.invariant c.args.words.now (rw c.in_ok-q.was at (sequence_starts c.requires.1.nest c.requires.1.place c.statement.ensures c.statement.auto.words)) in
    let o = sequence_span c.requires.1.nest sofar refl in (omega arith, (c.requires.0, omega (arith, sofar.long)))

pub sequence-returns-in_err-q-2 : goal.sequence-returns-in_err-q-2
sequence-returns-in_err-q-2 t c =
    let sofar : IsSofar c.args.tokens.now c.args.p c.args.n c.args.d c.args.words.now c.loop-words.words (Ok (c.loop-words.q, c.loop-words.m)) = c.loop-words.invariant c.args.words.now (rw c.in_ok-q.was at (sequence_starts c.requires.1.nest c.requires.1.place c.statement.ensures c.statement.auto.words)) in
    let p = err_from_is_err_and c.from_residual-in_err-q-2.result c.from_residual-in_err-q-2.ensures.1 in rw (p.1, p.2) (sequence_stops c.requires.1.nest (sequence_on c.requires.1.nest sofar refl (rw c.loop-words-test.true at c.begins.ensures) c.statement-in-loop-words.ensures (c.statement-in-loop-words.auto.words ∙ sofar.long)) c.in_err-q-2.was)

pub sequence-loop-words-smaller : goal.sequence-loop-words-smaller
sequence-loop-words-smaller t c =
    let sofar : IsSofar c.args.tokens.now c.args.p c.args.n c.args.d c.args.words.now c.loop-words.words (Ok (c.loop-words.q, c.loop-words.m)) = c.loop-words.invariant c.args.words.now (rw c.in_ok-q.was at (sequence_starts c.requires.1.nest c.requires.1.place c.statement.ensures c.statement.auto.words)) in
    let o = sequence_span c.requires.1.nest sofar refl in let h = rw c.in_ok-q-2.was at (sequence_less c.requires.1.nest o.within refl c.statement-in-loop-words.ensures) in omega (arith, h)

pub sequence-loop-words-preserved : goal.sequence-loop-words-preserved
sequence-loop-words-preserved t c = λ A s. let h = c.loop-words.invariant A s in rw c.in_ok-q-2.was at (sequence_on c.requires.1.nest h refl (rw c.loop-words-test.true at c.begins.ensures) c.statement-in-loop-words.ensures (c.statement-in-loop-words.auto.words ∙ h.long))

pub sequence-returns : goal.sequence-returns
sequence-returns t c =
    let sofar : IsSofar c.args.tokens.now c.args.p c.args.n c.args.d c.args.words.now c.loop-words.words (Ok (c.loop-words.q, c.loop-words.m)) = c.loop-words.invariant c.args.words.now (rw c.in_ok-q.was at (sequence_starts c.requires.1.nest c.requires.1.place c.statement.ensures c.statement.auto.words)) in
    sequence_ends c.requires.1.nest sofar refl (rw c.loop-words-test.false at c.begins.ensures)
