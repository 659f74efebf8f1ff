use Rattle.std.specs.Prelude.{Ok}
use native.Mathlib.Omega.{arith}
use mathlib.Core.Path.{refl, sym, ◌∙◌}
use Prim.Native.Nat.{◌+◌, ◌-◌}
use mathlib.Core.Logic.{inl, inr, ⊎_elim}
use lib.ListN.{length}
use Rattle.std.proofs.lemmas.Result.{err_from_is_err_and}
use Rattle.expressions.proofs.BracketLaws.{brackets_close, group_reads, group_deep, applies_small, applied_deep, applied_open, applied_reads, closed_room, bound_of, quantifier_law, quantifier_within, quantifier_deep, quantifier_unbound, quantifier_reads, bind_room, ex_here, fa_here, closure_here, hash_here, plain_here}
use Rattle.expressions.proofs.OperatorLaws.{paid_of, tail_stops, comparison_tail, consequent_tail, no_sign_ends, sign_joins, no_arrow_ends, implies_joins, iff_joins, Linked, or_chain, and_chain, or_whole, and_whole, chain_starts, chain_stops, chain_paid, chain_ends, chain_on, chain_less, left, negation_deep, negation_plain, negation_wraps, join_room, wrap_room}
use Rattle.expressions.proofs.QuantityLaws.{sum_chain, chain_ninth, sum_on, sum_paid, sum_room, quantity_stops, quantity_ends, quantity_joins, figures_stop, figures_alone, figures_join}
use Rattle.terms.proofs.TokenLaws.{kind_within}
use Rattle.expressions.proofs.+applied_comparison_conjunction_disjunction_figures_group_implication_negation_primary_quantifier_quantity_relations_sum_summand.Goals as goal
use Rattle.expressions.proofs.+applied_comparison_conjunction_disjunction_figures_group_implication_negation_primary_quantifier_quantity_relations_sum_summand.Goals.{primary-in_default-via-then-this-lt35, primary-in_default-via-else-this-lt35+else-this-lt37}

pub applied-returns-then-d-ge32 : goal.applied-returns-then-d-ge32
applied-returns-then-d-ge32 t c = applied_deep _ _ _ _ _ _ c.requires.0 c.if-d-ge32.true

pub applied-returns-then-kind_at-ne0 : goal.applied-returns-then-kind_at-ne0
applied-returns-then-kind_at-ne0 t c = applied_open _ _ _ _ _ _ c.requires.0 c.if-d-ge32.false (λ e. c.if-kind_at-ne0.true (c.kind_at.ensures ∙ e))

pub applied-comparison-a-requires : goal.applied-comparison-a-requires
applied-comparison-a-requires t c = let l = kind_within c.args.tokens.now (c.args.p + 1) (omega arith) in omega arith

pub applied-wrap-requires : goal.applied-wrap-requires
applied-wrap-requires t c = closed_room _ (brackets_close c.comparison-a.ensures c.close-b.ensures) (applies_small c.requires.0).1 (omega arith) (omega arith) (omega arith)

pub applied-returns : goal.applied-returns
applied-returns t c = applied_reads _ _ _ _ _ _ c.requires.0 c.if-d-ge32.false (sym c.kind_at.ensures ∙ c.if-kind_at-ne0.false) (brackets_close c.comparison-a.ensures c.close-b.ensures) c.wrap.ensures

pub comparison-figures-requires : goal.comparison-figures-requires
comparison-figures-requires t c = (omega arith, (rw c.if-begins_quantity.true at c.begins_quantity.ensures, c.requires))

pub comparison-relations-requires : goal.comparison-relations-requires
comparison-relations-requires t c = (omega arith, (rw c.if-begins_quantity.false at c.begins_quantity.ensures, c.requires))

pub figures-returns-in_err-q : goal.figures-returns-in_err-q
figures-returns-in_err-q t c = let p = err_from_is_err_and c.from_residual.result c.from_residual.ensures.1 in rw (p.1, p.2) (figures_stop c.requires.0 c.quantity.ensures c.in_err-q.was)

pub figures-returns-then-g-lt41 : goal.figures-returns-then-g-lt41
figures-returns-then-g-lt41 t c = figures_alone c.requires.0 c.quantity.ensures c.in_ok-q.was (λ l h. omega (arith, c.kind_at-g.ensures, c.if-g-lt41.true))

pub figures-returns-then-g-gt46 : goal.figures-returns-then-g-gt46
figures-returns-then-g-gt46 t c = figures_alone c.requires.0 c.quantity.ensures c.in_ok-q.was (λ l h. omega (arith, c.kind_at-g.ensures, c.if-g-gt46.true))

pub figures-overflow_add-q : goal.figures-overflow_add-q
figures-overflow_add-q t c = let o = paid_of c.quantity.ensures c.in_ok-q.was in omega arith

pub figures-quantity-b-requires : goal.figures-quantity-b-requires
figures-quantity-b-requires t c = let o = paid_of c.quantity.ensures c.in_ok-q.was in let l = kind_within c.args.tokens.now c.in_ok-q.q (omega (arith, c.kind_at-g.ensures)) in omega arith

pub figures-join-requires : goal.figures-join-requires
figures-join-requires t c = let o = paid_of c.quantity.ensures c.in_ok-q.was in let l = kind_within c.args.tokens.now c.in_ok-q.q (omega (arith, c.kind_at-g.ensures)) in join_room 28 _ c.quantity-b.ensures (omega arith) (omega arith) (omega arith) (omega arith) (omega arith) (omega arith)

pub figures-returns : goal.figures-returns
figures-returns t c = figures_join c.requires.0 c.quantity.ensures c.in_ok-q.was (omega arith) (omega (arith, c.kind_at-g.ensures, c.if-g-lt41.false)) (omega (arith, c.kind_at-g.ensures, c.if-g-gt46.false)) c.quantity-b.ensures (rw c.kind_at-g.ensures at c.join.ensures)

pub group-returns-then-d-ge32 : goal.group-returns-then-d-ge32
group-returns-then-d-ge32 t c = group_deep c.if-d-ge32.true c.requires.0

pub group-comparison-a-requires : goal.group-comparison-a-requires
group-comparison-a-requires t c = let l = kind_within c.args.tokens.now c.args.p (omega arith) in omega arith

pub group-returns : goal.group-returns
group-returns t c = group_reads c.if-d-ge32.false c.requires.0 (brackets_close c.comparison-a.ensures c.close.ensures)

pub implication-returns-in_err-q : goal.implication-returns-in_err-q
implication-returns-in_err-q t c = let p = err_from_is_err_and c.from_residual.result c.from_residual.ensures.1 in rw (p.1, p.2) (tail_stops consequent_tail c.disjunction.ensures c.in_err-q.was)

pub implication-overflow_add-q : goal.implication-overflow_add-q
implication-overflow_add-q t c = let o = paid_of c.disjunction.ensures c.in_ok-q.was in omega arith

pub implication-disjunction-b-requires : goal.implication-disjunction-b-requires
implication-disjunction-b-requires t c = let o = paid_of c.disjunction.ensures c.in_ok-q.was in let l = kind_within c.args.tokens.now c.in_ok-q.q (omega (arith, c.kind_at.ensures, c.in-12.is)) in omega arith

pub implication-join-requires : goal.implication-join-requires
implication-join-requires t c = let o = paid_of c.disjunction.ensures c.in_ok-q.was in let l = kind_within c.args.tokens.now c.in_ok-q.q (omega (arith, c.kind_at.ensures, c.in-12.is)) in join_room 17 0 c.disjunction-b.ensures (omega arith) (omega arith) (omega arith) (omega arith) (omega arith) (omega arith)

pub implication-overflow_add-q-in-13 : goal.implication-overflow_add-q-in-13
implication-overflow_add-q-in-13 t c = let o = paid_of c.disjunction.ensures c.in_ok-q.was in omega arith

pub implication-disjunction-b-requires-in-13 : goal.implication-disjunction-b-requires-in-13
implication-disjunction-b-requires-in-13 t c = let o = paid_of c.disjunction.ensures c.in_ok-q.was in let l = kind_within c.args.tokens.now c.in_ok-q.q (omega (arith, c.kind_at.ensures, c.in-13.is)) in omega arith

pub implication-join-requires-in-13 : goal.implication-join-requires-in-13
implication-join-requires-in-13 t c = let o = paid_of c.disjunction.ensures c.in_ok-q.was in let l = kind_within c.args.tokens.now c.in_ok-q.q (omega (arith, c.kind_at.ensures, c.in-13.is)) in join_room 18 0 c.disjunction-b-in-13.ensures (omega arith) (omega arith) (omega arith) (omega arith) (omega arith) (omega arith)

pub implication-returns-in-12 : goal.implication-returns-in-12
implication-returns-in-12 t c = implies_joins c.in_ok-q.was c.disjunction.ensures (omega arith) (sym c.kind_at.ensures ∙ c.in-12.is) c.disjunction-b.ensures c.join.ensures

pub implication-returns-in-13 : goal.implication-returns-in-13
implication-returns-in-13 t c = iff_joins c.in_ok-q.was c.disjunction.ensures (omega arith) (sym c.kind_at.ensures ∙ c.in-13.is) c.disjunction-b-in-13.ensures c.join-in-13.ensures

pub implication-returns-in_default : goal.implication-returns-in_default
implication-returns-in_default t c = no_arrow_ends c.in_ok-q.was c.disjunction.ensures (λ e. c.in_default.in_default-own.rest.0.1 (c.kind_at.ensures ∙ e)) (λ e. c.in_default.in_default-own.rest.1 (c.kind_at.ensures ∙ e))

pub negation-returns-then-kind_at-ne11 : goal.negation-returns-then-kind_at-ne11
negation-returns-then-kind_at-ne11 t c = negation_plain (λ e. c.if-kind_at-ne11.true (c.kind_at.ensures ∙ e)) c.primary.ensures

pub negation-returns-then-d-ge32 : goal.negation-returns-then-d-ge32
negation-returns-then-d-ge32 t c = negation_deep (kind_within c.args.tokens.now c.args.p (omega (arith, c.kind_at.ensures, c.if-kind_at-ne11.false))) c.if-d-ge32.true (sym c.kind_at.ensures ∙ c.if-kind_at-ne11.false)

pub negation-negation-a-requires : goal.negation-negation-a-requires
negation-negation-a-requires t c = let l = kind_within c.args.tokens.now c.args.p (omega (arith, c.kind_at.ensures, c.if-kind_at-ne11.false)) in omega arith

pub negation-wrap-requires : goal.negation-wrap-requires
negation-wrap-requires t c = let l = kind_within c.args.tokens.now c.args.p (omega (arith, c.kind_at.ensures, c.if-kind_at-ne11.false)) in wrap_room c.args.tokens.now (c.args.p + 1) c.args.n (length c.negation-a.new.words) c.negation-a.result 14 c.negation-a.ensures.bounds (omega arith) (omega arith) (omega arith) (omega arith)

pub negation-returns : goal.negation-returns
negation-returns t c = negation_wraps (kind_within c.args.tokens.now c.args.p (omega (arith, c.kind_at.ensures, c.if-kind_at-ne11.false))) c.if-d-ge32.false (sym c.kind_at.ensures ∙ c.if-kind_at-ne11.false) c.negation-a.ensures c.wrap.ensures

pub primary-group-requires : goal.primary-group-requires
primary-group-requires t c = (omega arith, (sym c.kind_at.ensures ∙ c.in-0.is, omega arith))

pub primary-quantifier-requires : goal.primary-quantifier-requires
primary-quantifier-requires t c = (omega arith, (ex_here (sym c.kind_at.ensures ∙ c.in-19.is), omega arith))

pub primary-quantifier-requires-in-22 : goal.primary-quantifier-requires-in-22
primary-quantifier-requires-in-22 t c = (omega arith, (fa_here (sym c.kind_at.ensures ∙ c.in-22.is), omega arith))

pub primary-applied-requires : goal.primary-applied-requires
primary-applied-requires t c = (omega arith, (closure_here _ _ c.kind_at.ensures (omega arith) (omega arith), omega arith))

pub primary-atom-requires : goal.primary-atom-requires
primary-atom-requires t c = (
  plain_here _ _ c.kind_at.ensures (λ e. omega arith) (λ e. omega arith) (λ e. omega arith)
      (elim c.in_default.branch [ primary-in_default-via-then-this-lt35 w ↦ inl (omega arith) | primary-in_default-via-else-this-lt35+else-this-lt37 w ↦ inr (omega arith) ]),
  omega arith,
)

pub primary-returns-in_default : goal.primary-returns-in_default
primary-returns-in_default t c = c.atom.ensures _ (omega arith)

pub quantifier-returns-then-d-ge32 : goal.quantifier-returns-then-d-ge32
quantifier-returns-then-d-ge32 t c = quantifier_deep _ _ _ _ _ _ c.requires.0 c.if-d-ge32.true

pub quantifier-attributes-requires : goal.quantifier-attributes-requires
quantifier-attributes-requires t c = let l = quantifier_within c.args.tokens.now c.args.p c.args.n c.args.d c.args.kind c.args.words.now c.requires.0 in omega arith

pub quantifier-returns-in_err-q : goal.quantifier-returns-in_err-q
quantifier-returns-in_err-q t c = let p = err_from_is_err_and c.from_residual.result c.from_residual.ensures.1 in rw (p.1, p.2) (quantifier_unbound _ _ _ _ _ _ c.requires.0 c.if-d-ge32.false c.attributes.ensures c.in_err-q.was)

pub quantifier-comparison-a-requires : goal.quantifier-comparison-a-requires
quantifier-comparison-a-requires t c = let b = bound_of c.attributes.ensures c.in_ok-q.was in omega arith

pub quantifier-bind-requires : goal.quantifier-bind-requires
quantifier-bind-requires t c = let b = bound_of c.attributes.ensures c.in_ok-q.was in bind_room (quantifier_law c.requires.0).small b (brackets_close c.comparison-a.ensures c.close-b.ensures) (omega arith) (omega arith) (omega arith)

pub quantifier-returns : goal.quantifier-returns
quantifier-returns t c = quantifier_reads _ _ _ _ _ _ c.requires.0 c.if-d-ge32.false c.attributes.ensures c.in_ok-q.was (brackets_close c.comparison-a.ensures c.close-b.ensures) c.bind.ensures

pub quantity-returns-in_err-q : goal.quantity-returns-in_err-q
quantity-returns-in_err-q t c = let p = err_from_is_err_and c.from_residual.result c.from_residual.ensures.1 in rw (p.1, p.2) (quantity_stops c.sum.ensures c.in_err-q.was)

pub quantity-returns-then-kind_at-ne52 : goal.quantity-returns-then-kind_at-ne52
quantity-returns-then-kind_at-ne52 t c = quantity_ends c.sum.ensures c.in_ok-q.was (λ e. c.if-kind_at-ne52.true (c.kind_at.ensures ∙ e))

pub quantity-overflow_add-q : goal.quantity-overflow_add-q
quantity-overflow_add-q t c = let o = sum_paid c.sum.ensures c.in_ok-q.was in omega arith

pub quantity-sum-b-requires : goal.quantity-sum-b-requires
quantity-sum-b-requires t c = let o = sum_paid c.sum.ensures c.in_ok-q.was in let l = kind_within c.args.tokens.now c.in_ok-q.q (omega (arith, c.kind_at.ensures)) in omega arith

pub quantity-join-requires : goal.quantity-join-requires
quantity-join-requires t c = let o = sum_paid c.sum.ensures c.in_ok-q.was in let l = kind_within c.args.tokens.now c.in_ok-q.q (omega (arith, c.kind_at.ensures)) in sum_room _ c.sum-b.ensures (omega arith) (omega arith) (omega arith) (omega arith) (omega arith)

pub quantity-returns : goal.quantity-returns
quantity-returns t c = quantity_joins c.sum.ensures c.in_ok-q.was (omega arith) (sym c.kind_at.ensures ∙ c.if-kind_at-ne52.false) c.sum-b.ensures c.join.ensures

pub relations-returns-in_err-q : goal.relations-returns-in_err-q
relations-returns-in_err-q t c = let p = err_from_is_err_and c.from_residual.result c.from_residual.ensures.1 in rw (p.1, p.2) (tail_stops (comparison_tail _ _ c.requires.0) c.implication.ensures c.in_err-q.was)

pub relations-returns-then-g-lt41 : goal.relations-returns-then-g-lt41
relations-returns-then-g-lt41 t c = no_sign_ends c.in_ok-q.was c.requires.0 c.implication.ensures (λ l h. omega (arith, c.kind_at-g.ensures, c.if-g-lt41.true))

pub relations-returns-then-g-gt46 : goal.relations-returns-then-g-gt46
relations-returns-then-g-gt46 t c = no_sign_ends c.in_ok-q.was c.requires.0 c.implication.ensures (λ l h. omega (arith, c.kind_at-g.ensures, c.if-g-gt46.true))

pub relations-overflow_add-q : goal.relations-overflow_add-q
relations-overflow_add-q t c = let o = paid_of c.implication.ensures c.in_ok-q.was in omega arith

pub relations-implication-b-requires : goal.relations-implication-b-requires
relations-implication-b-requires t c = let o = paid_of c.implication.ensures c.in_ok-q.was in let l = kind_within c.args.tokens.now c.in_ok-q.q (omega (arith, c.kind_at-g.ensures)) in omega arith

pub relations-join-requires : goal.relations-join-requires
relations-join-requires t c = let o = paid_of c.implication.ensures c.in_ok-q.was in let l = kind_within c.args.tokens.now c.in_ok-q.q (omega (arith, c.kind_at-g.ensures)) in join_room 22 _ c.implication-b.ensures (omega arith) (omega arith) (omega arith) (omega arith) (omega arith) (omega arith)

pub relations-returns : goal.relations-returns
relations-returns t c = sign_joins c.in_ok-q.was c.requires.0 c.implication.ensures (omega arith) (omega (arith, c.kind_at-g.ensures, c.if-g-lt41.false)) (omega (arith, c.kind_at-g.ensures, c.if-g-gt46.false)) c.implication-b.ensures (rw c.kind_at-g.ensures at c.join.ensures)

pub summand-applied-requires : goal.summand-applied-requires
summand-applied-requires t c = (omega arith, (hash_here (sym c.kind_at.ensures ∙ c.if-kind_at-eq50.true), c.requires))

pub summand-literal-requires : goal.summand-literal-requires
summand-literal-requires t c = (λ e. c.if-kind_at-eq50.false (c.kind_at.ensures ∙ e), omega arith)

pub summand-returns-then-kind_at-eq50 : goal.summand-returns-then-kind_at-eq50
summand-returns-then-kind_at-eq50 t c = c.applied.ensures.count refl

pub summand-returns-else-kind_at-eq50 : goal.summand-returns-else-kind_at-eq50
summand-returns-else-kind_at-eq50 t c = c.literal.ensures _ (omega arith)

pub applied-overflow_add-p : goal.applied-overflow_add-p
applied-overflow_add-p t c = omega arith

pub applied-overflow_add-result : goal.applied-overflow_add-result
applied-overflow_add-result t c = omega arith

pub applied-overflow_add-p-2 : goal.applied-overflow_add-p-2
applied-overflow_add-p-2 t c = omega arith

pub applied-overflow_add-d : goal.applied-overflow_add-d
applied-overflow_add-d t c = omega arith

pub comparison-returns-then-begins_quantity : goal.comparison-returns-then-begins_quantity
comparison-returns-then-begins_quantity t c = c.figures.ensures

pub comparison-returns-else-begins_quantity : goal.comparison-returns-else-begins_quantity
comparison-returns-else-begins_quantity t c = c.relations.ensures

pub figures-quantity-requires : goal.figures-quantity-requires
figures-quantity-requires t c = omega arith

pub group-overflow_add-p : goal.group-overflow_add-p
group-overflow_add-p t c = omega arith

pub group-overflow_add-d : goal.group-overflow_add-d
group-overflow_add-d t c = omega arith

pub implication-disjunction-requires : goal.implication-disjunction-requires
implication-disjunction-requires t c = omega arith

pub negation-primary-requires : goal.negation-primary-requires
negation-primary-requires t c = omega arith

pub negation-overflow_add-p : goal.negation-overflow_add-p
negation-overflow_add-p t c = omega arith

pub negation-overflow_add-d : goal.negation-overflow_add-d
negation-overflow_add-d t c = omega arith

pub primary-returns-in-0 : goal.primary-returns-in-0
primary-returns-in-0 t c = c.group.ensures

pub primary-returns-in-19 : goal.primary-returns-in-19
primary-returns-in-19 t c = c.quantifier.ensures

pub primary-returns-in-22 : goal.primary-returns-in-22
primary-returns-in-22 t c = c.quantifier-in-22.ensures

pub primary-returns-in-35 : goal.primary-returns-in-35
primary-returns-in-35 t c = c.applied.ensures.closure refl

pub quantifier-overflow_add-p : goal.quantifier-overflow_add-p
quantifier-overflow_add-p t c = omega arith

pub quantifier-overflow_add-d : goal.quantifier-overflow_add-d
quantifier-overflow_add-d t c = omega arith

pub quantity-sum-requires : goal.quantity-sum-requires
quantity-sum-requires t c = omega arith

pub relations-implication-requires : goal.relations-implication-requires
relations-implication-requires t c = omega arith

pub conjunction-returns-in_err-q : goal.conjunction-returns-in_err-q
conjunction-returns-in_err-q t c = let p = err_from_is_err_and c.from_residual.result c.from_residual.ensures.1 in rw (p.1, p.2) (and_whole (chain_stops and_chain 0 (chain_starts and_chain 0 c.negation.ensures c.negation.auto.words) c.in_err-q.was))

pub conjunction-overflow_add-q : goal.conjunction-overflow_add-q
conjunction-overflow_add-q t c =
    let sofar : Linked and_chain 0 c.args.tokens.now c.args.p c.args.n c.args.d c.args.words.now c.loop-words.words 0 (Ok (c.loop-words.q, c.loop-words.m)) = c.loop-words.invariant c.args.words.now (rw c.in_ok-q.was at (chain_starts and_chain 0 c.negation.ensures c.negation.auto.words)) in
    let o = chain_paid and_chain 0 sofar refl in omega arith

pub conjunction-negation-b-requires : goal.conjunction-negation-b-requires
conjunction-negation-b-requires t c =
    let sofar : Linked and_chain 0 c.args.tokens.now c.args.p c.args.n c.args.d c.args.words.now c.loop-words.words 0 (Ok (c.loop-words.q, c.loop-words.m)) = c.loop-words.invariant c.args.words.now (rw c.in_ok-q.was at (chain_starts and_chain 0 c.negation.ensures c.negation.auto.words)) in
    let o = chain_paid and_chain 0 sofar refl in let l = kind_within c.args.tokens.now c.loop-words.q (omega (arith, c.kind_at.ensures)) in omega (arith, sofar.long)

pub conjunction-join-requires : goal.conjunction-join-requires
conjunction-join-requires t c =
    let sofar : Linked and_chain 0 c.args.tokens.now c.args.p c.args.n c.args.d c.args.words.now c.loop-words.words 0 (Ok (c.loop-words.q, c.loop-words.m)) = c.loop-words.invariant c.args.words.now (rw c.in_ok-q.was at (chain_starts and_chain 0 c.negation.ensures c.negation.auto.words)) in
    let o = chain_paid and_chain 0 sofar refl in let l = kind_within c.args.tokens.now c.loop-words.q (omega (arith, c.kind_at.ensures)) in join_room 15 0 c.negation-b.ensures (omega arith) (omega arith) (omega arith) (omega arith) (omega arith) (omega (arith, sofar.long))

pub conjunction-returns-in_err-q-2 : goal.conjunction-returns-in_err-q-2
conjunction-returns-in_err-q-2 t c =
    let sofar : Linked and_chain 0 c.args.tokens.now c.args.p c.args.n c.args.d c.args.words.now c.loop-words.words 0 (Ok (c.loop-words.q, c.loop-words.m)) = c.loop-words.invariant c.args.words.now (rw c.in_ok-q.was at (chain_starts and_chain 0 c.negation.ensures c.negation.auto.words)) in
    let p = err_from_is_err_and c.from_residual-in_err-q-2.result c.from_residual-in_err-q-2.ensures.1 in rw (p.1, p.2) (and_whole (chain_stops and_chain 0 (chain_on and_chain 0 sofar refl (omega arith) (sym c.kind_at.ensures ∙ c.loop-words-test.true) c.negation-b.ensures c.join.ensures (c.join.auto.words ∙ c.negation-b.auto.words ∙ sofar.long)) c.in_err-q-2.was))

pub conjunction-loop-words-smaller : goal.conjunction-loop-words-smaller
conjunction-loop-words-smaller t c = let h = rw c.in_ok-q-2.was at (chain_less 15 _ _ refl (kind_within c.args.tokens.now c.loop-words.q (omega (arith, c.kind_at.ensures))) c.negation-b.ensures c.join.ensures) in omega (arith, h)

pub conjunction-loop-words-preserved : goal.conjunction-loop-words-preserved
conjunction-loop-words-preserved t c = λ A s. let h = c.loop-words.invariant A s in rw c.in_ok-q-2.was at (chain_on and_chain 0 h refl (omega arith) (sym c.kind_at.ensures ∙ c.loop-words-test.true) c.negation-b.ensures c.join.ensures (c.join.auto.words ∙ c.negation-b.auto.words ∙ h.long))

pub conjunction-returns : goal.conjunction-returns
conjunction-returns t c =
    let sofar : Linked and_chain 0 c.args.tokens.now c.args.p c.args.n c.args.d c.args.words.now c.loop-words.words 0 (Ok (c.loop-words.q, c.loop-words.m)) = c.loop-words.invariant c.args.words.now (rw c.in_ok-q.was at (chain_starts and_chain 0 c.negation.ensures c.negation.auto.words)) in
    and_whole (chain_ends and_chain 0 sofar refl (λ e. c.loop-words-test.false (c.kind_at.ensures ∙ e)))

pub disjunction-returns-in_err-q : goal.disjunction-returns-in_err-q
disjunction-returns-in_err-q t c = let p = err_from_is_err_and c.from_residual.result c.from_residual.ensures.1 in rw (p.1, p.2) (or_whole (chain_stops or_chain 0 (chain_starts or_chain 0 c.conjunction.ensures c.conjunction.auto.words) c.in_err-q.was))

pub disjunction-overflow_add-q : goal.disjunction-overflow_add-q
disjunction-overflow_add-q t c =
    let sofar : Linked or_chain 0 c.args.tokens.now c.args.p c.args.n c.args.d c.args.words.now c.loop-words.words 0 (Ok (c.loop-words.q, c.loop-words.m)) = c.loop-words.invariant c.args.words.now (rw c.in_ok-q.was at (chain_starts or_chain 0 c.conjunction.ensures c.conjunction.auto.words)) in
    let o = chain_paid or_chain 0 sofar refl in omega arith

pub disjunction-conjunction-b-requires : goal.disjunction-conjunction-b-requires
disjunction-conjunction-b-requires t c =
    let sofar : Linked or_chain 0 c.args.tokens.now c.args.p c.args.n c.args.d c.args.words.now c.loop-words.words 0 (Ok (c.loop-words.q, c.loop-words.m)) = c.loop-words.invariant c.args.words.now (rw c.in_ok-q.was at (chain_starts or_chain 0 c.conjunction.ensures c.conjunction.auto.words)) in
    let o = chain_paid or_chain 0 sofar refl in let l = kind_within c.args.tokens.now c.loop-words.q (omega (arith, c.kind_at.ensures)) in omega (arith, sofar.long)

pub disjunction-join-requires : goal.disjunction-join-requires
disjunction-join-requires t c =
    let sofar : Linked or_chain 0 c.args.tokens.now c.args.p c.args.n c.args.d c.args.words.now c.loop-words.words 0 (Ok (c.loop-words.q, c.loop-words.m)) = c.loop-words.invariant c.args.words.now (rw c.in_ok-q.was at (chain_starts or_chain 0 c.conjunction.ensures c.conjunction.auto.words)) in
    let o = chain_paid or_chain 0 sofar refl in let l = kind_within c.args.tokens.now c.loop-words.q (omega (arith, c.kind_at.ensures)) in join_room 16 0 c.conjunction-b.ensures (omega arith) (omega arith) (omega arith) (omega arith) (omega arith) (omega (arith, sofar.long))

pub disjunction-returns-in_err-q-2 : goal.disjunction-returns-in_err-q-2
disjunction-returns-in_err-q-2 t c =
    let sofar : Linked or_chain 0 c.args.tokens.now c.args.p c.args.n c.args.d c.args.words.now c.loop-words.words 0 (Ok (c.loop-words.q, c.loop-words.m)) = c.loop-words.invariant c.args.words.now (rw c.in_ok-q.was at (chain_starts or_chain 0 c.conjunction.ensures c.conjunction.auto.words)) in
    let p = err_from_is_err_and c.from_residual-in_err-q-2.result c.from_residual-in_err-q-2.ensures.1 in rw (p.1, p.2) (or_whole (chain_stops or_chain 0 (chain_on or_chain 0 sofar refl (omega arith) (sym c.kind_at.ensures ∙ c.loop-words-test.true) c.conjunction-b.ensures c.join.ensures (c.join.auto.words ∙ c.conjunction-b.auto.words ∙ sofar.long)) c.in_err-q-2.was))

pub disjunction-loop-words-smaller : goal.disjunction-loop-words-smaller
disjunction-loop-words-smaller t c = let h = rw c.in_ok-q-2.was at (chain_less 16 _ _ refl (kind_within c.args.tokens.now c.loop-words.q (omega (arith, c.kind_at.ensures))) c.conjunction-b.ensures c.join.ensures) in omega (arith, h)

pub disjunction-loop-words-preserved : goal.disjunction-loop-words-preserved
disjunction-loop-words-preserved t c = λ A s. let h = c.loop-words.invariant A s in rw c.in_ok-q-2.was at (chain_on or_chain 0 h refl (omega arith) (sym c.kind_at.ensures ∙ c.loop-words-test.true) c.conjunction-b.ensures c.join.ensures (c.join.auto.words ∙ c.conjunction-b.auto.words ∙ h.long))

pub disjunction-returns : goal.disjunction-returns
disjunction-returns t c =
    let sofar : Linked or_chain 0 c.args.tokens.now c.args.p c.args.n c.args.d c.args.words.now c.loop-words.words 0 (Ok (c.loop-words.q, c.loop-words.m)) = c.loop-words.invariant c.args.words.now (rw c.in_ok-q.was at (chain_starts or_chain 0 c.conjunction.ensures c.conjunction.auto.words)) in
    or_whole (chain_ends or_chain 0 sofar refl (λ e. c.loop-words-test.false (c.kind_at.ensures ∙ e)))

pub sum-returns-in_err-q : goal.sum-returns-in_err-q
sum-returns-in_err-q t c = let p = err_from_is_err_and c.from_residual.result c.from_residual.ensures.1 in rw (p.1, p.2) (chain_stops sum_chain 8 (chain_starts sum_chain 8 c.summand.ensures c.summand.auto.words) c.in_err-q.was)

pub sum-overflow_add-q : goal.sum-overflow_add-q
sum-overflow_add-q t c =
    let sofar : Linked sum_chain 8 c.args.tokens.now c.args.p c.args.n c.args.d c.args.words.now c.loop-p.words c.loop-p.k (Ok (c.loop-p.q, c.loop-p.m)) = c.loop-p.invariant c.args.words.now (rw c.in_ok-q.was at (chain_starts sum_chain 8 c.summand.ensures c.summand.auto.words)) in
    let o = chain_paid sum_chain 8 sofar refl in omega arith

pub sum-returns-then-k-eq0 : goal.sum-returns-then-k-eq0
sum-returns-then-k-eq0 t c =
    let sofar : Linked sum_chain 8 c.args.tokens.now c.args.p c.args.n c.args.d c.args.words.now c.loop-p.words c.loop-p.k (Ok (c.loop-p.q, c.loop-p.m)) = c.loop-p.invariant c.args.words.now (rw c.in_ok-q.was at (chain_starts sum_chain 8 c.summand.ensures c.summand.auto.words)) in
    chain_ninth sofar refl c.if-k-eq0.true (omega arith) (sym c.kind_at.ensures ∙ c.loop-p-test.true) c.ninth.ensures

pub sum-overflow_add-q-in-loop-p : goal.sum-overflow_add-q-in-loop-p
sum-overflow_add-q-in-loop-p t c =
    let sofar : Linked sum_chain 8 c.args.tokens.now c.args.p c.args.n c.args.d c.args.words.now c.loop-p.words c.loop-p.k (Ok (c.loop-p.q, c.loop-p.m)) = c.loop-p.invariant c.args.words.now (rw c.in_ok-q.was at (chain_starts sum_chain 8 c.summand.ensures c.summand.auto.words)) in
    let o = chain_paid sum_chain 8 sofar refl in omega arith

pub sum-summand-b-requires : goal.sum-summand-b-requires
sum-summand-b-requires t c =
    let sofar : Linked sum_chain 8 c.args.tokens.now c.args.p c.args.n c.args.d c.args.words.now c.loop-p.words c.loop-p.k (Ok (c.loop-p.q, c.loop-p.m)) = c.loop-p.invariant c.args.words.now (rw c.in_ok-q.was at (chain_starts sum_chain 8 c.summand.ensures c.summand.auto.words)) in
    let o = chain_paid sum_chain 8 sofar refl in let l = kind_within c.args.tokens.now c.loop-p.q (omega (arith, c.kind_at.ensures)) in omega (arith, sofar.long)

pub sum-join-requires : goal.sum-join-requires
sum-join-requires t c =
    let sofar : Linked sum_chain 8 c.args.tokens.now c.args.p c.args.n c.args.d c.args.words.now c.loop-p.words c.loop-p.k (Ok (c.loop-p.q, c.loop-p.m)) = c.loop-p.invariant c.args.words.now (rw c.in_ok-q.was at (chain_starts sum_chain 8 c.summand.ensures c.summand.auto.words)) in
    let o = chain_paid sum_chain 8 sofar refl in let l = kind_within c.args.tokens.now c.loop-p.q (omega (arith, c.kind_at.ensures)) in join_room 26 0 c.summand-b.ensures (omega arith) (omega arith) (omega arith) (omega arith) (omega arith) (omega (arith, sofar.long))

pub sum-returns-in_err-q-2 : goal.sum-returns-in_err-q-2
sum-returns-in_err-q-2 t c =
    let sofar : Linked sum_chain 8 c.args.tokens.now c.args.p c.args.n c.args.d c.args.words.now c.loop-p.words c.loop-p.k (Ok (c.loop-p.q, c.loop-p.m)) = c.loop-p.invariant c.args.words.now (rw c.in_ok-q.was at (chain_starts sum_chain 8 c.summand.ensures c.summand.auto.words)) in
    let p = err_from_is_err_and c.from_residual-in_err-q-2.result c.from_residual-in_err-q-2.ensures.1 in rw (p.1, p.2) (chain_stops sum_chain 8 (sum_on sofar refl c.if-k-eq0.false (omega arith) (sym c.kind_at.ensures ∙ c.loop-p-test.true) c.summand-b.ensures c.join.ensures (c.join.auto.words ∙ c.summand-b.auto.words ∙ sofar.long)) c.in_err-q-2.was)

pub sum-loop-p-smaller : goal.sum-loop-p-smaller
sum-loop-p-smaller t c = let h = rw c.in_ok-q-2.was at (chain_less 26 _ _ refl (kind_within c.args.tokens.now c.loop-p.q (omega (arith, c.kind_at.ensures))) c.summand-b.ensures c.join.ensures) in omega (arith, h)

pub sum-loop-p-preserved : goal.sum-loop-p-preserved
sum-loop-p-preserved t c = λ A s. let h = c.loop-p.invariant A s in rw c.in_ok-q-2.was at (sum_on h refl c.if-k-eq0.false (omega arith) (sym c.kind_at.ensures ∙ c.loop-p-test.true) c.summand-b.ensures c.join.ensures (c.join.auto.words ∙ c.summand-b.auto.words ∙ h.long))

pub sum-returns : goal.sum-returns
sum-returns t c =
    let sofar : Linked sum_chain 8 c.args.tokens.now c.args.p c.args.n c.args.d c.args.words.now c.loop-p.words c.loop-p.k (Ok (c.loop-p.q, c.loop-p.m)) = c.loop-p.invariant c.args.words.now (rw c.in_ok-q.was at (chain_starts sum_chain 8 c.summand.ensures c.summand.auto.words)) in
    chain_ends sum_chain 8 sofar refl (λ e. c.loop-p-test.false (c.kind_at.ensures ∙ e))
