use native.Mathlib.Omega.{arith}
use Rattle.std.proofs.lemmas.Result.{err_from_is_err_and}
use Rattle.expressions.proofs.OperatorLaws.{paid_of, join_room}
use Rattle.simple.proofs.AmountLaws.{amount_stops, amount_alone, amount_compared, compared_room}
use Rattle.terms.proofs.TokenLaws.{kind_within}
use Rattle.words.specs.Fields.{FIGURES}
use Rattle.simple.proofs.quantity_item.Goals as goal

pub returns-in_err-q : goal.returns-in_err-q
returns-in_err-q c = let p = err_from_is_err_and c.from_residual.result c.from_residual.ensures.1 in rw (p.1, p.2) (amount_stops c.requires.0 c.quantity.ensures c.in_err-q.was)

pub close_item-requires : goal.close_item-requires
close_item-requires c = let o = paid_of c.quantity.ensures c.in_ok-q.was in omega arith

pub returns-then-g-lt41 : goal.returns-then-g-lt41
returns-then-g-lt41 c = amount_alone c.requires.0 c.quantity.ensures c.in_ok-q.was (λ l h. omega (arith, c.kind_at-g.ensures, c.if-g-lt41.true)) c.close_item.ensures

pub close_item-requires-then-g-gt46 : goal.close_item-requires-then-g-gt46
close_item-requires-then-g-gt46 c = let o = paid_of c.quantity.ensures c.in_ok-q.was in omega arith

pub returns-then-g-gt46 : goal.returns-then-g-gt46
returns-then-g-gt46 c = amount_alone c.requires.0 c.quantity.ensures c.in_ok-q.was (λ l h. omega (arith, c.kind_at-g.ensures, c.if-g-gt46.true)) c.close_item-then-g-gt46.ensures

pub overflow_add-q : goal.overflow_add-q
overflow_add-q c = let o = paid_of c.quantity.ensures c.in_ok-q.was in omega arith

pub quantity-b-requires : goal.quantity-b-requires
quantity-b-requires c = let o = paid_of c.quantity.ensures c.in_ok-q.was in let l = kind_within c.args.tokens.now c.in_ok-q.q (omega (arith, c.kind_at-g.ensures)) in omega arith

pub join-c-requires : goal.join-c-requires
join-c-requires c = let o = paid_of c.quantity.ensures c.in_ok-q.was in let l = kind_within c.args.tokens.now c.in_ok-q.q (omega (arith, c.kind_at-g.ensures)) in join_room FIGURES _ c.quantity-b.ensures (omega arith) (omega arith) (omega arith) (omega arith) (omega arith) (omega arith)

pub close_item-requires-2 : goal.close_item-requires-2
close_item-requires-2 c = let o = paid_of c.quantity.ensures c.in_ok-q.was in compared_room _ _ _ _ c.quantity-b.ensures c.join-c.ensures (omega arith) (omega arith) (omega arith) (omega arith)

pub returns : goal.returns
returns c = amount_compared c.requires.0 c.quantity.ensures c.in_ok-q.was c.requires.1.nest (omega (arith, c.kind_at-g.ensures, c.if-g-lt41.false)) (omega (arith, c.kind_at-g.ensures, c.if-g-gt46.false)) _ _ c.quantity-b.ensures (rw c.kind_at-g.ensures at c.join-c.ensures) c.close_item-2.ensures
