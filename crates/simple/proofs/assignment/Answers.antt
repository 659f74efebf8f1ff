use native.Mathlib.Omega.{arith}
use mathlib.Core.Path.{sym, ◌∙◌}
use Prim.Native.Nat.{◌+◌}
use lib.ListN.{length-set}
use Rattle.std.proofs.lemmas.Result.{err_from_is_err_and}
use Rattle.simple.proofs.AssignLaws.{assign_open, assign_unlisted, assign_unended, assign_alone, assign_ends, finish_room}
use Rattle.terms.proofs.AtomLaws.{listed_of}
use Rattle.terms.proofs.TokenLaws.{kind_within}
use Rattle.simple.proofs.assignment.Goals as goal

pub returns-then-kind_at-ne0 : goal.returns-then-kind_at-ne0
returns-then-kind_at-ne0 c = assign_open _ _ _ _ _ c.requires.0 (omega arith) (λ e. c.if-kind_at-ne0.true (c.kind_at.ensures ∙ e))

pub list-requires : goal.list-requires
list-requires c = let l = kind_within c.args.tokens.now (c.args.p + 1) (omega (arith, c.kind_at.ensures)) in omega arith

pub returns-in_err-q : goal.returns-in_err-q
returns-in_err-q c = let p = err_from_is_err_and c.from_residual.result c.from_residual.ensures.1 in rw (p.1, p.2) (assign_unlisted _ _ _ _ _ c.requires.0 (omega arith) (sym c.kind_at.ensures ∙ c.if-kind_at-ne0.false) c.list.ensures c.in_err-q.was)

pub overflow_sub-m : goal.overflow_sub-m
overflow_sub-m c = let u = listed_of c.list.ensures c.in_ok-q.was in omega arith

pub overflow_sub-m-2 : goal.overflow_sub-m-2
overflow_sub-m-2 c = let u = listed_of c.list.ensures c.in_ok-q.was in omega arith

pub pack-requires : goal.pack-requires
pack-requires c = let u = listed_of c.list.ensures c.in_ok-q.was in omega arith

pub bounds-words-n : goal.bounds-words-n
bounds-words-n c = let u = listed_of c.list.ensures c.in_ok-q.was in omega arith

pub assertion-l-requires : goal.assertion-l-requires
assertion-l-requires c = let u = listed_of c.list.ensures c.in_ok-q.was in let l = kind_within c.args.tokens.now c.in_ok-q.q (omega (arith, c.kind_at-k.ensures)) in record { order = omega arith; room = simp length-set (omega arith); tokens = omega arith; places = c.requires.1.0; inside = omega arith; small = omega arith }

pub overflow_add-result-then-k-eq7 : goal.overflow_add-result-then-k-eq7
overflow_add-result-then-k-eq7 c = let u = listed_of c.list.ensures c.in_ok-q.was in omega arith

pub shape_of-words-then-k-eq7 : goal.shape_of-words-then-k-eq7
shape_of-words-then-k-eq7 c = c.assertion-l.auto.words ∙ length-set c.list.new.words c.args.n c.pack.result ∙ c.list.auto.words

pub returns-then-k-eq7 : goal.returns-then-k-eq7
returns-then-k-eq7 c = assign_alone _ _ _ _ _ c.requires.0 (omega arith) (sym c.kind_at.ensures ∙ c.if-kind_at-ne0.false) c.list.ensures c.in_ok-q.was c.pack.ensures (sym c.kind_at-k.ensures ∙ c.if-k-eq7.true) c.assertion-l.ensures.0 c.assertion-l.ensures.1

pub returns-then-k-ne8 : goal.returns-then-k-ne8
returns-then-k-ne8 c = assign_unended _ _ _ _ _ c.requires.0 (omega arith) (sym c.kind_at.ensures ∙ c.if-kind_at-ne0.false) c.list.ensures c.in_ok-q.was c.pack.ensures (λ e. c.if-k-eq7.false (c.kind_at-k.ensures ∙ e)) (λ e. c.if-k-ne8.true (c.kind_at-k.ensures ∙ e))

pub overflow_add-q : goal.overflow_add-q
overflow_add-q c = let u = listed_of c.list.ensures c.in_ok-q.was in omega arith

pub comparison-b-requires : goal.comparison-b-requires
comparison-b-requires c = let u = listed_of c.list.ensures c.in_ok-q.was in let l = kind_within c.args.tokens.now c.in_ok-q.q (omega (arith, c.kind_at-k.ensures, c.if-k-ne8.false)) in simp length-set (omega arith)

pub finish-requires : goal.finish-requires
finish-requires c = let u = listed_of c.list.ensures c.in_ok-q.was in let l = kind_within c.args.tokens.now c.in_ok-q.q (omega (arith, c.kind_at-k.ensures, c.if-k-ne8.false)) in finish_room c.requires.1.0 (omega arith) (omega arith) (omega arith) c.comparison-b.ensures (omega arith) (omega (arith, c.comparison-b.auto.words, length-set c.list.new.words c.args.n c.pack.result, c.list.auto.words))

pub shape_of-words : goal.shape_of-words
shape_of-words c = c.finish.auto.words ∙ c.comparison-b.auto.words ∙ length-set c.list.new.words c.args.n c.pack.result ∙ c.list.auto.words

pub returns : goal.returns
returns c = assign_ends _ _ _ _ _ c.requires.0 c.requires.1.1.nest (sym c.kind_at.ensures ∙ c.if-kind_at-ne0.false) c.list.ensures c.in_ok-q.was c.pack.ensures (sym c.kind_at-k.ensures ∙ c.if-k-ne8.false) c.comparison-b.ensures c.finish.ensures
