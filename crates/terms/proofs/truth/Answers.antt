use native.Mathlib.Omega.{arith}
use mathlib.Core.Path.{sym, ◌∙◌}
use Prim.Native.Nat.{◌+◌}
use Rattle.std.proofs.lemmas.Result.{err_from_is_err_and}
use Rattle.terms.proofs.AtomLaws.{listed_of, truth_open, truth_stops, truth_reads, truth_small}
use Rattle.terms.proofs.TokenLaws.{kind_within}
use Rattle.terms.proofs.truth.Goals as goal

pub returns-then-kind_at-ne0 : goal.returns-then-kind_at-ne0
returns-then-kind_at-ne0 c = truth_open _ _ _ _ _ c.requires.0 (λ e. c.if-kind_at-ne0.true (c.kind_at.ensures ∙ e))

pub list-requires : goal.list-requires
list-requires c = let l = kind_within c.args.tokens.now (c.args.p + 1) (omega arith) in omega arith

pub returns-in_err-q : goal.returns-in_err-q
returns-in_err-q c = let p = err_from_is_err_and c.from_residual.result c.from_residual.ensures.1 in rw (p.1, p.2) (truth_stops _ _ _ _ _ c.requires.0 (sym c.kind_at.ensures ∙ c.if-kind_at-ne0.false) c.list.ensures c.in_err-q.was)

pub overflow_sub-m : goal.overflow_sub-m
overflow_sub-m c = let u = listed_of c.list.ensures c.in_ok-q.was in omega arith

pub pack-requires : goal.pack-requires
pack-requires c = let u = listed_of c.list.ensures c.in_ok-q.was in omega (arith, truth_small c.requires.0)

pub bounds-words-m : goal.bounds-words-m
bounds-words-m c = let u = listed_of c.list.ensures c.in_ok-q.was in omega arith

pub returns : goal.returns
returns c = truth_reads _ _ _ _ _ c.requires.0 (sym c.kind_at.ensures ∙ c.if-kind_at-ne0.false) c.list.ensures c.in_ok-q.was c.pack.ensures
