use native.Mathlib.Omega.{arith}
use Prim.Native.Nat.{◌+◌}
use lib.ListN.{length-set}
use Rattle.std.proofs.lemmas.Result.{err_from_is_err_and}
use Rattle.terms.proofs.AtomLaws.{listed_of, relation_fails, relation_reads}
use Rattle.terms.proofs.TokenLaws.{kind_within}
use Rattle.terms.proofs.relation.Goals as goal

pub list-requires : goal.list-requires
list-requires c = let l = kind_within c.args.tokens.now (c.args.p + 1) (omega arith) in omega arith

pub returns-in_err-q : goal.returns-in_err-q
returns-in_err-q c = let p = err_from_is_err_and c.from_residual.result c.from_residual.ensures.1 in rw (p.1, p.2) (relation_fails c.requires.0 c.requires.1.0 c.list.ensures c.in_err-q.was)

pub overflow_sub-k : goal.overflow_sub-k
overflow_sub-k c = let u = listed_of c.list.ensures c.in_ok-q.was in omega arith

pub overflow_sub-k-2 : goal.overflow_sub-k-2
overflow_sub-k-2 c = let u = listed_of c.list.ensures c.in_ok-q.was in omega arith

pub pack-requires : goal.pack-requires
pack-requires c = let u = listed_of c.list.ensures c.in_ok-q.was in omega arith

pub bounds-words-n : goal.bounds-words-n
bounds-words-n c = let u = listed_of c.list.ensures c.in_ok-q.was in omega arith

pub pack-requires-2 : goal.pack-requires-2
pack-requires-2 c = let u = listed_of c.list.ensures c.in_ok-q.was in omega arith

pub bounds-words-m : goal.bounds-words-m
bounds-words-m c = let u = listed_of c.list.ensures c.in_ok-q.was in simp length-set (omega arith)

pub returns : goal.returns
returns c = relation_reads c.requires.0 c.requires.1.0 c.list.ensures c.in_ok-q.was c.pack.ensures c.pack-2.ensures
