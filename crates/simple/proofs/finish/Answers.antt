use Rattle.simple.specs.Statements.{semicolon, no_semicolon}
use Rattle.words.specs.Fields.{word}
use native.Mathlib.Omega.{arith}
use Prim.Native.Nat.{◌-◌}
use mathlib.Core.Path.{refl, sym, ap, ◌∙◌}
use lib.ListN.{set}
use Rattle.simple.proofs.AssignLaws.{finish_space}
use Rattle.terms.proofs.TokenLaws.{kind_within}
use Rattle.simple.proofs.finish.Goals as goal

pub returns-then-kind_at-ne7 : goal.returns-then-kind_at-ne7
returns-then-kind_at-ne7 c = rw c.in_ok-q.was (no_semicolon (λ e. c.if-kind_at-ne7.true (c.kind_at.ensures ∙ e)))

pub overflow_sub-m : goal.overflow_sub-m
overflow_sub-m c = let s = finish_space c.requires c.in_ok-q.was in omega arith

pub overflow_sub-m-2 : goal.overflow_sub-m-2
overflow_sub-m-2 c = let s = finish_space c.requires c.in_ok-q.was in omega arith

pub place-requires : goal.place-requires
place-requires c = let s = finish_space c.requires c.in_ok-q.was in omega arith

pub pack-requires : goal.pack-requires
pack-requires c = let s = finish_space c.requires c.in_ok-q.was in omega (arith, c.place.ensures, s.places.small c.args.p)

pub offset_bounds-words-l : goal.offset_bounds-words-l
offset_bounds-words-l c = let s = finish_space c.requires c.in_ok-q.was in omega arith

pub bounds-words-l : goal.bounds-words-l
bounds-words-l c = let s = finish_space c.requires c.in_ok-q.was in omega arith

pub overflow_add-result : goal.overflow_add-result
overflow_add-result c = let l = kind_within c.args.tokens.now c.in_ok-q.q (omega (arith, c.kind_at.ensures, c.if-kind_at-ne7.false)) in omega arith

pub overflow_add-result-2 : goal.overflow_add-result-2
overflow_add-result-2 c = let s = finish_space c.requires c.in_ok-q.was in omega arith

pub returns : goal.returns
returns c = rw c.in_ok-q.was (semicolon (sym c.kind_at.ensures ∙ c.if-kind_at-ne7.false) (ap (set c.args.words.now c.in_ok-q.l) (c.pack.ensures ∙ ap (word 33 c.args.n (c.args.m - c.args.n - 1)) c.place.ensures)))
