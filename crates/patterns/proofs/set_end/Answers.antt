use mathlib.Core.Path.{sym, ◌∙◌}
use native.Mathlib.Omega.{arith}
use borrow.Author.Tests.{not-true, not-false}
use Rattle.patterns.proofs.EndLaws.{set_none, set_unclosed, set_class, set_unlisted, set_closed}
use Rattle.patterns.proofs.set_end.Goals as goal

pub returns-then-s-at : goal.returns-then-s-at
returns-then-s-at c = λ k. set_none c.args.s.now c.args.at k c.if-s-at.true

pub returns-then-j-s : goal.returns-then-j-s
returns-then-j-s c = λ k. set_unclosed c.args.s.now c.args.at k c.if-s-at.false (sym c.close_at-j.ensures.value ∙ c.if-j-s.true)

pub returns-then-not-no_class : goal.returns-then-not-no_class
returns-then-not-no_class c = λ k. set_class c.args.s.now c.args.at k c.if-s-at.false c.close_at-j.result c.close_at-j.ensures.value (omega arith) (sym c.no_class.ensures ∙ not-true _ c.if-not-no_class.true-raw)

pub returns-then-not-ascends : goal.returns-then-not-ascends
returns-then-not-ascends c = λ k. set_unlisted c.args.s.now c.args.at k c.if-s-at.false c.close_at-j.result c.close_at-j.ensures.value (omega arith) (sym c.no_class.ensures ∙ not-false _ c.if-not-no_class.false-raw) (sym c.ascends.ensures ∙ not-true _ c.if-not-ascends.true-raw)

pub returns : goal.returns
returns c = λ k. set_closed c.args.s.now c.args.at k c.if-s-at.false c.close_at-j.result c.close_at-j.ensures.value (omega arith) (sym c.no_class.ensures ∙ not-false _ c.if-not-no_class.false-raw) (sym c.ascends.ensures ∙ not-false _ c.if-not-ascends.false-raw)
