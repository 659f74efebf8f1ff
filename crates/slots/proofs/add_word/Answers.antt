use borrow.Author.Tests.{not-true, not-false}
use Rattle.slots.proofs.Arrays.{no_place, no_attribute, an_attribute}
use Rattle.slots.proofs.add_word.Goals as goal

pub returns-then-not-takes : goal.returns-then-not-takes
returns-then-not-takes c = λ xs h. no_place _ _ c.args.w xs _ _ c.takes.ensures (not-true _ c.if-not-takes.true-raw) h

pub returns-then-of_loop : goal.returns-then-of_loop
returns-then-of_loop c = λ xs h. no_attribute _ _ c.args.w xs _ _ _ _ _ c.takes.ensures (not-false _ c.if-not-takes.false-raw) c.word_at-j.ensures c.word_at.ensures c.of_loop.ensures c.if-of_loop.true h

pub returns : goal.returns
returns c = λ xs h. an_attribute _ _ c.args.w xs _ _ _ _ _ _ c.takes.ensures (not-false _ c.if-not-takes.false-raw) c.word_at-j.ensures c.word_at.ensures c.of_loop.ensures c.if-of_loop.false c.add_name.ensures h
