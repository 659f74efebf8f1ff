use Rattle.slots.proofs.Arrays.{digit_none, digit_some}
use native.Mathlib.Omega.{arith}
use borrow.Author.Tests.{not-true, not-false}
use Rattle.slots.proofs.digit_at.Goals as goal

pub returns-then-not-takes : goal.returns-then-not-takes
returns-then-not-takes c = (digit_none _ _ c.args.w _ c.takes.ensures (not-true _ c.if-not-takes.true-raw), omega arith)

pub returns : goal.returns
returns c = (digit_some _ _ c.args.w _ _ _ c.takes.ensures (not-false _ c.if-not-takes.false-raw) c.word_at.ensures c.place.ensures.0, omega arith)
