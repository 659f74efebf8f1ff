use borrow.Author.Tests.{not-true, not-false}
use Rattle.coding.proofs.Codes.{code_unnamed, code_far, code_put}
use Rattle.coding.proofs.set_code.Goals as goal

pub returns-then-not-is_named : goal.returns-then-not-is_named
returns-then-not-is_named c = code_unnamed _ _ _ _ _ _ _ _ c.args.w _ _ c.is_named.ensures (not-true _ c.if-not-is_named.true-raw)

pub returns-then-t-tokens : goal.returns-then-t-tokens
returns-then-t-tokens c = code_put _ _ _ _ _ _ _ _ c.args.w _ _ _ _ c.is_named.ensures (not-false _ c.if-not-is_named.false-raw) c.if-t-tokens.true c.code_of-c.ensures c.put_at.ensures

pub returns-else-t-tokens : goal.returns-else-t-tokens
returns-else-t-tokens c = code_far _ _ _ _ _ _ _ _ c.args.w _ _ c.is_named.ensures (not-false _ c.if-not-is_named.false-raw) c.if-t-tokens.false
