use Rattle.coding.proofs.Codes.{name_relation, name_loop, name_slot}
use native.Mathlib.Omega.{arith}
use Rattle.coding.proofs.name_code.Goals as goal

pub returns-then-a-gt3 : goal.returns-then-a-gt3
returns-then-a-gt3 c = name_relation _ _ _ _ c.args.t _ _ c.word_at-j.ensures c.word_at-a.ensures c.if-a-gt3.true

pub overflow_add-result : goal.overflow_add-result
overflow_add-result c = omega (arith, c.word_at.ensures, c.requires.shallow c.word_at-j.result)

pub returns-then-a-gt1 : goal.returns-then-a-gt1
returns-then-a-gt1 c = name_loop _ _ _ _ c.args.t _ _ c.word_at-j.ensures c.word_at-a.ensures _ c.if-a-gt3.false c.if-a-gt1.true c.word_at.ensures

pub returns : goal.returns
returns c = name_slot _ _ _ _ c.args.t _ _ c.word_at-j.ensures c.word_at-a.ensures _ c.if-a-gt1.false (omega arith) c.digit_at.ensures.0
