use mathlib.Core.Path.{sym, ap, ◌∙◌}
use mathlib.Core.Bool.{Bool, cond}
use lib.Bits.{bit_or}
use Rattle.closure.specs.Rows.{join_word}
use Rattle.closure.proofs.join_word.Goals as goal

pub returns-then-test_bit : goal.returns-then-test_bit
unfolding join_word
returns-then-test_bit c = let a = c.args in
    ap (λ (b : Bool). cond b (bit_or a.w a.row) a.w) (sym c.if-test_bit.true ∙ c.test_bit.ensures)

pub returns-else-test_bit : goal.returns-else-test_bit
unfolding join_word
returns-else-test_bit c = let a = c.args in
    ap (λ (b : Bool). cond b (bit_or a.w a.row) a.w) (sym c.if-test_bit.false ∙ c.test_bit.ensures)
