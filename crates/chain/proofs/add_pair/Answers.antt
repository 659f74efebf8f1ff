use Prim.Native.Nat.{ℕ}
use mathlib.Core.Path.{ap, ◌∙◌}
use native.Mathlib.Omega.{arith}
use lib.ListN.{set}
use Rattle.chain.proofs.Rows.{pair_past_first, pair_past_second, pair_in}
use Rattle.chain.proofs.add_pair.Goals as goal

pub returns-then-rows-a : goal.returns-then-rows-a
returns-then-rows-a c = pair_past_first _ _ _ (omega arith)

pub returns-then-rows-b : goal.returns-then-rows-b
returns-then-rows-b c = pair_past_second _ _ _ (omega arith)

pub returns : goal.returns
returns c = let a = c.args in
    ap (λ (w : ℕ). set a.rows.now a.a w) c.set_bit.ensures ∙ pair_in a.rows.now a.a a.b (omega arith) (omega arith)
