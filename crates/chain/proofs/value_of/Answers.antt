use Prim.Native.Nat.{ℕ, ◌+◌}
use mathlib.Core.Path.{ap, ◌∙◌}
use lib.ListN.{take, drop}
use Rattle.chain.proofs.value_of.Goals as goal

pub returns : goal.returns
returns c = let a = c.args in
    c.part.ensures ∙ ap (λ (i : ℕ). take a.x.len (drop (a.a + i) a.facts.now)) c.value_start.ensures.0
