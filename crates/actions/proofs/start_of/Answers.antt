use Prim.Native.Nat.{◌+◌, ◌-◌}
use mathlib.Core.Path.{◌≡◌, sym, ap, ◌∙◌}
use native.Mathlib.Omega.{arith}
use Rattle.words.specs.Fields.{kind_of}
use Rattle.actions.specs.Parts.{is_statement}
use Rattle.actions.proofs.Parts.{start_none, start_here, start_back}
use Rattle.actions.proofs.start_of.Goals as goal

pub returns-then-statement : goal.returns-then-statement
returns-then-statement c = let n = c.loop-n.n in
    let e : n - 1 + 1 ≡ n = omega arith in
    (e ∙ start_here _ _ n c.loop-n.invariant (omega arith) (sym (ap (λ w. is_statement (kind_of w)) c.word_at.ensures) ∙ sym c.statement.ensures ∙ c.if-statement.true), omega arith)

pub loop-n-preserved : goal.loop-n-preserved
loop-n-preserved c = start_back _ _ c.loop-n.n c.loop-n.invariant (omega arith) (sym (ap (λ w. is_statement (kind_of w)) c.word_at.ensures) ∙ sym c.statement.ensures ∙ c.if-statement.false)

pub returns : goal.returns
returns c = let e : c.loop-n.n ≡ 0 = omega arith in (sym e ∙ start_none _ _ c.loop-n.n c.loop-n.invariant e, omega arith)
