use mathlib.Core.Path.{◌≡◌, sym, ◌∙◌, ap}
use Prim.Native.Nat.{suc, ◌+◌, ◌-◌}
use native.Mathlib.Omega.{arith}
use Rattle.definition.specs.Token.{gap}
use Rattle.lexer.proofs.Comments.{comment_closed, comment_on, comment_out}
use Rattle.lexer.proofs.comment_at.Goals as goal

pub loop-i-init : goal.loop-i-init
loop-i-init c = let e : c.args.at + 2 - c.args.at ≡ 2 = omega arith in
    rw e

pub returns-then-closes : goal.returns-then-closes
returns-then-closes c = let a = c.args in
    let e : c.loop-i.i - a.at + 2 ≡ c.loop-i.i + 2 - a.at = omega arith in record { value = sym (c.loop-i.invariant ∙ comment_closed a.text.now (c.loop-i.i - a.at) c.loop-i.i (omega arith) (sym c.closes.ensures ∙ c.if-closes.true) ∙ ap gap e); small = tt }

pub loop-i-preserved : goal.loop-i-preserved
loop-i-preserved c = let a = c.args in
    let e : suc (c.loop-i.i - a.at) ≡ c.loop-i.i + 1 - a.at = omega arith in
    c.loop-i.invariant ∙ comment_on a.text.now (c.loop-i.i - a.at) c.loop-i.i (omega arith) (sym c.closes.ensures ∙ c.if-closes.false) ∙ rw e

pub returns : goal.returns
returns c = let a = c.args in
    record { value = sym (c.loop-i.invariant ∙ comment_out a.text.now (c.loop-i.i - a.at) c.loop-i.i (omega arith)); small = tt }
