use mathlib.Core.Path.{sym, subst}
use mathlib.Core.Bool.{true}
use Rattle.std.specs.Prelude.{Result}
use Rattle.definition.specs.declared.Refusal.{Refusal}
use Rattle.definition.specs.declared.Stopped.{Stopped}
use Rattle.lines.specs.Put.{Put}
use Rattle.page.specs.Closing.{closing}
use Rattle.page.proofs.Closings.{closes_short, closes_put}
use Rattle.page.proofs.close.Goals as goal

pub returns-then-out-lt30 : goal.returns-then-out-lt30
returns-then-out-lt30 c = closes_short c.args.a c.args.out.now c.if-out-lt30.true

pub returns-in-Ok : goal.returns-in-Ok
returns-in-Ok c = let s = c.args in
    closes_put s.a s.out.now c.if-out-lt30.false
    (subst (λ (a : Result Stopped Refusal). Put true s.out.now 0 (closing a) c.put_stopped.result c.put_stopped.new.out) (sym c.in-Ok.is) c.put_stopped.ensures)

pub returns-in-Err : goal.returns-in-Err
returns-in-Err c = let s = c.args in
    closes_put s.a s.out.now c.if-out-lt30.false
    (subst (λ (a : Result Stopped Refusal). Put true s.out.now 0 (closing a) c.put_refused.result c.put_refused.new.out) (sym c.in-Err.is) c.put_refused.ensures)
