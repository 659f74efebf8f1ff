use Prim.Native.Nat.{◌+◌}
use mathlib.Core.Path.{sym, subst}
use mathlib.Core.Bool.{Bool, true, false}
use mathlib.Core.List.{[], ◌∷◌}
use lib.ListN.{set}
use Rattle.lines.specs.Put.{Put}
use Rattle.lines.proofs.Puts.{put_in, put_past}
use Rattle.lines.proofs.put.Goals as goal

pub returns-then-n-at : goal.returns-then-n-at
returns-then-n-at c = put_past c.args.write c.args.out.now c.args.at c.args.b c.if-n-at.true

pub returns-then-write : goal.returns-then-write
returns-then-write c = let a = c.args in
    subst (λ (w : Bool). Put w a.out.now a.at (a.b ∷ []) (a.at + 1) (set a.out.now a.at a.b)) (sym c.if-write.true)
    (put_in true a.out.now a.at a.b c.if-n-at.false)

pub returns : goal.returns
returns c = let a = c.args in
    subst (λ (w : Bool). Put w a.out.now a.at (a.b ∷ []) (a.at + 1) a.out.now) (sym c.if-write.false)
    (put_in false a.out.now a.at a.b c.if-n-at.false)
