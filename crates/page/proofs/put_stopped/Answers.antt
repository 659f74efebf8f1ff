use Prim.Native.Nat.{ℕ}
use mathlib.Core.Path.{subst}
use mathlib.Core.Bool.{true}
use mathlib.Core.List.{List}
use Rattle.lines.specs.Put.{Put}
use Rattle.lines.proofs.Puts.{put_then}
use Rattle.page.proofs.Closings.{stopped_line}
use Rattle.page.proofs.put_stopped.Goals as goal

pub returns : goal.returns
returns c = let a = c.args in
    subst (λ (x : List ℕ). Put true a.out.now 0 x c.put.result c.put.new.out) (stopped_line a.s)
    (put_then (put_then c.put_ending-p.ensures c.put_number-q.ensures) c.put.ensures)
