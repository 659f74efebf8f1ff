use Prim.Native.Nat.{ℕ}
use mathlib.Core.Path.{subst}
use mathlib.Core.Bool.{true}
use mathlib.Core.List.{List}
use Rattle.lines.specs.Put.{Put}
use Rattle.lines.proofs.Puts.{put_then}
use Rattle.page.proofs.Closings.{refused_line}
use Rattle.page.proofs.put_refused.Goals as goal

pub returns : goal.returns
returns c = let a = c.args in
    subst (λ (x : List ℕ). Put true a.out.now 0 x c.put.result c.put.new.out) (refused_line a.q)
    (put_then c.put_refusal-p.ensures c.put.ensures)
