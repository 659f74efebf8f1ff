use Prim.Native.Nat.{ℕ}
use mathlib.Core.Path.{subst}
use mathlib.Core.Bool.{true}
use mathlib.Core.List.{List}
use Rattle.lines.specs.Put.{Put}
use Rattle.lines.proofs.Puts.{put_then}
use Rattle.page.proofs.Closings.{refusal_parts}
use Rattle.page.proofs.put_refusal.Goals as goal

pub returns : goal.returns
returns c = let t = c.put_text-p in
    let a = c.args in
    subst (λ (x : List ℕ). Put true a.out.now 0 x c.put_number.result c.put_number.new.out)
    (refusal_parts a.q c.number-number.ensures c.place-place.ensures)
    (put_then (put_then t.ensures c.put_number-m.ensures) c.put_number.ensures)
