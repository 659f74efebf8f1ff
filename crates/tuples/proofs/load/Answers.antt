use Prim.Native.Nat.{ℕ}
use mathlib.Core.Path.{ap, ap₂, ◌∙◌}
use mathlib.Core.List.{List}
use native.Mathlib.Omega.{arith}
use native.Mathlib.Nat.{add-sub_cancel_left}
use lib.ListN.{take, drop, length-drop}
use lib.Seq.{length-take-le}
use borrow.Rule.Slice.PartMut.{put_mid}
use Rattle.tuples.specs.Places.{with_tuple}
use Rattle.tuples.proofs.Tables.{length_with}
use Rattle.tuples.proofs.Stores.{sets_part}
use Rattle.tuples.proofs.load.Goals as goal

pub returns : goal.returns
returns c = let a = c.args in
    let e = add-sub_cancel_left a.off a.len in
    let part = take a.len (drop a.off a.store.now) in
    let t = take a.n a.t in
    ap₂ (λ (k : ℕ) (y : List ℕ). put_mid a.off k a.store.now y) e
    (c.insert.ensures ∙ ap (λ (k : ℕ). with_tuple a.u (take k (drop a.off a.store.now)) t) e)
    ∙ sets_part a.store.now a.off a.len (with_tuple a.u part t) (omega arith)
    (length_with a.u part t ∙ length-take-le a.len (drop a.off a.store.now) (omega (arith, length-drop a.off a.store.now)))
