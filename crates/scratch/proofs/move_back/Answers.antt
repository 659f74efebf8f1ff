use Prim.Native.Nat.{ℕ, ◌+◌, ◌-◌}
use mathlib.Core.Path.{◌≡◌, refl, sym, ap, ap₂, ◌∙◌}
use mathlib.Core.List.{List, ◌++◌}
use native.Mathlib.Omega.{arith}
use native.Mathlib.Nat.{add-sub_cancel_left}
use lib.ListN.{length, take, drop, replicate, length-replicate, length-drop}
use lib.Seq.{sets, sets-eq, length-take-le}
use borrow.Rule.Slice.PartMut.{put_mid}
use Rattle.std.specs.List.{copy_within}
use Rattle.tuples.proofs.Stores.{sets_part}
use Rattle.scratch.proofs.move_back.Goals as goal

pub returns : goal.returns
returns c = let a = c.args in
    let l = a.words.now in
    let S = c.copy_within.new.self in
    let P = take a.len (drop a.d l) in
    let size : length P ≡ a.len = length-take-le a.len (drop a.d l) (omega (arith, length-drop a.d l)) in
    let e = add-sub_cancel_left a.d a.len in
    let front : take 0 l ++ P ++ drop (0 + a.len) l ≡ sets l 0 P = ap (λ (k : ℕ). take 0 l ++ P ++ drop (0 + k) l) (sym size) ∙ sym (sets-eq P l 0 (omega (arith, size))) in
    let done : S ≡ sets l 0 P = c.copy_within.ensures.after ∙ ap (λ (k : ℕ). copy_within l a.d (a.d + k) 0) refl ∙ ap (λ (k : ℕ). take 0 l ++ take k (drop a.d l) ++ drop (0 + k) l) e ∙ front in
    let part : length (take (a.d + a.len - a.d) (drop a.d S)) ≡ a.len =
    ap (λ (k : ℕ). length (take k (drop a.d S))) e ∙ length-take-le a.len (drop a.d S) (omega (arith, length-drop a.d S, c.copy_within.ensures.len)) in
    let zeros : c.clear.new.words ≡ replicate a.len 0 = c.clear.ensures ∙ ap (λ (k : ℕ). replicate k 0) part in
    ap₂ (λ (k : ℕ) (y : List ℕ). put_mid a.d k S y) e zeros
    ∙ sets_part S a.d a.len (replicate a.len 0) (omega (arith, c.copy_within.ensures.len)) (length-replicate a.len 0)
    ∙ ap (λ (s : List ℕ). sets s a.d (replicate a.len 0)) done
