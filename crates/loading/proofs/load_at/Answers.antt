use Prim.Native.Nat.{ℕ}
use mathlib.Core.Path.{◌≡◌, refl, ap, ap₂, ◌∙◌}
use mathlib.Core.List.{List}
use native.Mathlib.Omega.{arith}
use lib.ListN.{length, take, drop}
use lib.Seq.{sets, length-sets}
use Rattle.tuples.specs.Places.{with_tuple}
use Rattle.loading.proofs.load_at.Goals as goal

sized : (l l' : List ℕ) (i : ℕ) (xs : List ℕ) → l' ≡ sets l i xs → length l' ≡ length l
sized l l' i xs e = ap length e ∙ length-sets l i xs

pub returns-then-room-len : goal.returns-then-room-len
returns-then-room-len c = let n = c.table_words-len.ensures in
    record { value = λ h. absurd (omega (arith, c.if-room-len.true)); size = refl }

pub returns-then-room-len-2 : goal.returns-then-room-len-2
returns-then-room-len-2 c = let o = c.word_at-off.ensures in
    let n = c.table_words-len.ensures in
    record { value = λ h. absurd (omega (arith, c.if-room-len-2.true)); size = refl }

pub returns : goal.returns
returns c = let a = c.args in
    let o = c.word_at-off.ensures in
    let n = c.table_words-len.ensures in
    let s = a.store.now in
    let i = c.word_at-off.result in
    let k = c.table_words-len.result in
    record { value = λ h. c.load.ensures ∙ ap₂ (λ (i k : ℕ). sets s i (with_tuple a.u (take k (drop i s)) (take a.n a.t))) o n; size = sized s _ i (with_tuple a.u (take k (drop i s)) (take a.n a.t)) c.load.ensures }
