use Prim.Native.Nat.{ℕ}
use mathlib.Core.Path.{ap₂, ◌∙◌}
use native.Mathlib.Omega.{arith}
use lib.ListN.{get_or, set, take}
use Rattle.bits.specs.Bits.{with_bit}
use Rattle.tuples.specs.Places.{with_tuple}
use Rattle.tuples.proofs.Tables.{with_past}
use Rattle.tuples.proofs.insert.Goals as goal

pub returns-then-w-words : goal.returns-then-w-words
unfolding with_tuple
returns-then-w-words c = let words = c.args.words.now in
    let w = c.place_word-w.ensures.0 in
    let b = c.place_bit-b.ensures in
    ap₂ (λ (k x : ℕ). set words k x) w (c.set_bit.ensures ∙ ap₂ (λ (k i : ℕ). with_bit (get_or words k 0) i) w b)

pub returns-else-w-words : goal.returns-else-w-words
returns-else-w-words c = let a = c.args in
    let w = c.place_word-w.ensures.0 in
    with_past a.u a.words.now (take a.n a.t) (omega (arith, w, c.if-w-words.false))
