use Prim.Native.Nat.{ℕ}
use mathlib.Core.Path.{sym, ap₂, ◌∙◌}
use native.Mathlib.Omega.{arith}
use lib.ListN.{get_or, take}
use Rattle.definition.specs.Tables.{bit}
use Rattle.tuples.proofs.Tables.{holds_at, holds_past}
use Rattle.tuples.proofs.has.Goals as goal

pub returns-then-w-words : goal.returns-then-w-words
returns-then-w-words c = let a = c.args in
    let w = c.place_word-w.ensures.0 in
    let b = c.place_bit-b.ensures in
    c.test_bit.ensures ∙ ap₂ (λ (k i : ℕ). bit (get_or a.words.now k 0) i) w b ∙ sym (holds_at a.u a.words.now (take a.n a.t))

pub returns-else-w-words : goal.returns-else-w-words
returns-else-w-words c = let a = c.args in
    let w = c.place_word-w.ensures.0 in
    sym (holds_past a.u a.words.now (take a.n a.t) (omega (arith, w, c.if-w-words.false)))
