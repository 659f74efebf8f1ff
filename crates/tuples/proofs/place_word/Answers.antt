use Prim.Native.Nat.{ℕ, suc, ◌-◌}
use mathlib.Core.Path.{◌≡◌, ap, ◌∙◌}
use native.Mathlib.Omega.{arith}
use lib.ListN.{take}
use mir.Syntax.{w8}
use borrow.Kind.Array.{good_length, e_int}
use Rattle.tuples.specs.Places.{word_at}
use Rattle.tuples.proofs.Tables.{word_number}
use Rattle.tuples.proofs.place_word.Goals as goal

pub returns : goal.returns
returns c = let a = c.args in
    let l = good_length (e_int w8) 4 a.t _ c.well_formed.1.1.0 in
    let e : suc (a.n - 1) ≡ a.n = omega arith in
    (c.tuple_number.ensures.0 ∙ word_number a.u (a.n - 1) a.t (omega arith) ∙ ap (λ (m : ℕ). word_at a.u 0 (take m a.t)) e, c.tuple_number.ensures.1)
