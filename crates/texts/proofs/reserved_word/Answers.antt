use Prim.Native.Nat.{ℕ, ◌*◌}
use mathlib.Core.Path.{◌≡◌, sym, ap, ◌∙◌}
use mathlib.Core.List.{[]}
use native.Mathlib.Omega.{arith}
use native.Mathlib.Nat.{add-sub_cancel_left}
use lib.ListN.{get_or, take, drop}
use Rattle.definition.specs.Text.{Text, same, reserved}
use Rattle.definition.specs.Token.{FIRST_WORD}
use Rattle.texts.proofs.WordTable.{letters, lengths, row_short, row_word, search_start, search_found, search_next, search_end, name_terminal}
use Rattle.texts.proofs.reserved_word.Goals as goal

pub returns-then-is_other : goal.returns-then-is_other
returns-then-is_other c = let n = c.is_other.ensures c.if-is_other.true in
    record { listed = sym n; terminal = λ i. name_terminal _ reserved FIRST_WORD i n; index = omega arith }

pub loop-k-init : goal.loop-k-init
loop-k-init c = search_start _

pub overflow_add-a : goal.overflow_add-a
unfolding lengths
overflow_add-a c = omega (arith, row_short c.loop-k.k (omega (arith, c.loop-k-test.true)))

pub slice_bounds-same-count : goal.slice_bounds-same-count
unfolding lengths
slice_bounds-same-count c = omega arith

pub slice_bounds-same-end : goal.slice_bounds-same-end
unfolding lengths
slice_bounds-same-end c = omega (arith, row_short c.loop-k.k (omega arith))

pub returns-then-same : goal.returns-then-same
unfolding lengths letters
returns-then-same c =
    let compared : c.same.result ≡ same (get_or reserved c.loop-k.k []) c.args.w.now = c.same.ensures
    ∙ ap (λ (l : Text). same l c.args.w.now)
    (ap (λ (n : ℕ). take n (drop (c.loop-k.k * 7) letters)) (add-sub_cancel_left (c.loop-k.k * 7) _) ∙ row_word c.loop-k.k (omega (arith, c.loop-k-test.true))) in
    let f = search_found _ c.loop-k.k (omega (arith, c.loop-k-test.true)) c.loop-k.invariant (sym (compared) ∙ c.if-same.true) in record { listed = f.0; terminal = f.1; index = omega (arith, c.loop-k-test.true) }

pub loop-k-preserved : goal.loop-k-preserved
unfolding lengths letters
loop-k-preserved c =
    let compared : c.same.result ≡ same (get_or reserved c.loop-k.k []) c.args.w.now = c.same.ensures
    ∙ ap (λ (l : Text). same l c.args.w.now)
    (ap (λ (n : ℕ). take n (drop (c.loop-k.k * 7) letters)) (add-sub_cancel_left (c.loop-k.k * 7) _) ∙ row_word c.loop-k.k (omega (arith, c.loop-k-test.true))) in
    search_next _ c.loop-k.k (omega (arith, c.loop-k-test.true)) c.loop-k.invariant (sym (compared) ∙ c.if-same.false)

pub returns : goal.returns
returns c = let f = search_end _ c.loop-k.k (omega (arith, c.loop-k-test.false)) c.loop-k.invariant in record { listed = f.0; terminal = f.1; index = omega arith }
