use Prim.Native.Nat.{ℕ, ◌+◌, ◌-◌}
use mathlib.Core.Path.{◌≡◌, refl, sym, subst, ◌∙◌}
use native.Mathlib.Omega.{arith}
use lib.Bits.{bit_and}
use lib.ListN.{get_or, set, length-set}
use lib.Seq.{sets, length-sets}
use Rattle.definition.specs.Tables.{bit}
use Rattle.chains.specs.Levels.{way}
use Rattle.chains.proofs.Least.{least_le}
use Rattle.chains.proofs.Loops.{Walking, walk_more, walk_all, walk_whole}
use Rattle.chains.proofs.walk.Goals as goal

pub loop-k-init : goal.loop-k-init
loop-k-init c = let a = c.args in
    let near = λ (j : ℕ). get_or a.near.now j 0 in
    let whole = sets (set a.buffer.now 0 a.a) 1 (way a.rows.now near a.n a.a) in
    let e : 1 ≡ a.n + 1 - a.n = omega arith in
    subst (λ (i : ℕ). Walking a.rows.now near whole (set a.buffer.now 0 a.a) a.a i a.n) e
    (record { left = refl; room = simp length-set (omega arith); long = sym (length-sets _ 1 (way a.rows.now near a.n a.a)) })

pub overflow_cast-buffer-in-loop-k : goal.overflow_cast-buffer-in-loop-k
overflow_cast-buffer-in-loop-k c = omega (arith, c.least_bit-x.ensures, least_le 64 0 (bit (bit_and c.row_at.result (get_or c.args.near.now (c.loop-k.k - 1) 0))))

pub loop-k-preserved : goal.loop-k-preserved
loop-k-preserved c = let a = c.args in
    let L = c.loop-k in
    let x = c.least_bit-x.result in
    let near = λ (j : ℕ). get_or a.near.now j 0 in
    let whole = sets (set a.buffer.now 0 a.a) 1 (way a.rows.now near a.n a.a) in
    let i = a.n + 1 - L.k in
    let e : i ≡ a.n - (L.k - 1) = omega arith in
    let f : i + 1 ≡ a.n + 1 - (L.k - 1) = omega arith in
    subst (λ (j : ℕ). Walking a.rows.now near whole (set L.buffer (a.n - (L.k - 1)) x) x j (L.k - 1)) f
    (subst (λ (j : ℕ). Walking a.rows.now near whole (set L.buffer j x) x (i + 1) (L.k - 1)) e
    (walk_more _ _ _ L.buffer L.x i L.k _ _ L.invariant (omega arith) c.row_at.ensures c.least_bit-x.ensures))

pub returns : goal.returns
returns c = let a = c.args in
    let L = c.loop-k in
    walk_all _ _ _ L.buffer L.x _ L.k L.invariant (omega arith) ∙ walk_whole a.rows.now (λ j. get_or a.near.now j 0) a.a a.n a.buffer.now (omega arith)
