-- What the loops of the search keep: the levels filled so far, and the way written so far.
use Prim.Native.Nat.{ℕ, zero, suc, ◌+◌, ◌-◌, ◌<◌, ◌≤◌}
use mathlib.Core.Path.{◌≡◌, sym, ap, ap₂, ◌∙◌}
use mathlib.Core.List.{List, ◌∷◌, ◌++◌}
use native.Mathlib.Omega.{arith}
use native.Mathlib.Decide.{dec_lt}
use native.Mathlib.Numerals.{add-one}
use lib.Bits.{bit_and, bit_or}
use lib.ListN.{length, get_or, set, drop, length-set}
use lib.Seq.{get_or-set_same, get_or-set_other, sets, sets-eq}
use Rattle.definition.specs.Tables.{bit}
use Rattle.bits.specs.Bits.{with_bit}
use Rattle.chains.specs.Levels.{least, before, level, Near, next, way}
use Rattle.chains.proofs.Ways.{length_way}

-- ---- levels

-- w is level k, and the levels below k stand in near
pub record Filling (rows : List ℕ) (b k : ℕ) (near : List ℕ) (w : ℕ) : Type 0 where
  pub long : length near ≡ 64
  pub now : w ≡ level rows b k
  pub at : (j : ℕ) → j < k → get_or near j 0 ≡ level rows b j

module _ (rows : List ℕ) (b : ℕ) where
  pub fill_none : (near : List ℕ) (w : ℕ) → length near ≡ 64 → w ≡ with_bit 0 b → Filling rows b 0 near w
  unfolding level
  fill_none near w l e = record { long = l; now = e; at = λ j h. absurd (omega arith) }

  pub fill_more : (k w v : ℕ) (near : List ℕ) → Filling rows b k near w → k < 64 → v ≡ before rows w → Filling rows b (k + 1) (set near k w) (bit_or w v)
  unfolding level
  fill_more k w v near f h e =
      record {
        long = length-set near k w ∙ f.long;
        now = ap (bit_or w) e ∙ ap (λ (x : ℕ). bit_or x (before rows x)) f.now ∙ ap (level rows b) (sym (add-one k));
        at = λ j l. go j l (dec_lt j k);
      }
    where
      go : (j : ℕ) → j < k + 1 → Dec (j < k) → get_or (set near k w) j 0 ≡ level rows b j
      go j l (yes m) = get_or-set_other near k j w 0 (λ q. omega arith) ∙ f.at j m
      go j l (no m) =
          let q : j ≡ k = omega arith in
          ap (λ (x : ℕ). get_or (set near k w) x 0) q ∙ get_or-set_same near k w 0 (let n = f.long in omega arith) ∙ f.now ∙ ap (level rows b) (sym q)

  pub fill_all : (k w : ℕ) (near : List ℕ) → Filling rows b k near w → 64 ≤ k → Near rows b near
  fill_all k w near f h = record { at = λ j l. f.at j (omega arith) }

-- ---- the way

-- what is left of the way, written from i on, makes the buffer whole
pub record Walking (rows : List ℕ) (near : ℕ → ℕ) (whole buffer : List ℕ) (x i k : ℕ) : Type 0 where
  pub left : sets buffer i (way rows near k x) ≡ whole
  pub room : i + k ≤ length buffer
  pub long : length buffer ≡ length whole

module _ (rows : List ℕ) (near : ℕ → ℕ) where
  pub walk_more : (whole buffer : List ℕ) (x i k row c : ℕ) → Walking rows near whole buffer x i k → 0 < k
      → row ≡ get_or rows x 0 → c ≡ least 64 0 (bit (bit_and row (near (k - 1)))) → Walking rows near whole (set buffer i c) c (i + 1) (k - 1)
  unfolding way next
  walk_more whole buffer x i zero row c w h r e = absurd (omega arith)
  walk_more whole buffer x i (suc k) row c w h r e =
      let q : suc k - 1 ≡ k = omega arith in
      let n : c ≡ next rows (near k) x = e ∙ ap₂ (λ (y z : ℕ). least 64 0 (bit (bit_and y (near z)))) r q in
      record {
        left = ap₂ (λ (y z : ℕ). sets (set buffer i c) y (way rows near z c)) (add-one i) q ∙ ap (λ (y : ℕ). sets (set buffer i y) (suc i) (way rows near k y)) n ∙ w.left;
        room = let m = w.room in rw length-set (omega arith);
        long = length-set buffer i c ∙ w.long;
      }

  pub walk_all : (whole buffer : List ℕ) (x i k : ℕ) → Walking rows near whole buffer x i k → k ≡ 0 → buffer ≡ whole
  unfolding way
  walk_all whole buffer x i k w e = ap (λ (y : ℕ). sets buffer i (way rows near y x)) (sym e) ∙ w.left

  -- the buffer with the whole way from a
  pub walk_whole : (a n : ℕ) (buffer : List ℕ) → n < length buffer → sets (set buffer 0 a) 1 (way rows near n a) ≡ (a ∷ way rows near n a) ++ drop (suc n) buffer
  walk_whole a n buffer h =
      let l : length (way rows near n a) ≡ n = length_way rows near n a in
      let q : 0 + length (a ∷ way rows near n a) ≡ suc n = omega arith in
      sets-eq (a ∷ way rows near n a) buffer 0 (omega arith) ∙ ap (λ (y : ℕ). (a ∷ way rows near n a) ++ drop y buffer) q
