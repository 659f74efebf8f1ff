-- The fields of lowered words.
use Prim.Native.Nat.{ℕ, ◌+◌, ◌*◌, ◌-◌, ◌/◌, ◌%◌, ◌<◌, ◌≤◌}
use mathlib.Core.Path.{◌≡◌}
use mathlib.Core.Bool.{Bool, true, false, cond}
use native.Mathlib.Nat.{min-le_right}
use native.Mathlib.Omega.{arith}
use lib.Dec.{eqb, ltb}
use Rattle.words.specs.Fields.{kind_of, p_of, q_of, r_of}
use Rattle.eval.specs.Nodes.{a_of, b_of, c_of, d_of, n_of, operands_of, half_of}
use Rattle.digits.specs.Packed.{has}
use Rattle.lowering.specs.Lowering.{Cells, TokenValues, lowered, slots_of, slot_bit, mask, term_byte, operands_at, all_stand, kind_field, node_p, p_field, quantity_field, expression_field, operand_field, count_field}
use Rattle.lowering.proofs.Filling.{count_small}

module _ (k p o n : ℕ) (hk : k < 256) (hp : p < 65536) (ho : o < 4294967296) (hn : n < 256) where
  pub kind_lowered : kind_of (lowered k p o n) ≡ k
  kind_lowered = omega arith

  pub p_lowered : p_of (lowered k p o n) ≡ p
  p_lowered =
      let e : (k + p * 256 + o * 16777216 + n * 72057594037927936) / 256 ≡ p + (o + n * 4294967296) * 65536 = omega arith in
      let f : (p + (o + n * 4294967296) * 65536) % 65536 ≡ p = omega arith in
      rw e f

  pub operands_lowered : operands_of (lowered k p o n) ≡ o + n * 4294967296
  operands_lowered = omega arith

  pub half_lowered : half_of (lowered k p o n) ≡ o
  half_lowered = let f : (o + n * 4294967296) % 4294967296 ≡ o = omega arith in rw operands_lowered f

  pub q_lowered : q_of (lowered k p o n) ≡ o % 65536
  q_lowered = let f : (o + n * 4294967296) % 65536 ≡ o % 65536 = omega arith in rw operands_lowered f

  pub a_lowered : a_of (lowered k p o n) ≡ o % 256
  a_lowered = let f : (o + n * 4294967296) % 256 ≡ o % 256 = omega arith in rw operands_lowered f

  pub b_lowered : b_of (lowered k p o n) ≡ o / 256 % 256
  b_lowered =
      let e : (k + p * 256 + o * 16777216 + n * 72057594037927936) / 4294967296 ≡ o / 256 + n * 16777216 = omega arith in
      let f : (o / 256 + n * 16777216) % 256 ≡ o / 256 % 256 = omega arith in
      rw e f

  pub c_lowered : c_of (lowered k p o n) ≡ o / 65536 % 256
  c_lowered =
      let e : (k + p * 256 + o * 16777216 + n * 72057594037927936) / 1099511627776 ≡ o / 65536 + n * 65536 = omega arith in
      let f : (o / 65536 + n * 65536) % 256 ≡ o / 65536 % 256 = omega arith in
      rw e f

  pub d_lowered : d_of (lowered k p o n) ≡ o / 16777216
  d_lowered =
      let e : (k + p * 256 + o * 16777216 + n * 72057594037927936) / 281474976710656 ≡ o / 16777216 + n * 256 = omega arith in
      let f : (o / 16777216 + n * 256) % 256 ≡ o / 16777216 = omega arith in
      rw e f

  pub n_lowered : n_of (lowered k p o n) ≡ n
  n_lowered =
      let e : (k + p * 256 + o * 16777216 + n * 72057594037927936) / 72057594037927936 ≡ n = omega arith in
      let f : n % 256 ≡ n = omega arith in
      rw e f

-- each field is small
pick_lt : {m x y : ℕ} (b : Bool) → x < m → y < m → cond b x y < m
pick_lt true h k = h
pick_lt false h k = k

module _ (R C L F : Cells) (u : ℕ) where
  pub term_small : (w : ℕ) → term_byte C w < 256
  unfolding term_byte
  term_small w = pick_lt (eqb (w % 256) 9) (omega arith) (omega arith)

  pub operands_small : (k : ℕ) → operands_at R C k < 4294967296
  unfolding operands_at
  operands_small k = omega (arith, term_small (R k), term_small (R (k + 1)), term_small (R (k + 2)), term_small (R (k + 3)))

  pub kind_small : (w : ℕ) → kind_field R C u w < 256
  unfolding kind_field
  kind_small w = pick_lt (eqb (w % 256) 11) (pick_lt (all_stand R C u (q_of w) (p_of w)) (omega arith) (omega arith)) (omega arith)

  node_small : (w : ℕ) → node_p R C w < 65536
  unfolding node_p
  node_small w =
      pick_lt (eqb (w % 256) 10) (omega arith)
      (pick_lt (eqb (w % 256) 33) (omega arith)
      (pick_lt (eqb (w % 256) 13) (omega arith)
      (pick_lt (eqb (w % 256) 23) (omega arith)
      (pick_lt (eqb (w % 256) 19) (omega arith) (pick_lt (eqb (w % 256) 20) (omega arith) (pick_lt (eqb (w % 256) 30) (pick_lt (eqb (q_of w) 0) (omega arith) (omega arith)) (omega arith)))))))

  pub p_small : (w : ℕ) → p_field R C L w < 65536
  unfolding p_field
  p_small w =
      pick_lt (ltb (w % 256) 4) (omega arith)
      (pick_lt (ltb (w % 256) 8) (omega arith)
      (pick_lt (eqb (w % 256) 9) (omega arith) (pick_lt (ltb (w % 256) 42) (node_small w) (pick_lt (ltb (w % 256) 44) (omega arith) (omega arith)))))

  bit_small : (a b d v : ℕ) → slot_bit a b d v ≤ v
  unfolding slot_bit
  bit_small a b d v = go (has a d) (has b d)
    where
      go : (x y : Bool) → cond x v (cond y v 0) ≤ v
      go true y = omega arith
      go false true = omega arith
      go false false = omega arith

  pub mask_small : (a b : ℕ) → mask a b < 16
  unfolding mask
  mask_small a b = omega (arith, bit_small a b 1 1, bit_small a b 2 2, bit_small a b 3 4, bit_small a b 4 8)

  slots_small : (f : ℕ) → slots_of f < 4294967296
  unfolding slots_of
  slots_small f = omega arith

  quantity_small : (N : Cells) (w : ℕ) → quantity_field F N w < 4294967296
  unfolding quantity_field
  quantity_small N w =
      pick_lt (eqb (w % 256) 22) (omega (arith, mask_small (F (p_of w)) (F (q_of w))))
      (pick_lt (eqb (w % 256) 24) (omega (arith, mask_small (F (p_of w)) 0)) (pick_lt (eqb (w % 256) 25) (omega (arith, min-le_right (N (p_of w)) 1000000)) (pick_lt (eqb (w % 256) 28) (omega (arith, mask_small 0 0)) (omega arith))))

  expression_small : (H : TokenValues) (c w : ℕ) → expression_field R C F H c w < 4294967296
  unfolding expression_field
  expression_small H c w =
      pick_lt (eqb (w % 256) 10) (operands_small (p_of w + 1))
      (pick_lt (eqb (w % 256) 13) (operands_small (p_of w)) (pick_lt (eqb (w % 256) 21) (omega arith) (pick_lt (eqb (w % 256) 23) (omega arith) (quantity_small H.number w))))

  pub operand_small : (H : TokenValues) (c k w : ℕ) → operand_field R C L F H c k w < 4294967296
  unfolding operand_field
  operand_small H c k w =
      pick_lt (eqb (w % 256) 6) (omega arith)
      (pick_lt (eqb (w % 256) 33) (operands_small (p_of w + 1))
      (pick_lt (eqb (w % 256) 30) (slots_small (F (k - 1))) (pick_lt (eqb (w % 256) 44) (omega arith) (expression_small H c w))))

  pub count_field_small : (k w : ℕ) → count_field R C F k w < 256
  unfolding count_field
  count_field_small k w =
      pick_lt (eqb (w % 256) 10) (omega arith)
      (pick_lt (eqb (w % 256) 33) (omega arith) (pick_lt (eqb (w % 256) 23) (term_small (R (r_of w))) (pick_lt (eqb (w % 256) 30) (count_small (F (k - 1))) (omega arith))))
