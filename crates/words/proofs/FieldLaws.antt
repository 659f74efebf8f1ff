-- The fields of a word.
use Prim.Native.Nat.{ℕ, ◌+◌, ◌*◌, ◌/◌, ◌%◌, ◌<◌}
use mathlib.Core.Path.{◌≡◌}
use native.Mathlib.Omega.{arith}
use Rattle.words.specs.Fields.{word, kind_of, p_of, q_of, r_of}

module _ (k p q r : ℕ) (hk : k < 256) where
  pub kind_word : kind_of (word k p q r) ≡ k
  kind_word = omega arith

  pub p_word : p < 65536 → p_of (word k p q r) ≡ p
  p_word hp =
      let e : (k + p * 256 + q * 16777216 + r * 1099511627776) / 256 ≡ p + q * 65536 + r * 4294967296 = omega arith in
      let f : (p + q * 65536 + r * 4294967296) % 65536 ≡ p = omega arith in
      rw e f

  pub q_word : p < 65536 → q < 65536 → q_of (word k p q r) ≡ q
  q_word hp hq =
      let e : (k + p * 256 + q * 16777216 + r * 1099511627776) / 16777216 ≡ q + r * 65536 = omega arith in
      let f : (q + r * 65536) % 65536 ≡ q = omega arith in
      rw e f

  pub r_word : p < 65536 → q < 65536 → r < 65536 → r_of (word k p q r) ≡ r
  r_word hp hq hr =
      let e : (k + p * 256 + q * 16777216 + r * 1099511627776) / 1099511627776 ≡ r = omega arith in
      let f : r % 65536 ≡ r = omega arith in
      rw e f

-- the four bytes of a number
module _ (a b c d : ℕ) (ha : a < 256) where
  pub byte_a : (a + b * 256 + c * 65536 + d * 16777216) % 256 ≡ a
  byte_a = omega arith

  pub byte_b : b < 256 → (a + b * 256 + c * 65536 + d * 16777216) / 256 % 256 ≡ b
  byte_b hb =
      let q : (a + b * 256 + c * 65536 + d * 16777216) / 256 ≡ b + (c + d * 256) * 256 = omega arith in
      let r : (b + (c + d * 256) * 256) % 256 ≡ b = omega arith in
      rw q r

  pub byte_c : b < 256 → c < 256 → (a + b * 256 + c * 65536 + d * 16777216) / 65536 % 256 ≡ c
  byte_c hb hc =
      let q : (a + b * 256 + c * 65536 + d * 16777216) / 65536 ≡ c + d * 256 = omega arith in
      let r : (c + d * 256) % 256 ≡ c = omega arith in
      rw q r

  pub byte_d : b < 256 → c < 256 → (a + b * 256 + c * 65536 + d * 16777216) / 16777216 ≡ d
  byte_d hb hc = omega arith
