-- Euclid's step: the divisor and the remainder have the same greatest common divisor.
use Prim.Native.Nat.{ℕ, zero, suc, ◌%◌, ◌<◌}
use mathlib.Core.Path.{◌≡◌, refl}
use native.Mathlib.Nat.{mod-lt}
use native.Mathlib.Omega.{arith}
use Rattle.definition.specs.Decimals.{common, gcd}

-- any number of divisions above the second number gives the same
enough : (k j a b : ℕ) → b < k → b < j → common k a b ≡ common j a b
unfolding common
enough zero j a b h l = absurd (omega arith)
enough (suc k) zero a b h l = absurd (omega arith)
enough (suc k) (suc j) a zero h l = refl
enough (suc k) (suc j) a (suc b) h l =
    let m : a % suc b < suc b = mod-lt a (omega arith) in
    enough k j (suc b) (a % suc b) (omega arith) (omega arith)

pub gcd_zero : (a : ℕ) → gcd a 0 ≡ a
unfolding gcd common
gcd_zero a = refl

pub gcd_step : (a b : ℕ) → 0 < b → gcd b (a % b) ≡ gcd a b
unfolding gcd common
gcd_step a zero h = absurd (omega arith)
gcd_step a (suc b) h =
    let m : a % suc b < suc b = mod-lt a (omega arith) in
    enough (suc (a % suc b)) (suc b) (suc b) (a % suc b) (omega arith) m
