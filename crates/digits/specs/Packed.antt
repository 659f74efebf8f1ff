-- Lists of up to four digits as numbers in base 8.
use Rattle.std.specs.Prelude.{ℕ, ◌+◌, ◌*◌, ◌/◌, ◌%◌, Bool, true, false, cond, eqb, ltb}

unfoldable pub has : ℕ → ℕ → Bool
has a d = cond (eqb (a % 8) d) true (cond (eqb (a / 8 % 8) d) true (cond (eqb (a / 64 % 8) d) true (eqb (a / 512 % 8) d)))

-- the digit d at the first free place
unfoldable pub put : ℕ → ℕ → ℕ
put a d = cond (eqb (a % 8) 0) (a + d) (cond (eqb (a / 8 % 8) 0) (a + d * 8) (cond (eqb (a / 64 % 8) 0) (a + d * 64) (cond (eqb (a / 512 % 8) 0) (a + d * 512) a)))

unfoldable pub plus : ℕ → ℕ → ℕ
plus a d = cond (eqb d 0) a (cond (has a d) a (put a d))

unfoldable pub joined : ℕ → ℕ → ℕ
joined a b = plus (plus (plus (plus a (b % 8)) (b / 8 % 8)) (b / 64 % 8)) (b / 512 % 8)

-- a digit before others, unless it is x
abbrev pub before : ℕ → ℕ → ℕ → ℕ
before x d rest = cond (eqb d x) rest (d + 8 * rest)

unfoldable pub without : ℕ → ℕ → ℕ
without a x = before x (a % 8) (before x (a / 8 % 8) (before x (a / 64 % 8) (before x (a / 512 % 8) 0)))

-- how many digits
unfoldable pub count : ℕ → ℕ
count a = cond (eqb a 0) 0 (cond (ltb a 8) 1 (cond (ltb a 64) 2 (cond (ltb a 512) 3 4)))

-- no digit, or one of b's
unfoldable pub none_or_in : ℕ → ℕ → Bool
none_or_in d b = cond (eqb d 0) true (has b d)

unfoldable pub inside : ℕ → ℕ → Bool
inside a b = cond (none_or_in (a % 8) b) (cond (none_or_in (a / 8 % 8) b) (cond (none_or_in (a / 64 % 8) b) (none_or_in (a / 512 % 8) b) false) false) false
