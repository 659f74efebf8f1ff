-- Numbers and ratios as they are printed.
use Rattle.std.specs.Prelude.{[], ◌∷◌, ◌++◌, ℕ, zero, suc, ◌+◌, ◌/◌, ◌%◌, ltb, eqb, if◌then◌else◌}
use Rattle.definition.specs.Text.{Text, ascii}

-- a number of at most k digits in decimal
unfoldable pub digits : ℕ → ℕ → Text
digits zero n = []
digits (suc k) n =
    let more = digits k (n / 10) ++ ((48 + n % 10) ∷ []) in
    if ltb n 10 then ((48 + n) ∷ []) else more

-- every number that is printed is less than 2 ^ 32
abbrev pub decimal : ℕ → Text
decimal n = digits 10 n

-- the greatest common divisor, by at most k divisions with remainder
unfoldable pub common : ℕ → ℕ → ℕ → ℕ
common zero a b = a
common (suc k) a zero = a
common (suc k) a (suc b) = common k (suc b) (a % suc b)

-- the second number falls at each division
unfoldable pub gcd : ℕ → ℕ → ℕ
gcd a b = common (suc b) a b

-- "A ratio with bottom 0 .. prints `none`; otherwise a ratio prints reduced, as top, slash, bottom"
unfoldable pub ratio_text : ℕ → ℕ → Text
ratio_text a b =
    let d = gcd a b in
    let reduced = decimal (a / d) ++ (47 ∷ decimal (b / d)) in
    if eqb b 0 then (ascii "none") else reduced

-- opens every definition of this module, for a proof by computation
unfoldable pub computes : Unit {0}
unfolding digits common gcd ratio_text
computes = tt
