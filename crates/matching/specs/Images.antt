-- Sets of positions in an element, as words.
use Rattle.std.specs.Prelude.{ℕ, zero, suc, ◌-◌, ◌^◌, ◌<◌, eqb, ◌≡◌, true, ◌&&◌, List, length, if◌then◌else◌}
use Rattle.std.specs.Int.Bits.{bit_or}
use Rattle.definition.specs.Text.{Text, some_of, below}
use Rattle.definition.specs.Tables.{bit, word}
use Rattle.definition.specs.Pattern.{Pattern, up_to, star, Reading, read, joined, spans}

-- the positions that a table of pairs joins with one of a set
unfoldable pub image : Text → List ℕ → ℕ → ℕ
image e ws s = word (suc (length e)) 0 (λ j. some_of (λ i. bit s i && joined e ws i j) (below (suc (length e))))

-- where the parts end that a pattern describes and that start in a set
unfoldable pub ends_of : Text → Pattern → ℕ → ℕ
ends_of e p s = image e (spans e p) s

-- a set with its ends, again and again
unfoldable pub grown : Text → Pattern → ℕ → ℕ → ℕ
grown e p zero s = s
grown e p (suc k) s = grown e p k (bit_or s (ends_of e p s))

-- every position of an element
unfoldable pub all : Text → ℕ
all e = word (suc (length e)) 0 (λ j. true)

-- where a reading gives a pattern p, r is where the parts end that f p describes and that start in a
pub record Leads (o : Reading) (e : Text) (f : Pattern → Pattern) (a r : ℕ) : Type 0 where
  pub ends : (p : Pattern) (ys : Text) → o ≡ read p ys → a < 2 ^ suc (length e) → r ≡ ends_of e (f p) a

abbrev pub itself : Pattern → Pattern
itself p = p

-- the least number of turns that a repeat sign asks for, and how many more it takes; 9 stands for any number. The sign is b, after a
-- brace come the digits m and n; no sign is one turn
unfoldable pub least : ℕ → ℕ → ℕ
least b m =
    if eqb b 42 then 0
    else if eqb b 43 then 1
    else if eqb b 63 then 0
    else if eqb b 123 then (m - 48)
    else 1

unfoldable pub further : ℕ → ℕ → ℕ → ℕ
further b m n =
    if eqb b 42 then 9
    else if eqb b 43 then 9
    else if eqb b 63 then 1
    else if eqb b 123 then ((n - 48) - (m - 48))
    else 0

-- that many turns
unfoldable pub up_to_or_any : ℕ → Pattern → Pattern
up_to_or_any k p = if eqb k 9 then (star p) else (up_to k p)
