-- Where the phrases of a pattern end.
use Rattle.std.specs.Prelude.{ℕ, ◌+◌, ◌-◌, Bool, not, cond, [], length, drop, Option, Some, None}
use Rattle.definition.specs.Text.{Text, span}
use Rattle.definition.specs.Pattern.{Sort, atom, Reading, read, wrong, is_close, listed, rule, phrase, is_some, well_formed}

-- where the rest of a text of m bytes begins, after what was read
abbrev pub ends : ℕ → Reading → Option ℕ
ends m wrong = None
ends m (read p ys) = Some (m - length ys)

-- where the phrase of a sort that starts at i ends
unfoldable pub end_at : Text → ℕ → Sort → ℕ → Option ℕ
end_at s n k i = ends (length s) (phrase n k (drop i s))

-- and an atom that is no group
unfoldable pub simple_at : Text → ℕ → Option ℕ
simple_at s i = ends (length s) (rule atom (λ k xs. wrong) (drop i s))

unfoldable pub is_listed : Text → Bool
is_listed t = is_some (listed t)

-- where the first `]` from i on stands; the length, if there is none
unfoldable pub to_close_at : Text → ℕ → ℕ
to_close_at s i = i + span (λ x. not (is_close x)) (drop i s)

-- a well-formed pattern's bytes; none where it is empty or malformed
unfoldable pub well_formed_part : Text → Text
well_formed_part s = let e : Text = [] in cond (well_formed s) s e
