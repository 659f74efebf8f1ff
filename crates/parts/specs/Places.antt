-- A place in a sorted list, as what entering a part there makes of the list.
use Rattle.std.specs.Prelude.{ℕ, suc, ◌≤◌, ◌<◌, List, ◌∷◌, ◌++◌, get_or, take, drop, Result, Ok, Err}
use Rattle.parts.specs.Entries.{quoted_too}

abbrev pub entered_at : ℕ → List ℕ → Result ℕ ℕ → List ℕ
entered_at v ws (Ok p) = take p ws ++ quoted_too v (get_or ws p 0) ∷ drop (suc p) ws
entered_at v ws (Err p) = take p ws ++ v ∷ drop p ws

abbrev pub PlaceWithin : ℕ → Result ℕ ℕ → Type 0
PlaceWithin n (Ok p) = p < n
PlaceWithin n (Err p) = p ≤ n
