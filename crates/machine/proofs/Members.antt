-- The members of a set from a number on: none, the least, or not that number.
use Prim.Native.Nat.{ℕ, zero, suc, ◌+◌, ◌-◌, ◌≤◌, ◌<◌}
use native.Mathlib.Omega.{arith}
use native.Mathlib.Numerals.{add-one}
use mathlib.Core.Path.{◌≡◌, refl, ap, ◌∙◌}
use mathlib.Core.Bool.{Bool, true, false}
use mathlib.Core.List.{List, [], ◌∷◌}
use lib.ListN.{get_or}
use Rattle.definition.specs.Text.{keep, from}
use Rattle.definition.specs.Tables.{bit}
use Rattle.machine.specs.Actions.{members}
use Rattle.machine.specs.Turns.{left_at, next_at}

pub members_none : (s a u : ℕ) → u ≤ a → members s a (u - a) ≡ []
unfolding members keep from
members_none s a u h = let n : u - a ≡ 0 = omega arith in rw n

pub members_hit : (s a u : ℕ) → a < u → bit s a ≡ true → members s a (u - a) ≡ a ∷ members s (suc a) (u - suc a)
unfolding members keep from
members_hit s a u h e = let n : u - a ≡ suc (u - suc a) = omega arith in rw (n, e)

pub members_miss : (s a u : ℕ) → a < u → bit s a ≡ false → members s a (u - a) ≡ members s (suc a) (u - suc a)
unfolding members keep from
members_miss s a u h e = let n : u - a ≡ suc (u - suc a) = omega arith in rw (n, e)

-- the least member, and those after it
pub record Least (s u : ℕ) (l : List ℕ) : Type 0 where
  pub least : ℕ
  pub inside : least < u
  pub rest : l ≡ least ∷ members s (suc least) (u - suc least)

first_member : (s u n a : ℕ) → a + n ≡ u → (members s a (u - a) ≡ [] → ⊥) → Least s u (members s a (u - a))
first_member s u zero a e h = absurd (h (members_none s a u (omega arith)))
first_member s u (suc n) a e h = go (bit s a) refl (first_member s u n (suc a) (omega arith))
  where
    go : (b : Bool) → bit s a ≡ b → ((members s (suc a) (u - suc a) ≡ [] → ⊥) → Least s u (members s (suc a) (u - suc a))) → Least s u (members s a (u - a))
    go true q ih = record { least = a; inside = omega arith; rest = members_hit s a u (omega arith) q }
    go false q ih =
        let m : members s a (u - a) ≡ members s (suc a) (u - suc a) = members_miss s a u (omega arith) q in
        let r : Least s u (members s (suc a) (u - suc a)) = ih (λ z. h (m ∙ z)) in
        record { least = r.least; inside = r.inside; rest = m ∙ r.rest }

pub least_member : (s a u : ℕ) → (members s a (u - a) ≡ [] → ⊥) → Least s u (members s a (u - a))
least_member s a u h = first_member s u (u - a) a (omega (arith, past)) h
  where
    past : u < a → ⊥
    past l = h (members_none s a u (omega arith))

-- where elements of a FOR's set are left, the least of them is what the FOR takes
module _ (u : ℕ) (ss cs : List ℕ) (d : ℕ) (h : left_at u ss cs d ≡ [] → ⊥) where
  found : Least (get_or ss d 0) u (left_at u ss cs d)
  unfolding left_at
  found = least_member (get_or ss d 0) (get_or cs d 0) u h

  is_found : next_at u ss cs d ≡ found.least
  unfolding next_at
  is_found = ap (λ l. get_or l 0 u) found.rest

  pub next_inside : next_at u ss cs d < u
  next_inside = rw is_found found.inside

  pub next_rest : left_at u ss cs d ≡ next_at u ss cs d ∷ members (get_or ss d 0) (suc (next_at u ss cs d)) (u - suc (next_at u ss cs d))
  next_rest = rw is_found found.rest

-- a search that has come to a: it stops there, goes on, or finds none
module _ (s b u a : ℕ) (h : members s b (u - b) ≡ members s a (u - a)) where
  pub search_hit : a < u → bit s a ≡ true → a ≡ get_or (members s b (u - b)) 0 u
  search_hit l e = rw (h, members_hit s a u l e) refl

  pub search_on : a < u → bit s a ≡ false → members s b (u - b) ≡ members s (a + 1) (u - (a + 1))
  search_on l e = h ∙ rw add-one (members_miss s a u l e)

  pub search_none : u ≤ a → u ≡ get_or (members s b (u - b)) 0 u
  search_none l = rw (h, members_none s a u l) refl
