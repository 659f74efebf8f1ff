-- The laws of patterns: the reader gives the one pattern that a text spells, the test finds exactly the elements that match it, and
-- `{m,n}` is m to n copies.
use mathlib.Core.Path.{◌≡◌, refl, subst⁻¹}
use mathlib.Core.Logic.{◌↔◌}
use mathlib.Core.Bool.{Bool, ◌&&◌}
use mathlib.Core.List.{[], ◌++◌}
use mathlib.Core.Option.{Option, some, none}
use Prim.Native.Nat.{ℕ, zero, suc, ◌+◌, ◌≤◌}
use native.Mathlib.Omega.{arith}
use lib.Dec.{T}
use Rattle.definition.specs.Text.{Text}
use Rattle.definition.specs.Pattern.{Pattern, is_empty, Describes, nothing, both, left, right, Matches, up_to, times, branches, Spells, read_pattern, found, found_in, matches}
use Rattle.definition.proofs.PatternSound.{read_spelled}
use Rattle.definition.proofs.PatternComplete.{spelled_read}
use Rattle.definition.proofs.PatternSpans.{found_sound, found_complete}

-- read-pattern gives a pattern exactly where the text spells it
pub pattern_read : (s : Text) (p : Pattern) → (read_pattern s ≡ some p) ↔ Spells branches s p
pattern_read s p = (read_spelled s p, spelled_read s p)

-- so a text spells one pattern at most
pub one_reading : (s : Text) (p q : Pattern) → Spells branches s p → Spells branches s q → p ≡ q
one_reading s p q d g = let a = spelled_read s p d in let b = spelled_read s q g in cc

-- and it is malformed exactly where nothing spells it
pub malformed_is : (s : Text) → (read_pattern s ≡ none) ↔ ((p : Pattern) → Spells branches s p → ⊥)
malformed_is s = (λ e p d. let a = spelled_read s p d in let z : ◌≡◌ {A = ℕ} 0 1 = cc in absurd (omega arith), go (read_pattern s) refl)
  where
    go : (o : Option Pattern) → read_pattern s ≡ o → ((p : Pattern) → Spells branches s p → ⊥) → read_pattern s ≡ none
    go none e f = e
    go (some p) e f = absurd (f p (read_spelled s p e))

-- the test finds a pattern exactly where the element matches it: "not by a search"
pub found_is : (p : Pattern) (e : Text) → T (found p e) ↔ Matches p e
found_is p e = (found_sound e p, found_complete e p)

-- an element matches a text exactly where the text spells a pattern that it matches
pub record Spelled (s : Text) (e : Text) : Type 0 where
  pub pattern : Pattern
  pub spelled : Spells branches s pattern
  pub matching : Matches pattern e

pub matches_is : (s e : Text) → T (matches s e) ↔ Spelled s e
unfolding matches
matches_is s e = (out (read_pattern s) refl, λ m. subst⁻¹ (λ o. T (found_in o e)) (spelled_read s m.pattern m.spelled) (found_complete e m.pattern m.matching))
  where
    out : (o : Option Pattern) → read_pattern s ≡ o → T (found_in o e) → Spelled s e
    out none q t = absurd t
    out (some p) q t = record { pattern = p; spelled = read_spelled s p q; matching = found_sound e p t }

-- n copies, one after another
pub data Copies (p : Pattern) : ℕ → Bool → Text → Bool → Type 0 where
  no_copy : {a b : Bool} → Copies p 0 a [] b
  one_copy : {n : ℕ} {a : Bool} {x y : Text} {b : Bool} → Describes p a x (is_empty y && b) → Copies p n (a && is_empty x) y b → Copies p (suc n) a (x ++ y) b

-- from m to m + k copies
pub record Between (p : Pattern) (m k : ℕ) (a : Bool) (x : Text) (b : Bool) : Type 0 where
  pub number : ℕ
  pub least : m ≤ number
  pub most : number ≤ m + k
  pub copies : Copies p number a x b

up_to_out : (p : Pattern) (k : ℕ) {a : Bool} {x : Text} {b : Bool} → Describes (up_to k p) a x b → Between p 0 k a x b
unfolding up_to
up_to_out p zero nothing = record { number = 0; least = omega arith; most = omega arith; copies = no_copy }
up_to_out p (suc k) (left nothing) = record { number = 0; least = omega arith; most = omega arith; copies = no_copy }
up_to_out p (suc k) (right (both d g)) =
    let r = up_to_out p k g in
    let h : r.number ≤ 0 + k = r.most in
    record { number = suc r.number; least = omega arith; most = omega arith; copies = one_copy d r.copies }

times_out : (p : Pattern) (m k : ℕ) {a : Bool} {x : Text} {b : Bool} → Describes (times m k p) a x b → Between p m k a x b
unfolding times
times_out p zero k d = up_to_out p k d
times_out p (suc m) k (both d g) =
    let r = times_out p m k g in
    let h : r.number ≤ m + k = r.most in
    let l : m ≤ r.number = r.least in
    record { number = suc r.number; least = omega arith; most = omega arith; copies = one_copy d r.copies }

up_to_in : (p : Pattern) (k n : ℕ) → n ≤ k → {a : Bool} {x : Text} {b : Bool} → Copies p n a x b → Describes (up_to k p) a x b
unfolding up_to
up_to_in p zero n h no_copy = nothing
up_to_in p zero n h (one_copy d c) = absurd (omega arith)
up_to_in p (suc k) n h no_copy = left nothing
up_to_in p (suc k) n h (one_copy {n = j} d c) = right (both d (up_to_in p k j (omega arith) c))

times_in : (p : Pattern) (m k n : ℕ) → m ≤ n → n ≤ m + k → {a : Bool} {x : Text} {b : Bool} → Copies p n a x b → Describes (times m k p) a x b
unfolding times
times_in p zero k n l h c = up_to_in p k n (omega arith) c
times_in p (suc m) k n l h no_copy = absurd (omega arith)
times_in p (suc m) k n l h (one_copy {n = j} d c) = both d (times_in p m k j (omega arith) (omega arith) c)

pub times_is : (p : Pattern) (m k : ℕ) (a : Bool) (x : Text) (b : Bool) → Describes (times m k p) a x b ↔ Between p m k a x b
times_is p m k a x b = (times_out p m k, λ r. times_in p m k r.number r.least r.most r.copies)
