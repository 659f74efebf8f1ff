-- A word's free attributes are read off lower places.
use Prim.Native.Nat.{ℕ, ◌+◌, ◌-◌, ◌%◌, ◌<◌, ◌≤◌}
use mathlib.Core.Path.{◌≡◌, refl, sym, ◌∙◌}
use mathlib.Core.Bool.{Bool, true, false, cond}
use mathlib.Core.List.{List}
use native.Mathlib.Omega.{arith}
use borrow.Author.Tests.{ltb-true, eqb-true, eqb-false, leb-false, le-leb, lt-leb, lt-ltb, le-ltb}
use lib.Dec.{eqb, ltb, leb}
use lib.ListN.{length, get_or, set}
use lib.Seq.{get_or-set_same, get_or-set_other}
use Rattle.words.specs.Fields.{kind_of, p_of, q_of}
use Rattle.free.specs.Words.{is_leaf, at, below, terms, operator, free_word, Filled, Small}

module _ (R F : ℕ → ℕ) (s k : ℕ) where
  pub terms_start : k ≤ s → 0 ≡ terms R F s k
  unfolding terms
  terms_start h = rw (le-leb k s h)

  pub terms_yes : (w : ℕ) (t : Bool) → s < k → w ≡ R (k - 1) → t ≡ is_leaf (w % 256) → t ≡ true → F (k - 1) ≡ terms R F s k
  unfolding terms
  terms_yes w t h e f g = let q : is_leaf (kind_of (R (k - 1))) ≡ true = rw (← e) (sym f ∙ g) in rw (lt-leb k s h, q)

  pub terms_no : (w : ℕ) (t : Bool) → s < k → w ≡ R (k - 1) → t ≡ is_leaf (w % 256) → t ≡ false → 0 ≡ terms R F s k
  unfolding terms
  terms_no w t h e f g = let q : is_leaf (kind_of (R (k - 1))) ≡ false = rw (← e) (sym f ∙ g) in rw (lt-leb k s h, q)

pub below_yes : (F : ℕ → ℕ) (k c : ℕ) → c < k → F c ≡ below F k c
unfolding below
below_yes F k c h = rw (lt-ltb c k h)

pub below_no : (F : ℕ → ℕ) (k c : ℕ) → k ≤ c → 0 ≡ below F k c
unfolding below
below_no F k c h = rw (le-ltb c k h)

module _ (R D F G : ℕ → ℕ) (s k : ℕ) (same : (c : ℕ) → c < k → F c ≡ G c) where
  below_frame : (c : ℕ) → below F k c ≡ below G k c
  unfolding below
  below_frame c = go (ltb c k) refl
    where
      go : (b : Bool) → ltb c k ≡ b → cond b (F c) 0 ≡ cond b (G c) 0
      go true e = same c (ltb-true c k e)
      go false e = refl

  terms_frame : terms R F s k ≡ terms R G s k
  unfolding terms
  terms_frame = go (leb k s) refl
    where
      pos : (k : ℕ) → s < k → k - 1 < k
      pos k h = omega arith

      go : (b : Bool) → leb k s ≡ b → cond b 0 (cond (is_leaf (kind_of (R (k - 1)))) (F (k - 1)) 0) ≡ cond b 0 (cond (is_leaf (kind_of (R (k - 1)))) (G (k - 1)) 0)
      go true e = refl
      go false e = rw (same (k - 1) (pos k (leb-false k s e))) refl

  pub word_frame : free_word R D F s k ≡ free_word R D G s k
  unfolding free_word operator
  word_frame = rw (terms_frame, below_frame (p_of (R k)), below_frame (q_of (R k))) refl

ne_lt : (k i : ℕ) → (k ≡ i → ⊥) → k < i + 1 → k < i
ne_lt k i n l = omega arith

lt_ne : (k i : ℕ) → k < i → k ≡ i → ⊥
lt_ne k i l e = omega arith

trans : (a b c : ℕ) → a < b → b < c → a < c
trans a b c p q = omega arith

module _ (words : List ℕ) (D : ℕ → ℕ) (fr : List ℕ) (s i v : ℕ) (h : i < length fr) where
  kept : (c : ℕ) → c < i → get_or fr c 0 ≡ get_or (set fr i v) c 0
  kept c l = sym (get_or-set_other fr i c v 0 (lt_ne c i l))

  pub filled_more : v ≡ free_word (at words) D (at fr) s i → Filled words D fr s i → Filled words D (set fr i v) s (i + 1)
  filled_more e f k m l = go (eqb k i) refl
    where
      go : (b : Bool) → eqb k i ≡ b → get_or (set fr i v) k 0 ≡ free_word (at words) D (at (set fr i v)) s k
      go true q =
          let z : k ≡ i = eqb-true k i q in
          rw z (get_or-set_same fr i v 0 h ∙ e ∙ word_frame (at words) D (at fr) (at (set fr i v)) s i kept)
      go false q =
          let n : k < i = ne_lt k i (eqb-false k i q) l in
          sym (kept k n) ∙ f k m n ∙ word_frame (at words) D (at fr) (at (set fr i v)) s k (λ c j. kept c (trans c k i j n))

  pub small_more : v < 4096 → Small fr → Small (set fr i v)
  small_more e f k = go (eqb k i) refl
    where
      go : (b : Bool) → eqb k i ≡ b → get_or (set fr i v) k 0 < 4096
      go true q = let z : k ≡ i = eqb-true k i q in rw (z, get_or-set_same fr i v 0 h) e
      go false q = rw (get_or-set_other fr i k v 0 (eqb-false k i q)) (f k)
