-- Where a statement's closures find zeros, the store is left as it was.
use Prim.Native.Nat.{ℕ, zero, suc, ◌+◌, ◌%◌, ◌<◌, ◌≤◌}
use mathlib.Core.Path.{◌≡◌, refl, sym, ap, ◌∙◌}
use mathlib.Core.Bool.{Bool, true, false, ◌&&◌, ◌||◌, cond}
use mathlib.Core.List.{List, [], ◌∷◌}
use mathlib.Core.Logic.{⊎_elim}
use native.Mathlib.Nat.{eq-or-lt_of_le, le_refl}
use native.Mathlib.Omega.{arith}
use borrow.Author.Tests.{eqb-true, eqb-false, leb-true, leb-false, ltb-true, ltb-false}
use lib.Dec.{eqb, leb, ltb}
use lib.ListN.{length, get_or, set, take, replicate, length-set, length-replicate}
use lib.Seq.{sets, length-sets, get_or-set_same, get_or-set_other, ext_get_or}
use Rattle.words.specs.Fields.{kind_of, p_of, CLOSURE}
use Rattle.eval.specs.Nodes.{c_of, a_of, b_of, child_at}
use Rattle.eval.specs.Meaning.{world, closed}
use Rattle.closure.proofs.Laws.{rows_table}
use Rattle.closures.specs.Filling.{fill_word, fill_words}
use Rattle.closures.proofs.Parts.{closure_length}
use Rattle.closures.proofs.Fills.{fill_other, fill_short, fill_here}
use Rattle.tuples.proofs.Stores.{get_or_sets_after}
use Rattle.actions.specs.Parts.{clear_word, clear_words}
use Rattle.actions.proofs.Parts.{clear_other, clear_short, clear_here}

get_d_sets_before : (xs l : List ℕ) (i j : ℕ) → j < i → get_or (sets l i xs) j 0 ≡ get_or l j 0
get_d_sets_before [] l i j h = refl
get_d_sets_before (a ∷ xs) l i j h = get_d_sets_before xs (set l i a) (suc i) j (omega arith) ∙ get_or-set_other l i j a 0 (λ e. omega arith)

zeros_at : (u : ℕ) (l : List ℕ) (o i : ℕ) → o ≤ i → i < o + u → o + u ≤ length l → get_or (sets l o (replicate u 0)) i 0 ≡ 0
zeros_at zero l o i h k f = absurd (omega arith)
zeros_at (suc u) l o i h k f =
    ⊎_elim (λ e. rw (← e) (get_d_sets_before (replicate u 0) (set l o 0) (suc o) o (omega arith) ∙ get_or-set_same l o 0 0 (omega arith)))
    (λ m. zeros_at u (set l o 0) (suc o) i m (omega arith) (rw length-set (omega arith)))
    (eq-or-lt_of_le h)

length_either : (a b : Bool) (s t : List ℕ) → length t ≡ length s → length (cond a (cond b t s) s) ≡ length s
length_either true true s t e = e
length_either true false s t e = refl
length_either false b s t e = refl

module _ (firsts vs : List ℕ) (u : ℕ) (words : List ℕ) (size : ℕ) where
  abbrev pub first : ℕ → ℕ
  first j = get_or firsts (16 + c_of (get_or words j 0)) 0

  abbrev pub closes : ℕ → Type 0
  closes j = kind_of (get_or words j 0) ≡ CLOSURE

  -- word i of a store is in the table of the closure at place j, or is not
  data Where (j i : ℕ) : Bool → Type 0 where
    inside : closes j → first j + u ≤ size → first j ≤ i → i < first j + u → Where j i true
    no_closure : (closes j → ⊥) → Where j i false
    no_room : size < first j + u → Where j i false
    below : closes j → first j + u ≤ size → i < first j → Where j i false
    above : closes j → first j + u ≤ size → first j + u ≤ i → Where j i false

  unfoldable pub in_table : ℕ → ℕ → Bool
  in_table j i = eqb (kind_of (get_or words j 0)) CLOSURE && (leb (first j + u) size && (leb (first j) i && ltb i (first j + u)))

  whereabouts : (j i : ℕ) → Where j i (in_table j i)
  unfolding in_table
  whereabouts j i = go (eqb (kind_of (get_or words j 0)) CLOSURE) refl (leb (first j + u) size) refl (leb (first j) i) refl (ltb i (first j + u)) refl
    where
      go : (a : Bool) → eqb (kind_of (get_or words j 0)) CLOSURE ≡ a → (b : Bool) → leb (first j + u) size ≡ b → (c : Bool) → leb (first j) i ≡ c
          → (d : Bool) → ltb i (first j + u) ≡ d → Where j i (a && (b && (c && d)))
      go false e b f c g d h = no_closure (eqb-false _ _ e)
      go true e false f c g d h = no_room (leb-false _ _ f)
      go true e true f false g d h = below (eqb-true _ _ e) (leb-true _ _ f) (leb-false _ _ g)
      go true e true f true g false h = above (eqb-true _ _ e) (leb-true _ _ f) (ltb-false _ _ h)
      go true e true f true g true h = inside (eqb-true _ _ e) (leb-true _ _ f) (leb-true _ _ g) (ltb-true _ _ h)

  module _ (s : List ℕ) (z : length s ≡ size) (j i : ℕ) where
    zeroed : Where j i true → get_or (clear_word firsts u words j s) i 0 ≡ 0
    zeroed (inside k f a b) =
        ap (λ t. get_or t i 0) (sym (clear_here firsts u words j s (get_or words j 0) (first j) refl k refl (omega arith)))
        ∙ zeros_at u s (first j) i a b (omega arith)

    kept : Where j i false → get_or (clear_word firsts u words j s) i 0 ≡ get_or s i 0
    kept (no_closure n) = ap (λ t. get_or t i 0) (sym (clear_other firsts u words j s (get_or words j 0) refl n))
    kept (no_room l) = ap (λ t. get_or t i 0) (sym (clear_short firsts u words j s (get_or words j 0) (first j) refl refl (omega arith)))
    kept (below k f l) =
        ap (λ t. get_or t i 0) (sym (clear_here firsts u words j s (get_or words j 0) (first j) refl k refl (omega arith)))
        ∙ get_d_sets_before (replicate u 0) s (first j) i l
    kept (above k f l) =
        ap (λ t. get_or t i 0) (sym (clear_here firsts u words j s (get_or words j 0) (first j) refl k refl (omega arith)))
        ∙ get_or_sets_after (replicate u 0) s (first j) i 0 (rw length-replicate l)

    -- the closure at place j
    abbrev made : List ℕ
    made =
        closed (world (take (first j) s) firsts vs u) (child_at words j (p_of (get_or words j 0))) (a_of (get_or words j 0) % 8) (b_of (get_or words j 0) % 8)

    made_length : length made ≡ u
    made_length = closure_length u _ (rows_table u _)

    filled_kept : Where j i false → get_or (fill_word firsts vs u words j s) i 0 ≡ get_or s i 0
    filled_kept (no_closure n) = ap (λ t. get_or t i 0) (sym (fill_other firsts vs u words j s (get_or words j 0) refl n))
    filled_kept (no_room l) = ap (λ t. get_or t i 0) (sym (fill_short firsts vs u words j s (get_or words j 0) (first j) refl refl (omega arith)))
    filled_kept (below k f l) =
        ap (λ t. get_or t i 0) (sym (fill_here firsts vs u words j s (get_or words j 0) (first j) (child_at words j (p_of (get_or words j 0))) refl k refl refl (omega arith)))
        ∙ get_d_sets_before made s (first j) i l
    filled_kept (above k f l) =
        ap (λ t. get_or t i 0) (sym (fill_here firsts vs u words j s (get_or words j 0) (first j) (child_at words j (p_of (get_or words j 0))) refl k refl refl (omega arith)))
        ∙ get_or_sets_after made s (first j) i 0 (rw made_length l)

    clear_length : length (clear_word firsts u words j s) ≡ size
    unfolding clear_word
    clear_length = length_either (eqb (kind_of (get_or words j 0)) CLOSURE) (leb (first j + u) (length s)) s _ (length-sets s (first j) (replicate u 0)) ∙ z

    fill_length : length (fill_word firsts vs u words j s) ≡ size
    unfolding fill_word
    fill_length = length_either (eqb (kind_of (get_or words j 0)) CLOSURE) (leb (first j + u) (length s)) s _ (length-sets s (first j) made) ∙ z

  -- word i is in the table of a closure among the n words from place k on
  unfoldable pub touched : ℕ → ℕ → ℕ → Bool
  touched zero k i = false
  touched (suc n) k i = in_table k i || touched n (suc k) i

  -- the closure in whose table word i is
  pub record Touching (n k i : ℕ) : Type 0 where
    pub place : ℕ
    pub after : k ≤ place
    pub before : place < k + n
    pub closure : closes place
    pub low : first place ≤ i
    pub high : i < first place + u

  at_place : (n k i : ℕ) → Where k i true → Touching (suc n) k i
  at_place n k i (inside c f a b) = record { place = k; after = le_refl k; before = omega arith; closure = c; low = a; high = b }

  pub touching : (n k i : ℕ) → touched n k i ≡ true → Touching n k i
  unfolding touched
  touching zero k i e = let y : ◌≡◌ {A = ℕ} 0 1 = cc in absurd (omega arith)
  touching (suc n) k i e = go (in_table k i) (whereabouts k i) e (touching n (suc k) i)
    where
      go : (a : Bool) → Where k i a → a || touched n (suc k) i ≡ true → (touched n (suc k) i ≡ true → Touching n (suc k) i) → Touching (suc n) k i
      go true v h ih = at_place n k i v
      go false v h ih =
          let r = ih h in
          record { place = r.place; after = omega (arith, r.after); before = omega (arith, r.before); closure = r.closure; low = r.low; high = r.high }

  -- word i after the closures' tables are made zero
  pub record Cleared (n k : ℕ) (t : List ℕ) (i : ℕ) : Type 0 where
    pub zero_there : touched n k i ≡ true → get_or (clear_words firsts u words n k t) i 0 ≡ 0
    pub kept_there : touched n k i ≡ false → get_or (clear_words firsts u words n k t) i 0 ≡ get_or t i 0

  pub clears : (n k : ℕ) (t : List ℕ) → length t ≡ size → (i : ℕ) → Cleared n k t i
  unfolding clear_words touched
  clears zero k t z i = record { zero_there = λ e. let y : ◌≡◌ {A = ℕ} 0 1 = cc in absurd (omega arith); kept_there = λ e. refl }
  clears (suc n) k t z i =
      let r = clears n (suc k) (clear_word firsts u words k t) (clear_length t z k i) i in
      record { zero_there = on (in_table k i) (whereabouts k i) (touched n (suc k) i) refl r; kept_there = off (in_table k i) (whereabouts k i) (touched n (suc k) i) refl r }
    where
      on : (a : Bool) → Where k i a → (b : Bool) → touched n (suc k) i ≡ b → Cleared n (suc k) (clear_word firsts u words k t) i → a || b ≡ true
          → get_or (clear_words firsts u words n (suc k) (clear_word firsts u words k t)) i 0 ≡ 0
      on a v true e r h = r.zero_there e
      on true v false e r h = r.kept_there e ∙ zeroed t z k i v
      on false v false e r h = let y : ◌≡◌ {A = ℕ} 0 1 = cc in absurd (omega arith)

      off : (a : Bool) → Where k i a → (b : Bool) → touched n (suc k) i ≡ b → Cleared n (suc k) (clear_word firsts u words k t) i → a || b ≡ false
          → get_or (clear_words firsts u words n (suc k) (clear_word firsts u words k t)) i 0 ≡ get_or t i 0
      off false v false e r h = r.kept_there e ∙ kept t z k i v
      off false v true e r h = let y : ◌≡◌ {A = ℕ} 0 1 = cc in absurd (omega arith)
      off true v b e r h = let y : ◌≡◌ {A = ℕ} 0 1 = cc in absurd (omega arith)

  -- and after they are filled, outside them
  pub fills : (n k : ℕ) (s : List ℕ) → length s ≡ size → (i : ℕ) → touched n k i ≡ false → get_or (fill_words firsts vs u words n k s) i 0 ≡ get_or s i 0
  unfolding fill_words touched
  fills zero k s z i h = refl
  fills (suc n) k s z i h = go (in_table k i) (whereabouts k i) (touched n (suc k) i) refl h (fills n (suc k) (fill_word firsts vs u words k s) (fill_length s z k i) i)
    where
      go : (a : Bool) → Where k i a → (b : Bool) → touched n (suc k) i ≡ b → a || b ≡ false
          → (touched n (suc k) i ≡ false → get_or (fill_words firsts vs u words n (suc k) (fill_word firsts vs u words k s)) i 0 ≡ get_or (fill_word firsts vs u words k s) i 0)
          → get_or (fill_words firsts vs u words n (suc k) (fill_word firsts vs u words k s)) i 0 ≡ get_or s i 0
      go false v false e h ih = ih e ∙ filled_kept s z k i v
      go false v true e h ih = let y : ◌≡◌ {A = ℕ} 0 1 = cc in absurd (omega arith)
      go true v b e h ih = let y : ◌≡◌ {A = ℕ} 0 1 = cc in absurd (omega arith)

  cleared_length : (n k : ℕ) (t : List ℕ) → length t ≡ size → length (clear_words firsts u words n k t) ≡ size
  unfolding clear_words
  cleared_length zero k t z = z
  cleared_length (suc n) k t z = cleared_length n (suc k) (clear_word firsts u words k t) (clear_length t z k 0)

  filled_length : (n k : ℕ) (s : List ℕ) → length s ≡ size → length (fill_words firsts vs u words n k s) ≡ size
  unfolding fill_words
  filled_length zero k s z = z
  filled_length (suc n) k s z = filled_length n (suc k) (fill_word firsts vs u words k s) (fill_length s z k 0)

  -- a store that is zero in the closures' tables, and as t outside them, is t with those tables zero
  pub cleared_to : (n k : ℕ) (t s : List ℕ) → length t ≡ size → length s ≡ size → ((i : ℕ) → touched n k i ≡ true → get_or s i 0 ≡ 0)
      → ((i : ℕ) → touched n k i ≡ false → get_or t i 0 ≡ get_or s i 0) → clear_words firsts u words n k t ≡ s
  cleared_to n k t s y z h f =
      ext_get_or 0 _ s (cleared_length n k t y ∙ sym z) (λ i l. go i (touched n k i) refl (clears n k t y i))
    where
      go : (i : ℕ) (b : Bool) → touched n k i ≡ b → Cleared n k t i → get_or (clear_words firsts u words n k t) i 0 ≡ get_or s i 0
      go i true e r = r.zero_there e ∙ sym (h i e)
      go i false e r = r.kept_there e ∙ f i e

  pub restored : (n k : ℕ) (s : List ℕ) → length s ≡ size → ((i : ℕ) → touched n k i ≡ true → get_or s i 0 ≡ 0)
      → clear_words firsts u words n k (fill_words firsts vs u words n k s) ≡ s
  restored n k s z h = cleared_to n k (fill_words firsts vs u words n k s) s (filled_length n k s z) z h (λ i e. fills n k s z i e)
