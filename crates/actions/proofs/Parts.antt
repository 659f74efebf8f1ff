-- The start of a statement, and one closure more made zero.
use Prim.Native.Nat.{ℕ, zero, suc, ◌+◌, ◌-◌, ◌<◌, ◌≤◌}
use mathlib.Core.Path.{◌≡◌, refl, sym, ap, ap₂, ◌∙◌}
use mathlib.Core.Bool.{Bool, true, false, cond}
use mathlib.Core.List.{List, append_assoc}
use native.Mathlib.Numerals.{add-one}
use native.Mathlib.Omega.{arith}
use borrow.Author.Tests.{eq-eqb, ne_eqb, lt-leb, le-leb}
use borrow.Rule.Slice.PartMut.{mid_of, put_mid}
use lib.Dec.{eqb, leb}
use lib.ListN.{length, get_or, drop, replicate, length-replicate, length-drop}
use lib.Seq.{sets, sets-eq, drop-drop, length-take-le}
use Rattle.words.specs.Fields.{kind_of, CLOSURE}
use Rattle.eval.specs.Nodes.{c_of}
use Rattle.actions.specs.Parts.{is_statement, start, clear_word, clear_words}

-- over words that are no statement's own the start stays
pub start_quiet : (words : List ℕ) (s m : ℕ) → start words s ≡ s → ((i : ℕ) → s ≤ i → i < s + m → is_statement (kind_of (get_or words i 0)) ≡ false) → start words (s + m) ≡ s
unfolding start
start_quiet words s zero e q = let z : s + 0 ≡ s = omega arith in rw z e
start_quiet words s (suc m) e q =
    let z : s + suc m ≡ suc (s + m) = omega arith in
    rw (z, q (s + m) (omega arith) (omega arith)) (start_quiet words s m e (λ i l h. q i l (omega arith)))

-- a search back from a place that has come to n
module _ (words : List ℕ) (at n : ℕ) (h : start words n ≡ start words at) where
  pub start_none : n ≡ 0 → n ≡ start words at
  unfolding start
  start_none e = e ∙ sym (ap (start words) e) ∙ h

  module _ (l : 0 < n) where
    same : n ≡ suc (n - 1)
    same = omega arith

    pub start_here : is_statement (kind_of (get_or words (n - 1) 0)) ≡ true → n ≡ start words at
    unfolding start
    start_here e = same ∙ sym (ap (start words) same ∙ rw e refl) ∙ h

    pub start_back : is_statement (kind_of (get_or words (n - 1) 0)) ≡ false → start words (n - 1) ≡ start words at
    unfolding start
    start_back e = sym (ap (start words) same ∙ rw e refl) ∙ h

module _ (firsts : List ℕ) (u : ℕ) (nodes : List ℕ) (k : ℕ) (s : List ℕ) where
  -- the store after the word w at place k, whose table begins at o
  abbrev by_word : ℕ → ℕ → List ℕ
  by_word w o = cond (eqb (kind_of w) CLOSURE) (cond (leb (o + u) (length s)) (sets s o (replicate u 0)) s) s

  same_word : (w o : ℕ) → w ≡ get_or nodes k 0 → o ≡ get_or firsts (16 + c_of w) 0 → by_word w o ≡ clear_word firsts u nodes k s
  unfolding clear_word
  same_word w o e f = ap (by_word w) f ∙ ap (λ (x : ℕ). by_word x (get_or firsts (16 + c_of x) 0)) e

  pub clear_other : (w : ℕ) → w ≡ get_or nodes k 0 → (kind_of w ≡ 21 → ⊥) → s ≡ clear_word firsts u nodes k s
  clear_other w e h =
      ap (λ (b : Bool). cond b (cond (leb (get_or firsts (16 + c_of w) 0 + u) (length s)) (sets s (get_or firsts (16 + c_of w) 0) (replicate u 0)) s) s) (sym (ne_eqb (kind_of w) 21 h))
      ∙ same_word w (get_or firsts (16 + c_of w) 0) e refl

  pub clear_short : (w o : ℕ) → w ≡ get_or nodes k 0 → o ≡ get_or firsts (16 + c_of w) 0 → length s < o + u → s ≡ clear_word firsts u nodes k s
  clear_short w o e f h = go (eqb (kind_of w) CLOSURE) ∙ same_word w o e f
    where
      go : (b : Bool) → s ≡ cond b (cond (leb (o + u) (length s)) (sets s o (replicate u 0)) s) s
      go true = rw (lt-leb (o + u) (length s) h) refl
      go false = refl

  pub clear_here : (w o : ℕ) → w ≡ get_or nodes k 0 → kind_of w ≡ 21 → o ≡ get_or firsts (16 + c_of w) 0 → o + u ≤ length s
      → sets s o (replicate u 0) ≡ clear_word firsts u nodes k s
  clear_here w o e i f h =
      ap₂ (λ (b c : Bool). cond b (cond c (sets s o (replicate u 0)) s) s) (sym (eq-eqb (kind_of w) 21 i)) (sym (le-leb (o + u) (length s) h))
      ∙ same_word w o e f

-- a part lent and given back as zeros
pub cleared_part : (s : List ℕ) (o u n : ℕ) (ys : List ℕ) → o + u ≤ length s → n ≡ u → ys ≡ replicate (length (mid_of o n s)) 0
    → put_mid o n s ys ≡ sets s o (replicate u 0)
cleared_part s o u n ys h e f =
    let z : length (replicate {A = ℕ} u 0) ≡ u = length-replicate u 0 in
    let m : length (mid_of o u s) ≡ u = length-take-le u (drop o s) (rw length-drop (omega arith)) in
    let g : ys ≡ replicate u 0 = f ∙ ap (λ k. replicate (length (mid_of o k s)) 0) e ∙ ap (λ k. replicate k 0) m in
    rw (e, g) (sym (sets-eq (replicate u 0) s o (rw z h) ∙ rw (z, append_assoc, drop-drop) refl))

module _ (firsts : List ℕ) (u : ℕ) (nodes : List ℕ) where
  pub clear_none : (n k : ℕ) (s : List ℕ) → n ≡ 0 → s ≡ clear_words firsts u nodes n k s
  unfolding clear_words
  clear_none n k s e = ap (λ (m : ℕ). clear_words firsts u nodes m k s) (sym e)

  -- a loop's turn
  pub clear_next : (hi k : ℕ) (s t : List ℕ) → k < hi → t ≡ clear_word firsts u nodes k s
      → clear_words firsts u nodes (hi - (k + 1)) (k + 1) t ≡ clear_words firsts u nodes (hi - k) k s
  unfolding clear_words
  clear_next hi k s t h e =
      let m : suc (hi - (k + 1)) ≡ hi - k = omega arith in
      ap₂ (λ (j : ℕ) (x : List ℕ). clear_words firsts u nodes (hi - (k + 1)) j x) (add-one k) e ∙ ap (λ (n : ℕ). clear_words firsts u nodes n k s) m
