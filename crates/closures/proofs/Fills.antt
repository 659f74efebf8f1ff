-- What one word fills, and one word more.
use Prim.Native.Nat.{ℕ, suc, ◌+◌, ◌-◌, ◌%◌, ◌<◌, ◌≤◌}
use mathlib.Core.Path.{◌≡◌, refl, sym, ap, ap₂, ◌∙◌}
use mathlib.Core.Bool.{Bool, true, false, cond}
use mathlib.Core.List.{List}
use native.Mathlib.Numerals.{add-one}
use native.Mathlib.Omega.{arith}
use borrow.Author.Tests.{eq-eqb, ne_eqb, lt-leb, le-leb}
use lib.Dec.{eqb, leb}
use lib.ListN.{length, get_or}
use Rattle.words.specs.Fields.{kind_of, p_of, CLOSURE}
use Rattle.eval.specs.Nodes.{Node, a_of, b_of, c_of, child_at}
use Rattle.closures.specs.Filling.{fill_at, fill_word, fill_words}

module _ (firsts vs : List ℕ) (u : ℕ) (nodes : List ℕ) (k : ℕ) (s : List ℕ) where
  -- the store after the word w at place k, whose table begins at o and whose child is t
  abbrev by_word : ℕ → ℕ → Node → List ℕ
  by_word w o t = cond (eqb (kind_of w) CLOSURE) (cond (leb (o + u) (length s)) (fill_at firsts vs u o t (a_of w % 8) (b_of w % 8) s) s) s

  same_word : (w o : ℕ) (t : Node) → w ≡ get_or nodes k 0 → o ≡ get_or firsts (16 + c_of w) 0 → t ≡ child_at nodes k (p_of w) → by_word w o t ≡ fill_word firsts vs u nodes k s
  unfolding fill_word
  same_word w o t e f g =
      ap₂ (by_word w) f g ∙ ap (λ (x : ℕ). by_word x (get_or firsts (16 + c_of x) 0) (child_at nodes k (p_of x))) e

  pub fill_other : (w : ℕ) → w ≡ get_or nodes k 0 → (kind_of w ≡ 21 → ⊥) → s ≡ fill_word firsts vs u nodes k s
  fill_other w e h =
      ap (λ (b : Bool). cond b (cond (leb (get_or firsts (16 + c_of w) 0 + u) (length s)) (fill_at firsts vs u (get_or firsts (16 + c_of w) 0) (child_at nodes k (p_of w)) (a_of w % 8) (b_of w % 8) s) s) s) (sym (ne_eqb (kind_of w) 21 h))
      ∙ same_word w (get_or firsts (16 + c_of w) 0) (child_at nodes k (p_of w)) e refl refl

  pub fill_short : (w o : ℕ) → w ≡ get_or nodes k 0 → o ≡ get_or firsts (16 + c_of w) 0 → length s < o + u → s ≡ fill_word firsts vs u nodes k s
  fill_short w o e f h = go (eqb (kind_of w) CLOSURE) ∙ same_word w o (child_at nodes k (p_of w)) e f refl
    where
      go : (b : Bool) → s ≡ cond b (cond (leb (o + u) (length s)) (fill_at firsts vs u o (child_at nodes k (p_of w)) (a_of w % 8) (b_of w % 8) s) s) s
      go true = rw (lt-leb (o + u) (length s) h) refl
      go false = refl

  pub fill_here : (w o : ℕ) (t : Node) → w ≡ get_or nodes k 0 → kind_of w ≡ 21 → o ≡ get_or firsts (16 + c_of w) 0 → t ≡ child_at nodes k (p_of w) → o + u ≤ length s
      → fill_at firsts vs u o t (a_of w % 8) (b_of w % 8) s ≡ fill_word firsts vs u nodes k s
  fill_here w o t e i f g h =
      ap₂ (λ (b c : Bool). cond b (cond c (fill_at firsts vs u o t (a_of w % 8) (b_of w % 8) s) s) s) (sym (eq-eqb (kind_of w) 21 i)) (sym (le-leb (o + u) (length s) h))
      ∙ same_word w o t e f g

module _ (firsts vs : List ℕ) (u : ℕ) (nodes : List ℕ) where
  pub fill_none : (n k : ℕ) (s : List ℕ) → n ≡ 0 → s ≡ fill_words firsts vs u nodes n k s
  unfolding fill_words
  fill_none n k s e = ap (λ (m : ℕ). fill_words firsts vs u nodes m k s) (sym e)

  -- a loop's turn
  pub fill_next : (hi k : ℕ) (s t : List ℕ) → k < hi → t ≡ fill_word firsts vs u nodes k s → fill_words firsts vs u nodes (hi - (k + 1)) (k + 1) t ≡ fill_words firsts vs u nodes (hi - k) k s
  unfolding fill_words
  fill_next hi k s t h e =
      let m : suc (hi - (k + 1)) ≡ hi - k = omega arith in
      ap₂ (λ (j : ℕ) (x : List ℕ). fill_words firsts vs u nodes (hi - (k + 1)) j x) (add-one k) e ∙ ap (λ (n : ℕ). fill_words firsts vs u nodes n k s) m
