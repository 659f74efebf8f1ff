-- The room for a new table, and the assignment of a word by whether there is room.
use Prim.Native.Nat.{ℕ, ◌+◌, ◌-◌, ◌<◌, ◌≤◌}
use mathlib.Core.Path.{◌≡◌, refl, sym, ap, ◌∙◌}
use mathlib.Core.Bool.{Bool, true, false, not, ◌&&◌, cond}
use mathlib.Core.List.{List}
use native.Mathlib.Omega.{arith}
use borrow.Author.Tests.{leb-true, lt-leb, le-leb}
use lib.Dec.{leb}
use lib.ListN.{length, get_or, take, replicate}
use lib.Seq.{sets}
use Rattle.definition.specs.Tables.{table, table_words}
use Rattle.words.specs.Fields.{p_of}
use Rattle.eval.specs.Nodes.{n_of}
use Rattle.assignment.specs.New.{new_at}
use Rattle.actions.specs.Doing.{columns_of, assign_by_word}

pub not_true : (b : Bool) → not b ≡ true → b ≡ false
not_true true e = sym e
not_true false e = refl

pub not_false : (b : Bool) → not b ≡ false → b ≡ true
not_false true e = refl
not_false false e = sym e

module _ (off len scr total : ℕ) where
  abbrev room : Bool
  room = leb (off + len) scr && leb (scr + len) total

  both : (a b : Bool) → a && b ≡ true → (a ≡ true) × (b ≡ true)
  both true b e = (refl, e)
  both false b e = let z : ◌≡◌ {A = ℕ} 0 1 = cc in absurd (omega arith)

  pub has_place : room ≡ true → off + len ≤ scr
  has_place e = leb-true _ _ (both (leb (off + len) scr) (leb (scr + len) total) e).0

  pub has_scratch : room ≡ true → scr + len ≤ total
  has_scratch e = leb-true _ _ (both (leb (off + len) scr) (leb (scr + len) total) e).1

-- by the word's numbers: the relation's first word and the words of its table
module _ (words firsts : List ℕ) (u scr w at : ℕ) (vs s : List ℕ) where
  abbrev by_numbers : ℕ → ℕ → List ℕ
  by_numbers off len =
      cond (leb (n_of w) 4)
      (cond (leb (off + len) scr && leb (scr + len) (length s))
      (sets (sets s off (table u (n_of w) (new_at words (take scr s) firsts vs u (at - 1) (take (n_of w) (columns_of w)) (replicate 8 0) off))) scr (replicate len 0)) s) s

  same_numbers : (off len : ℕ) → off ≡ get_or firsts (p_of w) 0 → len ≡ table_words u (n_of w) → by_numbers off len ≡ assign_by_word words firsts u scr w at vs s
  unfolding assign_by_word
  same_numbers off len e f = ap (λ o. by_numbers o len) e ∙ ap (by_numbers (get_or firsts (p_of w) 0)) f

  pub assign_wide : 4 < n_of w → s ≡ assign_by_word words firsts u scr w at vs s
  assign_wide h = sym (ap (λ b. cond b (cond (leb (get_or firsts (p_of w) 0 + table_words u (n_of w)) scr && leb (scr + table_words u (n_of w)) (length s)) (sets (sets s (get_or firsts (p_of w) 0) (table u (n_of w) (new_at words (take scr s) firsts vs u (at - 1) (take (n_of w) (columns_of w)) (replicate 8 0) (get_or firsts (p_of w) 0)))) scr (replicate (table_words u (n_of w)) 0)) s) s) (lt-leb _ _ h)) ∙ same_numbers _ _ refl refl

  module _ (h : n_of w ≤ 4) {off len : ℕ} (e : off ≡ get_or firsts (p_of w) 0) (f : len ≡ table_words u (n_of w)) where
    pub assign_short : (leb (off + len) scr && leb (scr + len) (length s)) ≡ false → s ≡ assign_by_word words firsts u scr w at vs s
    assign_short q = sym (rw (le-leb _ _ h, q) refl) ∙ same_numbers off len e f

    abbrev made : ℕ → List ℕ → List ℕ
    made e cs = sets (sets s off (table u (n_of w) (new_at words (take scr s) firsts vs u e (take (n_of w) cs) (replicate 8 0) off))) scr (replicate len 0)

    pub assign_here : (root : ℕ) (cs : List ℕ) → root ≡ at - 1 → cs ≡ columns_of w → (leb (off + len) scr && leb (scr + len) (length s)) ≡ true
        → made root cs ≡ assign_by_word words firsts u scr w at vs s
    assign_here root cs i j q = ap (λ x. made x cs) i ∙ ap (made (at - 1)) j ∙ sym (rw (le-leb _ _ h, q) refl) ∙ same_numbers off len e f
