-- A part of the store written word by word, lent again and given back.
use Prim.Native.Nat.{ℕ, ◌+◌, ◌%◌, ◌<◌, ◌≤◌}
use mathlib.Core.Path.{◌≡◌, refl, sym, ap, ap₂, ◌∙◌}
use mathlib.Core.Bool.{Bool}
use mathlib.Core.List.{List, [], ◌∷◌, ◌++◌, append_assoc}
use native.Mathlib.Nat.{le_of_eq, le-add_right}
use native.Mathlib.Omega.{arith}
use native.Mathlib.Numerals.{add-one}
use borrow.Author.Tests.{le-ltb}
use borrow.Rule.Slice.PartMut.{mid_of, put_mid}
use lib.ListN.{length, get_or, set, take, drop, length-set, get_or-eq_default}
use lib.Seq.{paste, paste-zero, paste-suc, take-set-le, take_all, take_at, drop_at, length-take-le, sets, sets-eq}
use Rattle.definition.specs.Text.{below}
use Rattle.definition.specs.Tables.{Tuple, table, joins, through, through_all, closure}
use Rattle.closure.proofs.Laws.{rows_table, table_rows}
use Rattle.closure.specs.Rows.{Rows}
use Rattle.eval.specs.Nodes.{node, node_at, child_at}
use Rattle.eval.proofs.Trees.{node_step}

-- l is d with the first j elements of s from index at on: what a loop has made of d before its turn j
pub record Pasted (d : List ℕ) (at : ℕ) (s : List ℕ) (j : ℕ) (l : List ℕ) : Type 0 where
  pub long : length l ≡ length d
  pub front : take at l ≡ take at d
  pub same : l ≡ paste d at s j

pub pasted_none : (d : List ℕ) (at : ℕ) (s : List ℕ) → Pasted d at s 0 d
pasted_none d at s = record { long = refl; front = refl; same = paste-zero d at s }

pub pasted_more : (d : List ℕ) (at : ℕ) (s : List ℕ) (j : ℕ) (l : List ℕ) (v : ℕ) → at + j < length d → j < length s → Pasted d at s j l → v ≡ get_or s j 0 → Pasted d at s (j + 1) (set l (at + j) v)
pasted_more d at s j l v h k p e =
    record {
      long = length-set l (at + j) v ∙ p.long;
      front = take-set-le at l (at + j) v (le-add_right at j) ∙ p.front;
      same =
          ap₂ (λ (x : List ℕ) (y : ℕ). set x (at + j) y) p.same e ∙ paste-suc d at s j 0 h k
          ∙ ap (paste d at s) (sym (add-one j));
    }

-- a whole part put in place
paste_all : (d : List ℕ) (o : ℕ) (s : List ℕ) (u : ℕ) → length s ≡ u → paste d o s u ≡ take o d ++ (s ++ drop (o + u) d)
paste_all d o s u e =
    append_assoc (take o d) (take u s) (drop (o + u) d)
    ∙ ap (λ (l : List ℕ). take o d ++ (l ++ drop (o + u) d)) (take_all u s (le_of_eq e))

paste_sets : (d : List ℕ) (o : ℕ) (s : List ℕ) (u : ℕ) → length s ≡ u → o + u ≤ length d → paste d o s u ≡ sets d o s
paste_sets d o s u e h =
    ap (λ (l : List ℕ). take o d ++ l ++ drop (o + u) d) (take_all u s (le_of_eq e))
    ∙ ap (λ (n : ℕ). take o d ++ s ++ drop (o + n) d) (sym e) ∙ sym (sets-eq s d o (rw e h))

-- a part that was put in place, lent again and given back as ys
module _ (d : List ℕ) (o : ℕ) (s : List ℕ) (u : ℕ) (fits : o + u ≤ length d) (e : length s ≡ u) where
  from_o : o ≤ length d
  from_o = omega arith

  pub mid_paste : mid_of o u (paste d o s u) ≡ s
  mid_paste =
      ap (mid_of o u) (paste_all d o s u e)
      ∙ ap (take u) (drop_at (take o d) (s ++ drop (o + u) d) o (length-take-le o d from_o))
      ∙ take_at s (drop (o + u) d) u e

  put_paste : (ys : List ℕ) → length ys ≡ u → put_mid o u (paste d o s u) ys ≡ paste d o ys u
  put_paste ys f =
      ap (λ (l : List ℕ). put_mid o u l ys) (paste_all d o s u e)
      ∙ ap₂ (λ (a b : List ℕ). a ++ (ys ++ drop u b)) (take_at (take o d) (s ++ drop (o + u) d) o (length-take-le o d from_o))
      (drop_at (take o d) (s ++ drop (o + u) d) o (length-take-le o d from_o))
      ∙ ap (λ (b : List ℕ). take o d ++ (ys ++ b)) (drop_at s (drop (o + u) d) u e)
      ∙ sym (paste_all d o ys u f)

  -- the part that was lent, k words, was s, and came back as ys
  pub given_back : (k : ℕ) (xs ys : List ℕ) → k ≡ u → xs ≡ paste d o s u → length ys ≡ u → put_mid o k xs ys ≡ sets d o ys
  given_back k xs ys i p f = ap₂ (λ (j : ℕ) (l : List ℕ). put_mid o j l ys) i p ∙ put_paste ys f ∙ paste_sets d o ys u f fits

-- a closure has as many rows as its table
closure_rows : (u : ℕ) (ks ws : List ℕ) → length ws ≡ u → length (through_all u ks ws) ≡ u
unfolding through_all through
closure_rows u [] ws h = h
closure_rows u (k ∷ ks) ws h = closure_rows u ks (through u k ws) (rows_table u (joins u k ws))

pub closure_length : (u : ℕ) (ws : List ℕ) → length ws ≡ u → length (closure u ws) ≡ u
unfolding closure
closure_length u ws h = closure_rows u (below u) ws h

-- a binary table lent again: its words are narrow, and its closure comes back
module _ (d : List ℕ) (o u : ℕ) (f : Tuple → Bool) (fits : o + u ≤ length d) (k : ℕ) (xs : List ℕ) (i : k ≡ u) (p : xs ≡ paste d o (table u 2 f) u) where
  lent : mid_of o k xs ≡ table u 2 f
  lent = ap₂ (λ (j : ℕ) (l : List ℕ). mid_of o j l) i p ∙ mid_paste d o (table u 2 f) u fits (rows_table u f)

  pub lent_rows : Rows (length (mid_of o k xs)) (mid_of o k xs)
  lent_rows = rows_of (mid_of o k xs) lent
    where
      rows_of : (m : List ℕ) → m ≡ table u 2 f → Rows (length m) m
      rows_of m e = rw (e, rows_table u f) (table_rows u f)

  pub closed_back : (ys : List ℕ) → ys ≡ closure (length (mid_of o k xs)) (mid_of o k xs) → put_mid o k xs ys ≡ sets d o (closure u (table u 2 f))
  closed_back ys q =
      let e = rows_table u f in
      let y : ys ≡ closure u (table u 2 f) = q ∙ ap (λ (l : List ℕ). closure (length l) l) lent ∙ ap (λ (n : ℕ). closure n (table u 2 f)) e in
      given_back d o (table u 2 f) u fits e k xs ys i p (ap length y ∙ closure_length u (table u 2 f) e) ∙ ap (sets d o) y

-- no node stands past the end
pub past_end : (nodes : List ℕ) (k c : ℕ) → k ≤ c → node_at nodes (length nodes) ≡ child_at nodes k c
unfolding child_at node
past_end nodes k c h =
    node_step nodes (length nodes)
    ∙ ap (λ (w : ℕ). node (w % 256) w (child_at nodes (length nodes))) (get_or-eq_default nodes 0 (le_of_eq refl))
    ∙ rw (le-ltb c k h) refl
