-- A number entered by its place, which is found by halves.
use Prim.Native.Nat.{ℕ, zero, suc, ◌+◌, ◌≤◌, ◌<◌}
use mathlib.Core.Path.{◌≡◌, refl, sym, ap, subst, ◌∙◌}
use mathlib.Core.Logic.{⊎_elim}
use mathlib.Core.List.{List, [], ◌∷◌, ◌++◌}
use native.Mathlib.Nat.{le_of_suc-le-suc, eq-or-lt_of_le}
use native.Mathlib.Omega.{arith}
use lib.ListN.{length, get_or, take, drop, length-append, length-drop, take-append-drop}
use lib.Seq.{length-take-le, take-take}
use borrow.Author.Tests.{eq-eqb, ne_eqb, lt-ltb, le-ltb}
use Rattle.std.specs.Ordering.{nat_cmp, ordering_index, MatchOrdering}
use Rattle.std.specs.declared.cmp.Ordering.{Ordering}
use Rattle.std.proofs.lemmas.Cmp.{ranked}
use Rattle.std.specs.declared.cmp.Ordering.TheVariants.{Less, Equal, Greater}
use Rattle.std.specs.List.Sorted.{IsNonDecreasingBy, IsPartitionPoint}
use Rattle.std.proofs.lemmas.List.Sorted.{IsNonDecreasingBy-from_default}
use Rattle.numbers.specs.Sets.{Ascending, entered}
use Rattle.numbers.proofs.SetLaws.{ascends_at}

-- of two numbers the larger one's answer is no lower
rises_with : (x y v : ℕ) → x ≤ y → ordering_index (nat_cmp x v) ≤ ordering_index (nat_cmp y v)
rises_with x y v h = go (nat_cmp x v) (nat_cmp y v) (ranked x v (nat_cmp x v) refl) (ranked y v (nat_cmp y v) refl)
  where
    go : (r s : Ordering) → MatchOrdering r (x < v) (x ≡ v) (v < x) → MatchOrdering s (y < v) (y ≡ v) (v < y) → ordering_index r ≤ ordering_index s
    go Less s p q = omega arith
    go Equal Less p q = absurd (omega arith)
    go Equal Equal p q = omega arith
    go Equal Greater p q = omega arith
    go Greater Less p q = absurd (omega arith)
    go Greater Equal p q = absurd (omega arith)
    go Greater Greater p q = omega arith

module _ (v : ℕ) where
  entered_new : (ws : List ℕ) (p : ℕ) → p ≤ length ws → ((i : ℕ) → i < p → get_or ws i 0 < v) → (p < length ws → v < get_or ws p 0) → entered v ws ≡ take p ws ++ v ∷ drop p ws
  unfolding entered
  entered_new [] zero h f g = refl
  entered_new [] (suc p) h f g = absurd (omega arith)
  entered_new (w ∷ ws) zero h f g =
      let l : v < w = g (omega arith) in
      rw (ne_eqb v w (λ e. omega arith), lt-ltb v w l) refl
  entered_new (w ∷ ws) (suc p) h f g =
      let l : w < v = f 0 (omega arith) in
      rw (ne_eqb v w (λ e. omega arith), le-ltb v w (omega arith))
      (ap (λ (r : List ℕ). w ∷ r) (entered_new ws p (le_of_suc-le-suc h) (λ i k. f (suc i) (omega arith)) (λ k. g (omega arith))))

  entered_found : (ws : List ℕ) (p : ℕ) → p < length ws → ((i : ℕ) → i < p → get_or ws i 0 < v) → v ≡ get_or ws p 0 → entered v ws ≡ ws
  unfolding entered
  entered_found [] p h f e = absurd (omega arith)
  entered_found (w ∷ ws) zero h f e = rw (eq-eqb v w e) refl
  entered_found (w ∷ ws) (suc p) h f e =
      let l : w < v = f 0 (omega arith) in
      rw (ne_eqb v w (λ e. omega arith), le-ltb v w (omega arith))
      (ap (λ (r : List ℕ). w ∷ r) (entered_found ws p (le_of_suc-le-suc h) (λ i k. f (suc i) (omega arith)) e))

  -- the library's search found v
  pub sorted_found : (ws : List ℕ) (p : ℕ) → Ascending ws → p < length ws → nat_cmp (get_or ws p 0) v ≡ Equal → entered v ws ≡ ws
  sorted_found ws p a l e =
      let s : v ≡ get_or ws p 0 = sym (ranked (get_or ws p 0) v Equal (sym e)) in
      entered_found ws p l (λ i k. subst (λ (x : ℕ). get_or ws i 0 < x) (sym s) (ascends_at ws a i p k l)) s

  -- its answers rise along the set
  answers_rise : (ws : List ℕ) → Ascending ws → IsNonDecreasingBy (λ y. ordering_index (nat_cmp y v)) ws
  answers_rise ws a = IsNonDecreasingBy-from_default (λ y. ordering_index (nat_cmp y v)) ws 0 (λ i j n l.
      ⊎_elim (λ (e : i ≡ j). rises_with (get_or ws i 0) (get_or ws j 0) v (subst (λ (k : ℕ). get_or ws i 0 ≤ get_or ws k 0) e (omega arith)))
      (λ (k : i < j). let r = ascends_at ws a i j k l in rises_with (get_or ws i 0) (get_or ws j 0) v (omega (arith, r))) (eq-or-lt_of_le n))

  -- or the place for it
  pub sorted_new : (ws : List ℕ) (p : ℕ) → Ascending ws → p ≤ length ws
      → (IsNonDecreasingBy (λ y. ordering_index (nat_cmp y v)) ws → IsPartitionPoint (λ y. nat_cmp y v ≡ Less) (λ y. nat_cmp y v ≡ Greater) ws p)
      → entered v ws ≡ take p ws ++ v ∷ drop p ws
  sorted_new ws p a l f =
      let g = f (answers_rise ws a) in
      entered_new ws p l (λ i k. ranked (get_or ws i 0) v Less (sym (g.0 i 0 (omega arith) k))) (λ k. ranked (get_or ws p 0) v Greater (sym (g.1 p 0 (omega arith) k)))

-- the set with its new number in place of the first n words
module _ (words : List ℕ) (n v : ℕ) (within : n < length words) where
  before : length (take n words) ≡ n
  before = length-take-le n words (omega arith)

  pub kept_count : entered v (take n words) ≡ take n words → n ≡ length (entered v (take n words))
  kept_count e = sym (ap length e ∙ before)

  pub kept_words : entered v (take n words) ≡ take n words → words ≡ entered v (take n words) ++ drop n words
  kept_words e = sym (take-append-drop n words) ∙ ap (λ (l : List ℕ). l ++ drop n words) (sym e)

  module _ (p : ℕ) (h : p ≤ n) (e : entered v (take n words) ≡ take p (take n words) ++ v ∷ drop p (take n words)) where
    pub new_count : n + 1 ≡ length (entered v (take n words))
    new_count =
        let b : p ≤ length (take n words) = rw before h in
        sym (ap length e ∙ length-append (take p (take n words)) (v ∷ drop p (take n words)) ∙ rw (length-take-le p (take n words) b, length-drop, before) (omega arith))

    pub new_words : take p words ++ v ∷ drop p (take n words) ++ drop (n + 1) words ≡ entered v (take n words) ++ drop (n + 1) words
    new_words = ap (λ (l : List ℕ). l ++ drop (n + 1) words) (ap (λ (l : List ℕ). l ++ v ∷ drop p (take n words)) (sym (take-take p n words h)) ∙ sym e)
