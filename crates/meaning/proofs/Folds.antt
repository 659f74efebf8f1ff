-- Two folds over the elements: whether a test holds of all, and the sum. Over tuples they are the definition's `all_of` and the number of
-- those kept.
use Prim.Native.Nat.{ℕ, zero, suc, ◌+◌, ◌<◌, ◌≤◌}
use mathlib.Core.Path.{◌≡◌, refl, sym, ap, ap₂, ◌∙◌, fun_ext}
use mathlib.Core.Bool.{Bool, true, false, cond, and-true}
use mathlib.Core.List.{List, [], ◌∷◌, map}
use native.Mathlib.Nat.{add-zero, zero-add, add-suc, suc-add}
use native.Mathlib.Omega.{arith}
use lib.ListN.{length, length-append, length-map}
use Rattle.definition.specs.Text.{all_of, keep, gather, from, below}
use Rattle.definition.specs.Tables.{Tuple, tuples}
use Rattle.definition.proofs.TupleLaws.{keep_append, keep_map}
use Rattle.eval.specs.Meaning.{total}
use Rattle.meaning.proofs.Numbers.{bool_ext, all_same, all_intro, all_elim, all_gather}
use Rattle.meaning.proofs.Slots.{gathered}

-- a test as a number
abbrev pub one_if : Bool → ℕ
one_if b = cond b 1 0

total_add : (n : ℕ) (f g : ℕ → ℕ) → total n (λ a. f a + g a) ≡ total n f + total n g
unfolding total
total_add zero f g = refl
total_add (suc n) f g = let e = total_add n f g in omega arith

total_none : (n : ℕ) → total n (λ a. 0) ≡ 0
unfolding total
total_none zero = refl
total_none (suc n) = let e = total_none n in omega arith

total_first : (n : ℕ) (f : ℕ → ℕ) → total (suc n) f ≡ f 0 + total n (λ a. f (suc a))
unfolding total
total_first zero f = omega arith
total_first (suc n) f = let e : total (suc n) f ≡ f 0 + total n (λ a. f (suc a)) = total_first n f in omega arith

total_swap : (m n : ℕ) (F : ℕ → ℕ → ℕ) → total m (λ a. total n (λ b. F a b)) ≡ total n (λ b. total m (λ a. F a b))
unfolding total
total_swap zero n F = sym (total_none n)
total_swap (suc m) n F = ap (λ (k : ℕ). k + total n (λ b. F m b)) (total_swap m n F) ∙ sym (total_add n (λ b. total m (λ a. F a b)) (λ b. F m b))

-- tuples by their first element
length_keep_map : (f : Tuple → Bool) (a : ℕ) (r : List Tuple) → length (keep f (map (λ t. a ∷ t) r)) ≡ length (keep (λ t. f (a ∷ t)) r)
length_keep_map f a r = ap length (keep_map f (λ t. a ∷ t) r) ∙ length-map (keep (λ t. f (a ∷ t)) r) (λ t. a ∷ t)

length_keep_gather : (f : Tuple → Bool) (r : List Tuple) (n s : ℕ)
    → length (keep f (gather (λ a. map (λ t. a ∷ t) r) (from n s))) ≡ total n (λ i. length (keep (λ t. f ((s + i) ∷ t)) r))
unfolding gather from keep total
length_keep_gather f r zero s = refl
length_keep_gather f r (suc n) s =
    let K : ℕ → ℕ = λ a. length (keep (λ t. f (a ∷ t)) r) in
    let rest = gather (λ a. map (λ t. a ∷ t) r) (from n (suc s)) in
    ap length (keep_append f (map (λ t. s ∷ t) r) rest) ∙ length-append (keep f (map (λ t. s ∷ t) r)) (keep f rest)
    ∙ ap₂ ◌+◌ (length_keep_map f s r ∙ ap K (sym (add-zero s))) (length_keep_gather f r n (suc s) ∙ ap (total n) (fun_ext (λ i. ap K (suc-add s i ∙ sym (add-suc s i)))))
    ∙ sym (total_first n (λ i. K (s + i)))

module _ (u : ℕ) where
  abbrev pub all : (ℕ → Bool) → Bool
  all f = all_of f (below u)

  pub same_all : (f g : ℕ → Bool) → ((a : ℕ) → a < u → f a ≡ g a) → all f ≡ all g
  same_all f g h = all_same f g u h

  pub swap_all : (F : ℕ → ℕ → Bool) → all (λ a. all (λ b. F a b)) ≡ all (λ b. all (λ a. F a b))
  swap_all F = bool_ext (all (λ a. all (λ b. F a b))) (all (λ b. all (λ a. F a b))) (turn F) (turn (λ b a. F a b))
    where
      turn : (F : ℕ → ℕ → Bool) → all (λ a. all (λ b. F a b)) ≡ true → all (λ b. all (λ a. F a b)) ≡ true
      turn F h = all_intro (λ b. all (λ a. F a b)) u (λ b k. all_intro (λ a. F a b) u (λ a l. all_elim (λ b. F a b) u b (all_elim (λ a. all (λ b. F a b)) u a h l) k))

  pub all_tuples : (n : ℕ) (f : Tuple → Bool) → all_of f (tuples u n) ≡ gathered all n f
  unfolding tuples gathered
  all_tuples zero f = unfold all_of in and-true (f [])
  all_tuples (suc n) f = all_gather f (tuples u n) (below u) ∙ ap all (fun_ext (λ a. all_tuples n (λ t. f (a ∷ t))))

  abbrev pub sum : (ℕ → ℕ) → ℕ
  sum f = total u f

  pub same_sum : (f g : ℕ → ℕ) → ((a : ℕ) → a < u → f a ≡ g a) → sum f ≡ sum g
  unfolding total
  same_sum f g h = go u (omega arith)
    where
      go : (n : ℕ) → n ≤ u → total n f ≡ total n g
      go zero l = refl
      go (suc n) l = ap₂ ◌+◌ (go n (omega arith)) (h n (omega arith))

  pub swap_sum : (F : ℕ → ℕ → ℕ) → sum (λ a. sum (λ b. F a b)) ≡ sum (λ b. sum (λ a. F a b))
  swap_sum F = total_swap u u F

  pub sum_tuples : (n : ℕ) (f : Tuple → Bool) → length (keep f (tuples u n)) ≡ gathered sum n (λ t. one_if (f t))
  unfolding tuples gathered
  sum_tuples zero f = unfold keep in go (f [])
    where
      go : (b : Bool) → length {A = Tuple} (cond b ([] ∷ []) []) ≡ one_if b
      go true = refl
      go false = refl
  sum_tuples (suc n) f =
      length_keep_gather f (tuples u n) u 0 ∙ ap sum (fun_ext (λ a. ap (λ (i : ℕ). length (keep (λ t. f (i ∷ t)) (tuples u n))) (zero-add a) ∙ sum_tuples n (λ t. f (a ∷ t))))
