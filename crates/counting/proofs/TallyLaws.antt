-- The numbers of each relation among some numbers; and the number of tuples of a table by the numbers of its tuples.
use Prim.Native.Nat.{ℕ, zero, suc, ◌+◌, ◌^◌, ◌≤◌, ◌<◌}
use mathlib.Core.Path.{◌≡◌, refl, sym, ap, ◌∙◌}
use mathlib.Core.Bool.{Bool, true, false, cond}
use mathlib.Core.List.{List, [], ◌∷◌}
use native.Mathlib.Nat.{add-zero}
use native.Mathlib.Numerals.{add-one}
use native.Mathlib.Omega.{arith}
use lib.Dec.{eqb}
use lib.ListN.{length, get_or, set, drop, replicate, length-set, length-map, drop_of_length-le}
use lib.Seq.{drop-cons, get_or-set_same, get_or-set_other}
use borrow.Author.Tests.{eqb-true, eqb-false}
use Rattle.definition.specs.Text.{keep, below}
use Rattle.definition.specs.Tables.{Tuple, table, tuple_count}
use Rattle.definition.proofs.TupleLaws.{keep_map}
use Rattle.definition.proofs.CountLaws.{count_table}
use Rattle.tuples.specs.Places.{digits}
use Rattle.tuples.proofs.Lists.{tuples_digits}
use Rattle.counting.specs.Tallies.{relation_of, tallied}

pub zeros : (n k : ℕ) → ◌≡◌ {A = ℕ} (get_or (replicate n 0) k 0) 0
zeros zero k = refl
zeros (suc n) zero = refl
zeros (suc n) (suc k) = zeros n k

-- the numbers before i are counted, and no count is over i
pub record Tallying (xs cs₀ cs : List ℕ) (i : ℕ) : Type 0 where
  pub is : tallied (drop i xs) cs ≡ tallied xs cs₀
  pub small : (k : ℕ) → get_or cs k 0 ≤ i

pub tallying_start : (xs : List ℕ) → Tallying xs (replicate 16 0) (replicate 16 0) 0
tallying_start xs = record { is = refl; small = λ k. omega (arith, zeros 16 k) }

raised : (cs : List ℕ) (j v i : ℕ) → v ≤ suc i → ((k : ℕ) → get_or cs k 0 ≤ i) → (k : ℕ) → get_or (set cs j v) k 0 ≤ suc i
raised [] j v i l f k = let e = f k in omega (arith, e)
raised (c ∷ cs) zero v i l f zero = l
raised (c ∷ cs) zero v i l f (suc k) = let e = f (suc k) in omega (arith, e)
raised (c ∷ cs) (suc j) v i l f zero = let e = f zero in omega (arith, e)
raised (c ∷ cs) (suc j) v i l f (suc k) = raised cs j v i l (λ m. f (suc m)) k

pub tallying_next : (xs cs₀ cs : List ℕ) (i : ℕ) → Tallying xs cs₀ cs i → i < length xs
    → Tallying xs cs₀ (set cs (relation_of (get_or xs i 0)) (get_or cs (relation_of (get_or xs i 0)) 0 + 1)) (i + 1)
unfolding tallied
tallying_next xs cs₀ cs i h l =
    record {
      is = ap (λ (j : ℕ). tallied (drop j xs) (set cs (relation_of (get_or xs i 0)) (get_or cs (relation_of (get_or xs i 0)) 0 + 1))) (add-one i) ∙ sym (ap (λ (ys : List ℕ). tallied ys cs) (drop-cons xs i 0 l)) ∙ h.is;
      small = λ k. let e = raised cs (relation_of (get_or xs i 0)) (get_or cs (relation_of (get_or xs i 0)) 0 + 1) i (omega (arith, h.small (relation_of (get_or xs i 0)))) h.small k in omega (arith, e);
    }

pub tallying_end : (xs cs₀ cs : List ℕ) (i : ℕ) → Tallying xs cs₀ cs i → length xs ≤ i → cs ≡ tallied xs cs₀
unfolding tallied
tallying_end xs cs₀ cs i h l = sym (ap (λ (ys : List ℕ). tallied ys cs) (drop_of_length-le xs l)) ∙ h.is

-- ---- what is counted

pub length_tallied : (xs cs : List ℕ) → length (tallied xs cs) ≡ length cs
unfolding tallied
length_tallied [] cs = refl
length_tallied (x ∷ xs) cs = length_tallied xs (set cs (relation_of x) (get_or cs (relation_of x) 0 + 1)) ∙ length-set cs (relation_of x) (get_or cs (relation_of x) 0 + 1)

-- each count grows by the numbers of its relation
pub tallied_at : (xs cs : List ℕ) (k : ℕ) → length cs ≡ 16 → get_or (tallied xs cs) k 0 ≡ get_or cs k 0 + length (keep (λ x. eqb (relation_of x) k) xs)
unfolding tallied keep
tallied_at [] cs k h = sym (add-zero (get_or cs k 0))
tallied_at (x ∷ xs) cs k h =
    tallied_at xs (set cs j (get_or cs j 0 + 1)) k (length-set cs j (get_or cs j 0 + 1) ∙ h)
    ∙ go (eqb j k) refl
  where
    j : ℕ
    j = relation_of x

    rest : List ℕ
    rest = keep (λ y. eqb (relation_of y) k) xs

    go : (b : Bool) → eqb j k ≡ b → get_or (set cs j (get_or cs j 0 + 1)) k 0 + length rest ≡ get_or cs k 0 + length (cond b (x ∷ rest) rest)
    go true e =
        let q : j ≡ k = eqb-true j k e in
        let l : j < length cs = omega (arith, h) in
        let s : get_or (set cs j (get_or cs j 0 + 1)) k 0 ≡ get_or cs k 0 + 1 =
        ap (λ (m : ℕ). get_or (set cs j (get_or cs j 0 + 1)) m 0) (sym q) ∙ get_or-set_same cs j (get_or cs j 0 + 1) 0 l ∙ ap (λ (m : ℕ). get_or cs m 0 + 1) q in
        omega (arith, s)
    go false e = ap (λ (m : ℕ). m + length rest) (get_or-set_other cs j k (get_or cs j 0 + 1) 0 (λ q. eqb-false j k e (sym q)))

-- the tuples of a table, by their numbers
pub count_numbers : (u n : ℕ) (f : Tuple → Bool) → tuple_count u n (table u n f) ≡ length (keep (λ i. f (digits u n i)) (below (u ^ n)))
count_numbers u n f =
    count_table u n f ∙ ap (λ (l : List Tuple). length (keep f l)) (tuples_digits u n) ∙ ap length (keep_map f (digits u n) (below (u ^ n)))
    ∙ length-map (keep (λ i. f (digits u n i)) (below (u ^ n))) (digits u n)
