-- A set with one number more: it stays ascending, and has that number and its old ones; and two sets with the same numbers are one list.
use Prim.Native.Nat.{ℕ, zero, suc, ◌+◌, ◌<◌, ◌≤◌}
use mathlib.Core.Path.{◌≡◌, refl, sym, ap₂, ◌∙◌}
use mathlib.Core.Bool.{Bool, true, false, cond}
use mathlib.Core.List.{List, [], ◌∷◌}
use mathlib.Core.Logic.{◌⊎◌, inl, inr, ⊎_elim}
use native.Mathlib.Nat.{le_of_suc-le-suc}
use native.Mathlib.Omega.{arith}
use lib.Dec.{eqb, ltb}
use lib.ListN.{length, get_or}
use borrow.Author.Tests.{eqb-true, eqb-false, ltb-true, ltb-false}
use Rattle.definition.proofs.InLaws.{In, here, there}
use Rattle.numbers.specs.Sets.{Ascending, none, rises, entered}

-- ---- membership

pub not_in : {x : ℕ} → In x [] → ⊥
not_in {x} h = go [] h refl
  where
    go : (l : List ℕ) → In x l → l ≡ [] → ⊥
    go [] x3 q = elim x3 [ ]
    go (w ∷ ws) (here e) q = let z : ◌≡◌ {A = ℕ} 0 1 = cc in omega arith
    go (w ∷ ws) (there i) q = let z : ◌≡◌ {A = ℕ} 0 1 = cc in omega arith

-- a number of a list is its first, or one of the others
pub first_or : {x w : ℕ} {ws : List ℕ} → In x (w ∷ ws) → (x ≡ w) ⊎ In x ws
first_or (here e) = inl e
first_or (there i) = inr i

pub in_entered : (v : ℕ) (ws : List ℕ) (x : ℕ) → (x ≡ v) ⊎ In x ws → In x (entered v ws)
unfolding entered
in_entered v [] x h = ⊎_elim (λ e. here e) (λ i. absurd (not_in i)) h
in_entered v (w ∷ ws) x h = go (eqb v w) refl (ltb v w) h (in_entered v ws x)
  where
    go : (a : Bool) → eqb v w ≡ a → (b : Bool) → (x ≡ v) ⊎ In x (w ∷ ws) → ((x ≡ v) ⊎ In x ws → In x (entered v ws))
        → In x (cond a (w ∷ ws) (cond b (v ∷ w ∷ ws) (w ∷ entered v ws)))
    go true e b k ih = ⊎_elim (λ q. here (q ∙ eqb-true v w e)) (λ i. i) k
    go false e true k ih = ⊎_elim (λ q. here q) (λ i. there i) k
    go false e false k ih = ⊎_elim (λ q. there (ih (inl q))) (λ i. ⊎_elim (λ q. here q) (λ j. there (ih (inr j))) (first_or i)) k

pub entered_in : (v : ℕ) (ws : List ℕ) (x : ℕ) → In x (entered v ws) → (x ≡ v) ⊎ In x ws
unfolding entered
entered_in v [] x h = ⊎_elim (λ e. inl e) (λ i. absurd (not_in i)) (first_or h)
entered_in v (w ∷ ws) x h = go (eqb v w) (ltb v w) h (entered_in v ws x)
  where
    go : (a b : Bool) → In x (cond a (w ∷ ws) (cond b (v ∷ w ∷ ws) (w ∷ entered v ws))) → (In x (entered v ws) → (x ≡ v) ⊎ In x ws) → (x ≡ v) ⊎ In x (w ∷ ws)
    go true b k ih = inr k
    go false true k ih = first_or k
    go false false k ih = ⊎_elim (λ q. inr (here q)) (λ j. ⊎_elim (λ q. inl q) (λ i. inr (there i)) (ih j)) (first_or k)

-- it has one number more at most
pub entered_length : (v : ℕ) (ws : List ℕ) → length (entered v ws) ≤ length ws + 1
unfolding entered
entered_length v [] = omega arith
entered_length v (w ∷ ws) = go (eqb v w) (ltb v w) (entered_length v ws)
  where
    go : (a b : Bool) → length (entered v ws) ≤ length ws + 1 → length (cond a (w ∷ ws) (cond b (v ∷ w ∷ ws) (w ∷ entered v ws))) ≤ suc (length ws) + 1
    go true b ih = omega arith
    go false true ih = omega arith
    go false false ih = omega arith

-- ---- order

pub first_below : {w : ℕ} {ws : List ℕ} → Ascending (w ∷ ws) → (x : ℕ) → In x ws → w < x
first_below (rises f a) = f

pub rest_ascends : {w : ℕ} {ws : List ℕ} → Ascending (w ∷ ws) → Ascending ws
rest_ascends (rises f a) = a

pub entered_ascends : (v : ℕ) (ws : List ℕ) → Ascending ws → Ascending (entered v ws)
unfolding entered
entered_ascends v [] a = rises (λ x i. absurd (not_in i)) none
entered_ascends v (w ∷ ws) a = go (eqb v w) refl (ltb v w) refl (entered_ascends v ws (rest_ascends a))
  where
    go : (p : Bool) → eqb v w ≡ p → (q : Bool) → ltb v w ≡ q → Ascending (entered v ws) → Ascending (cond p (w ∷ ws) (cond q (v ∷ w ∷ ws) (w ∷ entered v ws)))
    go true e q l ih = a
    go false e true l ih =
        let m : v < w = ltb-true v w l in
        rises {w = v} (λ x i. ⊎_elim (λ (k : x ≡ w). omega (arith, m, k)) (λ j. let n : w < x = first_below a x j in omega (arith, m, n)) (first_or i)) a
    go false e false l ih =
        let m : w ≤ v = ltb-false v w l in
        let n : v ≡ w → ⊥ = eqb-false v w e in
        rises {w = w} (λ x i. ⊎_elim (λ (k : x ≡ v). omega (arith, m, n, k)) (λ j. first_below a x j) (entered_in v ws x i)) ih

-- ---- two sets with the same numbers

-- the first number of either is in the other, so neither is below the other's first
firsts_same : {x y : ℕ} {xs ys : List ℕ} → Ascending (x ∷ xs) → Ascending (y ∷ ys) → In x (y ∷ ys) → In y (x ∷ xs) → x ≡ y
firsts_same {x} {y} a b i j =
    ⊎_elim (λ e. e) (λ k. ⊎_elim (λ e. sym e) (λ l. let p : y < x = first_below b x k in let q : x < y = first_below a y l in absurd (omega arith)) (first_or j)) (first_or i)

-- a number past the first of one is past the first of the other
past : {x y z : ℕ} {xs ys : List ℕ} → Ascending (x ∷ xs) → x ≡ y → In z xs → In z (y ∷ ys) → In z ys
past {x} {y} {z} a e i j = ⊎_elim (λ q. let l : x < z = first_below a z i in absurd (omega arith)) (λ k. k) (first_or j)

pub same_members : (xs ys : List ℕ) → Ascending xs → Ascending ys → ((x : ℕ) → In x xs → In x ys) → ((x : ℕ) → In x ys → In x xs) → xs ≡ ys
same_members [] [] a b f g = refl
same_members [] (y ∷ ys) a b f g = absurd (not_in (g y (here refl)))
same_members (x ∷ xs) [] a b f g = absurd (not_in (f x (here refl)))
same_members (x ∷ xs) (y ∷ ys) a b f g =
    let e : x ≡ y = firsts_same a b (f x (here refl)) (g y (here refl)) in
    ap₂ (λ (z : ℕ) (l : List ℕ). z ∷ l) e
    (same_members xs ys (rest_ascends a) (rest_ascends b) (λ z i. past a e i (f z (there i))) (λ z i. past b (sym e) i (g z (there i))))

-- ---- by place

pub in_at : (ws : List ℕ) (i : ℕ) → i < length ws → In (get_or ws i 0) ws
in_at [] i h = absurd (omega arith)
in_at (w ∷ ws) zero h = here refl
in_at (w ∷ ws) (suc i) h = there (in_at ws i (le_of_suc-le-suc h))

pub ascends_at : (ws : List ℕ) → Ascending ws → (i j : ℕ) → i < j → j < length ws → get_or ws i 0 < get_or ws j 0
ascends_at [] a i j l h = absurd (omega arith)
ascends_at (w ∷ ws) a i zero l h = absurd (omega arith)
ascends_at (w ∷ ws) a zero (suc j) l h = first_below a (get_or ws j 0) (in_at ws j (le_of_suc-le-suc h))
ascends_at (w ∷ ws) a (suc i) (suc j) l h = ascends_at ws (rest_ascends a) i j (le_of_suc-le-suc l) (le_of_suc-le-suc h)
