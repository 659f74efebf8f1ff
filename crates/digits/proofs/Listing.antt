-- Lists of different numbers: what is kept when one is added or removed, and how many there can be.
use Prim.Native.Nat.{ℕ, zero, suc, ◌<◌, ◌≤◌}
use mathlib.Core.Path.{◌≡◌, refl, sym, ap}
use mathlib.Core.Bool.{Bool, true, false, cond}
use mathlib.Core.List.{List, [], ◌∷◌, ◌++◌}
use native.Mathlib.Omega.{arith}
use borrow.Author.Tests.{ne_eqb, eqb-true, eqb-false}
use lib.Dec.{eqb}
use lib.ListN.{length}
use Rattle.digits.specs.Lists.{member, add, adds, remove}

unfoldable pub Once : List ℕ → Type 0
Once [] = Unit {0}
Once (x ∷ xs) = (member x xs ≡ false) × Once xs

unfoldable pub Within : ℕ → List ℕ → Type 0
Within n [] = Unit {0}
Within n (x ∷ xs) = (0 < x) × (x ≤ n) × Within n xs

-- all different, and from 1 to n
pub record Listed (n : ℕ) (xs : List ℕ) : Type 0 where
  pub once : Once xs
  pub within : Within n xs

false_true : {A : Type 0} (b : Bool) → b ≡ false → b ≡ true → A
false_true b e f = let z : ◌≡◌ {A = ℕ} 0 1 = cc in absurd (omega arith)

member_remove : (x n : ℕ) (xs : List ℕ) → member x xs ≡ false → member x (remove n xs) ≡ false
unfolding member remove
member_remove x n [] h = refl
member_remove x n (y ∷ xs) h = go (eqb y n) (eqb y x) refl h (member_remove x n xs)
  where
    go : (b t : Bool) → eqb y x ≡ t → cond t true (member x xs) ≡ false → (member x xs ≡ false → member x (remove n xs) ≡ false) → member x (cond b (remove n xs) (y ∷ remove n xs)) ≡ false
    go b true e k more = false_true true k refl
    go true false e k more = more k
    go false false e k more = rw e (more k)

once_remove : (n : ℕ) (xs : List ℕ) → Once xs → Once (remove n xs)
unfolding Once remove
once_remove n [] h = tt
once_remove n (y ∷ xs) h = go (eqb y n) (once_remove n xs h.1)
  where
    go : (b : Bool) → Once (remove n xs) → Once (cond b (remove n xs) (y ∷ remove n xs))
    go true o = o
    go false o = (member_remove y n xs h.0, o)

within_remove : (n : ℕ) (xs : List ℕ) → Within (suc n) xs → Within n (remove (suc n) xs)
unfolding Within remove
within_remove n [] h = tt
within_remove n (y ∷ xs) h = go (eqb y (suc n)) refl (within_remove n xs h.2)
  where
    less : (y : ℕ) → y ≤ suc n → (y ≡ suc n → ⊥) → y ≤ n
    less y a b = omega arith

    go : (b : Bool) → eqb y (suc n) ≡ b → Within n (remove (suc n) xs) → Within n (cond b (remove (suc n) xs) (y ∷ remove (suc n) xs))
    go true e w = w
    go false e w = (h.0, less y h.1 (eqb-false y (suc n) e), w)

-- a list that does not hold n stays
absent_remove : (n : ℕ) (xs : List ℕ) → member n xs ≡ false → remove n xs ≡ xs
unfolding member remove
absent_remove n [] h = refl
absent_remove n (y ∷ xs) h = go (eqb y n) h (absent_remove n xs)
  where
    go : (b : Bool) → cond b true (member n xs) ≡ false → (member n xs ≡ false → remove n xs ≡ xs) → cond b (remove n xs) (y ∷ remove n xs) ≡ y ∷ xs
    go true k more = false_true true k refl
    go false k more = ap (λ (l : List ℕ). y ∷ l) (more k)

length_remove : (n : ℕ) (xs : List ℕ) → Once xs → length xs ≤ suc (length (remove n xs))
unfolding Once remove
length_remove n [] h = omega arith
length_remove n (y ∷ xs) h = go (eqb y n) refl (length_remove n xs h.1)
  where
    go : (b : Bool) → eqb y n ≡ b → length xs ≤ suc (length (remove n xs)) → suc (length xs) ≤ suc (length (cond b (remove n xs) (y ∷ remove n xs)))
    go true e k =
        let z : y ≡ n = eqb-true y n e in
        let m : member n xs ≡ false = rw z at h.0 in
        let q : remove n xs ≡ xs = absent_remove n xs m in omega (arith, ap length q)
    go false e k = omega arith

-- the pigeonhole
pub few : (n : ℕ) (xs : List ℕ) → Once xs → Within n xs → length xs ≤ n
unfolding Within
few zero [] o w = omega arith
few zero (x ∷ xs) o w = absurd (omega (arith, w.0, w.1))
few (suc n) xs o w =
    omega (arith, few n (remove (suc n) xs) (once_remove (suc n) xs o) (within_remove n xs w), length_remove (suc n) xs o)

-- one digit more at the end
member_snoc : (z y : ℕ) (xs : List ℕ) → member z xs ≡ false → (y ≡ z → ⊥) → member z (xs ++ (y ∷ [])) ≡ false
unfolding member
member_snoc z y [] h n = rw (ne_eqb y z n) refl
member_snoc z y (x ∷ xs) h n = go (eqb x z) h (λ k. member_snoc z y xs k n)
  where
    go : (b : Bool) → cond b true (member z xs) ≡ false → (member z xs ≡ false → member z (xs ++ (y ∷ [])) ≡ false) → cond b true (member z (xs ++ (y ∷ []))) ≡ false
    go true k more = false_true true k refl
    go false k more = more k

head_differs : (x y : ℕ) (xs : List ℕ) → member y (x ∷ xs) ≡ false → (x ≡ y → ⊥) × (member y xs ≡ false)
unfolding member
head_differs x y xs h = go (eqb x y) refl h
  where
    go : (b : Bool) → eqb x y ≡ b → cond b true (member y xs) ≡ false → (x ≡ y → ⊥) × (member y xs ≡ false)
    go true e k = false_true true k refl
    go false e k = (eqb-false x y e, k)

pub once_snoc : (y : ℕ) (xs : List ℕ) → Once xs → member y xs ≡ false → Once (xs ++ (y ∷ []))
unfolding Once member
once_snoc y [] o h = (refl, tt)
once_snoc y (x ∷ xs) o h =
    let d = head_differs x y xs h in
    (member_snoc x y xs o.0 (λ e. d.0 (sym e)), once_snoc y xs o.1 d.1)

pub within_snoc : (n y : ℕ) (xs : List ℕ) → Within n xs → 0 < y → y ≤ n → Within n (xs ++ (y ∷ []))
unfolding Within
within_snoc n y [] w h l = (h, l, tt)
within_snoc n y (x ∷ xs) w h l = (w.0, w.1, within_snoc n y xs w.2 h l)

pos : (y : ℕ) → (y ≡ 0 → ⊥) → 0 < y
pos y h = omega arith

pub listed_add : (n : ℕ) (xs : List ℕ) (y : ℕ) → Listed n xs → y ≤ n → Listed n (add xs y)
unfolding add
listed_add n xs y l h = go (eqb y 0) (member y xs) refl refl
  where
    go : (b m : Bool) → eqb y 0 ≡ b → member y xs ≡ m → Listed n (cond b xs (cond m xs (xs ++ (y ∷ []))))
    go true m e f = l
    go false true e f = l
    go false false e f = record { once = once_snoc y xs l.once f; within = within_snoc n y xs l.within (pos y (eqb-false y 0 e)) h }

pub listed_adds : (n : ℕ) (xs ys : List ℕ) → Listed n xs → Listed n ys → Listed n (adds xs ys)
unfolding adds Once Within
listed_adds n xs [] l m = l
listed_adds n xs (y ∷ ys) l m = listed_adds n (add xs y) ys (listed_add n xs y l m.within.1) (record { once = m.once.1; within = m.within.2 })

within_keep : (n x : ℕ) (xs : List ℕ) → Within n xs → Within n (remove x xs)
unfolding Within remove
within_keep n x [] w = tt
within_keep n x (y ∷ xs) w = go (eqb y x) (within_keep n x xs w.2)
  where
    go : (b : Bool) → Within n (remove x xs) → Within n (cond b (remove x xs) (y ∷ remove x xs))
    go true k = k
    go false k = (w.0, w.1, k)

pub listed_remove : (n x : ℕ) (xs : List ℕ) → Listed n xs → Listed n (remove x xs)
listed_remove n x xs l = record { once = once_remove x xs l.once; within = within_keep n x xs l.within }
