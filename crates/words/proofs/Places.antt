-- Where the words of a tree stand.
use Prim.Native.Nat.{ℕ, suc, ◌+◌, ◌≤◌, ◌<◌}
use mathlib.Core.Path.{◌≡◌, refl, sym, ap, ◌∙◌}
use mathlib.Core.List.{List, [], ◌∷◌, ◌++◌, append_assoc}
use native.Mathlib.Omega.{arith}
use native.Mathlib.Numerals.{add-one}
use lib.ListN.{length, get_or, take, drop, length-append, length-drop}
use lib.Seq.{drop-cons}
use Rattle.definition.specs.Syntax.{Expression}
use Rattle.words.specs.Raw.{size, flat}
use Rattle.words.proofs.Sizes.{length_flat}
use Rattle.words.specs.Standing.{Has}

pub has_append : (words : List ℕ) (n : ℕ) (xs ys : List ℕ) → Has words n (xs ++ ys) → Has words n xs × Has words (n + length xs) ys
unfolding Has
has_append words n [] ys h = let e : n + 0 ≡ n = omega arith in (tt, rw e h)
has_append words n (x ∷ xs) ys h =
    let r = has_append words (n + 1) xs ys h.1 in
    let e : n + suc (length xs) ≡ n + 1 + length xs = omega arith in
    ((h.0, r.0), rw e r.1)

-- words up to one of them, and those after it
pub has_cut : (words : List ℕ) (n m : ℕ) (xs : List ℕ) (w : ℕ) (ys : List ℕ) → n + length xs + 1 ≡ m → Has words n (xs ++ (w ∷ ys)) → Has words n (xs ++ (w ∷ [])) × Has words m ys
has_cut words n m xs w ys e h =
    let g : Has words n ((xs ++ (w ∷ [])) ++ ys) = rw append_assoc h in
    let a = has_append words n (xs ++ (w ∷ [])) ys g in
    let j : n + length (xs ++ (w ∷ [])) ≡ m = omega (arith, e, length-append xs (w ∷ [])) in
    (a.0, rw j at a.1)

-- the places of two operands and of the word over them
pub record Two (words : List ℕ) (n w : ℕ) (a b : Expression) : Type 0 where
  pub left : Has words n (flat a n)
  pub right : Has words (n + size a) (flat b (n + size a))
  pub root : get_or words (n + size a + size b) 0 ≡ w

pub has_two : (words : List ℕ) (n w : ℕ) (a b : Expression) → Has words n (flat a n ++ (flat b (n + size a) ++ (w ∷ []))) → Two words n w a b
unfolding Has
has_two words n w a b h =
    let p = has_append words n (flat a n) _ h in
    let q = has_append words (n + size a) (flat b (n + size a)) _ (rw (length_flat a n) at p.1) in
    record { left = p.0; right = q.0; root = rw (length_flat b (n + size a)) at q.1.0 }

pub record One (words : List ℕ) (n w : ℕ) (e : Expression) : Type 0 where
  pub inner : Has words n (flat e n)
  pub root : get_or words (n + size e) 0 ≡ w

pub has_one : (words : List ℕ) (n w : ℕ) (e : Expression) → Has words n (flat e n ++ (w ∷ [])) → One words n w e
unfolding Has
has_one words n w e h = let p = has_append words n (flat e n) _ h in record { inner = p.0; root = rw (length_flat e n) at p.1.0 }

-- words that stand in an array are a part of it
pub has_part : (words : List ℕ) (n : ℕ) (xs : List ℕ) → n + length xs ≤ length words → Has words n xs → take (length xs) (drop n words) ≡ xs
unfolding Has
has_part words n [] h w = refl
has_part words n (x ∷ xs) h w =
    let l : n < length words = omega arith in
    rw (drop-cons words n 0 l, w.0) (ap (λ (ys : List ℕ). x ∷ ys) (rw (← add-one n) (has_part words (n + 1) xs (omega arith) w.1)))

-- the words of an array from n on
has_drop : (words : List ℕ) (n : ℕ) (ws : List ℕ) → drop n words ≡ ws → Has words n ws
unfolding Has
has_drop words n [] e = tt
has_drop words n (w ∷ ws) e =
    let l : n < length words = omega (arith, ap length e, length-drop n words) in
    let q : ◌≡◌ {A = List ℕ} (get_or words n 0 ∷ drop (suc n) words) (w ∷ ws) = sym (drop-cons words n 0 l) ∙ e in
    let a : get_or words n 0 ≡ w = cc in
    let b : drop (suc n) words ≡ ws = cc in
    (a, has_drop words (n + 1) ws (rw (add-one n) b))

-- an array's words stand in it
pub has_all : (words : List ℕ) → Has words 0 words
has_all words = has_drop words 0 words refl
