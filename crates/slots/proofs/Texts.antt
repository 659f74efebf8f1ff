-- Lists of names in which each stands once: one more name at the end, and the definition's join.
use mathlib.Core.Path.{◌≡◌, refl, sym, ap, ◌∙◌}
use mathlib.Core.Bool.{Bool, true, false, cond, not, ◌&&◌, ◌||◌}
use mathlib.Core.List.{List, [], ◌∷◌, ◌++◌, append-nil, append_assoc}
use Prim.Native.Nat.{ℕ}
use native.Mathlib.Omega.{arith}
use Rattle.definition.specs.Text.{Text, same, some_of, member, keep}
use Rattle.definition.specs.Names.{join}
use Rattle.definition.proofs.MeaningLaws.{same_eq}

abbrev pub add_text : List Text → Text → List Text
add_text xs x = cond (member x xs) xs (xs ++ (x ∷ []))

keep_same : (p q : Text → Bool) (xs : List Text) → ((x : Text) → p x ≡ q x) → keep p xs ≡ keep q xs
unfolding keep
keep_same p q [] h = refl
keep_same p q (x ∷ xs) h = rw (h x, keep_same p q xs h) refl

keep_keep : (p q : Text → Bool) (xs : List Text) → keep p (keep q xs) ≡ keep (λ x. q x && p x) xs
unfolding keep
keep_keep p q [] = refl
keep_keep p q (x ∷ xs) = go (q x) (p x) refl (keep_keep p q xs)
  where
    go : (b c : Bool) → p x ≡ c → keep p (keep q xs) ≡ keep (λ x. q x && p x) xs → keep p (cond b (x ∷ keep q xs) (keep q xs)) ≡ cond (b && c) (x ∷ keep (λ x. q x && p x) xs) (keep (λ x. q x && p x) xs)
    go true true e ih = rw (e, ih) refl
    go true false e ih = rw (e, ih) refl
    go false c e ih = ih

pub member_append : (y : Text) (xs zs : List Text) → member y (xs ++ zs) ≡ member y xs || member y zs
unfolding member some_of
member_append y [] zs = refl
member_append y (x ∷ xs) zs = go (same y x) (member_append y xs zs)
  where
    go : (b : Bool) → member y (xs ++ zs) ≡ member y xs || member y zs → b || member y (xs ++ zs) ≡ (b || member y xs) || member y zs
    go true ih = refl
    go false ih = ih

-- a name that is the same as a member is one
alike : (x y : Text) (xs : List Text) → member x xs ≡ true → member y (x ∷ []) ≡ true → member y xs ≡ true
unfolding member some_of
alike x y xs h e = go (same y x) refl e
  where
    go : (b : Bool) → same y x ≡ b → b || false ≡ true → member y xs ≡ true
    go true q k = rw (same_eq y x (rw q tt)) h
    go false q k = absurd (let z : ◌≡◌ {A = ℕ} 0 1 = cc in omega arith)

join_old : (x y : Text) (xs : List Text) → member x xs ≡ true → not (member y (x ∷ [])) && not (member y xs) ≡ not (member y xs)
join_old x y xs h = go (member y (x ∷ [])) (member y xs) refl refl
  where
    go : (b c : Bool) → member y (x ∷ []) ≡ b → member y xs ≡ c → not b && not c ≡ not c
    go true true e f = refl
    go false c e f = refl
    go true false e f = absurd (let g = alike x y xs h e in let z : ◌≡◌ {A = ℕ} 0 1 = cc in omega arith)

join_new : (x y : Text) (xs : List Text) → not (member y (x ∷ [])) && not (member y xs) ≡ not (member y (xs ++ (x ∷ [])))
join_new x y xs = rw (member_append y xs (x ∷ [])) (go (member y (x ∷ [])) (member y xs))
  where
    go : (b c : Bool) → not b && not c ≡ not (c || b)
    go true true = refl
    go true false = refl
    go false true = refl
    go false false = refl

-- a name before others, after names
pub join_add : (xs : List Text) (x : Text) (rs : List Text) → join xs (join (x ∷ []) rs) ≡ join (add_text xs x) rs
unfolding join keep
join_add xs x rs = go (member x xs) refl
  where
    go : (b : Bool) → member x xs ≡ b →
        xs ++ cond (not (member x xs)) (x ∷ keep (λ y. not (member y xs)) (keep (λ y. not (member y (x ∷ []))) rs)) (keep (λ y. not (member y xs)) (keep (λ y. not (member y (x ∷ []))) rs))
        ≡ cond b xs (xs ++ (x ∷ [])) ++ keep (λ y. not (member y (cond b xs (xs ++ (x ∷ []))))) rs
    go true e =
        rw e (ap (λ (l : List Text). xs ++ l)
        (keep_keep (λ y. not (member y xs)) (λ y. not (member y (x ∷ []))) rs ∙ keep_same (λ y. not (member y (x ∷ [])) && not (member y xs)) (λ y. not (member y xs)) rs (λ y. join_old x y xs e)))
    go false e =
        rw e (ap (λ (l : List Text). xs ++ (x ∷ l))
        (keep_keep (λ y. not (member y xs)) (λ y. not (member y (x ∷ []))) rs
        ∙ keep_same (λ y. not (member y (x ∷ [])) && not (member y xs)) (λ y. not (member y (xs ++ (x ∷ [])))) rs (λ y. join_new x y xs))
        ∙ sym (append_assoc xs (x ∷ []) _))

pub join_nil : (xs : List Text) → join xs [] ≡ xs
unfolding join keep
join_nil xs = append-nil xs

keep_all : (xs : List Text) → keep (λ y. not (member y [])) xs ≡ xs
unfolding keep member some_of
keep_all [] = refl
keep_all (x ∷ xs) = ap (λ (l : List Text). x ∷ l) (keep_all xs)

pub nil_join : (xs : List Text) → join [] xs ≡ xs
unfolding join
nil_join xs = keep_all xs
