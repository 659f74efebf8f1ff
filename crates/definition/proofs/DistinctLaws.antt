-- Lists of texts in which none stands twice: they are no longer than any list that holds their texts.
use Rattle.std.specs.Prelude.{if◌then◌else◌}
use mathlib.Core.Path.{◌≡◌, refl, sym, ap, subst, ◌∙◌}
use mathlib.Core.Logic.{◌⊎◌, inl, inr}
use mathlib.Core.Bool.{Bool, true, false, ◌||◌, cond}
use mathlib.Core.List.{List, [], ◌∷◌, ◌++◌}
use Prim.Native.Nat.{suc, ◌≤◌}
use native.Mathlib.Omega.{arith}
use lib.Dec.{T, not_T}
use lib.ListN.{length}
use Rattle.definition.specs.Text.{Text, same, earlier, member, some_of}
use Rattle.definition.specs.Facts.{Ascending}
use Rattle.definition.proofs.BoolLaws.{or_cases, or_left, or_right, is_true, is_false, or_eq_false, apart}
use Rattle.definition.proofs.ListLaws.{some_append, Every, every_none, every_one}
use Rattle.definition.proofs.MeaningLaws.{same_eq, same_sym, same_refl, member_first, member_later}
use Rattle.definition.proofs.UniverseLaws.{earlier_trans, earlier_not_same}

pub data Distinct : List Text → Type 0 where
  distinct_none : Distinct []
  distinct_one : {x : Text} {xs : List Text} → member x xs ≡ false → Distinct xs → Distinct (x ∷ xs)

pub distinct_head : {x : Text} {xs : List Text} → Distinct (x ∷ xs) → member x xs ≡ false
distinct_head (distinct_one m d) = m

pub distinct_tail : {x : Text} {xs : List Text} → Distinct (x ∷ xs) → Distinct xs
distinct_tail (distinct_one m d) = d

-- a text that is none of a list
pub absent : (x : Text) (ys : List Text) → member x ys ≡ false → Every (λ y. same x y ≡ false) ys
unfolding member some_of
absent x [] e = every_none
absent x (y ∷ ys) e = let h = or_eq_false (same x y) (member x ys) e in every_one h.0 (absent x ys h.1)

-- one more
pub distinct_more : {xs : List Text} (y : Text) → Distinct xs → member y xs ≡ false → Distinct (xs ++ (y ∷ []))
unfolding member some_of
distinct_more y distinct_none e = distinct_one refl distinct_none
distinct_more y (distinct_one {x} {xs} m d) e =
    let h = or_eq_false (same y x) (member y xs) e in
    distinct_one (some_append (same x) xs (y ∷ []) ∙ rw (m, same_sym x y, h.0)) (distinct_more y d h.1)

-- the texts of a list are among those of another
abbrev pub Within : List Text → List Text → Type 0
Within us vs = (x : Text) → T (member x us) → T (member x vs)

-- a list without the first that equals x
unfoldable remove : Text → List Text → List Text
remove x [] = []
remove x (y ∷ ys) = let r = remove x ys in if same x y then ys else (y ∷ r)

length_remove : (x : Text) (ys : List Text) → T (member x ys) → suc (length (remove x ys)) ≡ length ys
unfolding remove member some_of
length_remove x [] m = absurd m
length_remove x (y ∷ ys) m = go (same x y) m (length_remove x ys)
  where
    go : (b : Bool) → T (b || member x ys) → (T (member x ys) → suc (length (remove x ys)) ≡ length ys) → suc (length (cond b ys (y ∷ remove x ys))) ≡ suc (length ys)
    go true m ih = refl
    go false m ih = ap suc (ih m)

member_remove : (x z : Text) (ys : List Text) → same x z ≡ false → T (member z ys) → T (member z (remove x ys))
unfolding remove member some_of
member_remove x z [] n m = m
member_remove x z (y ∷ ys) n m = go (same x y) refl (or_cases (same z y) (member z ys) m) (member_remove x z ys n)
  where
    go : (b : Bool) → same x y ≡ b → T (same z y) ⊎ T (member z ys) → (T (member z ys) → T (member z (remove x ys))) → T (member z (cond b ys (y ∷ remove x ys)))
    go true e (inl s) ih = absurd (apart (sym e ∙ subst (λ (t : Text). same x t ≡ false) (same_eq z y s) n))
    go true e (inr m) ih = m
    go false e (inl s) ih = or_left (same z y) (member z (remove x ys)) s
    go false e (inr m) ih = or_right (same z y) (member z (remove x ys)) (ih m)

pub fewer : {xs : List Text} (ys : List Text) → Distinct xs → Within xs ys → length xs ≤ length ys
fewer ys distinct_none h = omega arith
fewer ys (distinct_one {x} {xs} m d) h =
    let k = fewer (remove x ys) d (λ z n. member_remove x z ys (other z n) (h z (member_later x z xs n))) in
    omega (arith, k, length_remove x ys (h x (member_first x xs)))
  where
    other : (z : Text) → T (member z xs) → same x z ≡ false
    other z n = is_false (same x z) (not_T (same x z) (λ s. apart (sym (is_member s) ∙ m)))
      where
        is_member : T (same x z) → member x xs ≡ true
        is_member s = subst (λ (y : Text). member y xs ≡ true) (sym (same_eq x z s)) (is_true (member z xs) n)

-- texts in byte order are distinct
pub behind : (u : Text) (us : List Text) → Ascending (u ∷ us) → (x : Text) → T (member x us) → T (earlier u x)
unfolding member some_of
behind u [] a x m = absurd m
behind u (v ∷ us) a x m = go (or_cases (same x v) (member x us) m) (λ n. behind v us a.1 x n)
  where
    go : T (same x v) ⊎ T (member x us) → (T (member x us) → T (earlier v x)) → T (earlier u x)
    go (inl s) ih = subst (λ (y : Text). T (earlier u y)) (sym (same_eq x v s)) a.0
    go (inr n) ih = earlier_trans u v x a.0 (ih n)

pub ascending_distinct : (us : List Text) → Ascending us → Distinct us
ascending_distinct [] a = distinct_none
ascending_distinct (u ∷ us) a =
    distinct_one (is_false (member u us) (not_T (member u us) (λ m. earlier_not_same u u (behind u us a u m) (same_refl u)))) (ascending_distinct us a.1)
