-- An assignment that stands for an environment goes on to do so where names are bound.
use Prim.Native.Nat.{ℕ, ◌-◌, ◌<◌}
use mathlib.Core.Path.{◌≡◌, refl, sym, ap, ◌∙◌}
use mathlib.Core.Logic.{◌⊎◌, inl, inr}
use mathlib.Core.Bool.{Bool, true, false, not, cond}
use mathlib.Core.List.{List, [], ◌∷◌, map}
use native.Mathlib.Omega.{arith}
use borrow.Author.Tests.{ltb-true}
use lib.Dec.{T, eqb, ltb}
use lib.ListN.{length, set, length-set}
use lib.Seq.{get_or-set_same, get_or-set_other}
use Rattle.definition.specs.Text.{Text, same, member, some_of}
use Rattle.definition.specs.Tables.{Tuple}
use Rattle.definition.specs.Accept.{Accepted, elements}
use Rattle.definition.specs.Meaning.{Environment, bind, bind_all}
use Rattle.definition.proofs.BoolLaws.{or_cases, decide, is_true, is_false, not_both}
use Rattle.definition.proofs.TableLaws.{Below}
use Rattle.definition.proofs.MeaningLaws.{same_eq, same_refl, member_first, member_later}
use Rattle.eval.specs.Nodes.{Operand, element, slot, variable, any, absent, operand}
use Rattle.eval.specs.Meaning.{choices}
use Rattle.meaning.specs.Lowered.{Naming}
use Rattle.meaning.specs.Ready.{Loops, Fits}
use Rattle.meaning.proofs.Slots.{set_all}

-- a slot's number
pub slot_low : (b i : ℕ) → operand b ≡ slot i → i < 8
slot_low b i e = go (ltb b 64) (ltb b 72) (ltb b 104) (eqb b 254) refl e
  where
    go : (p q r s : Bool) → ltb b 72 ≡ q → cond p (element b) (cond q (slot (b - 64)) (cond r (variable (b - 72)) (cond s any absent))) ≡ slot i → i < 8
    go true q r s l e = let z : ◌≡◌ {A = ℕ} 0 1 = cc in absurd (omega arith)
    go false true r s l e = let z : b - 64 ≡ i = cc in omega (arith, ltb-true b 72 l)
    go false false true s l e = let z : ◌≡◌ {A = ℕ} 0 1 = cc in absurd (omega arith)
    go false false false true l e = let z : ◌≡◌ {A = ℕ} 0 1 = cc in absurd (omega arith)
    go false false false false l e = let z : ◌≡◌ {A = ℕ} 0 1 = cc in absurd (omega arith)

-- what an operand stands for changes with its own slot alone
off : (u : ℕ) (vs σ : List ℕ) (i a : ℕ) (p : Operand) → (p ≡ slot i → ⊥) → choices u vs (set σ i a) p ≡ choices u vs σ p
unfolding choices
off u vs σ i a (element b) n = refl
off u vs σ i a (slot j) n = ap (λ (x : ℕ). x ∷ []) (get_or-set_other σ i j a 0 (λ e. n (ap slot e)))
off u vs σ i a (variable d) n = refl
off u vs σ i a any n = refl
off u vs σ i a absent n = refl

on : (u : ℕ) (vs σ : List ℕ) (i a : ℕ) (p : Operand) → p ≡ slot i → i < length σ → choices u vs (set σ i a) p ≡ a ∷ []
unfolding choices
on u vs σ i a p e h = rw e (ap (λ (x : ℕ). x ∷ []) (get_or-set_same σ i a 0 h))

bound_here : (x y : Text) (a : ℕ) (env : Environment) → T (same x y) → bind x a env y ≡ a
unfolding bind
bound_here x y a env s = rw (is_true (same x y) s) refl

bound_else : (x y : Text) (a : ℕ) (env : Environment) → T (not (same x y)) → bind x a env y ≡ env y
unfolding bind
bound_else x y a env n = rw (is_false (same x y) n) refl

-- members of a list with one name more
pub rest_in : (x y : Text) (xs : List Text) → T (member y (x ∷ xs)) → T (not (same x y)) → T (member y xs)
unfolding member some_of
rest_in x y xs m n = go (or_cases (same y x) (member y xs) m)
  where
    go : T (same y x) ⊎ T (member y xs) → T (member y xs)
    go (inl s) = absurd (not_both (same x y) (rw (same_eq y x s) (same_refl x)) n)
    go (inr m) = m

module _ (w : Accepted) (β : Text → ℕ) (loops : List Text) (vs : List ℕ) (naming : Naming β loops) where
  abbrev u : ℕ
  u = elements w

  pub weaken : {xs ys : List Text} {env : Environment} {σ : List ℕ} → ((y : Text) → T (member y ys) → T (member y xs)) → Fits w β loops vs xs env σ → Fits w β loops vs ys env σ
  weaken h f = record { long = f.long; value = λ y m. f.value y (h y m); within = λ y m. f.within y (h y m); variables = f.variables }

  loops_bind : {env : Environment} (x : Text) (i a : ℕ) → operand (β x) ≡ slot i → Loops w β loops vs env → Loops w β loops vs (bind x a env)
  loops_bind {env} x i a e l =
      record { value = λ v m. l.value v m ∙ sym (kept v m (decide (same x v))); within = λ v m. rw (kept v m (decide (same x v))) (l.within v m) }
    where
      kept : (v : Text) → T (member v loops) → T (same x v) ⊎ T (not (same x v)) → bind x a env v ≡ env v
      kept v m (inl s) =
          let q : x ≡ v = same_eq x v s in
          let d : operand (β v) ≡ variable (β v - 72) = naming.depths v m in
          let o : operand (β v) ≡ slot i = ap (λ (y : Text). operand (β y)) (sym q) ∙ e in
          let z : ◌≡◌ {A = ℕ} 0 1 = cc in
          absurd (omega arith)
      kept v m (inr n) = bound_else x v a env n

  -- one name bound, its slot set
  pub fits_bind : {xs ys : List Text} {env : Environment} {σ : List ℕ} (x : Text) (i a : ℕ) → operand (β x) ≡ slot i → a < u
      → ((y : Text) → T (member y ys) → T (not (same x y)) → T (member y xs)) → Fits w β loops vs xs env σ → Fits w β loops vs ys (bind x a env) (set σ i a)
  fits_bind {xs} {ys} {env} {σ} x i a e ha h f =
      record {
        long = length-set σ i a ∙ f.long;
        value = λ y m. here y m (decide (same x y));
        within = λ y m. low y m (decide (same x y));
        variables = loops_bind x i a e f.variables;
      }
    where
      here : (y : Text) → T (member y ys) → T (same x y) ⊎ T (not (same x y)) → choices u vs (set σ i a) (operand (β y)) ≡ bind x a env y ∷ []
      here y m (inl s) =
          on u vs σ i a (operand (β y)) (ap (λ (z : Text). operand (β z)) (sym (same_eq x y s)) ∙ e) (omega (arith, slot_low (β x) i e, f.long))
          ∙ ap (λ (b : ℕ). b ∷ []) (sym (bound_here x y a env s))
      here y m (inr n) =
          off u vs σ i a (operand (β y)) (λ o. not_both (same x y) (rw (naming.apart x y i e o) (same_refl y)) n)
          ∙ f.value y (h y m n) ∙ ap (λ (b : ℕ). b ∷ []) (sym (bound_else x y a env n))

      low : (y : Text) → T (member y ys) → T (same x y) ⊎ T (not (same x y)) → bind x a env y < u
      low y m (inl s) = rw (bound_here x y a env s) ha
      low y m (inr n) = rw (bound_else x y a env n) (f.within y (h y m n))

  -- the slots of names
  abbrev pub slots : List Text → List ℕ
  slots xs = map (λ x. β x - 64) xs

  pub fits_all : (xs : List Text) (t : Tuple) {env : Environment} {σ : List ℕ} → ((x : Text) → T (member x xs) → operand (β x) ≡ slot (β x - 64)) → Below u t → length t ≡ length xs
      → Fits w β loops vs [] env σ → Fits w β loops vs xs (bind_all xs t env) (set_all (slots xs) t σ)
  unfolding bind_all set_all
  fits_all [] t s b l f = f
  fits_all (x ∷ xs) [] s b l f = absurd (omega arith)
  fits_all (x ∷ xs) (a ∷ t) s b l f =
      fits_bind {xs = xs} {ys = x ∷ xs} x (β x - 64) a (s x (member_first x xs)) b.0 (λ y m n. rest_in x y xs m n) (fits_all xs t (λ y m. s y (member_later x y xs m)) b.1 (omega arith) f)
