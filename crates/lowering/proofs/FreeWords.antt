-- Free attributes as the crate `free` fills them agree with the definition, as lowering asks.
use Prim.Native.Nat.{ℕ, ◌+◌, ◌-◌, ◌<◌, ◌≤◌}
use mathlib.Core.Path.{◌≡◌, refl, sym, ap, ap₂, ◌∙◌, subst}
use mathlib.Core.Bool.{Bool, true, false}
use mathlib.Core.List.{List, [], ◌∷◌, ◌++◌, map}
use mathlib.Core.Logic.{⊎_elim}
use native.Mathlib.Omega.{arith}
use lib.Dec.{T}
use lib.ListN.{length}
use Rattle.definition.specs.Text.{Text, same, member, some_of}
use Rattle.definition.specs.Token.{Token}
use Rattle.definition.specs.Syntax.{Term, name, string, anything, Expression, atom, truth, falsity, compare, matching, negation, conjunction, disjunction, implication, equivalence, exists, for_all, closure_of, compare_relations, literal, count_of, sum_of, ratio_of, compare_figures}
use Rattle.definition.specs.Names.{Use, term, in_terms, in_expression, free}
use Rattle.definition.specs.Accept.{Accepted}
use Rattle.definition.proofs.BoolLaws.{or_cases}
use Rattle.definition.proofs.MeaningLaws.{same_eq}
use Rattle.words.specs.Fields.{word}
use Rattle.words.specs.Raw.{number, size, flat}
use Rattle.words.specs.Tokens.{OwnName, OwnTerms, OwnExpression}
use Rattle.digits.specs.Lists.{pack}
use Rattle.digits.proofs.Listing.{Listed}
use Rattle.slots.specs.Slots.{takes}
use Rattle.free.specs.Words.{Filled}
use Rattle.free.proofs.Slotted.{slot, AllIn, Covered}
use Rattle.words.specs.Standing.{Has}
use Rattle.free.proofs.Trees.{before, bottom}
use Rattle.lowering.specs.Agreement.{Held, attribute, variable, ScopedTerms, Scoped, FreeAt}

never : {A : Type 0} (b : Bool) → b ≡ true → b ≡ false → A
never b e f = absurd (let z : ◌≡◌ {A = ℕ} 0 1 = cc in omega arith)

module _ (w : Accepted) (ts : List Token) (loops : List Text) (names : List Text) (bound : (x : Text) → T (member x loops) → w.variables x ≡ true) (apart : (x : Text) → w.variables x ≡ true → member x names ≡ false) where
  abbrev In : Text → Bool
  In x = member x names

  own_terms : (ps : List Term) → ScopedTerms w ts loops In ps → OwnTerms ts ps
  unfolding ScopedTerms OwnTerms
  own_terms [] o = tt
  own_terms (name t ∷ ps) o = (o.0.0, own_terms ps o.1)
  own_terms (string t ∷ ps) o = (o.0, own_terms ps o.1)
  own_terms (anything ∷ ps) o = (tt, own_terms ps o.1)

  own : (e : Expression) → Scoped w ts loops In e → OwnExpression ts e
  unfolding Scoped OwnExpression ScopedTerms
  own (atom r ps) o = (o.0.own, own_terms ps o.1)
  own (truth ps) o = own_terms ps o
  own (falsity ps) o = own_terms ps o
  own (compare g p q) o = own_terms (p ∷ q ∷ []) (o.0, (o.1, tt))
  own (matching s p) o = (o.0, own_terms (p ∷ []) (o.1, tt))
  own (negation e) o = own e o
  own (conjunction a b) o = (own a o.0, own b o.1)
  own (disjunction a b) o = (own a o.0, own b o.1)
  own (implication a b) o = (own a o.0, own b o.1)
  own (equivalence a b) o = (own a o.0, own b o.1)
  own (exists x e) o = (o.0.0, own e o.1)
  own (for_all x e) o = (o.0.0, own e o.1)
  own (closure_of e) o = own e o.1
  own (compare_relations g a b) o = (own a o.0, own b o.1)
  own (literal t) o = o.0
  own (count_of e) o = own e o
  own (sum_of a b) o = (own a o.0, own b o.1)
  own (ratio_of a b) o = (own a o.0, own b o.1)
  own (compare_figures g a b) o = (own a o.0.0, own b o.0.1)

  abbrev Covers : List Use → Type 0
  Covers us = Covered names w.variables apart us

  cover_append : (us ws : List Use) → Covers us → Covers ws → Covers (us ++ ws)
  unfolding Covered
  cover_append [] ws a b = b
  cover_append (u ∷ us) ws a b = (a.0, cover_append us ws a.1 b)

  cover_name : (x : Text) → Held w ts loops In x → w.variables x ≡ false → member x names ≡ true
  cover_name x (attribute h) e = h
  cover_name x (variable h) e = never (w.variables x) (bound x h) e

  cover_terms : (ps : List Term) → ScopedTerms w ts loops In ps → Covers (in_terms term ps)
  unfolding ScopedTerms Covered in_terms
  cover_terms [] o = tt
  cover_terms (name t ∷ ps) o = ((λ _ e. cover_name t.text o.0.1 e), cover_terms ps o.1)
  cover_terms (string t ∷ ps) o = cover_terms ps o.1
  cover_terms (anything ∷ ps) o = cover_terms ps o.1

  covered : (e : Expression) → Scoped w ts loops In e → Covers (in_expression e)
  unfolding Scoped ScopedTerms Covered in_expression
  covered (atom r ps) o = ((λ h. never false h refl), cover_terms ps o.1)
  covered (truth ps) o = cover_terms ps o
  covered (falsity ps) o = cover_terms ps o
  covered (compare g p q) o = cover_terms (p ∷ q ∷ []) (o.0, (o.1, tt))
  covered (matching s p) o = cover_terms (p ∷ []) (o.1, tt)
  covered (negation e) o = covered e o
  covered (conjunction a b) o = cover_append (in_expression a) (in_expression b) (covered a o.0) (covered b o.1)
  covered (disjunction a b) o = cover_append (in_expression a) (in_expression b) (covered a o.0) (covered b o.1)
  covered (implication a b) o = cover_append (in_expression a) (in_expression b) (covered a o.0) (covered b o.1)
  covered (equivalence a b) o = cover_append (in_expression a) (in_expression b) (covered a o.0) (covered b o.1)
  covered (exists x e) o = ((λ _ _. o.0.1), covered e o.1)
  covered (for_all x e) o = ((λ _ _. o.0.1), covered e o.1)
  covered (closure_of e) o = covered e o.1
  covered (compare_relations g a b) o = cover_append (in_expression a) (in_expression b) (covered a o.0) (covered b o.1)
  covered (literal t) o = tt
  covered (count_of e) o = covered e o
  covered (sum_of a b) o = cover_append (in_expression a) (in_expression b) (covered a o.0) (covered b o.1)
  covered (ratio_of a b) o = cover_append (in_expression a) (in_expression b) (covered a o.0) (covered b o.1)
  covered (compare_figures g a b) o = cover_append (in_expression a) (in_expression b) (covered a o.0.0) (covered b o.0.1)

  all_in : (xs : List Text) → AllIn names xs → (x : Text) → T (member x xs) → member x names ≡ true
  unfolding AllIn member some_of
  all_in [] a x m = absurd m
  all_in (y ∷ ys) a x m = ⊎_elim (λ t. subst (λ (z : Text). member z names ≡ true) (sym (same_eq x y t)) a.0) (λ t. all_in ys a.1 x t) (or_cases (same x y) (member x ys) m)

  module _ (few : length ts < 65536) (words codes fr : List ℕ) (lo hi : ℕ) (D : ℕ → ℕ) (filled : Filled words D fr lo hi) (small : hi < 65536) (short : length names ≤ 4)
      (named_digit : (k : ℕ) (t : Token) → takes k ≡ true → k < 256 → OwnName ts t → D (word k (number t) 0 0) ≡ slot names t.text)
      (other_digit : (k p : ℕ) → takes k ≡ false → k < 256 → D (word k p 0 0) ≡ 0)
      (β : Text → ℕ) (byte : (x : Text) → member x names ≡ true → β x - 63 ≡ slot names x) where
    abbrev pub Clear : ℕ → Type 0
    Clear n = before ts few words fr lo hi D filled small names short w.variables apart named_digit other_digit n ≡ 0

    same_digits : (xs : List Text) → AllIn names xs → map (λ x. β x - 63) xs ≡ map (slot names) xs
    unfolding AllIn
    same_digits [] a = refl
    same_digits (x ∷ xs) a = ap₂ (λ (d : ℕ) (ds : List ℕ). d ∷ ds) (byte x a.0) (same_digits xs a.1)

    pub free_at : (e : Expression) (n : ℕ) → Scoped w ts loops In e → lo ≤ n → n + size e ≤ hi → Clear n → Has words n (flat e n) → FreeAt w ts loops In β Clear words codes fr lo hi e n
    free_at e n o l h cl x =
        let B = bottom ts few words fr lo hi D filled small names short w.variables apart named_digit other_digit e n (own e o) (covered e o) l h cl x in
        let s = same_digits (free w.variables e) B.inside in
        record {
          value = B.value ∙ sym (ap pack s);
          listed = subst (Listed 4) (sym s) B.listed;
          inside = all_in (free w.variables e) B.inside;
          ended = B.ended;
        }
