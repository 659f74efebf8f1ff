-- The names of an accepted program: each is what its place takes, with the variables of the open FORs as a scope.
use mathlib.Core.Path.{◌≡◌, refl, sym, ap, subst, ◌∙◌}
use mathlib.Core.Logic.{◌⊎◌, inl, inr}
use mathlib.Core.Bool.{Bool, true, false, not, cond}
use mathlib.Core.List.{List, [], ◌∷◌, ◌++◌}
use Prim.Native.Nat.{ℕ, suc, ◌≤◌}
use lib.Dec.{T, eqb, ltb}
use lib.ListN.{length}
use borrow.Author.Tests.{ltb-false}
use Rattle.definition.specs.Text.{Text, same, member, some_of, gather}
use Rattle.definition.specs.Limits.{Limits, ARITY}
use Rattle.definition.specs.Token.{Token}
use Rattle.definition.specs.Syntax.{Term, name, string, anything, Expression, atom, truth, falsity, compare, matching, negation, conjunction, disjunction, implication, equivalence, exists, for_all, closure_of, compare_relations, literal, count_of, sum_of, ratio_of, compare_figures}
use Rattle.definition.specs.Syntax.{Item, rows, word, line_end, amount, Program, end, assign, print, test, while, for, block}
use Rattle.definition.specs.Answer.{Answer, ok, ◌>>=◌}
use Rattle.definition.specs.Facts.{Relation}
use Rattle.definition.specs.Names.{Role, before_terms, attribute_only, term, variable_only, after_for, enter, leave, Use, use_as, in_terms, in_expression, in_item, in_program, Known, nothing, attribute, variable, open_variable, relation, Rule, becomes, first, row, rule, Kinds, use_name, use_names, numbered, fact_kinds, variables}
use Rattle.definition.proofs.BoolLaws.{decide, is_true, is_false}
use Rattle.definition.proofs.MeaningLaws.{same_eq, other, member_first}
use Rattle.definition.proofs.AcceptLaws.{ok_injective, bind_ok}
use Rattle.definition.proofs.NameLaws.{learn_here, Keeps, Fits, Used, kept, added, used, used_other, names_keep, Fitting, one, names_fit, names_append}

-- the name of a term, the names of terms: each as its place takes it
abbrev pub Named : (Text → Type 0) → Term → Type 0
Named P (name t) = P t.text
Named P (string t) = Unit {0}
Named P anything = Unit {0}

unfoldable pub AllNamed : (Text → Type 0) → List Term → Type 0
AllNamed P [] = Unit {0}
AllNamed P (p ∷ ps) = Named P p × AllNamed P ps

-- What each name is: `k` is what is known of the names in the end, `scope` the variables of the open FORs, the innermost first.
module _ (k : Kinds) where
  -- a left-hand name or a quantified attribute
  abbrev pub IsAttribute : Text → Type 0
  IsAttribute x = k.known x ≡ attribute

  -- a relation before n terms
  abbrev pub IsRelation : Text → ℕ → Type 0
  IsRelation x n = (i : ℕ) × (k.known x ≡ relation i n)

module _ (k : Kinds) (scope : List Text) where
  -- a loop variable in its loop's block: an item's name, or a label's
  abbrev pub InScope : Text → Type 0
  InScope x = T (member x scope) × (variables k x ≡ true)

  -- the name after FOR: a loop variable, not bound again in its own block
  abbrev pub Fresh : Text → Type 0
  Fresh x = T (not (member x scope)) × (variables k x ≡ true)

  -- a term's name
  pub data Held (x : Text) : Type 0 where
    held_variable : InScope x → Held x
    held_attribute : IsAttribute k x → Held x

  abbrev pub ScopedTerm : Term → Type 0
  ScopedTerm = Named Held

  abbrev pub ScopedTerms : List Term → Type 0
  ScopedTerms = AllNamed Held

  unfoldable pub ScopedExpression : Expression → Type 0
  ScopedExpression (atom r ps) = IsRelation k r.text (length ps) × ScopedTerms ps
  ScopedExpression (truth ps) = ScopedTerms ps
  ScopedExpression (falsity ps) = ScopedTerms ps
  ScopedExpression (compare g p q) = ScopedTerm p × ScopedTerm q
  ScopedExpression (matching s p) = ScopedTerm p
  ScopedExpression (negation e) = ScopedExpression e
  ScopedExpression (conjunction a b) = ScopedExpression a × ScopedExpression b
  ScopedExpression (disjunction a b) = ScopedExpression a × ScopedExpression b
  ScopedExpression (implication a b) = ScopedExpression a × ScopedExpression b
  ScopedExpression (equivalence a b) = ScopedExpression a × ScopedExpression b
  ScopedExpression (exists x e) = IsAttribute k x.text × ScopedExpression e
  ScopedExpression (for_all x e) = IsAttribute k x.text × ScopedExpression e
  ScopedExpression (closure_of e) = ScopedExpression e
  ScopedExpression (compare_relations g a b) = ScopedExpression a × ScopedExpression b
  ScopedExpression (literal t) = Unit {0}
  ScopedExpression (count_of e) = ScopedExpression e
  ScopedExpression (sum_of a b) = ScopedExpression a × ScopedExpression b
  ScopedExpression (ratio_of a b) = ScopedExpression a × ScopedExpression b
  ScopedExpression (compare_figures g a b) = ScopedExpression a × ScopedExpression b

  abbrev pub ScopedItem : Item → Type 0
  ScopedItem (rows ps e) = AllNamed InScope ps × ScopedExpression e
  ScopedItem (word p) = Named InScope p
  ScopedItem line_end = Unit {0}
  ScopedItem (amount e) = ScopedExpression e

  unfoldable pub ScopedItems : List Item → Type 0
  ScopedItems [] = Unit {0}
  ScopedItems (i ∷ is) = ScopedItem i × ScopedItems is

unfoldable pub ScopedProgram : Kinds → List Text → Program → Type 0
ScopedProgram k scope end = Unit {0}
ScopedProgram k scope (assign i r ps e q) =
    IsRelation k r.text (length ps) × (AllNamed (IsAttribute k) ps × (ScopedExpression k scope e × ScopedProgram k scope q))
ScopedProgram k scope (print i is q) = ScopedItems k scope is × ScopedProgram k scope q
ScopedProgram k scope (test i e a b q) = ScopedExpression k scope e × (ScopedProgram k scope a × (ScopedProgram k scope b × ScopedProgram k scope q))
ScopedProgram k scope (while i e a q) = ScopedExpression k scope e × (ScopedProgram k scope a × ScopedProgram k scope q)
ScopedProgram k scope (for i v e a q) =
    Fresh k scope v.text × (ScopedExpression k scope e × (ScopedProgram k (v.text ∷ scope) a × ScopedProgram k scope q))
ScopedProgram k scope (block a q) = ScopedProgram k scope a × ScopedProgram k scope q

-- whether a name is a variable of an open FOR, and whether it is after a use in a role
abbrev is_open : Known → Bool
is_open nothing = false
is_open attribute = false
is_open variable = false
is_open open_variable = true
is_open (relation i n) = false

abbrev open_then : Role → Known → Bool
open_then (before_terms n) v = is_open v
open_then attribute_only v = is_open v
open_then term v = is_open v
open_then variable_only v = is_open v
open_then after_for v = is_open v
open_then enter v = true
open_then leave v = false

-- what a use in a role says of what was known, v, and is known then, w
abbrev Stands : Role → Known → Known → Type 0
Stands (before_terms n) v w = Unit {0}
Stands attribute_only v w = Unit {0}
Stands term v w = (is_open v ≡ true) ⊎ (w ≡ attribute)
Stands variable_only v w = is_open v ≡ true
Stands after_for v w = is_open v ≡ false
Stands enter v w = Unit {0}
Stands leave v w = Unit {0}

abbrev Seen : Role → Known → Rule → Type 0
Seen p v (becomes w) = (is_open w ≡ open_then p v) × Stands p v w
Seen p v (first n) = (open_then p v ≡ false) × ((w : Known) → Stands p v w) × (n ≤ ARITY)
Seen p v (row r) = Unit {0}

rule_seen : (p : Role) (v : Known) → Seen p v (rule p v)
unfolding rule
rule_seen (before_terms n) nothing = go (ltb ARITY n) refl
  where
    go : (b : Bool) → ltb ARITY n ≡ b → Seen (before_terms n) nothing (cond b (row 5) (first n))
    go true e = tt
    go false e = (refl, λ w. tt, ltb-false ARITY n e)
rule_seen (before_terms n) attribute = tt
rule_seen (before_terms n) variable = tt
rule_seen (before_terms n) open_variable = tt
rule_seen (before_terms n) (relation i m) = go (eqb m n)
  where
    go : (b : Bool) → Seen (before_terms n) (relation i m) (cond b (becomes (relation i m)) (row 5))
    go true = (refl, tt)
    go false = tt
rule_seen attribute_only nothing = (refl, tt)
rule_seen attribute_only attribute = (refl, tt)
rule_seen attribute_only variable = tt
rule_seen attribute_only open_variable = tt
rule_seen attribute_only (relation i m) = tt
rule_seen term nothing = (refl, inr refl)
rule_seen term attribute = (refl, inr refl)
rule_seen term variable = tt
rule_seen term open_variable = (refl, inl refl)
rule_seen term (relation i m) = tt
rule_seen variable_only nothing = tt
rule_seen variable_only attribute = tt
rule_seen variable_only variable = tt
rule_seen variable_only open_variable = (refl, refl)
rule_seen variable_only (relation i m) = tt
rule_seen after_for nothing = (refl, refl)
rule_seen after_for attribute = tt
rule_seen after_for variable = (refl, refl)
rule_seen after_for open_variable = tt
rule_seen after_for (relation i m) = tt
rule_seen enter nothing = tt
rule_seen enter attribute = tt
rule_seen enter variable = (refl, tt)
rule_seen enter open_variable = tt
rule_seen enter (relation i m) = tt
rule_seen leave nothing = tt
rule_seen leave attribute = tt
rule_seen leave variable = tt
rule_seen leave open_variable = (refl, tt)
rule_seen leave (relation i m) = tt

-- a relation that the query adds has at most 3 terms
pub first_small : (p : Role) (v : Known) (n : ℕ) → rule p v ≡ first n → n ≤ ARITY
first_small p v n e = (subst (Seen p v) e (rule_seen p v)).2

-- the same of the name used, and of any other name nothing changes
used_here : {l : Kinds} {p : Role} {t : Token} {m : Kinds} → Used l p t m
    → (is_open (m.known t.text) ≡ open_then p (l.known t.text)) × Stands p (l.known t.text) (m.known t.text)
used_here {l} {p} {t} (kept v e) =
    subst (λ w. (is_open w ≡ open_then p (l.known t.text)) × Stands p (l.known t.text) w) (sym (learn_here t.text v l.known))
    (subst (Seen p (l.known t.text)) e (rule_seen p (l.known t.text)))
used_here {l} {p} {t} (added n e) =
    let (a, b, c) = subst (Seen p (l.known t.text)) e (rule_seen p (l.known t.text)) in
    (ap is_open (learn_here t.text (relation (length l.relations) n) l.known) ∙ sym a, b _)

first_fits : {known : Text → Known} {u : Use} {us : List Use} → Fitting known (u ∷ us) → Fits u.role (known u.token.text)
first_fits (one h f) = h

-- the open variables are those of the scope
record Open (l : Kinds) (s : List Text) : Type 0 where
  opens : (x : Text) → is_open (l.known x) ≡ member x s

-- one use, and what becomes of the scope
used_open : {l : Kinds} {p : Role} {t : Token} {m : Kinds} (s r : List Text) → Used l p t m → Open l s → open_then p (l.known t.text) ≡ member t.text r
    → ((y : Text) → T (not (same t.text y)) → member y s ≡ member y r) → Open m r
used_open {l} {p} {t} {m} s r u o h g = record { opens = λ y. go y (decide (same t.text y)) }
  where
    go : (y : Text) → T (same t.text y) ⊎ T (not (same t.text y)) → is_open (m.known y) ≡ member y r
    go y (inl q) = subst (λ z. is_open (m.known z) ≡ member z r) (same_eq t.text y q) ((used_here u).0 ∙ h)
    go y (inr n) = ap is_open (used_other u y n) ∙ o.opens y ∙ g y n

member_rest : (x : Text) (s : List Text) (y : Text) → T (not (same x y)) → member y (x ∷ s) ≡ member y s
unfolding member some_of
member_rest x s y n = rw (is_false (same y x) (other x y n))

module _ (limits : Limits) (k : Kinds) where
  -- further uses lead to what is known in the end
  record Ends (m : Kinds) : Type 0 where
    more : List Use
    known : use_names limits more m ≡ ok k

  -- names used where the scope is s give A and leave the scope r
  record Scopes (s r : List Text) (us : List Use) (A : Type 0) : Type 0 where
    each : (l m : Kinds) → use_names limits us l ≡ ok m → Open l s → Ends m → A × Open m r

  names_end : (us : List Use) (l m : Kinds) → use_names limits us l ≡ ok m → (h : Ends m) → use_names limits (us ++ h.more) l ≡ ok k
  names_end us l m e h = names_append limits us h.more l ∙ ap (λ (a : Answer Kinds). ◌>>=◌ a (use_names limits h.more)) e ∙ h.known

  ends_before : (us : List Use) (l m : Kinds) → use_names limits us l ≡ ok m → Ends m → Ends l
  ends_before us l m e h = record { more = us ++ h.more; known = names_end us l m e h }

  scopes_none : {s : List Text} → Scopes s s [] (Unit {0})
  unfolding use_names
  scopes_none {s} = record { each = λ l m e o h. (tt, subst (λ (j : Kinds). Open j s) (ok_injective e) o) }

  scopes_map : {s r : List Text} {us : List Use} {A B : Type 0} → (A → B) → Scopes s r us A → Scopes s r us B
  scopes_map f g = record { each = λ l m e o h. let (a, q) = g.each l m e o h in (f a, q) }

  -- the second part may rest on what the first gave
  scopes_on : {s r q : List Text} {us vs : List Use} {A B : Type 0} → Scopes s r us A → (A → Scopes r q vs B) → Scopes s q (us ++ vs) (A × B)
  scopes_on {us = us} {vs = vs} f g = record {
    each = λ l m e o h.
        let (j, d, c) = bind_ok (use_names limits us l) _ m (sym (names_append limits us vs l) ∙ e) in
        let (a, o₁) = f.each l j d o (ends_before vs j m c h) in
        let (b, o₂) = (g a).each j m c o₁ h in
        ((a, b), o₂);
  }

  scopes_then : {s r q : List Text} {us vs : List Use} {A B : Type 0} → Scopes s r us A → Scopes r q vs B → Scopes s q (us ++ vs) (A × B)
  scopes_then f g = scopes_on f (λ a. g)

  -- one use: what is known of the name in the end fits its role
  scopes_use : (s r : List Text) (p : Role) (t : Token) (A : Type 0)
      → ((l m : Kinds) → Used l p t m → Open l s → Ends m → Fits p (k.known t.text) → A × Open m r) → Scopes s r (use_as p t ∷ []) A
  unfolding use_names
  scopes_use s r p t A f = record {
    each = λ l m e o h.
        let (j, d, c) = bind_ok (use_name limits l (use_as p t)) _ m e in
        let u : Used l p t m = subst (Used l p t) (ok_injective c) (used limits l p t j d) in
        f l m u o h (first_fits (names_fit limits (use_as p t ∷ h.more) l k (names_end (use_as p t ∷ []) l m e h)));
  }

  -- a use that opens and closes nothing
  scopes_steady : (s : List Text) (p : Role) (t : Token) (A : Type 0) → ((v : Known) → open_then p v ≡ is_open v)
      → ((l m : Kinds) → Stands p (l.known t.text) (m.known t.text) → Open l s → Ends m → Fits p (k.known t.text) → A) → Scopes s s (use_as p t ∷ []) A
  scopes_steady s p t A f g =
      scopes_use s s p t A (λ l m u o h w.
      (g l m (used_here u).1 o h w, used_open s s u o (f (l.known t.text) ∙ o.opens t.text) (λ y n. refl)))

  scopes_relation : (s : List Text) (n : ℕ) (t : Token) → Scopes s s (use_as (before_terms n) t ∷ []) (IsRelation k t.text n)
  scopes_relation s n t = scopes_steady s (before_terms n) t _ (λ v. refl) (λ l m c o h w. w)

  scopes_attribute : (s : List Text) (t : Token) → Scopes s s (use_as attribute_only t ∷ []) (IsAttribute k t.text)
  scopes_attribute s t = scopes_steady s attribute_only t _ (λ v. refl) (λ l m c o h w. w)

  scopes_variable : (s : List Text) (t : Token) → Scopes s s (use_as variable_only t ∷ []) (InScope k s t.text)
  scopes_variable s t = scopes_steady s variable_only t _ (λ v. refl) (λ l m c o h w. (subst T (sym c ∙ o.opens t.text) tt, is_true (variables k t.text) w))

  scopes_bound : (s : List Text) (t : Token) → Scopes s s (use_as after_for t ∷ []) (Fresh k s t.text)
  scopes_bound s t =
      scopes_steady s after_for t _ (λ v. refl) (λ l m c o h w. (subst (λ b. T (not b)) (sym c ∙ o.opens t.text) tt, is_true (variables k t.text) w))

  scopes_term : (s : List Text) (t : Token) → Scopes s s (use_as term t ∷ []) (Held k s t.text)
  scopes_term s t = scopes_steady s term t _ (λ v. refl) (λ l m c o h w. go l m o h c w)
    where
      x : Text
      x = t.text

      -- an attribute stays one, and is no variable
      go : (l m : Kinds) → Open l s → Ends m → Stands term (l.known x) (m.known x) → Fits term (k.known x) → Held k s x
      go l m o h c (inl a) = held_attribute a
      go l m o h (inl c) (inr v) = held_variable (subst T (sym c ∙ o.opens x) tt, is_true (variables k x) v)
      go l m o h (inr c) (inr v) = held_attribute (subst (λ u. Keeps u (k.known x)) c (names_keep limits h.more m k h.known x))

  -- the names of terms, expressions, items
  scoped_names : (s : List Text) (p : Role) (P : Text → Type 0) → ((t : Token) → Scopes s s (use_as p t ∷ []) (P t.text)) → (ps : List Term) → Scopes s s (in_terms p ps) (AllNamed P ps)
  unfolding in_terms AllNamed
  scoped_names s p P f [] = scopes_none
  scoped_names s p P f (name t ∷ ps) = scopes_then (f t) (scoped_names s p P f ps)
  scoped_names s p P f (string t ∷ ps) = scopes_map (λ h. (tt, h)) (scoped_names s p P f ps)
  scoped_names s p P f (anything ∷ ps) = scopes_map (λ h. (tt, h)) (scoped_names s p P f ps)

  scoped_terms : (s : List Text) (ps : List Term) → Scopes s s (in_terms term ps) (ScopedTerms k s ps)
  scoped_terms s ps = scoped_names s term (Held k s) (scopes_term s) ps

  scoped_words : (s : List Text) (ps : List Term) → Scopes s s (in_terms variable_only ps) (AllNamed (InScope k s) ps)
  scoped_words s ps = scoped_names s variable_only (InScope k s) (scopes_variable s) ps

  scoped_expression : (s : List Text) (e : Expression) → Scopes s s (in_expression e) (ScopedExpression k s e)
  unfolding in_expression ScopedExpression AllNamed
  scoped_expression s (atom r ps) = scopes_then (scopes_relation s (length ps) r) (scoped_terms s ps)
  scoped_expression s (truth ps) = scoped_terms s ps
  scoped_expression s (falsity ps) = scoped_terms s ps
  scoped_expression s (compare g p q) = scopes_map (λ h. (h.0, h.1.0)) (scoped_terms s (p ∷ q ∷ []))
  scoped_expression s (matching t p) = scopes_map (λ h. h.0) (scoped_terms s (p ∷ []))
  scoped_expression s (negation e) = scoped_expression s e
  scoped_expression s (conjunction a b) = scopes_then (scoped_expression s a) (scoped_expression s b)
  scoped_expression s (disjunction a b) = scopes_then (scoped_expression s a) (scoped_expression s b)
  scoped_expression s (implication a b) = scopes_then (scoped_expression s a) (scoped_expression s b)
  scoped_expression s (equivalence a b) = scopes_then (scoped_expression s a) (scoped_expression s b)
  scoped_expression s (exists x e) = scopes_then (scopes_attribute s x) (scoped_expression s e)
  scoped_expression s (for_all x e) = scopes_then (scopes_attribute s x) (scoped_expression s e)
  scoped_expression s (closure_of e) = scoped_expression s e
  scoped_expression s (compare_relations g a b) = scopes_then (scoped_expression s a) (scoped_expression s b)
  scoped_expression s (literal t) = scopes_none
  scoped_expression s (count_of e) = scoped_expression s e
  scoped_expression s (sum_of a b) = scopes_then (scoped_expression s a) (scoped_expression s b)
  scoped_expression s (ratio_of a b) = scopes_then (scoped_expression s a) (scoped_expression s b)
  scoped_expression s (compare_figures g a b) = scopes_then (scoped_expression s a) (scoped_expression s b)

  scoped_items : (s : List Text) (is : List Item) → Scopes s s (gather in_item is) (ScopedItems k s is)
  unfolding gather in_item ScopedItems AllNamed
  scoped_items s [] = scopes_none
  scoped_items s (rows ps e ∷ is) = scopes_then (scopes_then (scoped_words s ps) (scoped_expression s e)) (scoped_items s is)
  scoped_items s (word p ∷ is) = scopes_then (scopes_map (λ h. h.0) (scoped_words s (p ∷ []))) (scoped_items s is)
  scoped_items s (line_end ∷ is) = scopes_map (λ h. (tt, h)) (scoped_items s is)
  scoped_items s (amount e ∷ is) = scopes_then (scoped_expression s e) (scoped_items s is)

  -- a loop's block begins and ends
  scopes_enter : (s : List Text) (v : Token) → Scopes s (v.text ∷ s) (use_as enter v ∷ []) (Unit {0})
  scopes_enter s v = scopes_use s (v.text ∷ s) enter v _ (λ l m u o h w. (tt, used_open s (v.text ∷ s) u o (sym (is_true (member v.text (v.text ∷ s)) (member_first v.text s))) (λ y n. sym (member_rest v.text s y n))))

  scopes_leave : (s : List Text) (v : Token) → T (not (member v.text s)) → Scopes (v.text ∷ s) s (use_as leave v ∷ []) (Unit {0})
  scopes_leave s v f = scopes_use (v.text ∷ s) s leave v _ (λ l m u o h w. (tt, used_open (v.text ∷ s) s u o (sym (is_false (member v.text s) f)) (λ y n. member_rest v.text s y n)))

  scoped_program : (s : List Text) (p : Program) → Scopes s s (in_program p) (ScopedProgram k s p)
  unfolding in_program ScopedProgram
  scoped_program s end = scopes_none
  scoped_program s (assign i r ps e q) =
      scopes_then (scopes_relation s (length ps) r)
      (scopes_then (scoped_names s attribute_only (IsAttribute k) (scopes_attribute s) ps) (scopes_then (scoped_expression s e) (scoped_program s q)))
  scoped_program s (print i is q) = scopes_then (scoped_items s is) (scoped_program s q)
  scoped_program s (test i e a b q) = scopes_then (scoped_expression s e) (scopes_then (scoped_program s a) (scopes_then (scoped_program s b) (scoped_program s q)))
  scoped_program s (while i e a q) = scopes_then (scoped_expression s e) (scopes_then (scoped_program s a) (scoped_program s q))
  scoped_program s (for i v e a q) =
      scopes_map (λ h. (h.0, (h.1.0, (h.1.1.1.0, h.1.1.1.1.1))))
      (scopes_on (scopes_bound s v) (λ f.
      scopes_then (scoped_expression s e)
      (scopes_then (scopes_enter s v) (scopes_then (scoped_program (v.text ∷ s) a) (scopes_then (scopes_leave s v f.0) (scoped_program s q))))))
  scoped_program s (block a q) = scopes_then (scoped_program s a) (scoped_program s q)

-- the facts open no variable
numbered_open : (i : ℕ) (rs : List Relation) (x : Text) → is_open (numbered i rs x) ≡ false
unfolding numbered
numbered_open i [] x = refl
numbered_open i (q ∷ qs) x = go (same x q.name) (numbered_open (suc i) qs x)
  where
    go : (b : Bool) → is_open (numbered (suc i) qs x) ≡ false → is_open (cond b (relation i q.arity) (numbered (suc i) qs x)) ≡ false
    go true ih = refl
    go false ih = ih

facts_open : (rs : List Relation) → Open (fact_kinds rs) []
unfolding member some_of
facts_open rs = record { opens = numbered_open 0 rs }

-- every name of an accepted program is what its place takes
pub scoped : (limits : Limits) (rs : List Relation) (p : Program) (k : Kinds) → use_names limits (in_program p) (fact_kinds rs) ≡ ok k → ScopedProgram k [] p
unfolding use_names
scoped limits rs p k e = ((scoped_program limits k [] p).each (fact_kinds rs) k e (facts_open rs) (record { more = []; known = refl })).0
