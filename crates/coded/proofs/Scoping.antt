-- The names of one statement are scoped as lowering asks.
use Prim.Native.Nat.{ℕ, suc, ◌+◌, ◌-◌, ◌<◌, ◌≤◌}
use mathlib.Core.Path.{◌≡◌, refl, sym, ap, ◌∙◌}
use mathlib.Core.Bool.{Bool, true, false, cond, ◌||◌}
use mathlib.Core.List.{List, [], ◌∷◌, ◌++◌}
use native.Mathlib.Omega.{arith}
use lib.ListN.{length, get_or}
use Rattle.definition.specs.Text.{Text, same, member, some_of, gather}
use Rattle.definition.specs.Limits.{PRINTED_ATTRIBUTES}
use Rattle.definition.specs.Token.{Token}
use Rattle.definition.specs.Syntax.{Term, name, string, anything, Expression, Item, rows, line_end, amount}
use Rattle.definition.specs.Syntax as Syntax
use Rattle.definition.specs.Names.{Use, term, attribute_only, variable_only, in_terms, in_expression, in_item, is_variable, free, closures, counted_in, item_expressions}
use Rattle.definition.specs.Meaning.{numbers}
use Rattle.definition.proofs.RelationLaws.{place_of, no_relation}
use Rattle.definition.proofs.NameLaws.{relation_place}
use Rattle.definition.proofs.ScopeLaws as Laws
use Rattle.definition.proofs.ScopeLaws.{AllNamed, InScope, IsAttribute, IsRelation, held_variable, held_attribute, ScopedExpression}
use Rattle.definition.proofs.RowLaws.{Every}
use Rattle.definition.proofs.QuantityLaws.{Wanted, a_quantity, Shaped, atom_test, truth_test, falsity_test, compare_test, matching_test, negation_test, conjunction_test, disjunction_test, implication_test, equivalence_test, exists_test, for_all_test, closure_test, relations_test, figures_test, literal_sum, count_sum, more_sum, whole_quantity, ratio_quantity, ShapedItem, ShapedItems}
use Rattle.definition.proofs.FigureSizes.{figure_small}
use Rattle.definition.proofs.FormLaws.{FormedWord, FormedLefts, FormedLabel, FormedItem, FormedItems}
use Rattle.definition.proofs.BoolLaws.{contradiction}
use Rattle.definition.proofs.ListLaws.{gather_append}
use Rattle.words.specs.Fields.{word, RELATION_NAME, ATTRIBUTE, TERM, WORD, MATCH, STRING}
use Rattle.words.specs.Raw.{number, leaf, leaves, size, flat, size_item, flat_item, size_items, flat_items}
use Rattle.words.specs.Tokens.{OwnName, OwnString, OwnTerm, OwnTerms, OwnExpression, OwnItem, OwnItems}
use Rattle.words.specs.Standing.{Has}
use Rattle.words.proofs.FieldLaws.{kind_word, p_word}
use Rattle.words.proofs.Places.{has_append, has_two, has_one}
use Rattle.words.proofs.Sizes.{length_leaves, length_item}
use Rattle.free.proofs.Slotted.{Covered, covered_split}
use Rattle.lowering.specs.Agreement.{Held, Known, Scoped, ScopedTerms, ScopedLefts, ScopedWord, ScopedLabel, ScopedItem, ScopedItems}
use Rattle.lowering.specs.Agreement as Agreement
use Rattle.meaning.specs.Lowered.{Bounded}
use Rattle.coding.specs.Pass.{is_named}
use Rattle.coded.proofs.Kept.{true_by, keep_name, keep_string, keep_literal}
use Rattle.coded.proofs.Given.{Case, Place}
use Rattle.coded.proofs.Agreeing.{is_loop, takes_token, own_tokens, In, apart}

-- an element of the universe has a number
some_number : (x : Text) (us : List Text) (i : ℕ) → member x us ≡ true → numbers x us i ≡ [] → ⊥
unfolding numbers member some_of
some_number x [] i e f = contradiction false e refl
some_number x (u ∷ us) i e f = go (same x u) e f (some_number x us (suc i))
  where
    go : (b : Bool) → b || member x us ≡ true → cond b (i ∷ numbers x us (suc i)) (numbers x us (suc i)) ≡ [] → (member x us ≡ true → numbers x us (suc i) ≡ [] → ⊥) → ⊥
    go true e f more = let z : ◌≡◌ {A = ℕ} 0 1 = cc in omega arith
    go false e f more = more e f

-- closures close two free attributes, and what is counted has no more than a printed expression
abbrev pub Closed : (Text → Bool) → List Expression → Type 0
Closed v es = Every (λ e. length (free v e) ≡ 2) es

abbrev pub Counted : (Text → Bool) → List Expression → Type 0
Counted v es = Every (λ e. length (free v e) ≤ PRINTED_ATTRIBUTES) es

pub every_split : (P : Expression → Type 0) (xs ys : List Expression) → Every P (xs ++ ys) → Every P xs × Every P ys
unfolding Every
every_split P [] ys c = (tt, c)
every_split P (x ∷ xs) ys c = let r = every_split P xs ys c.1 in ((c.0, r.0), r.1)

-- the strings of a left-hand side are elements
unfoldable pub Placed : List Text → List Term → Type 0
Placed us [] = Unit {0}
Placed us (name t ∷ ps) = Placed us ps
Placed us (string t ∷ ps) = (member t.text us ≡ true) × Placed us ps
Placed us (anything ∷ ps) = Placed us ps

module _ (C : Case) (scope : List Text) (s k : ℕ) (names : List Text) (P : Place C scope s k names) where
  abbrev ts' : List Token
  ts' = own_tokens C scope s k names P

  abbrev I : Text → Bool
  I = In C scope s k names P

  abbrev v : Text → Bool
  v = C.w.variables

  abbrev Covers : List Use → Type 0
  Covers us = Covered names v (apart C scope s k names P) us

  -- the token of a word of the statement
  pub word_takes : (i K n q r : ℕ) → s ≤ i → i ≤ k → K < 256 → is_named K ≡ true → n < 65536 → get_or C.words i 0 ≡ word K n q r → takes_token C scope s k names P n ≡ true
  word_takes i K n q r l h hK e hn x =
      true_by C.words (suc k - s) s n (record {
        place = i;
        from = l;
        to = omega (arith, h, P.order);
        kind = rw (x, kind_word K n q r hK) e;
        named = rw x (p_word K n q r hK hn);
      })

  own_name : (i K q r : ℕ) (t : Token) → OwnName C.ts t → s ≤ i → i ≤ k → K < 256 → is_named K ≡ true → get_or C.words i 0 ≡ word K (number t) q r → OwnName ts' t
  own_name i K q r t o l h hK e x = keep_name (takes_token C scope s k names P) C.ts t o (word_takes i K (number t) q r l h hK e (omega (arith, o.inside, C.few)) x)

  abbrev TwoFree : Expression → Type 0
  TwoFree e = length (free v e) ≡ 2

  abbrev FewFree : Expression → Type 0
  FewFree e = length (free v e) ≤ PRINTED_ATTRIBUTES

  own_string : (i K q r : ℕ) (t : Token) → OwnString C.ts t → s ≤ i → i ≤ k → K < 256 → is_named K ≡ true → get_or C.words i 0 ≡ word K (number t) q r → OwnString ts' t
  own_string i K q r t o l h hK e x = keep_string (takes_token C scope s k names P) C.ts t o (word_takes i K (number t) q r l h hK e (omega (arith, o.inside, C.few)) x)

  named_kinds : (is_named RELATION_NAME ≡ true) × (is_named ATTRIBUTE ≡ true) × (is_named TERM ≡ true) × (is_named WORD ≡ true) × (is_named (STRING + ATTRIBUTE) ≡ true) × (is_named (STRING + TERM) ≡ true) × (is_named (STRING + WORD) ≡ true) × (is_named MATCH ≡ true)
  unfolding is_named
  named_kinds = (refl, refl, refl, refl, refl, refl, refl, refl)

  no_loop : (x : Text) → IsAttribute C.kinds x → v x ≡ false
  no_loop x e = sym (is_loop C x) ∙ ap is_variable e

  held : (x : Text) → Laws.Held C.kinds scope x → (v x ≡ false → member x names ≡ true) → Held C.w ts' scope I x
  held x (held_variable h) c = Agreement.variable h.0
  held x (held_attribute h) c = Agreement.attribute (c (no_loop x h))

  scoped_terms : (ps : List Term) (n : ℕ) → AllNamed (Laws.Held C.kinds scope) ps → OwnTerms C.ts ps → Covers (in_terms term ps) → s ≤ n → n + length ps ≤ suc k → Has C.words n (leaves TERM ps)
      → ScopedTerms C.w ts' scope I ps
  unfolding AllNamed OwnTerms Covered in_terms leaves Has ScopedTerms
  scoped_terms [] n S o c l h x = tt
  scoped_terms (name t ∷ ps) n S o c l h x =
      ((own_name n TERM 0 0 t o.0 l (omega arith) (omega arith) named_kinds.2 x.0, held t.text S.0 (c.0 refl)), scoped_terms ps (n + 1) S.1 o.1 c.1 (omega arith) (omega arith) x.1)
  scoped_terms (string t ∷ ps) n S o c l h x =
      (own_string n (STRING + TERM) 0 0 t o.0 l (omega arith) (omega arith) named_kinds.5 x.0, scoped_terms ps (n + 1) S.1 o.1 c (omega arith) (omega arith) x.1)
  scoped_terms (anything ∷ ps) n S o c l h x = (tt, scoped_terms ps (n + 1) S.1 o.1 c (omega arith) (omega arith) x.1)

  -- a relation before its terms
  pub known_relation : (r : Token) (ps : List Term) (n : ℕ) → IsRelation C.kinds r.text (length ps) → OwnName C.ts r → s ≤ n → n ≤ k → get_or C.words n 0 ≡ word RELATION_NAME (number r) (length ps) 0
      → Known C.w ts' scope I r ps
  known_relation r ps n (i, e) o l h x =
      let (a, b, c) = relation_place C.kinds C.numbered r.text i (length ps) e in
      let a' : i ≡ place_of r.text C.w.relations = a ∙ ap (place_of r.text) C.same_relations in
      let b' : i < length C.w.relations = rw C.same_relations at b in
      let c' : (get_or C.w.relations i no_relation).arity ≡ length ps = rw C.same_relations at c in
      record {
        own = own_name n RELATION_NAME (length ps) 0 r o l h (omega arith) named_kinds.0 x;
        known = rw (← a') b';
        arity = rw (← a') (sym c');
        short = omega (arith, c', C.arities i);
      }

  -- what the two operands of an operator have
  record Pair (a b : Expression) (n : ℕ) : Type 0 where
    left : Has C.words n (flat a n)
    right : Has C.words (n + size a) (flat b (n + size a))
    covers_left : Covers (in_expression a)
    covers_right : Covers (in_expression b)
    closed_left : Closed v (closures a)
    closed_right : Closed v (closures b)
    counted_left : Counted v (counted_in a)
    counted_right : Counted v (counted_in b)

  pair : (a b : Expression) (n u : ℕ) → Covers (in_expression a ++ in_expression b) → Closed v (closures a ++ closures b) → Counted v (counted_in a ++ counted_in b) → Has C.words n (flat a n ++ (flat b (n + size a) ++ (u ∷ []))) → Pair a b n
  pair a b n u c cl ct x =
      let t = has_two C.words n u a b x in
      let d = covered_split names v (apart C scope s k names P) (in_expression a) (in_expression b) c in
      let q = every_split TwoFree (closures a) (closures b) cl in
      let r = every_split FewFree (counted_in a) (counted_in b) ct in
      record { left = t.left; right = t.right; covers_left = d.0; covers_right = d.1; closed_left = q.0; closed_right = q.1; counted_left = r.0; counted_right = r.1 }

  -- quantities come to no more than a word's sums may
  bounded : (e : Expression) → Shaped a_quantity e → Counted v (counted_in e) → Bounded C.w e
  bounded e h c ts env = let z = figure_small C.w ts env C.few_elements e h c in (omega (arith, z.0), omega (arith, z.1))

  abbrev Right : Expression → Type 0
  Right e = (n : ℕ) → ScopedExpression C.kinds scope e → OwnExpression C.ts e → Covers (in_expression e) → Closed v (closures e) → Counted v (counted_in e) → s ≤ n → n + size e ≤ suc k → Has C.words n (flat e n)
      → Scoped C.w ts' scope I e

  both : (a b : Expression) (n u : ℕ) → ScopedExpression C.kinds scope a → ScopedExpression C.kinds scope b → OwnExpression C.ts a → OwnExpression C.ts b → Covers (in_expression a ++ in_expression b) → Closed v (closures a ++ closures b) → Counted v (counted_in a ++ counted_in b) → s ≤ n → n + size a + size b ≤ suc k
      → Has C.words n (flat a n ++ (flat b (n + size a) ++ (u ∷ []))) → Right a → Right b → Scoped C.w ts' scope I a × Scoped C.w ts' scope I b
  both a b n u Sa Sb oa ob c cl ct l h x ra rb =
      let t = pair a b n u c cl ct x in (
        ra n Sa oa t.covers_left t.closed_left t.counted_left l (omega arith) t.left,
        rb (n + size a) Sb ob t.covers_right t.closed_right t.counted_right (omega arith) h t.right,
      )

  pub scoped : {W : Wanted} (e : Expression) → Shaped W e → Right e
  unfolding ScopedExpression OwnExpression Covered in_expression closures counted_in Every size flat Has Scoped
  scoped e (atom_test {r} {ps}) n S o c cl ct l h x =
      let t = has_append C.words (n + 1) (leaves TERM ps) _ x.1 in
      (known_relation r ps n S.0 o.0 l (omega arith) x.0, scoped_terms ps (n + 1) S.1 o.1 c.1 (omega arith) (omega arith) t.0)
  scoped e (truth_test {ps}) n S o c cl ct l h x = scoped_terms ps n S o c l (omega arith) (has_append C.words n (leaves TERM ps) _ x).0
  scoped e (falsity_test {ps}) n S o c cl ct l h x = scoped_terms ps n S o c l (omega arith) (has_append C.words n (leaves TERM ps) _ x).0
  scoped e (compare_test {g} {p} {q}) n S o c cl ct l h x = unfold AllNamed ScopedTerms leaves in (
      let r = scoped_terms (p ∷ q ∷ []) n (S.0, (S.1, tt)) o c l (omega arith) (x.0, (x.1.0, tt)) in
      (r.0, r.1.0))
  scoped e (matching_test {s = t} {p}) n S o c cl ct l h x = unfold AllNamed ScopedTerms leaves in (
    own_string (n + 1) MATCH 0 n t o.0 (omega arith) (omega arith) (omega arith) named_kinds.7 x.1.0,
    (scoped_terms (p ∷ []) n (S, tt) o.1 c l (omega arith) (x.0, tt)).0,
  )
  scoped e (negation_test {e = a} f) n S o c cl ct l h x = scoped a f n S o c cl ct l (omega arith) (has_one C.words n _ a x).inner
  scoped e (conjunction_test {a} {b} f g) n S o c cl ct l h x = both a b n _ S.0 S.1 o.0 o.1 c cl ct l (omega arith) x (scoped a f) (scoped b g)
  scoped e (disjunction_test {a} {b} f g) n S o c cl ct l h x = both a b n _ S.0 S.1 o.0 o.1 c cl ct l (omega arith) x (scoped a f) (scoped b g)
  scoped e (implication_test {a} {b} f g) n S o c cl ct l h x = both a b n _ S.0 S.1 o.0 o.1 c cl ct l (omega arith) x (scoped a f) (scoped b g)
  scoped e (equivalence_test {a} {b} f g) n S o c cl ct l h x = both a b n _ S.0 S.1 o.0 o.1 c cl ct l (omega arith) x (scoped a f) (scoped b g)
  scoped e (exists_test {x = y} {e = a} f) n S o c cl ct l h x = (
    (own_name n ATTRIBUTE 0 0 y o.0 l (omega arith) (omega arith) named_kinds.1 x.0, c.0 refl (no_loop y.text S.0)),
    scoped a f (n + 1) S.1 o.1 c.1 cl ct (omega arith) (omega arith) (has_one C.words (n + 1) _ a x.1).inner,
  )
  scoped e (for_all_test {x = y} {e = a} f) n S o c cl ct l h x = (
    (own_name n ATTRIBUTE 0 0 y o.0 l (omega arith) (omega arith) named_kinds.1 x.0, c.0 refl (no_loop y.text S.0)),
    scoped a f (n + 1) S.1 o.1 c.1 cl ct (omega arith) (omega arith) (has_one C.words (n + 1) _ a x.1).inner,
  )
  scoped e (closure_test {e = a} f) n S o c cl ct l h x = (cl.0, scoped a f n S o c cl.1 ct l (omega arith) (has_one C.words n _ a x).inner)
  scoped e (relations_test {g} {a} {b} f i) n S o c cl ct l h x = both a b n _ S.0 S.1 o.0 o.1 c cl ct l (omega arith) x (scoped a f) (scoped b i)
  scoped e (figures_test {g} {a} {b} f i) n S o c cl ct l h x =
      let r = every_split FewFree (counted_in a) (counted_in b) ct in
      (both a b n _ S.0 S.1 o.0 o.1 c cl ct l (omega arith) x (scoped a f) (scoped b i), (bounded a f r.0, bounded b i r.1))
  scoped e (literal_sum {t = t} f) n S o c cl ct l h x = (keep_literal (takes_token C scope s k names P) C.ts t o, f)
  scoped e (count_sum {e = a} f) n S o c cl ct l h x = scoped a f n S o c cl ct.1 l (omega arith) (has_one C.words n _ a x).inner
  scoped e (more_sum {a = a} {b = b} f i) n S o c cl ct l h x = both a b n _ S.0 S.1 o.0 o.1 c cl ct l (omega arith) x (scoped a f) (scoped b i)
  scoped e (whole_quantity f) n S o c cl ct l h x = scoped e f n S o c cl ct l h x
  scoped e (ratio_quantity {a} {b} f i) n S o c cl ct l h x = both a b n _ S.0 S.1 o.0 o.1 c cl ct l (omega arith) x (scoped a f) (scoped b i)

  -- the terms of a left-hand side
  pub scoped_lefts : (ps : List Term) (n : ℕ) → AllNamed (IsAttribute C.kinds) ps → FormedLefts ps → Placed C.w.universe ps → OwnTerms C.ts ps → Covers (in_terms attribute_only ps) → s ≤ n → n + length ps ≤ suc k
      → Has C.words n (leaves ATTRIBUTE ps) → ScopedLefts C.w ts' scope I ps
  unfolding AllNamed FormedLefts Placed OwnTerms Covered in_terms leaves Has ScopedLefts
  scoped_lefts [] n S f u o c l h x = tt
  scoped_lefts (name t ∷ ps) n S f u o c l h x = (
    (own_name n ATTRIBUTE 0 0 t o.0 l (omega arith) (omega arith) named_kinds.1 x.0, c.0 refl (no_loop t.text S.0)),
    scoped_lefts ps (n + 1) S.1 f.1 u o.1 c.1 (omega arith) (omega arith) x.1,
  )
  scoped_lefts (string t ∷ ps) n S f u o c l h x = (
    (own_string n (STRING + ATTRIBUTE) 0 0 t o.0 l (omega arith) (omega arith) named_kinds.4 x.0, some_number t.text C.w.universe 0 u.0),
    scoped_lefts ps (n + 1) S.1 f.1 u.1 o.1 c (omega arith) (omega arith) x.1,
  )
  scoped_lefts (anything ∷ ps) n S f u o c l h x = absurd f.0

  -- what is printed
  scoped_word : (p : Term) (n : ℕ) → Laws.Named (InScope C.kinds scope) p → FormedWord p → OwnTerm C.ts p → s ≤ n → n ≤ k → get_or C.words n 0 ≡ leaf WORD p → ScopedWord C.w ts' scope I p
  scoped_word (name t) n S f o l h x = (own_name n WORD 0 0 t o l h (omega arith) named_kinds.3 x, S.0)
  scoped_word (string t) n S f o l h x = own_string n (STRING + WORD) 0 0 t o l h (omega arith) named_kinds.6 x
  scoped_word anything n S f o l h x = absurd f

  scoped_label : (ps : List Term) (n : ℕ) → AllNamed (InScope C.kinds scope) ps → FormedLabel ps → OwnTerms C.ts ps → s ≤ n → n + length ps ≤ suc k → Has C.words n (leaves WORD ps) → ScopedLabel C.w ts' scope I ps
  unfolding AllNamed OwnTerms leaves Has
  scoped_label [] n S f o l h x = tt
  scoped_label (p ∷ []) n S f o l h x = scoped_word p n S.0 f o.0 l (omega arith) x.0
  scoped_label (p ∷ q ∷ ps) n S f o l h x = absurd f

  scoped_item : (i : Item) (n : ℕ) → Laws.ScopedItem C.kinds scope i → FormedItem i → ShapedItem i → OwnItem C.ts i → Covers (in_item i) → Closed v (gather closures (item_expressions i)) → Counted v (gather counted_in (item_expressions i)) → s ≤ n → n + size_item i ≤ suc k
      → Has C.words n (flat_item i n) → ScopedItem C.w ts' scope I i
  unfolding OwnItem in_item gather size_item flat_item ScopedItem
  scoped_item (rows ps e) n S f g o c cl ct l h x =
      let t = has_append C.words n (leaves WORD ps) _ x in
      let y = has_one C.words (n + length ps) _ e (rw (length_leaves WORD ps) at t.1) in
      let d = covered_split names v (apart C scope s k names P) (in_terms variable_only ps) (in_expression e) c in
      let q = every_split TwoFree (closures e) [] cl in
      let r = every_split FewFree (counted_in e) [] ct in
      (scoped_label ps n S.0 f o.0 l (omega arith) t.0, scoped e g (n + length ps) S.1 o.1 d.1 q.0 r.0 (omega arith) (omega arith) y.inner)
  scoped_item (Syntax.word p) n S f g o c cl ct l h x = unfold OwnTerms Has in (scoped_word p n S f o.0 l (omega arith) x.0)
  scoped_item line_end n S f g o c cl ct l h x = tt
  scoped_item (amount e) n S f g o c cl ct l h x =
      let q = every_split TwoFree (closures e) [] cl in
      let r = every_split FewFree (counted_in e) [] ct in
      (bounded e g r.0, scoped e g n S o c q.0 r.0 l (omega arith) (has_one C.words n _ e x).inner)

  pub scoped_items : (is : List Item) (n : ℕ) → Laws.ScopedItems C.kinds scope is → FormedItems is → ShapedItems is → OwnItems C.ts is → Covers (gather in_item is) → Closed v (gather closures (gather item_expressions is)) → Counted v (gather counted_in (gather item_expressions is)) → s ≤ n → n + size_items is ≤ suc k
      → Has C.words n (flat_items is n) → ScopedItems C.w ts' scope I is
  unfolding Laws.ScopedItems FormedItems ShapedItems OwnItems gather size_items flat_items ScopedItems
  scoped_items [] n S f g o c cl ct l h x = tt
  scoped_items (i ∷ is) n S f g o c cl ct l h x =
      let t = has_append C.words n (flat_item i n) _ x in
      let y : Has C.words (n + size_item i) (flat_items is (n + size_item i)) = rw (length_item i n) at t.1 in
      let d = covered_split names v (apart C scope s k names P) (in_item i) (gather in_item is) c in
      let q = every_split TwoFree (gather closures (item_expressions i)) (gather closures (gather item_expressions is)) (rw (gather_append closures (item_expressions i) (gather item_expressions is)) at cl) in
      let r = every_split FewFree (gather counted_in (item_expressions i)) (gather counted_in (gather item_expressions is)) (rw (gather_append counted_in (item_expressions i) (gather item_expressions is)) at ct) in (
        scoped_item i n S.0 f.0 g.0 o.0 d.0 q.0 r.0 l (omega arith) t.0,
        scoped_items is (n + size_item i) S.1 f.1 g.1 o.1 d.1 q.1 r.1 (omega arith) (omega arith) y,
      )
