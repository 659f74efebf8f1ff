-- The code of one statement, kind by kind, from the agreement of its arrays.
use Prim.Native.Nat.{ℕ, zero, suc, ◌+◌, ◌*◌, ◌-◌, ◌%◌, ◌<◌, ◌≤◌}
use mathlib.Core.Path.{◌≡◌, refl, sym, ap, ap₂, subst, ◌∙◌}
use mathlib.Core.Bool.{Bool, true, false, cond, ◌&&◌}
use mathlib.Core.Logic.{⊎_elim}
use mathlib.Core.List.{List, [], ◌∷◌, ◌++◌, map}
use native.Mathlib.Omega.{arith}
use lib.Dec.{T, eqb}
use lib.ListN.{length, get_or}
use Rattle.definition.specs.Text.{Text, same, member, some_of, all_of, gather}
use Rattle.definition.specs.Token.{Token}
use Rattle.definition.specs.Syntax.{Term, name, string, anything, Expression, Item}
use Rattle.definition.specs.Names.{Use, attribute_only, in_terms, in_expression, in_item, attributes, free, closures, counted_in, subset, item_expressions}
use Rattle.definition.specs.Accept.{elements}
use Rattle.definition.proofs.BoolLaws.{or_cases, or_left, contradiction}
use Rattle.definition.proofs.MeaningLaws.{same_eq, same_refl}
use Rattle.definition.proofs.RelationLaws.{place_of}
use Rattle.definition.proofs.ScopeLaws as Laws
use Rattle.definition.proofs.ScopeLaws.{AllNamed, IsAttribute, IsRelation, ScopedExpression}
use Rattle.definition.proofs.FormLaws.{FormedLefts, FormedItems}
use Rattle.definition.proofs.QuantityLaws.{a_test, Shaped, ShapedItems}
use Rattle.words.specs.Fields.{word, kind_of, p_of, q_of, RELATION_NAME, ATTRIBUTE, BIND, ANYTHING, STRING, TRUTH, FALSITY, CLOSURE, RANGE, ASSIGN, PRINT}
use Rattle.words.specs.Raw.{number, leaves, size, flat, size_items, flat_items}
use Rattle.words.specs.Tokens.{OwnName, OwnTerms, OwnExpression, OwnItems}
use Rattle.words.specs.Standing.{Has}
use Rattle.words.proofs.FieldLaws.{kind_word, p_word, byte_a, byte_b, byte_c, byte_d}
use Rattle.digits.specs.Lists.{pack}
use Rattle.eval.specs.Nodes.{slot, c_of}
use Rattle.free.specs.Words.{is_leaf}
use Rattle.free.proofs.Slotted.{Covered, covered_split}
use Rattle.meaning.specs.Lowered.{Lowered}
use Rattle.lowering.specs.Lowering.{at, term_byte, operands_at, all_stand, kind_field, closures_before, lower_at, Filled}
use Rattle.lowering.specs.Agreement.{Scoped, Agrees, Valued}
use Rattle.lowering.proofs.Words.{term_small}
use Rattle.lowering.proofs.Filling.{none_before}
use Rattle.lowering.proofs.Terms.{slot_byte}
use Rattle.lowering.proofs.Places.{kind_field_at, print_p, range_c, assign_p, assign_n, assign_a, assign_b, assign_c, assign_d}
use Rattle.lowering.proofs.Expressions.{name_before, lowered_expression}
use Rattle.lowering.proofs.LeftSides.{left_coded}
use Rattle.lowering.proofs.Printing.{lowered_print}
use Rattle.prints.specs.Lowered.{PrintLowered}
use Rattle.actions.specs.Doing.{columns_of}
use Rattle.code.specs.Statements.{TestCode, RangeCode, AssignCode, PrintCode}
use Rattle.coded.proofs.Bytes.{named}
use Rattle.coded.proofs.Given.{Case, values_of, Place}
use Rattle.coded.proofs.Agreeing.{own_tokens, In, β, Clear, short, apart, clear_first, agrees, spelled, valued, filled}
use Rattle.coded.proofs.Scoping.{Closed, Counted, Placed, scoped, scoped_lefts, scoped_items, known_relation}

-- lists of no and of one name
no_names : (xs : List Text) → length xs ≡ 0 → xs ≡ []
no_names [] e = refl
no_names (x ∷ xs) e = absurd (omega arith)

one_name : (xs : List Text) → length xs ≡ 1 → (x : Text) × (xs ≡ x ∷ [])
one_name [] e = absurd (omega arith)
one_name (x ∷ []) e = (x, refl)
one_name (x ∷ y ∷ xs) e = absurd (omega arith)

first_in : (x : Text) → T (member x (x ∷ []))
unfolding member some_of
first_in x = or_left (same x x) false (same_refl x)

within : (xs ys : List Text) → subset xs ys ≡ true → (x : Text) → T (member x xs) → T (member x ys)
unfolding all_of member some_of
within [] ys e x m = absurd m
within (y ∷ xs) ys e x m = go (member y ys) refl e (within xs ys)
  where
    go : (b : Bool) → member y ys ≡ b → b && subset xs ys ≡ true → (subset xs ys ≡ true → (x : Text) → T (member x xs) → T (member x ys)) → T (member x ys)
    go false f g more = contradiction false g refl
    go true f g more = ⊎_elim (λ t. subst (λ (z : Text). T (member z ys)) (sym (same_eq x y t)) (subst T (sym f) tt)) (λ t. more g x t) (or_cases (same x y) (member x xs) m)

leaf_kinds : (is_leaf RELATION_NAME ≡ false) × (is_leaf ATTRIBUTE ≡ false) × (is_leaf (STRING + ATTRIBUTE) ≡ false) × (is_leaf BIND ≡ false)
unfolding is_leaf
leaf_kinds = (refl, refl, refl, refl)

range_slot : (b f : ℕ) → 64 ≤ b → b < 68 → f ≡ b - 63 + 8 * 0 → (f % 8 - 1) % 8 ≡ b - 64
range_slot b f l h e = omega arith

module _ (C : Case) (scope : List Text) (s k : ℕ) (names : List Text) (P : Place C scope s k names) where
  abbrev ts' : List Token
  ts' = own_tokens C scope s k names P

  abbrev I : Text → Bool
  I = In C scope s k names P

  abbrev v : Text → Bool
  v = C.w.variables

  abbrev b : Text → ℕ
  b = β C scope s k names P

  abbrev Covers : List Use → Type 0
  Covers us = Covered names v (apart C scope s k names P) us

  abbrev G : Agrees C.w ts' scope I b (Clear C scope s k names P) C.words P.made.codes P.made.fr s (suc k)
  G = agrees C scope s k names P

  abbrev N : Valued C.w ts' (values_of C)
  N = valued C scope s k names P

  abbrev F : Filled (lower_at (at C.words) (at P.made.codes) (at C.tokens) (at P.made.fr) (values_of C) (elements C.w) s) s (suc k) C.low C.low
  F = filled C scope s k names P

  abbrev Cl : ℕ → Type 0
  Cl = Clear C scope s k names P

  abbrev before : ℕ → ℕ
  before n = closures_before (at C.words) s n

  -- an expression of the statement
  lowered : (e : Expression) (n : ℕ) → 0 ≡ before n → Scoped C.w ts' scope I e → s ≤ n → n + size e ≤ suc k → Cl n → Has C.words n (flat e n) → Lowered C.w b scope C.low e n 0
  lowered e n c o l h cl x =
      lowered_expression C.w ts' scope I b Cl C.words P.made.codes C.tokens P.made.fr (values_of C) s (suc k) G N C.low C.low F e n 0 c o l h cl x

  none_first : 0 ≡ before s
  none_first = sym (none_before (at C.words) s s (omega arith))

  -- a word that is no closure stays so
  no_closure : (i : ℕ) → s ≤ i → i ≤ k → (kind_of (get_or C.words i 0) ≡ CLOSURE → ⊥) → kind_of (get_or C.low i 0) ≡ CLOSURE → ⊥
  unfolding kind_field
  no_closure i l h n z =
      go (eqb (kind_of (get_or C.words i 0)) TRUTH) (all_stand (at C.words) (at P.made.codes) (elements C.w) (q_of (get_or C.words i 0)) (p_of (get_or C.words i 0)))
      (sym (kind_field_at C.words P.made.codes C.tokens P.made.fr (values_of C) (elements C.w) s (suc k) C.low C.low F i l (omega arith)) ∙ z)
    where
      go : (p q : Bool) → cond p (cond q TRUTH FALSITY) (kind_of (get_or C.words i 0)) ≡ CLOSURE → ⊥
      go true true e = omega arith
      go true false e = omega arith
      go false q e = n e

  name_closure : (i K p q r : ℕ) → s ≤ i → i ≤ k → K < 256 → (K ≡ CLOSURE → ⊥) → get_or C.words i 0 ≡ word K p q r → kind_of (get_or C.low i 0) ≡ CLOSURE → ⊥
  name_closure i K p q r l h hK n e = no_closure i l h (λ z. n (sym (rw e (kind_word K p q r hK)) ∙ z))

  left_closure : (ps : List Term) (n i : ℕ) → s ≤ n → n + length ps ≤ k → Has C.words n (leaves ATTRIBUTE ps) → i < length ps → kind_of (get_or C.low (n + i) 0) ≡ CLOSURE → ⊥
  unfolding leaves Has
  left_closure [] n i l h x j = absurd (omega arith)
  left_closure (name t ∷ ps) n zero l h x j = let z : n + 0 ≡ n = omega arith in rw z (name_closure n ATTRIBUTE (number t) 0 0 l (omega arith) (omega arith) (λ y. omega arith) x.0)
  left_closure (string t ∷ ps) n zero l h x j = let z : n + 0 ≡ n = omega arith in rw z (name_closure n (STRING + ATTRIBUTE) (number t) 0 0 l (omega arith) (omega arith) (λ y. omega arith) x.0)
  left_closure (anything ∷ ps) n zero l h x j = let z : n + 0 ≡ n = omega arith in rw z (name_closure n ANYTHING 0 0 0 l (omega arith) (omega arith) (λ y. omega arith) x.0)
  left_closure (p ∷ ps) n (suc i) l h x j = let z : n + suc i ≡ n + 1 + i = omega arith in rw z (left_closure ps (n + 1) i (omega arith) (omega arith) x.1 (omega arith))

  -- after the words of a left-hand side no term stands before, and no closure
  after_lefts : (ps : List Term) (n : ℕ) → FormedLefts ps → s ≤ n → n + length ps ≤ k → Cl n → 0 ≡ before n → Has C.words n (leaves ATTRIBUTE ps) → Cl (n + length ps) × (0 ≡ before (n + length ps))
  unfolding FormedLefts leaves Has
  after_lefts [] n f l h cl z x = let e : n + 0 ≡ n = omega arith in rw e (cl, z)
  after_lefts (name t ∷ ps) n f l h cl z x =
      let e : n + suc (length ps) ≡ n + 1 + length ps = omega arith in
      let q = name_before C.w ts' scope I b Cl C.words P.made.codes C.tokens P.made.fr (values_of C) s (suc k) G N C.low C.low F n ATTRIBUTE (number t) 0 0 l x.0 (omega arith) (λ y. omega arith) in
      rw e (after_lefts ps (n + 1) f.1 (omega arith) (omega arith) (G.others n ATTRIBUTE (number t) 0 0 l (omega arith) (omega arith) leaf_kinds.1 x.0) (z ∙ sym q) x.1)
  after_lefts (string t ∷ ps) n f l h cl z x =
      let e : n + suc (length ps) ≡ n + 1 + length ps = omega arith in
      let q = name_before C.w ts' scope I b Cl C.words P.made.codes C.tokens P.made.fr (values_of C) s (suc k) G N C.low C.low F n (STRING + ATTRIBUTE) (number t) 0 0 l x.0 (omega arith) (λ y. omega arith) in
      rw e (after_lefts ps (n + 1) f.1 (omega arith) (omega arith) (G.others n (STRING + ATTRIBUTE) (number t) 0 0 l (omega arith) (omega arith) leaf_kinds.2 x.0) (z ∙ sym q) x.1)
  after_lefts (anything ∷ ps) n f l h cl z x = absurd f.0

  -- a test
  pub test_code : (e : Expression) → ScopedExpression C.kinds scope e → Shaped a_test e → OwnExpression C.ts e → Covers (in_expression e) → Closed v (closures e) → Counted v (counted_in e) → length (free v e) ≡ 0 → k ≡ s + size e → Has C.words s (flat e s)
      → TestCode C.w C.query C.low scope s k e
  test_code e S g o c cl ct f ek x = record {
    β = b;
    named = named scope names P.shallow (short C scope s k names P);
    own = ek;
    words = lowered e s none_first (scoped C scope s k names P e g s S o c cl ct (omega arith) (omega arith) x) (omega arith) (omega arith) (clear_first C scope s k names P) x;
    none = no_names (free v e) f;
  }

  one_digit : (xs : List Text) (a : Text) → xs ≡ a ∷ [] → pack (map (λ x. b x - 63) xs) ≡ b a - 63 + 8 * 0
  unfolding pack
  one_digit xs a ea = rw ea refl

  -- a FOR's set
  pub range_code : (i l t : ℕ) (e : Expression) → ScopedExpression C.kinds scope e → Shaped a_test e → OwnExpression C.ts e → Covers (in_expression e) → Closed v (closures e) → Counted v (counted_in e) → length (free v e) ≡ 1 → k ≡ s + 1 + size e
      → t < 65536 → l < 65536 → get_or C.words s 0 ≡ word BIND t 0 0 → Has C.words (s + 1) (flat e (s + 1)) → get_or C.words k 0 ≡ word RANGE t l i → RangeCode C.w C.query C.low scope s k e
  range_code i l t e S sh o c cl ct f ek ht hl y x own =
      let S' = scoped C scope s k names P e sh (s + 1) S o c cl ct (omega arith) (omega arith) x in
      let q = name_before C.w ts' scope I b Cl C.words P.made.codes C.tokens P.made.fr (values_of C) s (suc k) G N C.low C.low F s BIND t 0 0 (omega arith) y (omega arith) (λ z. omega arith) in
      let clear = G.others s BIND t 0 0 (omega arith) (omega arith) (omega arith) leaf_kinds.3 y in
      let A = G.frees e (s + 1) S' (omega arith) (omega arith) clear x in
      let (a, ea) = one_name (free v e) f in
      let m : I a ≡ true = A.inside a (subst (λ (xs : List Text). T (member a xs)) (sym ea) (first_in a)) in
      let g = G.slots a m in
      let j : k - 1 ≡ s + 1 + size e - 1 = omega arith in
      let val : get_or P.made.fr (k - 1) 0 ≡ b a - 63 + 8 * 0 = rw j (A.value ∙ one_digit (free v e) a ea) in
      let cc' : c_of (get_or C.low k 0) ≡ get_or P.made.fr (k - 1) 0 % 8 - 1 = range_c C.words P.made.codes C.tokens P.made.fr (values_of C) (elements C.w) s (suc k) C.low C.low F k RANGE t l i (omega arith) ht hl (omega arith) (omega arith) own refl in
      record {
        β = b;
        named = named scope names P.shallow (short C scope s k names P);
        own = ek;
        first = λ n h z. go n h z;
        words = lowered e (s + 1) (none_first ∙ sym q) S' (omega arith) (omega arith) clear x;
        attribute = a;
        one = ea;
        place = slot_byte (b a) g.0 (omega (arith, g.1)) ∙ ap slot (sym (rw cc' (range_slot (b a) (get_or P.made.fr (k - 1) 0) g.0 g.1 val)));
      }
    where
      go : (n : ℕ) → n < 1 → kind_of (get_or C.low (s + n) 0) ≡ CLOSURE → ⊥
      go zero h = let z : s + 0 ≡ s = omega arith in rw z (name_closure s BIND t 0 0 (omega arith) (omega (arith, ek)) (omega arith) (λ y. omega arith) y)
      go (suc n) h = absurd (omega arith)

  -- the columns of an assignment
  abbrev byte : ℕ → ℕ
  byte n = term_byte (at P.made.codes) (get_or C.words n 0)

  columns_are : (i n : ℕ) → n < 65536 → get_or C.words k 0 ≡ word ASSIGN s n i → columns_of (get_or C.low k 0) ≡ byte (s + 1) ∷ byte (s + 1 + 1) ∷ byte (s + 1 + 2) ∷ byte (s + 1 + 3) ∷ []
  unfolding operands_at
  columns_are i n hn own =
      let small : (j : ℕ) → byte j < 256 = λ j. term_small (at C.words) (at P.made.codes) (at C.tokens) (at P.made.fr) 0 (get_or C.words j 0) in
      let hs : s < 65536 = omega (arith, P.order, P.inside, C.small) in
      let ea = assign_a C.words P.made.codes C.tokens P.made.fr (values_of C) (elements C.w) s (suc k) C.low C.low F k ASSIGN s n i (omega arith) hs hn P.order (omega arith) own refl in
      let eb = assign_b C.words P.made.codes C.tokens P.made.fr (values_of C) (elements C.w) s (suc k) C.low C.low F k ASSIGN s n i (omega arith) hs hn P.order (omega arith) own refl in
      let ec = assign_c C.words P.made.codes C.tokens P.made.fr (values_of C) (elements C.w) s (suc k) C.low C.low F k ASSIGN s n i (omega arith) hs hn P.order (omega arith) own refl in
      let ed = assign_d C.words P.made.codes C.tokens P.made.fr (values_of C) (elements C.w) s (suc k) C.low C.low F k ASSIGN s n i (omega arith) hs hn P.order (omega arith) own refl in
      let A = byte (s + 1) in
      let B = byte (s + 1 + 1) in
      let D = byte (s + 1 + 2) in
      let E = byte (s + 1 + 3) in
      ap₂ (λ (p q : List ℕ). p ++ q)
      (ap₂ (λ (p q : ℕ). p ∷ q ∷ []) (ea ∙ byte_a A B D E (small (s + 1))) (eb ∙ byte_b A B D E (small (s + 1)) (small (s + 1 + 1))))
      (ap₂ (λ (p q : ℕ). p ∷ q ∷ []) (ec ∙ byte_c A B D E (small (s + 1)) (small (s + 1 + 1)) (small (s + 1 + 2))) (ed ∙ byte_d A B D E (small (s + 1)) (small (s + 1 + 1)) (small (s + 1 + 2))))

  pub assign_code : (i : ℕ) (r : Token) (ps : List Term) (e : Expression) → IsRelation C.kinds r.text (length ps) → AllNamed (IsAttribute C.kinds) ps → ScopedExpression C.kinds scope e → Shaped a_test e → FormedLefts ps → Placed C.w.universe ps
      → OwnName C.ts r → OwnTerms C.ts ps → OwnExpression C.ts e → Covers (in_terms attribute_only ps ++ in_expression e) → Closed v (closures e) → Counted v (counted_in e) → subset (free v e) (attributes v ps) ≡ true → k ≡ s + 1 + length ps + size e
      → get_or C.words s 0 ≡ word RELATION_NAME (number r) (length ps) 0 → Has C.words (s + 1) (leaves ATTRIBUTE ps) → Has C.words (s + 1 + length ps) (flat e (s + 1 + length ps)) → get_or C.words k 0 ≡ word ASSIGN s (length ps) i
      → AssignCode C.w C.query C.low scope s k r ps e
  assign_code i r ps e R L S sh f u or op oe c cl ct sub ek y yl x own =
      let d = covered_split names v (apart C scope s k names P) (in_terms attribute_only ps) (in_expression e) c in
      let K = known_relation C scope s k names P r ps s R or (omega arith) (omega arith) y in
      let lefts = scoped_lefts C scope s k names P ps (s + 1) L f u op d.0 (omega arith) (omega arith) yl in
      let S' = scoped C scope s k names P e sh (s + 1 + length ps) S oe d.1 cl ct (omega arith) (omega arith) x in
      let hs : s < 65536 = omega (arith, P.order, P.inside, C.small) in
      let hn : length ps < 65536 = omega (arith, K.short) in
      let hr : number r < 65536 = omega (arith, or.inside, C.few) in
      let q = name_before C.w ts' scope I b Cl C.words P.made.codes C.tokens P.made.fr (values_of C) s (suc k) G N C.low C.low F s RELATION_NAME (number r) (length ps) 0 (omega arith) y (omega arith) (λ z. omega arith) in
      let clear = G.others s RELATION_NAME (number r) (length ps) 0 (omega arith) (omega arith) (omega arith) leaf_kinds.0 y in
      let after = after_lefts ps (s + 1) f (omega arith) (omega arith) clear (none_first ∙ sym q) yl in
      let pr : p_of (get_or C.words s 0) ≡ number r = rw y (p_word RELATION_NAME (number r) (length ps) 0 (omega arith) hr) in
      let m : place_of r.text C.w.relations % 65536 ≡ place_of r.text C.w.relations = omega (arith, K.known, C.few_relations) in
      let n : length ps % 256 ≡ length ps = omega (arith, K.short) in
      record {
        β = b;
        named = named scope names P.shallow (short C scope s k names P);
        own = ek;
        first = go;
        words = lowered e (s + 1 + length ps) after.1 S' (omega arith) (omega arith) after.0 x;
        number = assign_p C.words P.made.codes C.tokens P.made.fr (values_of C) (elements C.w) s (suc k) C.low C.low F k ASSIGN s (length ps) i (omega arith) hs hn P.order (omega arith) own refl
            ∙ rw (pr, G.relations r K.own K.known) m;
        known = K.known;
        arity = K.arity;
        short = K.short;
        count = assign_n C.words P.made.codes C.tokens P.made.fr (values_of C) (elements C.w) s (suc k) C.low C.low F k ASSIGN s (length ps) i (omega arith) hs hn P.order (omega arith) own refl ∙ n;
        In = I;
        slots = λ z h. ((G.slots z h).0, omega (arith, (G.slots z h).1));
        columns = rw (columns_are i (length ps) hn own) (left_coded C.w ts' scope I b Cl C.words P.made.codes P.made.fr s (suc k) G ps (s + 1) K.short lefts yl);
        covered = within (free v e) (attributes v ps) sub;
      }
    where
      go : (n : ℕ) → n < 1 + length ps → kind_of (get_or C.low (s + n) 0) ≡ CLOSURE → ⊥
      go zero h = let z : s + 0 ≡ s = omega arith in rw z (name_closure s RELATION_NAME (number r) (length ps) 0 (omega arith) (omega (arith, ek)) (omega arith) (λ y. omega arith) y)
      go (suc n) h = let z : s + suc n ≡ s + 1 + n = omega arith in rw z (left_closure ps (s + 1) n (omega arith) (omega (arith, ek)) yl (omega arith))

  pub print_code : (i : ℕ) (is : List Item) → Laws.ScopedItems C.kinds scope is → FormedItems is → ShapedItems is → OwnItems C.ts is → Covers (gather in_item is) → Closed v (gather closures (gather item_expressions is)) → Counted v (gather counted_in (gather item_expressions is)) → k ≡ s + size_items is → i < 65536
      → Has C.words s (flat_items is s) → get_or C.words k 0 ≡ word PRINT s 0 i → PrintCode C.w C.query C.low scope s k is
  print_code i is S f g o c cl ct ek hi x own =
      let S' = scoped_items C scope s k names P is s S f g o c cl ct (omega arith) (omega arith) x in
      let hs : s < 65536 = omega (arith, P.order, P.inside, C.small) in
      record {
        β = b;
        named = named scope names P.shallow (short C scope s k names P);
        own = ek;
        first = print_p C.words P.made.codes C.tokens P.made.fr (values_of C) (elements C.w) s (suc k) C.low C.low F k PRINT s 0 i (omega arith) hs (omega arith) P.order (omega arith) own refl;
        words = subst (λ (j : ℕ). PrintLowered C.w b scope C.low C.query is j) (sym ek) (lowered_print C.w ts' scope I b Cl C.words P.made.codes C.tokens P.made.fr (values_of C) s (suc k) G N C.query (spelled C scope s k names P) C.low C.low F i is hi S' (omega arith) (clear_first C scope s k names P) x (rw (← ek) own));
      }
