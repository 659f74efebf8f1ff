-- The tests of a statement's words are the definition's tests of its closures, of what it counts and of its items.
use Prim.Native.Nat.{ℕ, suc, ◌+◌, ◌-◌, ◌<◌, ◌≤◌}
use mathlib.Core.Path.{◌≡◌, refl, sym, ap, ◌∙◌}
use mathlib.Core.Bool.{Bool, true, false, cond, ◌&&◌, and_assoc, and_comm, and-true}
use mathlib.Core.List.{List, [], ◌∷◌, ◌++◌, map}
use native.Mathlib.Omega.{arith}
use borrow.Author.Tests.{ne_eqb}
use lib.Dec.{eqb, leb}
use lib.ListN.{length, get_or, length-map}
use Rattle.definition.specs.Text.{Text, member, all_of, gather}
use Rattle.definition.specs.Limits.{PRINTED_ATTRIBUTES}
use Rattle.definition.proofs.ListLaws.{all_append, gather_append, gather_one}
use Rattle.definition.specs.Token.{Token}
use Rattle.definition.specs.Syntax.{Term, name, string, anything, Expression, atom, truth, falsity, compare, matching, negation, conjunction, disjunction, implication, equivalence, exists, for_all, closure_of, compare_relations, literal, count_of, sum_of, ratio_of, compare_figures}
use Rattle.definition.specs.Syntax as Syntax
use Rattle.definition.specs.Syntax.{Item, rows, line_end, amount}
use Rattle.definition.specs.Names.{Use, attribute_only, variable_only, in_terms, in_expression, in_item, attributes, free, subset, closures, counted_in, item_expressions}
use Rattle.words.specs.Fields.{word, kind_of, RELATION_NAME, ATTRIBUTE, TERM, WORD, BIND, RANGE, ASSIGN, TEST, PRINT, ANYTHING, ATOM, TRUTH, FALSITY, ORDER, NEGATION, CONJUNCTION, DISJUNCTION, IMPLICATION, EQUIVALENCE, EXISTS, FOR_ALL, CLOSURE, COMPARISON, MATCH, COUNT, LITERAL, SUM, RATIO, FIGURES, AMOUNT, ROWS, SAY, LINE_END, STRING}
use Rattle.words.specs.Raw.{number, sign_number, leaf, leaves, size, flat, size_item, flat_item, size_items, flat_items}
use Rattle.words.specs.Tokens.{OwnName, OwnTerm, OwnTerms, OwnExpression, OwnItem, OwnItems}
use Rattle.words.proofs.FieldLaws.{kind_word, p_word, q_word}
use Rattle.words.proofs.Sizes.{length_leaves, length_flat, length_item}
use Rattle.digits.specs.Lists.{add, adds, pack}
use Rattle.digits.specs.Packed.{plus, count}
use Rattle.digits.proofs.Listing.{Listed, listed_add}
use Rattle.digits.proofs.Packing.{count_law, plus_law, inside_law}
use Rattle.slots.specs.Slots.{takes}
use Rattle.free.specs.Words.{is_leaf, at, terms, Filled}
use Rattle.free.proofs.Slotted.{pos_le, slot, digit, TermsIn, Covered, covered_split, covered_terms, all_attributes, map_within}
use Rattle.words.specs.Standing.{Has}
use Rattle.words.proofs.Places.{has_append, has_two, has_one}
use Rattle.free.proofs.Trees as Trees
use Rattle.rows.proofs.Loops.{left_step}
use Rattle.rows.specs.Tests.{limit, fits, all_fit, left_from, same_digits, own_fits}

as_both : (a b : Bool) → cond a b false ≡ a && b
as_both true b = refl
as_both false b = refl

four : (a b c d : Bool) → (a && b) && (c && d) ≡ (a && c) && (b && d)
four true b true d = refl
four true true false d = refl
four true false false d = refl
four false b c d = refl

-- one test more before the first of two, or between them
one_before : (a b c : Bool) → (a && b) && c ≡ (c && a) && b
one_before a b true = and-true (a && b)
one_before true true false = refl
one_before true false false = refl
one_before false b false = refl

one_between : (a b c : Bool) → (a && b) && c ≡ a && (c && b)
one_between true b c = and_comm b c
one_between false b c = refl

-- "TC and TCFAST two", and at most 3 where an expression is printed or counted
module _ (vs : Text → Bool) where
  abbrev pub two : Expression → Bool
  two e = eqb (length (free vs e)) 2

  abbrev pub printed : Expression → Bool
  printed e = leb (length (free vs e)) PRINTED_ATTRIBUTES

  -- of the closures of expressions and of what they count
  abbrev pub limits : List Expression → List Expression → Bool
  limits cs ns = all_of two cs && all_of printed ns

  limits_append : (cs ns ds ms : List Expression) → limits cs ns && limits ds ms ≡ limits (cs ++ ds) (ns ++ ms)
  limits_append cs ns ds ms =
      rw (all_append two cs ds, all_append printed ns ms) (four (all_of two cs) (all_of printed ns) (all_of two ds) (all_of printed ms))

  abbrev pub limited : List Expression → Bool
  limited es = limits (gather closures es) (gather counted_in es)

  pub limited_one : (e : Expression) → limits (closures e) (counted_in e) ≡ limited (e ∷ [])
  limited_one e = rw (gather_one closures e, gather_one counted_in e) refl

  limited_append : (xs ys : List Expression) → limited (xs ++ ys) ≡ limited xs && limited ys
  limited_append xs ys =
      rw (gather_append closures xs ys, gather_append counted_in xs ys) (sym (limits_append (gather closures xs) (gather counted_in xs) (gather closures ys) (gather counted_in ys)))

  -- of the items of a PRINT
  abbrev pub tests : List Expression → Bool
  tests es = all_of printed es && limited es

  tests_append : (xs ys : List Expression) → tests (xs ++ ys) ≡ tests xs && tests ys
  tests_append xs ys = rw (all_append printed xs ys, limited_append xs ys) (four (all_of printed xs) (all_of printed ys) (limited xs) (limited ys))

  tests_one : (e : Expression) → tests (e ∷ []) ≡ limits (closures e) (counted_in e) && printed e
  unfolding all_of
  tests_one e = rw (and-true (printed e), ← limited_one e) (and_comm (printed e) (limits (closures e) (counted_in e)))

  tests_none : tests [] ≡ true
  unfolding all_of gather
  tests_none = refl

-- a kind whose words no limit holds of
abbrev Unlimited : ℕ → Type 0
Unlimited c = (a b : ℕ) → limit c a b ≡ true

unlimited : (c : ℕ) → (c ≡ CLOSURE → ⊥) → (c ≡ COUNT → ⊥) → (c ≡ AMOUNT → ⊥) → (c ≡ ROWS → ⊥) → Unlimited c
unfolding limit
unlimited c x y z w a b = rw (ne_eqb c CLOSURE x, ne_eqb c COUNT y, ne_eqb c AMOUNT z, ne_eqb c ROWS w) refl

module _ (F : ℕ → ℕ) where
  fit_cons : (w : ℕ) (ws : List ℕ) (j : ℕ) → all_fit F (w ∷ ws) j ≡ fits F j w && all_fit F ws (j + 1)
  unfolding all_fit
  fit_cons w ws j = go (fits F j w)
    where
      go : (b : Bool) → cond b (all_fit F ws (j + 1)) false ≡ b && all_fit F ws (j + 1)
      go true = refl
      go false = refl

  fit_nil : (j : ℕ) → all_fit F [] j ≡ true
  unfolding all_fit
  fit_nil j = refl

  pub fit_append : (xs ys : List ℕ) (j m : ℕ) → j + length xs ≡ m → all_fit F (xs ++ ys) j ≡ all_fit F xs j && all_fit F ys m
  fit_append [] ys j m e = let i : j ≡ m = omega (arith, e) in rw (fit_nil j, i) refl
  fit_append (x ∷ xs) ys j m e =
      fit_cons x (xs ++ ys) j ∙ rw (fit_append xs ys (j + 1) m (omega (arith, e)), fit_cons x xs j) (sym (and_assoc (fits F j x) (all_fit F xs (j + 1)) (all_fit F ys m)))

  fit_one : (c p q r j : ℕ) → c < 256 → Unlimited c → fits F j (word c p q r) ≡ true
  unfolding fits
  fit_one c p q r j h u = rw (kind_word c p q r h) (u _ _)

  fit_skip : (c p q r : ℕ) (ws : List ℕ) (j : ℕ) → c < 256 → Unlimited c → all_fit F (word c p q r ∷ ws) j ≡ all_fit F ws (j + 1)
  fit_skip c p q r ws j h u = fit_cons _ ws j ∙ rw (fit_one c p q r j h u) refl

  -- the last word, at m
  fit_end : (xs : List ℕ) (w j m : ℕ) → j + length xs ≡ m → all_fit F (xs ++ (w ∷ [])) j ≡ all_fit F xs j && fits F m w
  fit_end xs w j m e = fit_append xs (w ∷ []) j m e ∙ ap (λ (b : Bool). all_fit F xs j && b) (fit_cons w [] m ∙ rw (fit_nil (m + 1)) (and-true (fits F m w)))

  fit_last : (xs : List ℕ) (c p q r j : ℕ) → c < 256 → Unlimited c → all_fit F (xs ++ (word c p q r ∷ [])) j ≡ all_fit F xs j
  fit_last xs c p q r j h u = fit_end xs (word c p q r) j (j + length xs) refl ∙ rw (fit_one c p q r (j + length xs) h u) (and-true (all_fit F xs j))

  pub fit_leaves : (k : ℕ) (ps : List Term) (j : ℕ) → k < 8 → all_fit F (leaves k ps) j ≡ true
  unfolding leaves limit
  fit_leaves k [] j h = fit_nil j
  fit_leaves k (name t ∷ ps) j h = fit_skip k (number t) 0 0 (leaves k ps) j (omega arith) (unlimited k (λ e. omega arith) (λ e. omega arith) (λ e. omega arith) (λ e. omega arith)) ∙ fit_leaves k ps (j + 1) h
  fit_leaves k (string t ∷ ps) j h =
      fit_skip (STRING + k) (number t) 0 0 (leaves k ps) j (omega arith) (unlimited (STRING + k) (λ e. omega arith) (λ e. omega arith) (λ e. omega arith) (λ e. omega arith)) ∙ fit_leaves k ps (j + 1) h
  fit_leaves k (anything ∷ ps) j h = fit_skip ANYTHING 0 0 0 (leaves k ps) j (omega arith) (λ a b. refl) ∙ fit_leaves k ps (j + 1) h

module _ (ts : List Token) (few : length ts < 65536) (words fr : List ℕ) (s N : ℕ) (D : ℕ → ℕ) (filled : Filled words D fr s N) (small : N < 65536)
    (names : List Text) (short : length names ≤ 4) (vs : Text → Bool) (loops : (x : Text) → vs x ≡ true → member x names ≡ false)
    (named_digit : (k : ℕ) (t : Token) → takes k ≡ true → k < 256 → OwnName ts t → D (word k (number t) 0 0) ≡ slot names t.text)
    (other_digit : (k p : ℕ) → takes k ≡ false → k < 256 → D (word k p 0 0) ≡ 0) where
  abbrev pub Bottom : Expression → ℕ → Type 0
  Bottom = Trees.Bottom ts few words fr s N D filled small names short vs loops named_digit other_digit

  abbrev pub before : ℕ → ℕ
  before n = terms (at words) (at fr) s n

  abbrev pub covered : List Use → Type 0
  covered us = Covered names vs loops us

  abbrev bottom : (e : Expression) (n : ℕ) → OwnExpression ts e → covered (in_expression e) → s ≤ n → n + size e ≤ N → before n ≡ 0 → Has words n (flat e n) → Bottom e n
  bottom = Trees.bottom ts few words fr s N D filled small names short vs loops named_digit other_digit

  abbrev after : (n c p q r : ℕ) → s ≤ n → c < 256 → is_leaf c ≡ false → get_or words n 0 ≡ word c p q r → before (n + 1) ≡ 0
  after = Trees.after_other ts few words fr s N D filled small names short vs loops named_digit other_digit

  pub count_free : (e : Expression) (n : ℕ) → Bottom e n → count (get_or fr (n + size e - 1) 0) ≡ length (free vs e)
  count_free e n b = ap count b.value ∙ count_law (map (slot names) (free vs e)) b.listed ∙ length-map (free vs e) (slot names)

  -- the tests of an expression's words are the definition's tests of its closures and of what it counts
  abbrev pub Fitted : Expression → ℕ → Type 0
  Fitted e n = all_fit (at fr) (flat e n) n ≡ limits vs (closures e) (counted_in e)

  fit_pair : (a b : Expression) (n c p q r : ℕ) → c < 256 → Unlimited c → OwnExpression ts a → covered (in_expression a ++ in_expression b) → s ≤ n → n + size a + size b ≤ N → before n ≡ 0 →
      Has words n (flat a n ++ (flat b (n + size a) ++ (word c p q r ∷ []))) →
      (covered (in_expression a) → n + size a ≤ N → Has words n (flat a n) → Fitted a n) →
      (covered (in_expression b) → s ≤ n + size a → n + size a + size b ≤ N → before (n + size a) ≡ 0 → Has words (n + size a) (flat b (n + size a)) → Fitted b (n + size a)) →
      all_fit (at fr) (flat a n ++ (flat b (n + size a) ++ (word c p q r ∷ []))) n ≡ limits vs (closures a ++ closures b) (counted_in a ++ counted_in b)
  fit_pair a b n c p q r h x o u l m cl w first second =
      let t = has_two words n (word c p q r) a b w in
      let v = covered_split names vs loops (in_expression a) (in_expression b) u in
      let A = bottom a n o v.0 l (omega arith) cl t.left in
      fit_append (at fr) (flat a n) _ n (n + size a) (omega (arith, length_flat a n))
      ∙ rw (first v.0 (omega arith) t.left, fit_last (at fr) (flat b (n + size a)) c p q r (n + size a) h x, second v.1 (omega arith) m A.ended t.right)
      (limits_append vs (closures a) (counted_in a) (closures b) (counted_in b))

  fit_quantifier : (a : Expression) (x : Token) (n c p q : ℕ) → c < 256 → Unlimited c → s ≤ n → n + 1 + size a ≤ N →
      get_or words n 0 ≡ word ATTRIBUTE (number x) 0 0 → Has words (n + 1) (flat a (n + 1) ++ (word c p q 0 ∷ [])) →
      (s ≤ n + 1 → n + 1 + size a ≤ N → before (n + 1) ≡ 0 → Has words (n + 1) (flat a (n + 1)) → Fitted a (n + 1)) →
      all_fit (at fr) (word ATTRIBUTE (number x) 0 0 ∷ (flat a (n + 1) ++ (word c p q 0 ∷ []))) n ≡ limits vs (closures a) (counted_in a)
  unfolding limit
  fit_quantifier a x n c p q h y l m r w inner =
      fit_skip (at fr) ATTRIBUTE (number x) 0 0 _ n (omega arith) (λ a b. refl) ∙ fit_last (at fr) (flat a (n + 1)) c p q 0 (n + 1) h y
      ∙ inner (omega arith) m
      (after n ATTRIBUTE (number x) 0 0 l (omega arith) (Trees.not_leaf ATTRIBUTE (λ e. omega arith) (λ e. omega arith) (λ e. omega arith)) r)
      (has_one words (n + 1) _ a w).inner

  -- a word that limits its operand, which stands just before it
  operand_fits : (e : Expression) (n c : ℕ) → c < 256 → n + size e < 65536 → Bottom e n → fits (at fr) (n + size e) (word c (n + size e - 1) 0 0) ≡ limit c (length (free vs e)) (length (free vs e))
  unfolding fits
  operand_fits e n c h l b = rw (kind_word c (n + size e - 1) 0 0 h, p_word c (n + size e - 1) 0 0 h (omega arith), count_free e n b) refl

  fit_operand : (a : Expression) (n c : ℕ) → c < 256 → OwnExpression ts a → covered (in_expression a) → s ≤ n → n + size a ≤ N → before n ≡ 0 → Has words n (flat a n) → Fitted a n →
      all_fit (at fr) (flat a n ++ (word c (n + size a - 1) 0 0 ∷ [])) n ≡ limits vs (closures a) (counted_in a) && limit c (length (free vs a)) (length (free vs a))
  fit_operand a n c hc o u l h cl w f =
      fit_end (at fr) (flat a n) _ n (n + size a) (omega (arith, length_flat a n)) ∙ rw (f, operand_fits a n c hc (omega arith) (bottom a n o u l h cl w)) refl

  pub fit_expression : (e : Expression) (n : ℕ) → OwnExpression ts e → covered (in_expression e) → s ≤ n → n + size e ≤ N → before n ≡ 0 → Has words n (flat e n) → Fitted e n
  unfolding size flat closures counted_in in_expression OwnExpression Has Covered all_of limit
  fit_expression (atom r ps) n o c l h cl w =
      fit_skip (at fr) RELATION_NAME _ _ 0 _ n (omega arith) (λ a b. refl) ∙ fit_last (at fr) (leaves TERM ps) ATOM _ _ 0 (n + 1) (omega arith) (λ a b. refl) ∙ fit_leaves (at fr) TERM ps (n + 1) (omega arith)
  fit_expression (truth ps) n o c l h cl w = fit_last (at fr) (leaves TERM ps) TRUTH _ _ 0 n (omega arith) (λ a b. refl) ∙ fit_leaves (at fr) TERM ps n (omega arith)
  fit_expression (falsity ps) n o c l h cl w = fit_last (at fr) (leaves TERM ps) FALSITY _ _ 0 n (omega arith) (λ a b. refl) ∙ fit_leaves (at fr) TERM ps n (omega arith)
  fit_expression (compare g p q) n o c l h cl w =
      unfold leaves in fit_last (at fr) (leaves TERM (p ∷ q ∷ [])) ORDER _ _ 0 n (omega arith) (λ a b. refl) ∙ fit_leaves (at fr) TERM (p ∷ q ∷ []) n (omega arith)
  fit_expression (matching t p) n o c l h cl w =
      unfold leaves in
      fit_last (at fr) (_ ∷ _ ∷ _ ∷ []) DISJUNCTION _ _ 0 n (omega arith) (λ a b. refl)
      ∙ fit_last (at fr) (_ ∷ _ ∷ []) MATCH _ 32 n n (omega arith) (λ a b. refl)
      ∙ fit_last (at fr) (leaves TERM (p ∷ [])) MATCH _ 0 n n (omega arith) (λ a b. refl)
      ∙ fit_leaves (at fr) TERM (p ∷ []) n (omega arith)
  fit_expression (negation a) n o c l h cl w =
      fit_last (at fr) (flat a n) NEGATION _ 0 0 n (omega arith) (λ a b. refl) ∙ fit_expression a n o c l (omega arith) cl (has_one words n _ a w).inner
  fit_expression (conjunction a b) n o c l h cl w =
      fit_pair a b n CONJUNCTION _ _ 0 (omega arith) (λ a b. refl) o.0 c l (omega arith) cl w (λ u i v. fit_expression a n o.0 u l i cl v) (fit_expression b (n + size a) o.1)
  fit_expression (disjunction a b) n o c l h cl w =
      fit_pair a b n DISJUNCTION _ _ 0 (omega arith) (λ a b. refl) o.0 c l (omega arith) cl w (λ u i v. fit_expression a n o.0 u l i cl v) (fit_expression b (n + size a) o.1)
  fit_expression (implication a b) n o c l h cl w =
      fit_pair a b n IMPLICATION _ _ 0 (omega arith) (λ a b. refl) o.0 c l (omega arith) cl w (λ u i v. fit_expression a n o.0 u l i cl v) (fit_expression b (n + size a) o.1)
  fit_expression (equivalence a b) n o c l h cl w =
      fit_pair a b n EQUIVALENCE _ _ 0 (omega arith) (λ a b. refl) o.0 c l (omega arith) cl w (λ u i v. fit_expression a n o.0 u l i cl v) (fit_expression b (n + size a) o.1)
  fit_expression (compare_relations g a b) n o c l h cl w =
      fit_pair a b n COMPARISON _ _ (sign_number g) (omega arith) (λ a b. refl) o.0 c l (omega arith) cl w (λ u i v. fit_expression a n o.0 u l i cl v) (fit_expression b (n + size a) o.1)
  fit_expression (exists x a) n o c l h cl w =
      fit_quantifier a x n EXISTS _ _ (omega arith) (λ a b. refl) l (omega arith) w.0 w.1 (fit_expression a (n + 1) o.1 c.1)
  fit_expression (for_all x a) n o c l h cl w =
      fit_quantifier a x n FOR_ALL _ _ (omega arith) (λ a b. refl) l (omega arith) w.0 w.1 (fit_expression a (n + 1) o.1 c.1)
  fit_expression (closure_of a) n o c l h cl w =
      let t = (has_one words n _ a w).inner in
      fit_operand a n CLOSURE (omega arith) o c l (omega arith) cl t (fit_expression a n o c l (omega arith) cl t) ∙ one_before (all_of (two vs) (closures a)) (all_of (printed vs) (counted_in a)) (two vs a)
  fit_expression (literal t) n o c l h cl w = fit_skip (at fr) LITERAL _ 0 0 [] n (omega arith) (λ a b. refl) ∙ fit_nil (at fr) (n + 1)
  fit_expression (count_of a) n o c l h cl w =
      let t = (has_one words n _ a w).inner in
      fit_operand a n COUNT (omega arith) o c l (omega arith) cl t (fit_expression a n o c l (omega arith) cl t) ∙ one_between (all_of (two vs) (closures a)) (all_of (printed vs) (counted_in a)) (printed vs a)
  fit_expression (sum_of a b) n o c l h cl w =
      fit_pair a b n SUM _ _ 0 (omega arith) (λ a b. refl) o.0 c l (omega arith) cl w (λ u i v. fit_expression a n o.0 u l i cl v) (fit_expression b (n + size a) o.1)
  fit_expression (ratio_of a b) n o c l h cl w =
      fit_pair a b n RATIO _ _ 0 (omega arith) (λ a b. refl) o.0 c l (omega arith) cl w (λ u i v. fit_expression a n o.0 u l i cl v) (fit_expression b (n + size a) o.1)
  fit_expression (compare_figures g a b) n o c l h cl w =
      fit_pair a b n FIGURES _ _ (sign_number g) (omega arith) (λ a b. refl) o.0 c l (omega arith) cl w (λ u i v. fit_expression a n o.0 u l i cl v) (fit_expression b (n + size a) o.1)

  anything_clear : (n : ℕ) → s ≤ n → n < N → before n ≡ 0 → get_or words n 0 ≡ word ANYTHING 0 0 0 → before (n + 1) ≡ 0
  unfolding add
  anything_clear n l h cl x =
      Trees.leaf_free ts few words fr s N D filled small names short vs loops named_digit other_digit n anything [] l h tt x Trees.nil_listed
      (cl ∙ sym Trees.pack_nil)
      ∙ Trees.pack_nil

  -- words that are no terms leave nothing before what follows
  pub leaves_clear : (k : ℕ) (ps : List Term) (n : ℕ) → k < 8 → is_leaf k ≡ false → is_leaf (STRING + k) ≡ false → s ≤ n → n + length ps ≤ N → before n ≡ 0 → Has words n (leaves k ps) → before (n + length ps) ≡ 0
  unfolding leaves Has
  leaves_clear k [] n hk a b l h cl w = let e : n + 0 ≡ n = omega arith in rw e cl
  leaves_clear k (p ∷ ps) n hk a b l h cl w =
      let e : n + suc (length ps) ≡ n + 1 + length ps = omega arith in
      rw e (leaves_clear k ps (n + 1) hk a b (omega arith) (omega arith) (one p w.0) w.1)
    where
      one : (p : Term) → get_or words n 0 ≡ leaf k p → before (n + 1) ≡ 0
      one (name t) x = after n k (number t) 0 0 l (omega arith) a x
      one (string t) x = after n (STRING + k) (number t) 0 0 l (omega arith) b x
      one anything x = anything_clear n l (omega arith) cl x

  -- an item's own word, after the words of its expression
  item_fits : (e : Expression) (n c m q : ℕ) → c < 256 → ((a b : ℕ) → limit c a b ≡ leb b 3) → OwnExpression ts e → covered (in_expression e) → s ≤ n → n + size e ≤ N → before n ≡ 0 → Has words n (flat e n) →
      all_fit (at fr) (flat e n ++ (word c m q 0 ∷ [])) n ≡ tests vs (e ∷ [])
  unfolding fits
  item_fits e n c m q hc k o u l h cl w =
      fit_end (at fr) (flat e n) _ n (n + size e) (omega (arith, length_flat e n))
      ∙ rw (fit_expression e n o u l h cl w, kind_word c m q 0 hc, k, count_free e n (bottom e n o u l h cl w)) (sym (tests_one vs e))

  -- what is shown of items whose words stand from n on
  pub record Fit (ws : List ℕ) (n m : ℕ) (es : List Expression) : Type 0 where
    pub fit : all_fit (at fr) ws n ≡ tests vs es
    pub clear : before m ≡ 0

  fit_item : (i : Item) (n : ℕ) → OwnItem ts i → covered (in_item i) → s ≤ n → n + size_item i ≤ N → before n ≡ 0 → Has words n (flat_item i n) → Fit (flat_item i n) n (n + size_item i) (item_expressions i)
  unfolding size_item flat_item in_item OwnItem Has is_leaf limit
  fit_item (rows ps e) n o c l h cl w =
      let m = n + length ps in
      let a = has_append words n (leaves WORD ps) _ w in
      let b = has_one words m _ e (rw (length_leaves WORD ps) at a.1) in
      let u = covered_split names vs loops (in_terms variable_only ps) (in_expression e) c in
      let clear = leaves_clear WORD ps n (omega arith) refl refl l (omega arith) cl a.0 in
      let j : m + size e + 1 ≡ n + (length ps + (size e + 1)) = omega arith in
      record {
        fit = fit_append (at fr) (leaves WORD ps) _ n m (omega (arith, length_leaves WORD ps))
            ∙ rw (fit_leaves (at fr) WORD ps n (omega arith)) (item_fits e m ROWS n (length ps) (omega arith) (λ a b. refl) o.1 u.1 (omega arith) (omega arith) clear b.inner);
        clear = rw (← j) (after (m + size e) ROWS n (length ps) 0 (omega arith) (omega arith) refl b.root);
      }
  fit_item (Syntax.word p) n o c l h cl w =
      let j : n + 1 + 1 ≡ n + 2 = omega arith in
      record {
        fit = unfold leaves in fit_last (at fr) (leaves WORD (p ∷ [])) SAY n 0 0 n (omega arith) (λ a b. refl) ∙ fit_leaves (at fr) WORD (p ∷ []) n (omega arith) ∙ sym (tests_none vs);
        clear = rw (← j) (after (n + 1) SAY n 0 0 (omega arith) (omega arith) refl w.1.0);
      }
  fit_item line_end n o c l h cl w =
      record {
        fit = fit_skip (at fr) LINE_END 0 0 0 [] n (omega arith) (λ a b. refl) ∙ fit_nil (at fr) (n + 1) ∙ sym (tests_none vs);
        clear = after n LINE_END 0 0 0 l (omega arith) refl w.0;
      }
  fit_item (amount e) n o c l h cl w =
      let t = has_one words n _ e w in
      let j : n + size e + 1 ≡ n + (size e + 1) = omega arith in
      record {
        fit = item_fits e n AMOUNT n 0 (omega arith) (λ a b. refl) o c l (omega arith) cl t.inner;
        clear = rw (← j) (after (n + size e) AMOUNT n 0 0 (omega arith) (omega arith) refl t.root);
      }

  pub fit_items : (is : List Item) (n : ℕ) → OwnItems ts is → covered (gather in_item is) → s ≤ n → n + size_items is ≤ N → before n ≡ 0 → Has words n (flat_items is n) → Fit (flat_items is n) n (n + size_items is) (gather item_expressions is)
  unfolding size_items flat_items gather OwnItems
  fit_items [] n o c l h cl w = let e : n + 0 ≡ n = omega arith in record { fit = fit_nil (at fr) n ∙ sym (tests_none vs); clear = rw e cl }
  fit_items (i ∷ is) n o c l h cl w =
      let m = n + size_item i in
      let a = has_append words n (flat_item i n) _ w in
      let u = covered_split names vs loops (in_item i) (gather in_item is) c in
      let A = fit_item i n o.0 u.0 l (omega arith) cl a.0 in
      let B = fit_items is m o.1 u.1 (omega arith) (omega arith) A.clear (rw (length_item i n) at a.1) in
      let j : m + size_items is ≡ n + (size_item i + size_items is) = omega arith in
      record {
        fit = fit_append (at fr) (flat_item i n) (flat_items is m) n m (omega (arith, length_item i n)) ∙ rw (A.fit, B.fit) (sym (tests_append vs (item_expressions i) (gather item_expressions is)));
        clear = rw (← j) B.clear;
      }

  abbrev start_clear : before s ≡ 0
  start_clear = Trees.at_start ts few words fr s N D filled small names short vs loops named_digit other_digit

  -- what stands before the own word of a statement whose expression ends there
  free_before : (e : Expression) (n : ℕ) → N ≡ n + size e → Bottom e n → count (get_or fr (N - 1) 0) ≡ length (free vs e)
  free_before e n h b = rw h (count_free e n b)

  own_kind : (c p q r : ℕ) → c < 256 → get_or words N 0 ≡ word c p q r → kind_of (get_or words N 0) ≡ c
  own_kind c p q r h e = rw e (kind_word c p q r h)

  -- a test's own word, a FOR's and a PRINT's
  pub tested_right : (e : Expression) (l i : ℕ) → OwnExpression ts e → covered (in_expression e) → N ≡ s + size e → Has words s (flat e s) → get_or words N 0 ≡ word TEST 0 l i →
      all_fit (at fr) (flat e s) s && own_fits (at words) D (at fr) N (get_or words N 0) ≡ eqb (length (free vs e)) 0 && limits vs (closures e) (counted_in e)
  unfolding own_fits
  tested_right e l i o c h w x =
      rw (own_kind TEST 0 l i (omega arith) x, free_before e s h (bottom e s o c (omega arith) (omega arith) start_clear w), fit_expression e s o c (omega arith) (omega arith) start_clear w)
      (and_comm (limits vs (closures e) (counted_in e)) (eqb (length (free vs e)) 0))

  pub ranged_right : (e : Expression) (b v l i : ℕ) → OwnExpression ts e → covered (in_expression e) → N ≡ s + 1 + size e → get_or words s 0 ≡ word BIND b 0 0 → Has words (s + 1) (flat e (s + 1)) → get_or words N 0 ≡ word RANGE v l i →
      all_fit (at fr) (word BIND b 0 0 ∷ flat e (s + 1)) s && own_fits (at words) D (at fr) N (get_or words N 0) ≡ eqb (length (free vs e)) 1 && limits vs (closures e) (counted_in e)
  unfolding own_fits is_leaf limit
  ranged_right e b v l i o c h y w x =
      let clear = after s BIND b 0 0 (omega arith) (omega arith) refl y in
      rw (own_kind RANGE v l i (omega arith) x, free_before e (s + 1) h (bottom e (s + 1) o c (omega arith) (omega arith) clear w), fit_skip (at fr) BIND b 0 0 (flat e (s + 1)) s (omega arith) (λ a b. refl), fit_expression e (s + 1) o c (omega arith) (omega arith) clear w)
      (and_comm (limits vs (closures e) (counted_in e)) (eqb (length (free vs e)) 1))

  pub printed_right : (is : List Item) (p i : ℕ) → OwnItems ts is → covered (gather in_item is) → N ≡ s + size_items is → Has words s (flat_items is s) → get_or words N 0 ≡ word PRINT p 0 i →
      all_fit (at fr) (flat_items is s) s && own_fits (at words) D (at fr) N (get_or words N 0) ≡ tests vs (gather item_expressions is)
  unfolding own_fits
  printed_right is p i o c h w x =
      rw (own_kind PRINT p 0 i (omega arith) x) (and-true (all_fit (at fr) (flat_items is s) s) ∙ (fit_items is s o c (omega arith) (omega arith) start_clear w).fit)

  -- the left side of an assignment
  left_digit : (p : Term) → OwnTerm ts p → D (leaf ATTRIBUTE p) ≡ digit names vs loops p
  unfolding takes
  left_digit (name t) o = named_digit ATTRIBUTE t refl (omega arith) o
  left_digit (string t) o = other_digit (STRING + ATTRIBUTE) (number t) refl (omega arith)
  left_digit anything o = other_digit ANYTHING 0 refl (omega arith)

  digit_small : (p : Term) → digit names vs loops p ≤ 4
  digit_small (name t) = omega (arith, pos_le t.text names 0)
  digit_small (string t) = omega arith
  digit_small anything = omega arith

  left_sum : (ps : List Term) (n : ℕ) (ds : List ℕ) → OwnTerms ts ps → Has words n (leaves ATTRIBUTE ps) → Listed 4 ds →
      (left_from (at words) D n (length ps) (pack ds) ≡ pack (adds ds (map (digit names vs loops) ps))) × Listed 4 (adds ds (map (digit names vs loops) ps))
  unfolding leaves Has OwnTerms adds left_from
  left_sum [] n ds o w l = (refl, l)
  left_sum (p ∷ ps) n ds o w l =
      let d = digit names vs loops p in
      let r = left_sum ps (n + 1) (add ds d) o.1 w.1 (listed_add 4 ds d l (digit_small p)) in (
        left_step (at words) D n (length ps) (pack ds)
            ∙ ap (λ (v : ℕ). left_from (at words) D (n + 1) (length ps) v) (ap (plus (pack ds)) (ap D w.0 ∙ left_digit p o.0) ∙ plus_law ds d l (digit_small p))
            ∙ r.0,
        r.1,
      )

  -- an assignment
  module _ (e : Expression) (ps : List Term) (n i : ℕ) (oe : OwnExpression ts e) (op : OwnTerms ts ps) (c : covered (in_terms attribute_only ps ++ in_expression e)) (h : N ≡ s + 1 + length ps + size e)
      (y : get_or words s 0 ≡ word RELATION_NAME n (length ps) 0) (wp : Has words (s + 1) (leaves ATTRIBUTE ps)) (we : Has words (s + 1 + length ps) (flat e (s + 1 + length ps))) (x : get_or words N 0 ≡ word ASSIGN s (length ps) i) where
    split : covered (in_terms attribute_only ps) × covered (in_expression e)
    split = covered_split names vs loops (in_terms attribute_only ps) (in_expression e) c

    ti : TermsIn names vs loops ps
    ti = covered_terms names vs loops attribute_only ps refl split.0

    clear : before (s + 1 + length ps) ≡ 0
    unfolding is_leaf
    clear = leaves_clear ATTRIBUTE ps (s + 1) (omega arith) refl refl (omega arith) (omega arith) (after s RELATION_NAME n (length ps) 0 (omega arith) (omega arith) refl y) wp

    low : Bottom e (s + 1 + length ps)
    low = bottom e (s + 1 + length ps) oe split.1 (omega arith) (omega arith) clear we

    abbrev lefts : List ℕ
    lefts = map (slot names) (attributes vs ps)

    same_lefts : adds [] (map (digit names vs loops) ps) ≡ lefts
    same_lefts = Trees.atom_slots ts few words fr s N D filled small names short vs loops named_digit other_digit ps ti

    sum : left_from (at words) D (s + 1) (length ps) 0 ≡ pack lefts
    sum = rw (← Trees.pack_nil, ← same_lefts) (left_sum ps (s + 1) [] op wp Trees.nil_listed).0

    listed : Listed 4 lefts
    listed = rw (← same_lefts) (left_sum ps (s + 1) [] op wp Trees.nil_listed).1

    frees : get_or fr (N - 1) 0 ≡ pack (map (slot names) (free vs e))
    frees = rw h low.value

    equal : same_digits (pack lefts) (pack (map (slot names) (free vs e))) ≡ subset (attributes vs ps) (free vs e) && subset (free vs e) (attributes vs ps)
    unfolding same_digits
    equal =
        rw (
          inside_law lefts (map (slot names) (free vs e)) listed low.listed,
          inside_law (map (slot names) (free vs e)) lefts low.listed listed,
          map_within names (attributes vs ps) (free vs e) low.inside,
          map_within names (free vs e) (attributes vs ps) (all_attributes names vs loops ps ti),
        )
        (as_both (subset (attributes vs ps) (free vs e)) (subset (free vs e) (attributes vs ps)))

    own : own_fits (at words) D (at fr) N (get_or words N 0) ≡ subset (attributes vs ps) (free vs e) && subset (free vs e) (attributes vs ps)
    unfolding own_fits
    own =
        rw (x, kind_word ASSIGN s (length ps) i (omega arith), p_word ASSIGN s (length ps) i (omega arith) (omega arith), q_word ASSIGN s (length ps) i (omega arith) (omega arith) (omega arith), sum, frees) equal

    words_fit : all_fit (at fr) (word RELATION_NAME n (length ps) 0 ∷ (leaves ATTRIBUTE ps ++ flat e (s + 1 + length ps))) s ≡ limits vs (closures e) (counted_in e)
    unfolding limit
    words_fit =
        fit_skip (at fr) RELATION_NAME n (length ps) 0 _ s (omega arith) (λ a b. refl)
        ∙ fit_append (at fr) (leaves ATTRIBUTE ps) _ (s + 1) (s + 1 + length ps) (omega (arith, length_leaves ATTRIBUTE ps))
        ∙ rw (fit_leaves (at fr) ATTRIBUTE ps (s + 1) (omega arith)) (fit_expression e (s + 1 + length ps) oe split.1 (omega arith) (omega arith) clear we)

    pub assigned_right : all_fit (at fr) (word RELATION_NAME n (length ps) 0 ∷ (leaves ATTRIBUTE ps ++ flat e (s + 1 + length ps))) s && own_fits (at words) D (at fr) N (get_or words N 0)
        ≡ (subset (attributes vs ps) (free vs e) && subset (free vs e) (attributes vs ps)) && limits vs (closures e) (counted_in e)
    assigned_right = rw (words_fit, own) (and_comm (limits vs (closures e) (counted_in e)) (subset (attributes vs ps) (free vs e) && subset (free vs e) (attributes vs ps)))
