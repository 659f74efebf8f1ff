-- The words of each kind of statement, and what stays over them.
use Prim.Native.Nat.{ℕ, ◌+◌, ◌<◌}
use mathlib.Core.Path.{◌≡◌, refl, sym, ap, subst, ◌∙◌}
use mathlib.Core.Bool.{Bool, true}
use mathlib.Core.List.{List, [], ◌∷◌, ◌++◌}
use native.Mathlib.Omega.{arith}
use lib.ListN.{length, get_or, length-append}
use Rattle.definition.specs.Text.{Text, gather}
use Rattle.definition.specs.Token.{Token}
use Rattle.definition.specs.Syntax.{Term, Expression, Item}
use Rattle.definition.specs.Names.{Use, use_as, before_terms, attribute_only, after_for, enter, leave, in_terms, in_expression, in_item, attribute_names, closures, item_expressions}
use Rattle.definition.proofs.RowLaws.{Every, StatementOk}
use Rattle.definition.proofs.ListLaws.{gather_one}
use Rattle.words.specs.Fields.{word, kind_of, RELATION_NAME, ATTRIBUTE, BIND, RANGE, NEXT, CLOSURE, ASSIGN, TEST, PRINT}
use Rattle.words.specs.Raw.{number, leaves, size, flat, size_items, flat_items}
use Rattle.words.specs.Tokens.{OwnName, OwnTerms, OwnExpression, OwnItems}
use Rattle.words.specs.Standing.{Has}
use Rattle.words.specs.Shown.{role_of}
use Rattle.words.specs.Shown as Shown
use Rattle.words.proofs.FieldLaws.{kind_word}
use Rattle.words.proofs.Sizes.{length_leaves, length_flat, length_items}
use Rattle.words.proofs.NameOrder.{both, first, leaves_uses, expression_uses, items_uses}
use Rattle.words.specs.Parts.{ends}
use Rattle.words.proofs.EachKind.{each_append, each_cons, each_none, each_leaves, each_expression}
use Rattle.words.proofs.StatementParts.{quiet, quiet_inner, quiet_items}
use Rattle.slots.specs.Slots.{closure_count}
use Rattle.slots.proofs.ClosureCount.{skip, count_expression, count_assign, count_items}
use Rattle.actions.specs.Parts.{is_statement, start}
use Rattle.coded.proofs.Given.{Case, depths_before}
use Rattle.coded.proofs.Quiet.{depths_quiet}
use Rattle.coded.proofs.Standing.{names_last, shows_last, count_last, Shape, quiet_before}

-- a word of kind K: whether it is a statement's own
own_kind : (K p q r : ℕ) → K < 256 → is_statement K ≡ true → is_statement (kind_of (word K p q r)) ≡ true
own_kind K p q r h e = rw (kind_word K p q r h) e

past_names : (K p q r : ℕ) → K < 256 → NEXT < K → NEXT < kind_of (word K p q r)
past_names K p q r h l = rw (kind_word K p q r h) l

module _ (C : Case) where
  abbrev v : Text → Bool
  v = C.w.variables

  pub test_shape : (e : Expression) (n l i : ℕ) → OwnExpression C.ts e → n + size e < length C.words → Has C.words n (flat e n ++ (word TEST 0 l i ∷ [])) → Shape C n (n + size e) (in_expression e) (e ∷ [])
  unfolding is_statement
  test_shape e n l i o h x = record {
    ws = flat e n;
    own = word TEST 0 l i;
    has = x;
    long = ap (λ (j : ℕ). n + j) (sym (length_flat e n));
    quiet = each_expression quiet quiet_inner e n;
    statement = own_kind TEST 0 l i (omega arith) refl;
    uses = in_expression e;
    shows = shows_last C.ts (word TEST 0 l i) (past_names TEST 0 l i (omega arith) (omega arith)) (expression_uses C.ts C.few e n (omega (arith, C.small)) o);
    names = refl;
    count = count_last (flat e n) TEST 0 l i (omega arith) (λ z. omega arith) ∙ count_expression e n ∙ ap length (sym (gather_one closures e));
    inside = h;
  }

  pub print_shape : (is : List Item) (n i : ℕ) → OwnItems C.ts is → n + size_items is < length C.words → Has C.words n (flat_items is n ++ (word PRINT n 0 i ∷ []))
      → Shape C n (n + size_items is) (gather in_item is) (gather item_expressions is)
  unfolding is_statement
  print_shape is n i o h x = record {
    ws = flat_items is n;
    own = word PRINT n 0 i;
    has = x;
    long = ap (λ (j : ℕ). n + j) (sym (length_items is n));
    quiet = quiet_items is n;
    statement = own_kind PRINT n 0 i (omega arith) refl;
    uses = gather in_item is;
    shows = shows_last C.ts (word PRINT n 0 i) (past_names PRINT n 0 i (omega arith) (omega arith)) (items_uses C.ts C.few is n (omega (arith, C.small)) o);
    names = refl;
    count = count_last (flat_items is n) PRINT n 0 i (omega arith) (λ z. omega arith) ∙ count_items is n;
    inside = h;
  }

  pub assign_shape : (r : Token) (ps : List Term) (e : Expression) (n i : ℕ) → OwnName C.ts r → OwnTerms C.ts ps → OwnExpression C.ts e → n + 1 + length ps + size e < length C.words
      → Has C.words n ((word RELATION_NAME (number r) (length ps) 0 ∷ (leaves ATTRIBUTE ps ++ flat e (n + 1 + length ps))) ++ (word ASSIGN n (length ps) i ∷ []))
      → Shape C n (n + 1 + length ps + size e) (in_terms attribute_only ps ++ in_expression e) (e ∷ [])
  unfolding ends is_statement role_of attribute_names
  assign_shape r ps e n i or op oe h x =
      let m = n + 1 + length ps in
      let ws = word RELATION_NAME (number r) (length ps) 0 ∷ (leaves ATTRIBUTE ps ++ flat e m) in
      record {
        ws = ws;
        own = word ASSIGN n (length ps) i;
        has = x;
        long = omega (arith, length-append (leaves ATTRIBUTE ps) (flat e m), length_leaves ATTRIBUTE ps, length_flat e m);
        quiet = each_cons quiet RELATION_NAME (number r) (length ps) 0 (leaves ATTRIBUTE ps ++ flat e m) (omega arith) refl (each_append quiet (leaves ATTRIBUTE ps) (flat e m) (each_leaves quiet quiet_inner ATTRIBUTE ps (omega arith) (omega arith)) (each_expression quiet quiet_inner e m));
        statement = own_kind ASSIGN n (length ps) i (omega arith) refl;
        uses = use_as (before_terms (length ps)) r ∷ (in_terms attribute_only ps ++ in_expression e);
        shows = shows_last C.ts (word ASSIGN n (length ps) i) (past_names ASSIGN n (length ps) i (omega arith) (omega arith))
            (first C.ts C.few RELATION_NAME (length ps) 0 r (omega arith) (omega arith) or (omega (arith, C.small))
            (both C.ts C.few (leaves_uses C.ts C.few ATTRIBUTE attribute_only ps (omega arith) (omega arith) refl op) (expression_uses C.ts C.few e m (omega (arith, C.small)) oe)));
        names = refl;
        count = count_last ws ASSIGN n (length ps) i (omega arith) (λ z. omega arith) ∙ count_assign (number r) (length ps) ps e m ∙ ap length (sym (gather_one closures e));
        inside = h;
      }

  pub range_shape : (t : Token) (e : Expression) (n l i : ℕ) → OwnName C.ts t → OwnExpression C.ts e → n + 1 + size e < length C.words → l < 65536
      → Has C.words n ((word BIND (number t) 0 0 ∷ flat e (n + 1)) ++ (word RANGE (number t) l i ∷ [])) → Shape C n (n + 1 + size e) (in_expression e) (e ∷ [])
  unfolding ends is_statement role_of attribute_names
  range_shape t e n l i o oe h hl x =
      let ws = word BIND (number t) 0 0 ∷ flat e (n + 1) in
      record {
        ws = ws;
        own = word RANGE (number t) l i;
        has = x;
        long = omega (arith, length_flat e (n + 1));
        quiet = each_cons quiet BIND (number t) 0 0 (flat e (n + 1)) (omega arith) refl (each_expression quiet quiet_inner e (n + 1));
        statement = own_kind RANGE (number t) l i (omega arith) refl;
        uses = use_as after_for t ∷ (in_expression e ++ (use_as enter t ∷ []));
        shows = first C.ts C.few BIND 0 0 t (omega arith) (omega arith) o (omega arith)
            (both C.ts C.few (expression_uses C.ts C.few e (n + 1) (omega (arith, C.small)) oe) (first C.ts C.few RANGE l i t (omega arith) (omega arith) o hl Shown.none));
        names = names_last v (in_expression e) enter t refl;
        count = count_last ws RANGE (number t) l i (omega arith) (λ z. omega arith) ∙ skip BIND (number t) 0 0 (flat e (n + 1)) (omega arith) (λ z. omega arith) (count_expression e (n + 1)) ∙ ap length (sym (gather_one closures e));
        inside = h;
      }

  -- a word by itself, of no name
  pub lone_shape : (K p q r n : ℕ) → K < 256 → NEXT < K → (K ≡ CLOSURE → ⊥) → is_statement K ≡ true → n < length C.words → get_or C.words n 0 ≡ word K p q r → Shape C n n [] []
  unfolding Has attribute_names gather closure_count
  lone_shape K p q r n hK l c e h x = record {
    ws = [];
    own = word K p q r;
    has = (x, tt);
    long = omega arith;
    quiet = each_none quiet;
    statement = own_kind K p q r hK e;
    uses = [];
    shows = Shown.other (past_names K p q r hK l) Shown.none;
    names = refl;
    count = count_last [] K p q r hK c;
    inside = h;
  }

  pub next_shape : (t : Token) (q n : ℕ) → OwnName C.ts t → q < 65536 → n < length C.words → get_or C.words n 0 ≡ word NEXT (number t) q 0 → Shape C n n [] []
  unfolding Has attribute_names gather closure_count is_statement role_of
  next_shape t q n o hq h x = record {
    ws = [];
    own = word NEXT (number t) q 0;
    has = (x, tt);
    long = omega arith;
    quiet = each_none quiet;
    statement = own_kind NEXT (number t) q 0 (omega arith) refl;
    uses = use_as leave t ∷ [];
    shows = first C.ts C.few NEXT q 0 t (omega arith) (omega arith) o hq Shown.none;
    names = refl;
    count = count_last [] NEXT (number t) q 0 (omega arith) (λ z. omega arith);
    inside = h;
  }

  pub nothing_ok : StatementOk v [] []
  unfolding attribute_names gather Every
  nothing_ok = record { few_attributes = omega arith; few_closures = omega arith; closed = tt; counted = tt }

  -- over the words of a statement before its own
  pub depths_own : (s k : ℕ) (us : List Use) (es : List Expression) (S : Shape C s k us es) → start C.words s ≡ s → depths_before C k ≡ depths_before C s
  depths_own s k us es S b =
      subst (λ (j : ℕ). depths_before C j ≡ depths_before C s) (sym S.long)
      (depths_quiet C.ids C.words C.first s (length S.ws) (λ i l h. quiet_before C [] s k us es S b i l (omega (arith, S.long, h))))
