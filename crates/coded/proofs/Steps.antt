-- One statement of a program, kind by kind: its code, and what stands after it.
use Prim.Native.Nat.{ℕ, suc, ◌+◌, ◌<◌, ◌≤◌}
use mathlib.Core.Path.{◌≡◌, refl, sym, ap, subst, ◌∙◌}
use mathlib.Core.Bool.{Bool, true, false, ◌||◌}
use mathlib.Core.List.{List, [], ◌∷◌, ◌++◌, append_assoc}
use native.Mathlib.Omega.{arith}
use lib.ListN.{length, get_or, length-append}
use Rattle.definition.specs.Text.{Text, same, member, some_of, gather}
use Rattle.definition.specs.Token.{Token}
use Rattle.definition.specs.Syntax.{Term, Expression, Item, Program, assign, print}
use Rattle.definition.specs.Names.{Use, attribute_only, in_terms, in_expression, in_item, in_program, variables, attribute_names, free, closures, counted_in, item_expressions, strings, left_strings}
use Rattle.definition.proofs.BoolLaws.{is_true, is_false}
use Rattle.definition.proofs.MeaningLaws.{same_equal, same_itself, member_first}
use Rattle.definition.proofs.NameLaws.{Fitting, none, fitting_left}
use Rattle.definition.proofs.ScopeLaws.{ScopedExpression, Fresh, ScopedProgram}
use Rattle.definition.proofs.RowLaws.{Every, StatementOk, RowsOk}
use Rattle.definition.proofs.QuantityLaws.{a_test, Shaped, ShapedProgram}
use Rattle.definition.proofs.FormLaws.{Formed}
use Rattle.words.specs.Fields.{word, RELATION_NAME, ATTRIBUTE, BIND, RANGE, NEXT, ASSIGN, TEST, JUMP, AGAIN, PRINT}
use Rattle.words.specs.Raw.{number, leaves, size, flat, size_items, flat_items, size_program, flat_program}
use Rattle.words.specs.Tokens.{OwnName, OwnExpression, OwnProgram}
use Rattle.words.specs.Standing.{Has}
use Rattle.words.proofs.Places.{has_append, has_cut}
use Rattle.words.proofs.Sizes.{length_leaves, length_flat, length_items}
use Rattle.free.proofs.Slotted.{Covered, covered_names}
use Rattle.actions.specs.Parts.{is_statement}
use Rattle.machine.specs.Instructions.{instr}
use Rattle.machine.specs.Instructions as Instr
use Rattle.code.specs.Statements.{depth_in, Whole, TestCode, RangeCode}
use Rattle.code.specs.Program.{Code, code_assign, code_print}
use Rattle.coding.specs.Pass.{Depths}
use Rattle.coded.proofs.Given.{Case, depths_before, Place}
use Rattle.coded.proofs.Agreeing.{is_loop, apart}
use Rattle.coded.proofs.Scoping.{every_split}
use Rattle.coded.proofs.OneCode.{test_code, range_code, assign_code, print_code}
use Rattle.coded.proofs.Standing.{Deep, Begun, placed, whole, after_words, after_low}
use Rattle.coded.proofs.Depth.{opened, closed, at_range, at_next, own_depth, others_depth, enter_block, leave_block}
use Rattle.coded.proofs.Shapes.{test_shape, print_shape, assign_shape, range_shape, lone_shape, next_shape, nothing_ok, depths_own}
use Rattle.coded.proofs.Moves.{Loops, plain, assign_instr, print_instr, test_instr, again_instr, jump_instr, range_instr, next_instr}
use Rattle.coded.proofs.Programs.{lefts_left, lefts_placed, fit_tail, Fine}

pub last_word : (words : List ℕ) (n m : ℕ) (xs : List ℕ) (w : ℕ) → n + length xs ≡ m → Has words n (xs ++ (w ∷ [])) → get_or words m 0 ≡ w
unfolding Has
last_word words n m xs w e h = let a = has_append words n xs (w ∷ []) h in subst (λ (j : ℕ). get_or words j 0 ≡ w) e a.1.0

first_depth : (x : Text) (xs : List Text) → depth_in x (x ∷ xs) ≡ length xs
unfolding depth_in
first_depth x xs = rw (same_itself x) refl

has_first : (words : List ℕ) (n w : ℕ) (ws : List ℕ) → Has words n (w ∷ ws) → (get_or words n 0 ≡ w) × Has words (n + 1) ws
unfolding Has
has_first words n w ws h = h

module _ (C : Case) where
  abbrev v : Text → Bool
  v = C.w.variables

  pub has_at : (p : Program) (n m : ℕ) → n ≡ m → Has C.words n (flat_program p n) → Has C.words m (flat_program p m)
  has_at p n m e h = subst (λ (j : ℕ). Has C.words j (flat_program p j)) e h

  -- each attribute used is among the statement's names
  covers : (scope : List Text) (s k : ℕ) (us : List Use) (P : Place C scope s k (attribute_names v us)) → Covered (attribute_names v us) v (apart C scope s k (attribute_names v us) P) us
  covers scope s k us P = covered_names (attribute_names v us) v (apart C scope s k (attribute_names v us) P) us (λ x m. m)

  -- what holds of all that is found in one expression
  one : (P : Expression → Type 0) (f : Expression → List Expression) (e : Expression) → Every P (gather f (e ∷ [])) → Every P (f e)
  unfolding gather
  one P f e c = (every_split P (f e) [] c).0

  -- the first statement of a program, its own word at k: what follows it
  pub record First (scope : List Text) (p q : Program) (n k : ℕ) : Type 0 where
    pub after : Begun C scope (suc k)
    pub rest : Has C.words (suc k) (flat_program q (suc k))
    pub before : (e : ℕ) → Code C.w C.query C.low scope q (suc k) e → Code C.w C.query C.low scope p n e

  module _ (scope : List Text) (loops : Loops C scope) (shallow : length scope ≤ 32) (n : ℕ) (B : Begun C scope n) where
    pub assign_first : (i : ℕ) (r : Token) (ps : List Term) (e : Expression) (q : Program) → Fine C scope (assign i r ps e q) → Has C.words n (flat_program (assign i r ps e q) n)
        → n + size_program (assign i r ps e q) ≤ length C.words → First scope (assign i r ps e q) q n (n + 1 + length ps + size e)
    unfolding flat_program size_program OwnProgram ScopedProgram RowsOk Formed ShapedProgram in_program left_strings
    assign_first i r ps e q F x h =
        let o = F.own in
        let k = n + 1 + length ps + size e in
        let us = in_terms attribute_only ps ++ in_expression e in
        let ws = word RELATION_NAME (number r) (length ps) 0 ∷ (leaves ATTRIBUTE ps ++ flat e (n + 1 + length ps)) in
        let ln = length-append (leaves ATTRIBUTE ps) (flat e (n + 1 + length ps)) in
        let g : Has C.words n (ws ++ (word ASSIGN n (length ps) i ∷ flat_program q (k + 1))) = rw append_assoc x in
        let c = has_cut C.words n (k + 1) ws (word ASSIGN n (length ps) i) (flat_program q (k + 1)) (omega (arith, ln, length_leaves ATTRIBUTE ps, length_flat e (n + 1 + length ps))) g in
        let S = assign_shape C r ps e n i o.1 o.2 o.3 (omega (arith, h)) c.0 in
        let fit' = fit_tail F.fit in
        let fit = fitting_left us (in_program q) (subst (Fitting C.kinds.known) (sym (append_assoc (in_terms attribute_only ps) (in_expression e) (in_program q))) fit') in
        let ow : get_or C.words k 0 ≡ word ASSIGN n (length ps) i = last_word C.words n k ws (word ASSIGN n (length ps) i) (omega (arith, ln, length_leaves ATTRIBUTE ps, length_flat e (n + 1 + length ps))) c.0 in
        let P = plain C scope n k us (e ∷ []) S ASSIGN n (length ps) i ow (omega arith) refl refl B F.rows.0 fit loops shallow in
        let parts = has_first C.words n (word RELATION_NAME (number r) (length ps) 0) (leaves ATTRIBUTE ps ++ flat e (n + 1 + length ps)) (has_append C.words n ws (word ASSIGN n (length ps) i ∷ []) c.0).0 in
        let inner = has_append C.words (n + 1) (leaves ATTRIBUTE ps) (flat e (n + 1 + length ps)) parts.1 in
        let ye : Has C.words (n + 1 + length ps) (flat e (n + 1 + length ps)) = rw (length_leaves ATTRIBUTE ps) at inner.1 in
        let A = assign_code C scope n k (attribute_names v us) P.place i r ps e F.scoped.0 F.scoped.1.0 F.scoped.1.1.0 F.shaped.0 F.formed.0 (lefts_placed C.w.universe ps (lefts_left C.w.universe (strings ps) (left_strings q) F.lefts))
        o.1 o.2 o.3 (covers scope n k us P.place) (one _ closures e F.rows.0.closed) (one _ counted_in e F.rows.0.counted) F.rows.1.1.0 refl parts.0 inner.0 ye ow in
        let I = assign_instr C scope n k (attribute_names v us) P.place n (length ps) i (omega (arith, h, C.small)) (omega (arith, h, C.small)) ow in
        record {
          after = P.after;
          rest = has_at q (k + 1) (suc k) (omega arith) c.1;
          before = λ f d. code_assign I P.whole A d;
        }

    pub print_first : (i : ℕ) (is : List Item) (q : Program) → Fine C scope (print i is q) → Has C.words n (flat_program (print i is q) n) → n + size_program (print i is q) ≤ length C.words
        → First scope (print i is q) q n (n + size_items is)
    unfolding flat_program size_program OwnProgram ScopedProgram RowsOk Formed ShapedProgram in_program left_strings
    print_first i is q F x h =
        let o = F.own in
        let k = n + size_items is in
        let us = gather in_item is in
        let es = gather item_expressions is in
        let c = has_cut C.words n (k + 1) (flat_items is n) (word PRINT n 0 i) (flat_program q (k + 1)) (omega (arith, length_items is n)) x in
        let S = print_shape C is n i o.1 (omega (arith, h)) c.0 in
        let fit = fitting_left us (in_program q) F.fit in
        let ow : get_or C.words k 0 ≡ word PRINT n 0 i = last_word C.words n k (flat_items is n) (word PRINT n 0 i) (omega (arith, length_items is n)) c.0 in
        let P = plain C scope n k us es S PRINT n 0 i ow (omega arith) refl refl B F.rows.0 fit loops shallow in
        let y = (has_append C.words n (flat_items is n) (word PRINT n 0 i ∷ []) c.0).0 in
        let A = print_code C scope n k (attribute_names v us) P.place i is F.scoped.0 F.formed.0 F.shaped.0 o.1 (covers scope n k us P.place) F.rows.0.closed F.rows.0.counted refl o.0 y ow in
        let I = print_instr C scope n k (attribute_names v us) P.place n 0 i (omega (arith, h, C.small)) (omega arith) ow in
        record {
          after = P.after;
          rest = has_at q (k + 1) (suc k) (omega arith) c.1;
          before = λ f d. code_print I P.whole A d;
        }

    -- a test, with its target l
    pub record Tested (e : Expression) (l : ℕ) : Type 0 where
      pub instruction : instr C.low (n + size e) ≡ Instr.TEST l
      pub is_whole : Whole C.low n (n + size e)
      pub code : TestCode C.w C.query C.low scope n (n + size e) e
      pub after : Begun C scope (suc (n + size e))

    pub tested : (i l : ℕ) (e : Expression) → ScopedExpression C.kinds scope e → Shaped a_test e → OwnExpression C.ts e → StatementOk v (in_expression e) (e ∷ []) → length (free v e) ≡ 0 → Fitting C.kinds.known (in_expression e) → l < 65536
        → n + size e < length C.words → Has C.words n (flat e n ++ (word TEST 0 l i ∷ [])) → Tested e l
    tested i l e sc g o O f fit hl h x =
        let k = n + size e in
        let us = in_expression e in
        let S = test_shape C e n l i o h x in
        let ow : get_or C.words k 0 ≡ word TEST 0 l i = last_word C.words n k (flat e n) (word TEST 0 l i) (omega (arith, length_flat e n)) x in
        let P = plain C scope n k us (e ∷ []) S TEST 0 l i ow (omega arith) refl refl B O fit loops shallow in
        let y = (has_append C.words n (flat e n) (word TEST 0 l i ∷ []) x).0 in
        record {
          instruction = test_instr C scope n k (attribute_names v us) P.place 0 l i (omega arith) hl ow;
          is_whole = P.whole;
          code = test_code C scope n k (attribute_names v us) P.place e sc g o (covers scope n k us P.place) (one _ closures e O.closed) (one _ counted_in e O.counted) f refl y;
          after = P.after;
        }

    -- a word by itself: a jump, or a WHILE's test again
    pub jumped : (q : ℕ) → q < 65536 → n < length C.words → n < q → get_or C.words n 0 ≡ word JUMP 0 q 0 → (instr C.low n ≡ Instr.JUMP q) × Begun C scope (suc n)
    unfolding is_statement
    jumped q hq h l e =
        let P = plain C scope n n [] [] (lone_shape C JUMP 0 q 0 n (omega arith) (omega arith) (λ y. omega arith) refl h e) JUMP 0 q 0 e (omega arith) refl refl B (nothing_ok C) none loops shallow in
        (jump_instr C scope n n (attribute_names v []) P.place 0 q 0 (omega arith) hq e l, P.after)

    pub again : (p q : ℕ) → p < 65536 → q < 65536 → n < length C.words → get_or C.words n 0 ≡ word AGAIN p q 0 → (instr C.low n ≡ Instr.AGAIN q) × Begun C scope (suc n)
    unfolding is_statement
    again p q hp hq h e =
        let P = plain C scope n n [] [] (lone_shape C AGAIN p q 0 n (omega arith) (omega arith) (λ y. omega arith) refl h e) AGAIN p q 0 e (omega arith) refl refl B (nothing_ok C) none loops shallow in
        (again_instr C scope n n (attribute_names v []) P.place p q 0 hp hq e, P.after)

    -- a FOR's set, with its target l
    pub record Ranged (t : Token) (e : Expression) (l : ℕ) : Type 0 where
      pub instruction : instr C.low (n + 1 + size e) ≡ Instr.RANGE (length scope) l
      pub is_whole : Whole C.low n (n + 1 + size e)
      pub code : RangeCode C.w C.query C.low scope n (n + 1 + size e) e
      pub inner : Begun C (t.text ∷ scope) (suc (n + 1 + size e))

    pub ranged : (i l : ℕ) (t : Token) (e : Expression) → Fresh C.kinds scope t.text → ScopedExpression C.kinds scope e → Shaped a_test e → OwnName C.ts t → OwnExpression C.ts e → StatementOk v (in_expression e) (e ∷ []) → length (free v e) ≡ 1
        → Fitting C.kinds.known (in_expression e) → length scope < 32 → l < 65536 → n + 1 + size e < length C.words → Has C.words n ((word BIND (number t) 0 0 ∷ flat e (n + 1)) ++ (word RANGE (number t) l i ∷ [])) → Ranged t e l
    ranged i l t e fr sc g ot o O f fit deep hl h x =
        let k = n + 1 + size e in
        let us = in_expression e in
        let ws = word BIND (number t) 0 0 ∷ flat e (n + 1) in
        let S = range_shape C t e n l i ot o h hl x in
        let ow : get_or C.words k 0 ≡ word RANGE (number t) l i = last_word C.words n k ws (word RANGE (number t) l i) (omega (arith, length_flat e (n + 1))) x in
        let fresh : member t.text scope ≡ false = is_false (member t.text scope) fr.0 in
        let d : depths_before C (suc k) ≡ opened C t (depths_before C n) = at_range C k l i t ot ow ∙ ap (opened C t) (depths_own C n k us (e ∷ []) S B.start_words) in
        let held : (u : Token) → OwnName C.ts u → member u.text scope ≡ true → get_or (depths_before C (suc k)).depths (get_or C.ids (number u) 0) 0 ≡ depth_in u.text scope
        = λ u p m. ap (λ (y : Depths). get_or y.depths (get_or C.ids (number u) 0) 0) d ∙ others_depth C scope (depths_before C n) B.depths t ot fresh u p m in
        let own : get_or (depths_before C (suc k)).depths (get_or C.ids (number t) 0) 0 ≡ length scope
        = ap (λ (y : Depths). get_or y.depths (get_or C.ids (number t) 0) 0) d ∙ own_depth C scope (depths_before C n) B.depths t ot in
        let P = placed C scope n k us (e ∷ []) S B.start_words O fit loops shallow held in
        let y = has_first C.words n (word BIND (number t) 0 0) (flat e (n + 1)) (has_append C.words n ws (word RANGE (number t) l i ∷ []) x).0 in
        record {
          instruction = range_instr C scope n k (attribute_names v us) P t ot fr.1 (length scope) deep own l i hl ow;
          is_whole = whole C scope n k us (e ∷ []) S B.start_words O fit loops shallow held B.start_low;
          code = range_code C scope n k (attribute_names v us) P i l (number t) e sc g o (covers scope n k us P) (one _ closures e O.closed) (one _ counted_in e O.counted) f refl (omega (arith, ot.inside, C.few)) hl y.0 y.1 ow;
          inner = record {
            start_words = after_words C scope n k us (e ∷ []) S B.start_words O fit loops shallow held;
            start_low = after_low C scope n k us (e ∷ []) S B.start_words O fit loops shallow held;
            depths = subst (Deep C (t.text ∷ scope)) (sym d) (enter_block C scope (depths_before C n) B.depths t ot fresh);
          };
        }

  -- the end of a FOR's block
  pub nexted : (scope : List Text) (t : Token) (n q : ℕ) → Loops C (t.text ∷ scope) → length scope < 32 → Begun C (t.text ∷ scope) n → OwnName C.ts t → Fresh C.kinds scope t.text → q < 65536 → n < length C.words
      → get_or C.words n 0 ≡ word NEXT (number t) q 0 → (instr C.low n ≡ Instr.NEXT (length scope) q) × Begun C scope (suc n)
  nexted scope t n q loops deep B o fr hq h e =
      let S = next_shape C t q n o hq h e in
      let fresh : member t.text scope ≡ false = is_false (member t.text scope) fr.0 in
      let d : depths_before C (suc n) ≡ closed (depths_before C n) = at_next C n (number t) q 0 e in
      let held : (u : Token) → OwnName C.ts u → member u.text (t.text ∷ scope) ≡ true → get_or (depths_before C (suc n)).depths (get_or C.ids (number u) 0) 0 ≡ depth_in u.text (t.text ∷ scope)
      = λ u p m. ap (λ (y : Depths). get_or y.depths (get_or C.ids (number u) 0) 0) d ∙ B.depths.held u p m in
      let P = placed C (t.text ∷ scope) n n [] [] S B.start_words (nothing_ok C) none loops (omega arith) held in (
        next_instr C (t.text ∷ scope) n n (attribute_names v []) P t o fr.1 (length scope) deep (held t o (is_true (member t.text (t.text ∷ scope)) (member_first t.text scope)) ∙ first_depth t.text scope) q 0 hq e,
        record {
          start_words = after_words C (t.text ∷ scope) n n [] [] S B.start_words (nothing_ok C) none loops (omega arith) held;
          start_low = after_low C (t.text ∷ scope) n n [] [] S B.start_words (nothing_ok C) none loops (omega arith) held;
          depths = subst (Deep C scope) (sym d) (leave_block C scope t.text (depths_before C n) fresh B.depths);
        },
      )

  -- one FOR more
  pub more_loops : (scope : List Text) (x : Text) → Loops C scope → variables C.kinds x ≡ true → Loops C (x ∷ scope)
  unfolding member some_of
  more_loops scope x loops h y m = go (same y x) refl m
    where
      go : (b : Bool) → same y x ≡ b → b || member y scope ≡ true → v y ≡ true
      go true e n = subst (λ (z : Text). v z ≡ true) (sym (same_equal y x e)) (sym (is_loop C x) ∙ h)
      go false e n = loops y n
