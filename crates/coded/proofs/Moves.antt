-- The instruction of a statement's own word, and what a statement leaves behind it.
use Prim.Native.Nat.{ℕ, suc, ◌+◌, ◌-◌, ◌%◌, ◌<◌, ◌≤◌}
use mathlib.Core.Path.{◌≡◌, refl, sym, ap, ap₂, subst, ◌∙◌}
use mathlib.Core.Bool.{true, false}
use mathlib.Core.List.{List}
use native.Mathlib.Omega.{arith}
use lib.Dec.{eqb}
use lib.ListN.{length, get_or}
use Rattle.definition.specs.Text.{Text, member}
use Rattle.definition.specs.Token.{Token}
use Rattle.definition.specs.Syntax.{Expression}
use Rattle.definition.specs.Names.{Use, variables, attribute_names}
use Rattle.definition.specs.Accept.{elements}
use Rattle.definition.proofs.NameLaws.{Fitting}
use Rattle.definition.proofs.RowLaws.{StatementOk}
use Rattle.words.specs.Fields as Fields
use Rattle.words.specs.Fields.{word, kind_of, p_of, q_of}
use Rattle.words.specs.Raw.{number}
use Rattle.words.specs.Tokens.{OwnName}
use Rattle.words.proofs.FieldLaws.{kind_word}
use Rattle.lowering.specs.Lowering.{at, lower_at, Filled}
use Rattle.lowering.proofs.Places.{has_more, kind_at, plain_q, range_q, loop_p}
use Rattle.machine.specs.Instructions.{ASSIGN, PRINT, TEST, AGAIN, RANGE, NEXT, JUMP, instr}
use Rattle.machine.proofs.Decoding.{is_assign, is_print, is_test, is_again, is_range, is_next, is_jump}
use Rattle.code.specs.Statements.{Whole}
use Rattle.coding.specs.Pass.{is_named}
use Rattle.coded.proofs.Given.{Case, depths_before, values_of, Place}
use Rattle.coded.proofs.Agreeing.{name_here, loop_code, code_at, filled}
use Rattle.coded.proofs.Scoping.{word_takes}
use Rattle.coded.proofs.Quiet.{depths_other}
use Rattle.coded.proofs.Standing.{Shape, Deep, Begun, placed, whole, after_words, after_low}
use Rattle.coded.proofs.Shapes.{depths_own}

named_loops : (is_named Fields.RANGE ≡ true) × (is_named Fields.NEXT ≡ true)
unfolding is_named
named_loops = (refl, refl)

module _ (C : Case) (scope : List Text) (s k : ℕ) (names : List Text) (P : Place C scope s k names) where
  abbrev F : Filled (lower_at (at C.words) (at P.made.codes) (at C.tokens) (at P.made.fr) (values_of C) (elements C.w) s) s (suc k) C.low C.low
  F = filled C scope s k names P

  here : k < length C.low
  here = omega (arith, P.inside, C.long)

  module _ (p q r : ℕ) (hp : p < 65536) (hq : q < 65536) where
    kind_is : (K : ℕ) → K < 256 → (K ≡ 11 → ⊥) → get_or C.words k 0 ≡ word K p q r → kind_of (get_or C.low k 0) ≡ K
    kind_is K hK n e = kind_at C.words P.made.codes C.tokens P.made.fr (values_of C) (elements C.w) s (suc k) C.low C.low F k K p q r hK hp hq P.order (omega arith) e n

    target_is : (K : ℕ) → K < 256 → has_more K ≡ false → get_or C.words k 0 ≡ word K p q r → q_of (get_or C.low k 0) ≡ q
    target_is K hK m e = plain_q C.words P.made.codes C.tokens P.made.fr (values_of C) (elements C.w) s (suc k) C.low C.low F k K p q r hK hp hq P.order (omega arith) e m

    pub assign_instr : get_or C.words k 0 ≡ word Fields.ASSIGN p q r → instr C.low k ≡ ASSIGN
    assign_instr e = is_assign C.low k here (kind_is Fields.ASSIGN (omega arith) (λ z. omega arith) e)

    pub print_instr : get_or C.words k 0 ≡ word Fields.PRINT p q r → instr C.low k ≡ PRINT
    print_instr e = is_print C.low k here (kind_is Fields.PRINT (omega arith) (λ z. omega arith) e)

    pub test_instr : get_or C.words k 0 ≡ word Fields.TEST p q r → instr C.low k ≡ TEST q
    test_instr e = is_test C.low k here (kind_is Fields.TEST (omega arith) (λ z. omega arith) e) ∙ ap TEST (target_is Fields.TEST (omega arith) refl e)

    pub again_instr : get_or C.words k 0 ≡ word Fields.AGAIN p q r → instr C.low k ≡ AGAIN q
    again_instr e = is_again C.low k here (kind_is Fields.AGAIN (omega arith) (λ z. omega arith) e) ∙ ap AGAIN (target_is Fields.AGAIN (omega arith) refl e)

    pub jump_instr : get_or C.words k 0 ≡ word Fields.JUMP p q r → k < q → instr C.low k ≡ JUMP q
    jump_instr e h =
        let t = target_is Fields.JUMP (omega arith) refl e in
        is_jump C.low k here (kind_is Fields.JUMP (omega arith) (λ z. omega arith) e) (omega (arith, t, h)) ∙ ap JUMP t

  -- a FOR whose variable has the depth d
  module _ (t : Token) (o : OwnName C.ts t) (loop : variables C.kinds t.text ≡ true) (d : ℕ) (low-d : d < 32) (depth : get_or (depths_before C (suc k)).depths (get_or C.ids (number t) 0) 0 ≡ d) (q r : ℕ) (hq : q < 65536) where
    ht : number t < 65536
    ht = omega (arith, o.inside, C.few)

    depth_is : (K : ℕ) → K < 256 → 6 ≤ K → K < 8 → is_named K ≡ true → get_or C.words k 0 ≡ word K (number t) q r → p_of (get_or C.low k 0) % 32 ≡ d
    depth_is K hK l h n e =
        let a = code_at C scope s k names P (number t) (name_here C t o) (word_takes C scope s k names P k K (number t) q r P.order (omega arith) hK n ht e) in
        let b = loop_code C t o P.made.found (depths_before C (suc k)).depths loop in
        let c = loop_p C.words P.made.codes C.tokens P.made.fr (values_of C) (elements C.w) s (suc k) C.low C.low F k K (number t) q r hK ht hq P.order (omega arith) e l h in
        let z : get_or P.made.codes (number t) 0 ≡ 72 + d = a ∙ b ∙ ap (λ (j : ℕ). 72 + j) depth in
        let y : (72 + d - 72) % 65536 ≡ d = omega arith in
        let x : p_of (get_or C.low k 0) ≡ d = c ∙ rw z y in
        let m : d % 32 ≡ d = omega arith in
        rw x m

    pub range_instr : get_or C.words k 0 ≡ word Fields.RANGE (number t) q r → instr C.low k ≡ RANGE d q
    range_instr e =
        is_range C.low k here (kind_is (number t) q r ht hq Fields.RANGE (omega arith) (λ z. omega arith) e)
        ∙ ap₂ RANGE (depth_is Fields.RANGE (omega arith) (omega arith) (omega arith) named_loops.0 e)
        (range_q C.words P.made.codes C.tokens P.made.fr (values_of C) (elements C.w) s (suc k) C.low C.low F k Fields.RANGE (number t) q r (omega arith) ht hq P.order (omega arith) e refl)

    pub next_instr : get_or C.words k 0 ≡ word Fields.NEXT (number t) q r → instr C.low k ≡ NEXT d q
    next_instr e =
        is_next C.low k here (kind_is (number t) q r ht hq Fields.NEXT (omega arith) (λ z. omega arith) e)
        ∙ ap₂ NEXT (depth_is Fields.NEXT (omega arith) (omega arith) (omega arith) named_loops.1 e)
        (plain_q C.words P.made.codes C.tokens P.made.fr (values_of C) (elements C.w) s (suc k) C.low C.low F k Fields.NEXT (number t) q r (omega arith) ht hq P.order (omega arith) e refl)

-- the variables of the open FORs are loop variables
abbrev pub Loops : Case → List Text → Type 0
Loops C scope = (x : Text) → member x scope ≡ true → C.w.variables x ≡ true

-- a statement that opens and closes no block
pub record Plain (C : Case) (scope : List Text) (s k : ℕ) (us : List Use) : Type 0 where
  pub place : Place C scope s k (attribute_names C.w.variables us)
  pub whole : Whole C.low s k
  pub after : Begun C scope (suc k)

pub plain : (C : Case) (scope : List Text) (s k : ℕ) (us : List Use) (es : List Expression) (S : Shape C s k us es) (K p q r : ℕ) → get_or C.words k 0 ≡ word K p q r → K < 256 → eqb K Fields.RANGE ≡ false → eqb K Fields.NEXT ≡ false → Begun C scope s
    → StatementOk C.w.variables us es → Fitting C.kinds.known us → Loops C scope → length scope ≤ 32 → Plain C scope s k us
plain C scope s k us es S K p q r ow hK e f B O fit loops shallow =
    let d : depths_before C (suc k) ≡ depths_before C s = depths_other C.ids C.words C.first k (rw (ow, kind_word K p q r hK) e) (rw (ow, kind_word K p q r hK) f) ∙ depths_own C s k us es S B.start_words in
    let D : Deep C scope (depths_before C (suc k)) = subst (Deep C scope) (sym d) B.depths in
    record {
      place = placed C scope s k us es S B.start_words O fit loops shallow D.held;
      whole = whole C scope s k us es S B.start_words O fit loops shallow D.held B.start_low;
      after = record {
        start_words = after_words C scope s k us es S B.start_words O fit loops shallow D.held;
        start_low = after_low C scope s k us es S B.start_words O fit loops shallow D.held;
        depths = D;
      };
    }
