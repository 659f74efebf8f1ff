-- The instruction of a word, by its kind.
use Prim.Native.Nat.{ℕ, ◌%◌, ◌≤◌, ◌<◌}
use mathlib.Core.Path.{◌≡◌, refl, sym, ap, subst, ◌∙◌}
use mathlib.Core.Bool.{Bool, true, false, cond}
use mathlib.Core.List.{List}
use lib.Dec.{eqb, ltb}
use lib.ListN.{length, get_or}
use borrow.Author.Tests.{lt-ltb, le-ltb, ne_eqb, eqb-true}
use Rattle.words.specs.Fields as Fields
use Rattle.machine.specs.Instructions.{Instr, END, PASS, ASSIGN, PRINT, TEST, AGAIN, RANGE, NEXT, JUMP, decode, instr}
use Rattle.definition.proofs.BoolLaws.{apart}

-- what a word of kind k may be: anything but the end, and a PRINT if that is its kind
pub data Decoded (k : ℕ) : Instr → Type 0 where
  a_pass : Decoded k PASS
  an_assign : Decoded k ASSIGN
  a_print : k ≡ Fields.PRINT → Decoded k PRINT
  a_test : {n : ℕ} → Decoded k (TEST n)
  an_again : {n : ℕ} → Decoded k (AGAIN n)
  a_range : {d n : ℕ} → Decoded k (RANGE d n)
  a_next : {d n : ℕ} → Decoded k (NEXT d n)
  a_jump : {n : ℕ} → Decoded k (JUMP n)

decoded : (at k p q : ℕ) → Decoded k (decode at k p q)
unfolding decode
decoded at k p q =
    either (eqb k Fields.ASSIGN) an_assign
    (prints (eqb k Fields.PRINT) refl
    (either (eqb k Fields.TEST) a_test
    (either (eqb k Fields.AGAIN) an_again
    (either (eqb k Fields.RANGE) a_range
    (either (eqb k Fields.NEXT) a_next
    (either (eqb k Fields.JUMP) (either (ltb at q) a_jump a_pass) a_pass))))))
  where
    either : (b : Bool) {x y : Instr} → Decoded k x → Decoded k y → Decoded k (cond b x y)
    either true x y = x
    either false x y = y

    prints : (b : Bool) → eqb k Fields.PRINT ≡ b → {y : Instr} → Decoded k y → Decoded k (cond b PRINT y)
    prints true e y = a_print (eqb-true k Fields.PRINT e)
    prints false e y = y

abbrev is_end : Instr → Bool
is_end END = true
is_end PASS = false
is_end ASSIGN = false
is_end PRINT = false
is_end (TEST n) = false
is_end (AGAIN n) = false
is_end (RANGE d n) = false
is_end (NEXT d n) = false
is_end (JUMP n) = false

not_end : {k : ℕ} {i : Instr} → Decoded k i → is_end i ≡ false
not_end a_pass = refl
not_end an_assign = refl
not_end (a_print e) = refl
not_end a_test = refl
not_end an_again = refl
not_end a_range = refl
not_end a_next = refl
not_end a_jump = refl

-- a kind of no statement, as the code's match tells it
abbrev pub Other : ℕ → Type 0
Other k =
    ((((((Unit {0} × (k ≡ Fields.RANGE → ⊥)) × (k ≡ Fields.NEXT → ⊥)) × (k ≡ Fields.ASSIGN → ⊥)) × (k ≡ Fields.TEST → ⊥)) × (k ≡ Fields.JUMP → ⊥)) × (k ≡ Fields.AGAIN → ⊥))
    × (k ≡ Fields.PRINT → ⊥)

module _ (code : List ℕ) (at : ℕ) where
  abbrev the_word : ℕ
  the_word = get_or code at 0

  pub instr_end : length code ≤ at → instr code at ≡ END
  unfolding instr
  instr_end h = rw (le-ltb _ _ h) refl

  module _ (h : at < length code) where
    pub instr_decoded : instr code at ≡ decode at (Fields.kind_of the_word) (Fields.p_of the_word) (Fields.q_of the_word)
    unfolding instr
    instr_decoded = rw (lt-ltb _ _ h) refl

    pub instr_is : Decoded (Fields.kind_of the_word) (instr code at)
    instr_is = subst (Decoded (Fields.kind_of the_word)) (sym instr_decoded) (decoded at (Fields.kind_of the_word) (Fields.p_of the_word) (Fields.q_of the_word))

    pub instr_goes_on : instr code at ≡ END → ⊥
    instr_goes_on e = apart (ap is_end (sym e) ∙ not_end instr_is)

    instr_kind : (k : ℕ) → Fields.kind_of the_word ≡ k → instr code at ≡ decode at k (Fields.p_of the_word) (Fields.q_of the_word)
    instr_kind k e = instr_decoded ∙ ap (λ j. decode at j (Fields.p_of the_word) (Fields.q_of the_word)) e

    pub is_assign : Fields.kind_of the_word ≡ Fields.ASSIGN → instr code at ≡ ASSIGN
    unfolding decode
    is_assign e = instr_kind Fields.ASSIGN e

    pub is_print : Fields.kind_of the_word ≡ Fields.PRINT → instr code at ≡ PRINT
    unfolding decode
    is_print e = instr_kind Fields.PRINT e

    pub is_test : Fields.kind_of the_word ≡ Fields.TEST → instr code at ≡ TEST (Fields.q_of the_word)
    unfolding decode
    is_test e = instr_kind Fields.TEST e

    pub is_again : Fields.kind_of the_word ≡ Fields.AGAIN → instr code at ≡ AGAIN (Fields.q_of the_word)
    unfolding decode
    is_again e = instr_kind Fields.AGAIN e

    pub is_range : Fields.kind_of the_word ≡ Fields.RANGE → instr code at ≡ RANGE (Fields.p_of the_word % 32) (Fields.q_of the_word)
    unfolding decode
    is_range e = instr_kind Fields.RANGE e

    pub is_next : Fields.kind_of the_word ≡ Fields.NEXT → instr code at ≡ NEXT (Fields.p_of the_word % 32) (Fields.q_of the_word)
    unfolding decode
    is_next e = instr_kind Fields.NEXT e

    pub is_jump : Fields.kind_of the_word ≡ Fields.JUMP → at < Fields.q_of the_word → instr code at ≡ JUMP (Fields.q_of the_word)
    unfolding decode
    is_jump e l = instr_kind Fields.JUMP e ∙ rw (lt-ltb _ _ l) refl

    pub is_back : Fields.kind_of the_word ≡ Fields.JUMP → Fields.q_of the_word ≤ at → instr code at ≡ PASS
    unfolding decode
    is_back e l = instr_kind Fields.JUMP e ∙ rw (le-ltb _ _ l) refl

    pub is_pass : Other (Fields.kind_of the_word) → instr code at ≡ PASS
    unfolding decode
    is_pass z =
        instr_decoded
        ∙ simp (ne_eqb _ _ z.0.0.0.0.1, ne_eqb _ _ z.1, ne_eqb _ _ z.0.0.0.1, ne_eqb _ _ z.0.1, ne_eqb _ _ z.0.0.0.0.0.0.1, ne_eqb _ _ z.0.0.0.0.0.1, ne_eqb _ _ z.0.0.1)
