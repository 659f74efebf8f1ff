-- One turn, as the code does it by the kind of the word.
use Prim.Native.Nat.{ℕ, suc, ◌+◌, ◌-◌, ◌<◌, ◌≤◌}
use native.Mathlib.Omega.{arith}
use native.Mathlib.Numerals.{add-one}
use mathlib.Core.Path.{◌≡◌, refl, sym, ap, ◌∙◌}
use mathlib.Core.Bool.{Bool, true, false, cond}
use mathlib.Core.List.{List}
use lib.Dec.{eqb, ltb}
use lib.ListN.{length, get_or, set}
use lib.Seq.{sets}
use borrow.Author.Tests.{eqb-true, eqb-false, ltb-true, ltb-false, lt-ltb, le-ltb, lt-leb, le-leb}
use Rattle.words.specs.Fields as Fields
use Rattle.words.specs.Fields.{kind_of, q_of}
use Rattle.definition.specs.Text.{Text}
use Rattle.machine.specs.Instructions.{Instr, PASS, ASSIGN, PRINT, TEST, AGAIN, RANGE, NEXT, JUMP, instr}
use Rattle.machine.specs.Actions.{Actions}
use Rattle.machine.specs.Turns.{Held, held, next_at, overflows, goes_after, turn_by, turn, is_full}
use Rattle.lines.specs.Put.{Printed}
use Rattle.machine.specs.Bound.{Turned}
use Rattle.machine.proofs.Decoding.{Decoded, a_pass, an_assign, a_print, a_test, an_again, a_range, a_next, a_jump, instr_is, is_print, is_jump, is_back, is_pass}

-- a kind of no step but a PRINT, as the code's match tells it
abbrev pub Steps : ℕ → Type 0
Steps k = ((((Unit {0} × (k ≡ Fields.RANGE → ⊥)) × (k ≡ Fields.NEXT → ⊥)) × (k ≡ Fields.ASSIGN → ⊥)) × (k ≡ Fields.TEST → ⊥)) × (k ≡ Fields.AGAIN → ⊥)

module _ (A : Actions) (u : ℕ) (code : List ℕ) (pc used : ℕ) (s : List ℕ) (buffer : Text) (ss cs vs : List ℕ) where
  abbrev before : Held
  before = held pc used s buffer ss cs vs

  turn_is : (i : Instr) → instr code pc ≡ i → turn A u code before ≡ turn_by A u i before
  unfolding turn
  turn_is i e = ap (λ j. turn_by A u j before) e

  -- no statement's word: the machine stays
  pub by_none : instr code pc ≡ PASS → before ≡ turn A u code before
  by_none e = sym (turn_is PASS e)

  pub by_jump : {n : ℕ} → instr code pc ≡ JUMP n → before ≡ turn A u code before
  by_jump {n} e = sym (turn_is (JUMP n) e)

  pub by_assign : (t : List ℕ) → instr code pc ≡ ASSIGN → t ≡ A.assigns vs s pc → held (pc + 1) used t buffer ss cs vs ≡ turn A u code before
  by_assign t e h = rw (h, add-one) (sym (turn_is ASSIGN e))

  pub by_test : (n r : ℕ) (t : List ℕ) → instr code pc ≡ TEST n → r ≡ cond (A.tests vs s pc) (pc + 1) n → t ≡ A.leaves vs s pc
      → held r used t buffer ss cs vs ≡ turn A u code before
  by_test n r t e h k = rw (h, k, add-one) (sym (turn_is (TEST n) e))

  pub by_again : (n m r : ℕ) (t : List ℕ) → instr code pc ≡ AGAIN n → m ≡ n - 1 → r ≡ cond (A.tests vs s m) n (pc + 1) → t ≡ A.leaves vs s m
      → held r used t buffer ss cs vs ≡ turn A u code before
  by_again n m r t e j h k = rw (h, k, j, add-one) (sym (turn_is (AGAIN n) e))

  pub by_range : (d n r : ℕ) (t : List ℕ) → instr code pc ≡ RANGE d n → r ≡ A.ranges vs s pc → t ≡ A.leaves vs s pc
      → held n used t buffer (set ss d r) (set cs d 0) vs ≡ turn A u code before
  by_range d n r t e h k = rw (h, k) (sym (turn_is (RANGE d n) e))

  pub by_next : (d n : ℕ) (cs' vs' : List ℕ) → instr code pc ≡ NEXT d n → cs' ≡ set cs d (next_at u ss cs d + 1) → vs' ≡ set vs d (next_at u ss cs d)
      → held n used s buffer ss cs' vs' ≡ turn A u code before
  by_next d n cs' vs' e h k = rw (h, k, add-one) (sym (turn_is (NEXT d n) e))

  -- the word is of no statement, or a jump
  module _ (h : pc < length code) (k : Steps (kind_of (get_or code pc 0))) (q : kind_of (get_or code pc 0) ≡ Fields.PRINT → ⊥) where
    no_jump : (b : Bool) → eqb (kind_of (get_or code pc 0)) Fields.JUMP ≡ b → (l : Bool) → ltb pc (q_of (get_or code pc 0)) ≡ l → before ≡ turn A u code before
    no_jump true e true l = by_jump (is_jump code pc h (eqb-true _ _ e) (ltb-true _ _ l))
    no_jump true e false l = by_none (is_back code pc h (eqb-true _ _ e) (ltb-false _ _ l))
    no_jump false e l m = by_none (is_pass code pc h (((((((tt, k.0.0.0.0.1), k.0.0.0.1), k.0.0.1), k.0.1), eqb-false _ _ e), k.1), q))

    pub by_rest : before ≡ turn A u code before
    by_rest = no_jump (eqb (kind_of (get_or code pc 0)) Fields.JUMP) refl (ltb pc (q_of (get_or code pc 0))) refl

-- a test's value, and where it goes on
pub by_yes : {r t : Bool} → r ≡ t → r ≡ true → (y n : ℕ) → y ≡ cond t y n
by_yes e h y n = ap (λ b. cond b y n) (sym (sym e ∙ h))

pub by_no : {r t : Bool} → r ≡ t → r ≡ false → (y n : ℕ) → n ≡ cond t y n
by_no e h y n = ap (λ b. cond b y n) (sym (sym e ∙ h))

-- A PRINT, and that no other word's step overflows.
no_print : (A : Actions) (u k : ℕ) {i : Instr} (c : Held) → Decoded k i → (k ≡ Fields.PRINT → ⊥) → false ≡ overflows A u i c
no_print A u k c a_pass n = refl
no_print A u k c an_assign n = refl
no_print A u k c (a_print e) n = absurd (n e)
no_print A u k c a_test n = refl
no_print A u k c an_again n = refl
no_print A u k c a_range n = refl
no_print A u k c a_next n = refl
no_print A u k c a_jump n = refl

module _ (A : Actions) (u : ℕ) (code : List ℕ) (pc used : ℕ) (s : List ℕ) (buffer : Text) (ss cs vs : List ℕ) (h : pc < length code) where
  abbrev from : Held
  from = held pc used s buffer ss cs vs

  pub act_step : (kind_of (get_or code pc 0) ≡ Fields.PRINT → ⊥) → (c' : Held) → c' ≡ turn A u code from → Turned A u code from false c'
  unfolding is_full
  act_step n c' e = record { fits = no_print A u (kind_of (get_or code pc 0)) from (instr_is code pc h) n; same = e }

  module _ (k : kind_of (get_or code pc 0) ≡ Fields.PRINT) {r : ℕ} {out t : List ℕ} (p : Printed buffer used (A.prints vs s pc) r out) (q : t ≡ A.leaves vs s pc) where
    abbrev x : Text
    x = A.prints vs s pc

    is : instr code pc ≡ PRINT
    is = is_print code pc h k

    whether : (b : Bool) → ltb (length buffer) (used + length x) ≡ b → b ≡ is_full A u code from
    unfolding is_full
    whether b e = sym (ap (λ i. overflows A u i from) is ∙ e)

    turns : (b : Bool) → ltb (length buffer) (used + length x) ≡ b
        → cond b (goes_after A u pc pc from) (held (suc pc) (used + length x) (A.leaves vs s pc) (sets buffer used x) ss cs vs) ≡ turn A u code from
    unfolding turn
    turns b e = sym (ap (λ i. turn_by A u i from) is ∙ rw e refl)

    pub act_full : length buffer < r → Turned A u code from true (held pc used t out ss cs vs)
    act_full l =
        let o : length buffer < used + length x = omega (arith, p.end) in
        let b : out ≡ buffer = p.bytes ∙ rw (lt-leb (used + length x) (length buffer) o) refl in
        record { fits = whether true (lt-ltb _ _ o); same = rw (q, b) (turns true (lt-ltb _ _ o)) }

    pub act_print : r ≤ length buffer → Turned A u code from false (held (pc + 1) r t out ss cs vs)
    act_print l =
        let o : used + length x ≤ length buffer = omega (arith, p.end) in
        let e : r ≡ used + length x = omega (arith, p.end) in
        let b : out ≡ sets buffer used x = p.bytes ∙ rw (le-leb (used + length x) (length buffer) o) refl in
        record { fits = whether false (le-ltb _ _ o); same = rw (q, b, e, add-one) (turns false (le-ltb _ _ o)) }
