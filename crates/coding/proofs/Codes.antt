-- The codes of tokens, as the code of the pass works them out.
use Prim.Native.Nat.{ℕ, ◌+◌, ◌*◌, ◌-◌, ◌/◌, ◌%◌, ◌<◌, ◌≤◌}
use mathlib.Core.Path.{◌≡◌, refl, sym, ap, ◌∙◌}
use mathlib.Core.Bool.{Bool, true, false, ◌||◌, cond, or-false}
use mathlib.Core.List.{List, []}
use native.Mathlib.Omega.{arith}
use borrow.Author.Tests.{eq-eqb, ne_eqb, eqb-true, eqb-false, lt-ltb, le-ltb, le-leb, lt-leb, ltb-true}
use lib.Dec.{eqb, ltb, leb-suc-suc}
use lib.ListN.{length, get_or, set, length-set}
use lib.Seq.{get_or-set_same, get_or-set_other}
use Rattle.definition.specs.Text.{Text}
use Rattle.words.specs.Fields.{kind_of, p_of}
use Rattle.parts.specs.Entries.{index}
use Rattle.slots.specs.declared.Found.{Found}
use Rattle.slots.specs.Slots.{takes, of_loop, slot_of, digit_at}
use Rattle.coding.specs.Pass.{is_named, token_part, string_code, name_code, code_of}
use Rattle.coding.specs.Turns.{with_code, Coded}

-- kinds of names and strings
pub named_not : (k : ℕ) → k ≡ 0 → false ≡ is_named k
unfolding is_named
named_not k e = rw e refl

pub named_name : (k : ℕ) → (k ≡ 0 → ⊥) → k < 8 → true ≡ is_named k
unfolding is_named
named_name k n l =
    let a : 0 < k = omega arith in
    let b : k ≤ 7 = omega arith in
    rw (lt-ltb 0 k a, le-leb k 7 b) refl

pub named_other : (k : ℕ) → 8 ≤ k → k < 42 → eqb k 23 ≡ is_named k
unfolding is_named
named_other k l m =
    let a : 0 < k = omega arith in
    let b : 7 < k = omega arith in
    rw (lt-ltb 0 k a, lt-leb k 7 b, lt-leb 42 k m) (sym (or-false (eqb k 23)))

pub named_string : (k : ℕ) → 42 ≤ k → ltb k 45 ≡ is_named k
unfolding is_named
named_string k l =
    let a : 0 < k = omega arith in
    let b : 7 < k = omega arith in
    let c : k ≡ 23 → ⊥ = λ e. omega arith in
    rw (lt-ltb 0 k a, lt-leb k 7 b, ne_eqb k 23 c, le-leb 42 k l, leb-suc-suc k 44) refl

-- strings
module _ (facts query : Text) (places tokens : List ℕ) (t w v i : ℕ) (ew : w ≡ get_or tokens t 0) (ev : v ≡ token_part w) (ei : i ≡ index facts query v places) where
  same_index : i ≡ index facts query (token_part (get_or tokens t 0)) places
  same_index = rw (← ew, ← ev) ei

  pub string_found : i < length places → i ≡ string_code facts query places tokens [] [] t
  unfolding string_code
  string_found l = rw (← same_index, lt-ltb i (length places) l) refl

  pub string_none : length places ≤ i → 255 ≡ string_code facts query places tokens [] [] t
  unfolding string_code
  string_none l = rw (← same_index, le-ltb i (length places) l) refl

-- names
module _ (ids known : List ℕ) (f : Found) (depths : List ℕ) (t j a : ℕ) (ej : j ≡ get_or ids t 0) (ea : a ≡ get_or known j 0) where
  abbrev right : ℕ
  right = name_code [] [] [] [] ids known f depths (get_or ids t 0)

  at_kind : right ≡ cond (ltb 3 a) ((a - 4) / 4) (cond (of_loop a) (72 + get_or depths j 0) (63 + slot_of f j))
  unfolding name_code
  at_kind = rw (← ej, ← ea) refl

  pub name_relation : 3 < a → (a - 4) / 4 ≡ right
  name_relation l = sym (at_kind ∙ rw (lt-ltb 3 a l) refl)

  looped : (a : ℕ) → a ≤ 3 → 1 < a → of_loop a ≡ true
  unfolding of_loop
  looped a m l = go (eqb a 2) refl
    where
      go : (b : Bool) → eqb a 2 ≡ b → cond b true (eqb a 3) ≡ true
      go true e = refl
      go false e = let n = eqb-false a 2 e in eq-eqb a 3 (omega arith)

  unlooped : (a : ℕ) → a ≤ 1 → of_loop a ≡ false
  unfolding of_loop
  unlooped a m =
      let p : a ≡ 2 → ⊥ = λ e. omega arith in
      let q : a ≡ 3 → ⊥ = λ e. omega arith in
      rw (ne_eqb a 2 p, ne_eqb a 3 q) refl

  pub name_loop : (v : ℕ) → a ≤ 3 → 1 < a → v ≡ get_or depths j 0 → 72 + v ≡ right
  name_loop v m l e = sym (at_kind ∙ rw (le-ltb 3 a m, looped a m l, e) refl)

  pub name_slot : (v : ℕ) → a ≤ 1 → t < 65536 → v ≡ digit_at f ids (3 + t * 256) → 63 + v ≡ right
  unfolding digit_at takes
  name_slot v m l e =
      let k : (3 + t * 256) % 256 ≡ 3 = omega arith in
      let d : (3 + t * 256) / 256 ≡ t = omega arith in
      let p : (3 + t * 256) / 256 % 65536 ≡ t = rw d (omega arith) in
      let n : a ≤ 3 = omega arith in
      let s : v ≡ slot_of f j = e ∙ rw (k, p, ← ej) refl in
      sym (at_kind ∙ rw (le-ltb 3 a n, unlooped a m, s) refl)

module _ (facts query : Text) (places tokens ids known : List ℕ) (f : Found) (depths : List ℕ) where
  -- the code of a token
  module _ (t w v : ℕ) (ew : w ≡ get_or tokens t 0) where
    string_any : string_code facts query places tokens [] [] t ≡ string_code facts query places tokens ids known t
    unfolding string_code
    string_any = refl

    name_any : name_code [] [] [] [] ids known f depths (get_or ids t 0) ≡ name_code facts query places tokens ids known f depths (get_or ids t 0)
    unfolding name_code
    name_any = refl

    pub code_string : w % 64 ≡ 48 → v ≡ string_code facts query places tokens [] [] t → v ≡ code_of facts query places tokens ids known f depths t
    unfolding code_of
    code_string e q =
        let b : eqb (get_or tokens t 0 % 64) 48 ≡ true = rw (← ew) (eq-eqb (w % 64) 48 e) in
        rw b (q ∙ string_any)

    pub code_name : (w % 64 ≡ 48 → ⊥) → v ≡ name_code [] [] [] [] ids known f depths (get_or ids t 0) → v ≡ code_of facts query places tokens ids known f depths t
    unfolding code_of
    code_name e q =
        let b : eqb (get_or tokens t 0 % 64) 48 ≡ false = rw (← ew) (ne_eqb (w % 64) 48 e) in
        rw b (q ∙ name_any)

  -- one code more
  module _ (w : ℕ) (codes : List ℕ) where
    pub code_unnamed : (b : Bool) → b ≡ is_named (w % 256) → b ≡ false → codes ≡ with_code facts query places tokens ids known f depths w codes
    unfolding with_code
    code_unnamed b e t = let q : is_named (kind_of w) ≡ false = sym e ∙ t in rw q refl

    pub code_far : (b : Bool) → b ≡ is_named (w % 256) → b ≡ true → length tokens ≤ w / 256 % 65536 → codes ≡ with_code facts query places tokens ids known f depths w codes
    unfolding with_code
    code_far b e t l = let q : is_named (kind_of w) ≡ true = sym e ∙ t in rw (q, le-ltb (p_of w) (length tokens) l) refl

    pub code_put : (b : Bool) (c : ℕ) (new : List ℕ) → b ≡ is_named (w % 256) → b ≡ true → w / 256 % 65536 < length tokens
        → c ≡ code_of facts query places tokens ids known f depths (w / 256 % 65536) → new ≡ set codes (w / 256 % 65536) c → new ≡ with_code facts query places tokens ids known f depths w codes
    unfolding with_code
    code_put b c new e t l ec en = let q : is_named (kind_of w) ≡ true = sym e ∙ t in rw (q, lt-ltb (p_of w) (length tokens) l, ← ec) en

  -- the codes of one word more
  module _ (codes : List ℕ) (room : length tokens ≤ length codes) (w : ℕ) where
    abbrev new : List ℕ
    new = with_code facts query places tokens ids known f depths w codes

    abbrev is : ℕ → ℕ
    is t = code_of facts query places tokens ids known f depths t

    code_length : length new ≡ length codes
    unfolding with_code
    code_length = go (is_named (kind_of w)) (ltb (p_of w) (length tokens))
      where
        go : (b d : Bool) → length (cond b (cond d (set codes (p_of w) (is (p_of w))) codes) codes) ≡ length codes
        go true true = length-set codes (p_of w) (is (p_of w))
        go true false = refl
        go false d = refl

    code_own : is_named (kind_of w) ≡ true → p_of w < length tokens → get_or new (p_of w) 0 ≡ is (p_of w)
    unfolding with_code
    code_own e l =
        let h : p_of w < length codes = omega arith in
        rw (e, lt-ltb (p_of w) (length tokens) l) (get_or-set_same codes (p_of w) (is (p_of w)) 0 h)

    code_kept : (t : ℕ) → get_or codes t 0 ≡ is t → get_or new t 0 ≡ is t
    unfolding with_code
    code_kept t h = go (is_named (kind_of w)) (ltb (p_of w) (length tokens)) refl
      where
        put : (b : Bool) → eqb t (p_of w) ≡ b → p_of w < length codes → get_or (set codes (p_of w) (is (p_of w))) t 0 ≡ is t
        put true e l = let z : t ≡ p_of w = eqb-true t (p_of w) e in rw z (get_or-set_same codes (p_of w) (is (p_of w)) 0 l)
        put false e l = get_or-set_other codes (p_of w) t (is (p_of w)) 0 (eqb-false t (p_of w) e) ∙ h

        go : (b d : Bool) → ltb (p_of w) (length tokens) ≡ d → get_or (cond b (cond d (set codes (p_of w) (is (p_of w))) codes) codes) t 0 ≡ is t
        go true true e = let l = ltb-true (p_of w) (length tokens) e in put (eqb t (p_of w)) refl (omega arith)
        go true false e = h
        go false d e = h

    module _ (words out : List ℕ) (s i : ℕ) (ew : w ≡ get_or words i 0) (eo : out ≡ new) where
      pub coded_length : length out ≡ length codes
      coded_length = ap length eo ∙ code_length

      pub coded_on : Coded facts query places tokens ids known f depths words codes s i → Coded facts query places tokens ids known f depths words out s (i + 1)
      coded_on h j a b n l = rw eo (go (eqb j i) refl)
        where
          go : (b : Bool) → eqb j i ≡ b → get_or new (p_of (get_or words j 0)) 0 ≡ is (p_of (get_or words j 0))
          go true e =
              let z : get_or words j 0 ≡ w = ap (λ (x : ℕ). get_or words x 0) (eqb-true j i e) ∙ sym ew in
              rw z (code_own (rw z at n) (rw z at l))
          go false e = let q = eqb-false j i e in code_kept (p_of (get_or words j 0)) (h j a (omega arith) n l)
