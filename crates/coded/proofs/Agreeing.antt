-- The arrays that one statement was lowered by agree with the definition.
use Prim.Native.Nat.{ℕ, suc, ◌+◌, ◌-◌, ◌%◌, ◌<◌, ◌≤◌}
use mathlib.Core.Path.{◌≡◌, refl, sym, ap, subst, ◌∙◌}
use mathlib.Core.Bool.{Bool, true, false, cond}
use mathlib.Core.List.{List, [], map}
use native.Mathlib.Omega.{arith}
use borrow.Author.Tests.{ne_eqb, eq-eqb, ltb-true, ltb-false}
use lib.Dec.{ltb}
use lib.ListN.{length, get_or, take, drop}
use Rattle.definition.specs.Text.{Text, member}
use Rattle.definition.specs.Token.{Token, value}
use Rattle.definition.specs.Names.{attribute, relation, is_variable, variables}
use Rattle.definition.specs.Tables.{bit}
use Rattle.definition.specs.Pattern.{matches}
use Rattle.definition.specs.Accept.{elements}
use Rattle.definition.specs.Meaning.{numbers}
use Rattle.definition.proofs.BoolLaws.{is_true, contradiction}
use Rattle.definition.proofs.RelationLaws.{place_of}
use Rattle.definition.specs.Facts.{Ascending}
use Rattle.words.specs.Fields.{word, ATTRIBUTE}
use Rattle.words.specs.Raw.{number}
use Rattle.words.specs.Tokens.{OwnName, OwnString, OwnLiteral}
use Rattle.words.proofs.FieldLaws.{kind_word, p_word}
use Rattle.parts.specs.Packed.{text_of}
use Rattle.parts.specs.Entries.{index}
use Rattle.parts.proofs.HeldLaws.{length_texts}
use Rattle.intern.specs.Entries.{QUOTED, text_at}
use Rattle.kinds.specs.Walk.{known_of}
use Rattle.slots.specs.declared.Found.{Found}
use Rattle.slots.specs.Slots.{takes, of_loop, digit_at}
use Rattle.slots.specs.Slots as Slots
use Rattle.free.specs.Words as Free
use Rattle.free.specs.Words.{terms}
use Rattle.free.proofs.Slotted.{slot}
use Rattle.free.proofs.Trees.{after_other, at_start}
use Rattle.rows.specs.Statements.{Setting}
use Rattle.rows.proofs.Coding as Coding
use Rattle.lowering.specs.Lowering.{at, number_of, token_values, lower_at, Filled}
use Rattle.lowering.specs.Agreement.{Element, found, missing, Agrees, Spelled, Valued}
use Rattle.lowering.proofs.FreeWords.{free_at}
use Rattle.coding.specs.Pass.{token_part, string_code, name_code, code_of, Made}
use Rattle.coded.proofs.Bytes.{byte_of, byte_scope, byte_name, name_range, scope_range}
use Rattle.coded.proofs.Kept.{named_by, by_true, kept, kept_length, was_name, was_string, was_literal}
use Rattle.coded.proofs.Codes.{attribute_number, loop_number, relation_number, place_known, part_is, index_found, index_none}
use Rattle.coded.proofs.Halves.{half_bit}
use Rattle.coded.proofs.Given.{Case, depths_before, values_of, Place}

module _ (C : Case) where
  -- the tokens of names
  module _ (t : Token) (o : OwnName C.ts t) where
    pub name_here : number t < length C.tokens
    name_here = omega (arith, o.inside, C.stand.count)

    pub name_text : t.text ≡ text_at C.query (get_or C.tokens (number t) 0)
    name_text = ap (λ (u : Token). u.text) (sym o.found) ∙ C.stand.texts (number t) name_here

    pub name_known : C.kinds.known t.text ≡ known_of (get_or C.known (get_or C.ids (number t) 0) 0)
    name_known = ap C.kinds.known name_text ∙ C.stands.knows (number t) name_here

    not_quoted : get_or C.tokens (number t) 0 % 64 ≡ QUOTED → ⊥
    not_quoted = C.stand.names (number t) name_here (ap (λ (u : Token). u.terminal) o.found ∙ o.is_name)

    module _ (f : Found) (depths : List ℕ) where
      abbrev the_code : ℕ
      the_code = code_of C.facts C.query C.places C.tokens C.ids C.known f depths (number t)

      attribute_code : C.kinds.known t.text ≡ attribute → the_code ≡ 63 + Slots.slot_of f (get_or C.ids (number t) 0)
      unfolding code_of name_code of_loop
      attribute_code e =
          let a : get_or C.known (get_or C.ids (number t) 0) 0 ≡ 1 = attribute_number (get_or C.known (get_or C.ids (number t) 0) 0) (sym name_known ∙ e) in
          rw (ne_eqb (get_or C.tokens (number t) 0 % 64) QUOTED not_quoted, a) refl

      pub loop_code : variables C.kinds t.text ≡ true → the_code ≡ 72 + get_or depths (get_or C.ids (number t) 0) 0
      unfolding code_of name_code
      loop_code e =
          let (a, b) = loop_number (get_or C.known (get_or C.ids (number t) 0) 0) (sym (ap is_variable name_known) ∙ e) in
          rw (ne_eqb (get_or C.tokens (number t) 0 % 64) QUOTED not_quoted, b, a) refl

      relation_code : (i n : ℕ) → C.kinds.known t.text ≡ relation i n → the_code ≡ i
      unfolding code_of name_code
      relation_code i n e =
          let (a, b) = relation_number (get_or C.known (get_or C.ids (number t) 0) 0) i n (sym name_known ∙ e) in
          rw (ne_eqb (get_or C.tokens (number t) 0 % 64) QUOTED not_quoted, a) b

  -- the tokens of strings
  module _ (t : Token) (o : OwnString C.ts t) where
    string_here : number t < length C.tokens
    string_here = omega (arith, o.inside, C.stand.count)

    string_text : text_at C.query (get_or C.tokens (number t) 0) ≡ t.text
    string_text = sym (C.stand.texts (number t) string_here) ∙ ap (λ (u : Token). u.text) o.found

    quoted : get_or C.tokens (number t) 0 % 64 ≡ QUOTED
    quoted = C.stand.strings (number t) string_here (ap (λ (u : Token). u.terminal) o.found ∙ o.is_string)

    abbrev part : ℕ
    part = token_part (get_or C.tokens (number t) 0)

    abbrev place : ℕ
    place = index C.facts C.query part C.places

    part_text : text_of C.facts C.query part ≡ t.text
    part_text = part_is C.facts C.query (get_or C.tokens (number t) 0) ∙ string_text

    ordered : Ascending (map (text_of C.facts C.query) C.places)
    ordered = subst Ascending (sym C.universe) C.ascending

    number_is : numbers t.text C.w.universe 0 ≡ numbers (text_of C.facts C.query part) (map (text_of C.facts C.query) C.places) 0
    number_is = rw (C.universe, part_text) refl

    as_many : elements C.w ≡ length C.places
    as_many = ap length (sym C.universe) ∙ length_texts C.facts C.query C.places

    string_element : (ts' : List Token) (loops : List Text) (In : Text → Bool) → Element C.w ts' loops In t (string_code C.facts C.query C.places C.tokens C.ids C.known (number t))
    unfolding string_code
    string_element ts' loops In = go (ltb place (length C.places)) refl
      where
        go : (b : Bool) → ltb place (length C.places) ≡ b → Element C.w ts' loops In t (cond b place 255)
        go true e =
            let h = ltb-true place (length C.places) e in
            found (number_is ∙ index_found C.facts C.query part C.places ordered h) (omega (arith, h, as_many))
        go false e = missing (number_is ∙ index_none C.facts C.query part C.places (ltb-false place (length C.places) e)) refl

    half_is : (a i : ℕ) → i < 32 → a + i < elements C.w → bit ((values_of C).half (number t) a % 4294967296) i ≡ matches t.text (get_or C.w.universe (a + i) [])
    unfolding token_values
    half_is a i l h = rw (string_text, C.universe) (half_bit t.text C.w.universe a i l h)

    string_is : (f : Found) (depths : List ℕ)
        → code_of C.facts C.query C.places C.tokens C.ids C.known f depths (number t) ≡ string_code C.facts C.query C.places C.tokens C.ids C.known (number t)
    unfolding code_of
    string_is f depths = rw (eq-eqb (get_or C.tokens (number t) 0 % 64) QUOTED quoted) refl

  -- the tokens of literals
  literal_is : (t : Token) → OwnLiteral C.ts t → (values_of C).number (number t) ≡ value t.text
  unfolding token_values number_of
  literal_is t o =
      let here : number t < length C.tokens = omega (arith, o.inside, C.stand.count) in
      ap value (sym (C.stand.texts (number t) here) ∙ ap (λ (u : Token). u.text) o.found)

  abbrev setting : Setting C.words C.ids C.known
  setting = record {
    facts = C.facts;
    query = C.query;
    tokens = C.tokens;
    relations = C.relations;
    count = C.count;
    kinds = C.kinds;
    stands = C.stands;
    ts = C.ts;
    stand = C.stand;
    few = C.few;
    small = C.small;
  }

  pub is_loop : (x : Text) → variables C.kinds x ≡ C.w.variables x
  is_loop x = ap (λ (v : Text → Bool). v x) C.same_variables

  module _ (scope : List Text) (s k : ℕ) (names : List Text) (P : Place C scope s k names) where
    abbrev pub takes_token : ℕ → Bool
    takes_token t = named_by C.words (suc k - s) s t

    -- the tokens that the statement's words name
    abbrev pub own_tokens : List Token
    own_tokens = kept takes_token C.ts

    abbrev pub In : Text → Bool
    In x = member x names

    abbrev pub β : Text → ℕ
    β = byte_of scope names

    abbrev pub M : Made C.facts C.query C.places C.tokens C.ids C.known C.words C.low (elements C.w) (depths_before C (suc k)).depths s k
    M = P.made

    abbrev pub Clear : ℕ → Type 0
    Clear n = terms (Free.at C.words) (Free.at M.fr) s n ≡ 0

    abbrev D : ℕ → ℕ
    D = digit_at M.found C.ids

    abbrev part_words : List ℕ
    part_words = take (suc k - s) (drop s C.words)

    pub short : length names ≤ 4
    short = Coding.found_short C.words C.ids C.known setting M.found part_words names P.coded M.names M.few

    named_digit : (c : ℕ) (t : Token) → takes c ≡ true → c < 256 → OwnName C.ts t → D (word c (number t) 0 0) ≡ slot names t.text
    named_digit = Coding.named_digit C.words C.ids C.known setting M.found part_words names P.coded M.names M.few

    own_digit : (c : ℕ) (t : Token) → takes c ≡ true → c < 256 → OwnName own_tokens t → D (word c (number t) 0 0) ≡ slot names t.text
    own_digit c t e h o = named_digit c t e h (was_name takes_token C.ts t o).0

    other_digit : (c p : ℕ) → takes c ≡ false → c < 256 → D (word c p 0 0) ≡ 0
    other_digit = Coding.other_digit C.words C.ids C.known setting M.found part_words names P.coded M.names

    -- the slot by number is the slot by name
    slot_is : (t : Token) → OwnName C.ts t → Slots.slot_of M.found (get_or C.ids (number t) 0) ≡ slot names t.text
    unfolding digit_at takes
    slot_is t o =
        let e = named_digit ATTRIBUTE t refl (omega arith) o in
        let n : number t < 65536 = omega (arith, o.inside, C.few) in
        rw (kind_word ATTRIBUTE (number t) 0 0 (omega arith), p_word ATTRIBUTE (number t) 0 0 (omega arith) n) at e

    pub no_variable : (x : Text) → member x names ≡ true → C.w.variables x ≡ false
    no_variable x m = sym (is_loop x) ∙ ap is_variable (P.attributes x m)

    pub apart : (x : Text) → C.w.variables x ≡ true → member x names ≡ false
    apart x e = go (member x names) refl
      where
        go : (b : Bool) → member x names ≡ b → b ≡ false
        go true m = contradiction (C.w.variables x) e (no_variable x m)
        go false m = refl

    pub outside : (x : Text) → member x names ≡ true → member x scope ≡ false
    outside x m = go (member x scope) refl
      where
        go : (b : Bool) → member x scope ≡ b → b ≡ false
        go true e = contradiction (C.w.variables x) (P.loops x e) (no_variable x m)
        go false e = refl

    byte_digit : (x : Text) → member x names ≡ true → β x - 63 ≡ slot names x
    byte_digit x m = omega (arith, byte_name scope names x (outside x m) m)

    -- the code at a token of the statement
    pub code_at : (t : ℕ) → t < length C.tokens → takes_token t ≡ true → get_or M.codes t 0 ≡ code_of C.facts C.query C.places C.tokens C.ids C.known M.found (depths_before C (suc k)).depths t
    code_at t h e =
        let b = by_true C.words (suc k - s) s t e in
        let c = M.coded b.place b.from (omega (arith, b.to, P.order)) b.kind (rw b.named h) in
        rw b.named at c

    few_own : length own_tokens < 65536
    few_own = rw (kept_length takes_token C.ts) C.few

    abbrev Code : ℕ → ℕ
    Code t = get_or M.codes t 0

    attribute_byte : (t : Token) → OwnName own_tokens t → In t.text ≡ true → Code (number t) ≡ β t.text
    attribute_byte t o m =
        let (p, b) = was_name takes_token C.ts t o in
        let e = code_at (number t) (name_here t p) b ∙ attribute_code t p M.found (depths_before C (suc k)).depths (P.attributes t.text m) in
        omega (arith, e, slot_is t p, byte_name scope names t.text (outside t.text m) m)

    variable_byte : (t : Token) → OwnName own_tokens t → member t.text scope ≡ true → Code (number t) ≡ β t.text
    variable_byte t o m =
        let (p, b) = was_name takes_token C.ts t o in
        let e = code_at (number t) (name_here t p) b ∙ loop_code t p M.found (depths_before C (suc k)).depths (is_loop t.text ∙ P.loops t.text m) in
        omega (arith, e, P.deep t p m, byte_scope scope names t.text m)

    relation_byte : (r : Token) → OwnName own_tokens r → place_of r.text C.w.relations < length C.w.relations → Code (number r) ≡ place_of r.text C.w.relations
    relation_byte r o h =
        let (p, b) = was_name takes_token C.ts r o in
        let g : place_of r.text C.kinds.relations < length C.kinds.relations = rw C.same_relations h in
        let (n, q) = place_known C.kinds C.numbered r.text g in
        code_at (number r) (name_here r p) b ∙ relation_code r p M.found (depths_before C (suc k)).depths (place_of r.text C.kinds.relations) n q ∙ ap (place_of r.text) C.same_relations

    string_byte : (t : Token) → OwnString own_tokens t → Element C.w own_tokens scope In t (Code (number t))
    string_byte t o =
        let (p, b) = was_string takes_token C.ts t o in
        subst (Element C.w own_tokens scope In t) (sym (code_at (number t) (string_here t p) b ∙ string_is t p M.found (depths_before C (suc k)).depths)) (string_element t p own_tokens scope In)

    few_words : suc k < 65536
    few_words = omega (arith, P.inside, C.small)

    pub clear_first : Clear s
    clear_first = at_start own_tokens few_own C.words M.fr s (suc k) D M.free few_words names short C.w.variables apart own_digit other_digit

    pub agrees : Agrees C.w own_tokens scope In β Clear C.words M.codes M.fr s (suc k)
    agrees = record {
      attributes = attribute_byte;
      variables = λ t o m. variable_byte t o (is_true (member t.text scope) m);
      slots = λ x m. name_range scope names P.shallow short x (outside x m) m;
      depths = λ x m. scope_range scope names P.shallow short x (is_true (member x scope) m);
      unbound = λ x m. rw (no_variable x m) tt;
      relations = relation_byte;
      strings = string_byte;
      few_relations = C.few_relations;
      few_elements = C.few_elements;
      few_tokens = few_own;
      few_words = few_words;
      few_closures = P.few_closures;
      frees = free_at C.w own_tokens scope names (λ x m. P.loops x (is_true (member x scope) m)) apart few_own C.words M.codes M.fr s (suc k) D M.free few_words short own_digit other_digit β byte_digit;
      others = λ n K p q r l h hK e x. after_other own_tokens few_own C.words M.fr s (suc k) D M.free few_words names short C.w.variables apart own_digit other_digit n K p q r l hK e x;
    }

    pub spelled : Spelled own_tokens C.query C.tokens
    spelled = record {
      text = λ t o. string_text t (was_string takes_token C.ts t o).0;
      near = λ t o. C.near (number t) (string_here t (was_string takes_token C.ts t o).0);
    }

    pub valued : Valued C.w own_tokens (values_of C)
    valued = record {
      set = λ t o a i l h. half_is t (was_string takes_token C.ts t o).0 a i l h;
      digits = λ t o. literal_is t (was_literal takes_token C.ts t o);
    }

    -- the lowered words
    pub filled : Filled (lower_at (at C.words) (at M.codes) (at C.tokens) (at M.fr) (values_of C) (elements C.w) s) s (suc k) C.low C.low
    filled = record {
      same_length = refl;
      inside = λ i l h. M.lowered i l (omega (arith, h));
      before = λ i h. refl;
      after = λ i h. refl;
    }
