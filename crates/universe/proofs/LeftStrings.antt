-- The strings on left-hand sides stand in the words of a program in its order.
use Prim.Native.Nat.{ℕ, ◌+◌, ◌-◌, ◌/◌, ◌%◌, ◌<◌, ◌≤◌}
use mathlib.Core.Path.{◌≡◌, refl, sym, ap, ap₂, subst, ◌∙◌}
use mathlib.Core.Bool.{Bool, true, cond}
use mathlib.Core.List.{List, [], ◌∷◌, ◌++◌, map}
use native.Mathlib.Omega.{arith}
use borrow.Author.Tests.{eq-eqb, ne_eqb}
use lib.ListN.{length, get_or, take, drop}
use Rattle.definition.specs.Text.{Text}
use Rattle.definition.specs.Token.{Token}
use Rattle.definition.specs.Facts.{Element}
use Rattle.definition.specs.Syntax.{Term, name, string, anything, Expression, atom, truth, falsity, compare, matching, negation, conjunction, disjunction, implication, equivalence, exists, for_all, closure_of, compare_relations, literal, count_of, sum_of, ratio_of, compare_figures}
use Rattle.definition.specs.Syntax as Syntax
use Rattle.definition.specs.Syntax.{Item, rows, line_end, amount, Program, end, assign, print, test, while, for, block}
use Rattle.definition.specs.Names.{strings, left_strings}
use Rattle.words.specs.Fields.{word, kind_of, p_of, RELATION_NAME, ATTRIBUTE, TERM, WORD, BIND, RANGE, NEXT, ANYTHING, ATOM, TRUTH, FALSITY, ORDER, NEGATION, CONJUNCTION, DISJUNCTION, IMPLICATION, EQUIVALENCE, EXISTS, FOR_ALL, CLOSURE, COMPARISON, MATCH, COUNT, LITERAL, SUM, RATIO, FIGURES, AMOUNT, ROWS, SAY, LINE_END, ASSIGN, TEST, JUMP, AGAIN, PRINT, STRING}
use Rattle.words.specs.Raw.{number, leaves, size, flat, flat_item, size_items, flat_items, size_program, flat_program}
use Rattle.words.specs.Tokens.{OwnString, OwnTerms, OwnProgram}
use Rattle.words.proofs.FieldLaws.{kind_word, p_word}
use Rattle.intern.specs.Entries.{QUOTED, text_at, Stand}
use Rattle.lexer.specs.Tokens.{start_of, size_of, quote_of, Inside}
use Rattle.kinds.specs.Resolved.{Parsed}
use Rattle.universe.specs.Strings.{LEFT_STRING, string_element, left_tokens}

-- the text of each of some strings' tokens lies within the query
unfoldable pub Fits : Text → List ℕ → Type 0
Fits query [] = Unit {0}
Fits query (t ∷ ts) = (t / 4096 + 1 + t / 64 % 64 ≤ length query) × Fits query ts

string_within : (query : Text) (t : ℕ) → t % 64 ≡ QUOTED → start_of t + size_of t ≤ length query → t / 4096 + 1 + t / 64 % 64 ≤ length query
unfolding quote_of
string_within query t q h = rw (eq-eqb (t % 64) QUOTED q) at h

module _ (query : Text) (tokens : List ℕ) where
  -- token i is a string's, and the element e
  record IsString (i : ℕ) (e : Element) : Type 0 where
    pub inside : i < length tokens
    pub quoted : get_or tokens i 0 % 64 ≡ QUOTED
    pub is : string_element query (get_or tokens i 0) ≡ e

  -- the strings that words show
  data Lefts : List ℕ → List Element → Type 0 where
    none : Lefts [] []
    other : {w : ℕ} {ws : List ℕ} {es : List Element} → (kind_of w ≡ LEFT_STRING → ⊥) → Lefts ws es → Lefts (w ∷ ws) es
    one : {w : ℕ} {ws : List ℕ} {e : Element} {es : List Element} → kind_of w ≡ LEFT_STRING → IsString (p_of w) e → Lefts ws es → Lefts (w ∷ ws) (e ∷ es)

  shown : {ws : List ℕ} {es : List Element} → Lefts ws es → map (string_element query) (left_tokens tokens ws) ≡ es
  unfolding left_tokens
  shown none = refl
  shown (other {w} h s) = rw (ne_eqb (kind_of w) LEFT_STRING h) (shown s)
  shown (one {w} h o s) = rw (eq-eqb (kind_of w) LEFT_STRING h) (ap₂ ◌∷◌ o.is (shown s))

  within : {ws : List ℕ} {es : List Element} → Inside query tokens → Lefts ws es → Fits query (left_tokens tokens ws)
  unfolding left_tokens Fits
  within i none = tt
  within i (other {w} h s) = rw (ne_eqb (kind_of w) LEFT_STRING h) (within i s)
  within i (one {w} h o s) = rw (eq-eqb (kind_of w) LEFT_STRING h) (string_within query (get_or tokens (p_of w) 0) o.quoted (i (p_of w) o.inside), within i s)

  both : {xs ys : List ℕ} {us vs : List Element} → Lefts xs us → Lefts ys vs → Lefts (xs ++ ys) (us ++ vs)
  both none t = t
  both (other h s) t = other h (both s t)
  both (one h o s) t = one h o (both s t)

  -- a word of no such string
  skip : (k p q r : ℕ) {xs : List ℕ} {es : List Element} → (k ≡ LEFT_STRING → ⊥) → k < 256 → Lefts xs es → Lefts (word k p q r ∷ xs) es
  skip k p q r h l s = other (λ e. h (sym (kind_word k p q r l) ∙ e)) s

  last : (k p q r : ℕ) {xs : List ℕ} → (k ≡ LEFT_STRING → ⊥) → k < 256 → Lefts xs [] → Lefts (xs ++ (word k p q r ∷ [])) []
  last k p q r h l s = both s (skip k p q r h l none)

  two_last : (k p q r : ℕ) {xs ys : List ℕ} → (k ≡ LEFT_STRING → ⊥) → k < 256 → Lefts xs [] → Lefts ys [] → Lefts (xs ++ (ys ++ (word k p q r ∷ []))) []
  two_last k p q r h l s t = both s (last k p q r h l t)

  -- terms on no left-hand side
  no_lefts : (k : ℕ) (ps : List Term) → k ≤ NEXT → (k ≡ ATTRIBUTE → ⊥) → Lefts (leaves k ps) []
  unfolding leaves
  no_lefts k [] a b = none
  no_lefts k (name t ∷ ps) a b = skip k (number t) 0 0 (λ e. omega arith) (omega arith) (no_lefts k ps a b)
  no_lefts k (string t ∷ ps) a b = skip (STRING + k) (number t) 0 0 (λ e. b (omega arith)) (omega arith) (no_lefts k ps a b)
  no_lefts k (anything ∷ ps) a b = skip ANYTHING 0 0 0 (λ e. omega arith) (omega arith) (no_lefts k ps a b)

  terms : (ps : List Term) → Lefts (leaves TERM ps) []
  terms ps = no_lefts TERM ps (omega arith) (λ e. omega arith)

  expression : (e : Expression) (n : ℕ) → Lefts (flat e n) []
  unfolding flat
  expression (atom r ps) n = skip RELATION_NAME _ _ 0 (λ e. omega arith) (omega arith) (last ATOM n _ 0 (λ e. omega arith) (omega arith) (terms ps))
  expression (truth ps) n = last TRUTH n _ 0 (λ e. omega arith) (omega arith) (terms ps)
  expression (falsity ps) n = last FALSITY n _ 0 (λ e. omega arith) (omega arith) (terms ps)
  expression (compare g p q) n = unfold leaves in last ORDER n _ 0 (λ e. omega arith) (omega arith) (terms (p ∷ q ∷ []))
  expression (matching s p) n =
      unfold leaves in
      last DISJUNCTION _ _ 0 (λ e. omega arith) (omega arith) (last MATCH _ 32 n (λ e. omega arith) (omega arith) (last MATCH _ 0 n (λ e. omega arith) (omega arith) (terms (p ∷ []))))
  expression (negation e) n = last NEGATION _ 0 0 (λ e. omega arith) (omega arith) (expression e n)
  expression (conjunction a b) n = two_last CONJUNCTION _ _ 0 (λ e. omega arith) (omega arith) (expression a n) (expression b _)
  expression (disjunction a b) n = two_last DISJUNCTION _ _ 0 (λ e. omega arith) (omega arith) (expression a n) (expression b _)
  expression (implication a b) n = two_last IMPLICATION _ _ 0 (λ e. omega arith) (omega arith) (expression a n) (expression b _)
  expression (equivalence a b) n = two_last EQUIVALENCE _ _ 0 (λ e. omega arith) (omega arith) (expression a n) (expression b _)
  expression (exists x e) n = skip ATTRIBUTE _ 0 0 (λ e. omega arith) (omega arith) (last EXISTS n _ 0 (λ e. omega arith) (omega arith) (expression e (n + 1)))
  expression (for_all x e) n = skip ATTRIBUTE _ 0 0 (λ e. omega arith) (omega arith) (last FOR_ALL n _ 0 (λ e. omega arith) (omega arith) (expression e (n + 1)))
  expression (closure_of e) n = last CLOSURE _ 0 0 (λ e. omega arith) (omega arith) (expression e n)
  expression (compare_relations g a b) n = two_last COMPARISON _ _ _ (λ e. omega arith) (omega arith) (expression a n) (expression b _)
  expression (literal t) n = skip LITERAL _ 0 0 (λ e. omega arith) (omega arith) none
  expression (count_of e) n = last COUNT _ 0 0 (λ e. omega arith) (omega arith) (expression e n)
  expression (sum_of a b) n = two_last SUM _ _ 0 (λ e. omega arith) (omega arith) (expression a n) (expression b _)
  expression (ratio_of a b) n = two_last RATIO _ _ 0 (λ e. omega arith) (omega arith) (expression a n) (expression b _)
  expression (compare_figures g a b) n = two_last FIGURES _ _ _ (λ e. omega arith) (omega arith) (expression a n) (expression b _)

  words_of : (ps : List Term) → Lefts (leaves WORD ps) []
  words_of ps = no_lefts WORD ps (omega arith) (λ e. omega arith)

  item : (i : Item) (n : ℕ) → Lefts (flat_item i n) []
  unfolding flat_item
  item (rows ps e) n = both (words_of ps) (last ROWS n _ 0 (λ e. omega arith) (omega arith) (expression e (n + length ps)))
  item (Syntax.word p) n = unfold leaves in last SAY n 0 0 (λ e. omega arith) (omega arith) (words_of (p ∷ []))
  item line_end n = skip LINE_END 0 0 0 (λ e. omega arith) (omega arith) none
  item (amount e) n = last AMOUNT n 0 0 (λ e. omega arith) (omega arith) (expression e n)

  items : (is : List Item) (n : ℕ) → Lefts (flat_items is n) []
  unfolding flat_items
  items [] n = none
  items (i ∷ is) n = both (item i n) (items is _)

  module _ (ts : List Token) (few : length ts < 65536) (stand : Stand query tokens ts) where
    -- a string's token is the element that the definition speaks of
    a_string : (t : Token) → OwnString ts t → IsString (number t) (record { value = t.text; quoted = true; at = t.at })
    unfolding text_at
    a_string t o =
        let h : number t < length tokens = omega (arith, o.inside, stand.count) in
        let q : get_or tokens (number t) 0 % 64 ≡ QUOTED = stand.strings (number t) h (ap (λ (s : Token). s.terminal) o.found ∙ o.is_string) in
        let v : t.text ≡ take (get_or tokens (number t) 0 / 64 % 64) (drop (get_or tokens (number t) 0 / 4096 + 1) query)
        = ap (λ (s : Token). s.text) (sym o.found) ∙ stand.texts (number t) h
        ∙ ap (λ (b : Bool). take (get_or tokens (number t) 0 / 64 % 64) (drop (get_or tokens (number t) 0 / 4096 + cond b 1 0) query)) (eq-eqb (get_or tokens (number t) 0 % 64) QUOTED q) in
        let p : t.at ≡ get_or tokens (number t) 0 / 4096 = ap (λ (s : Token). s.at) (sym o.found) ∙ stand.places (number t) h in
        record { inside = h; quoted = q; is = rw (v, p) }

    lefts : (ps : List Term) → OwnTerms ts ps → Lefts (leaves ATTRIBUTE ps) (strings ps)
    unfolding leaves strings OwnTerms
    lefts [] o = none
    lefts (name t ∷ ps) o = skip ATTRIBUTE (number t) 0 0 (λ e. omega arith) (omega arith) (lefts ps o.1)
    lefts (string t ∷ ps) o =
        let f : number t < 65536 = omega (arith, o.0.inside) in
        one (kind_word (STRING + ATTRIBUTE) (number t) 0 0 (omega arith))
        (subst (λ (i : ℕ). IsString i (record { value = t.text; quoted = true; at = t.at })) (sym (p_word (STRING + ATTRIBUTE) (number t) 0 0 (omega arith) f)) (a_string t o.0))
        (lefts ps o.1)
    lefts (anything ∷ ps) o = skip ANYTHING 0 0 0 (λ e. omega arith) (omega arith) (lefts ps o.1)

    program : (p : Program) (n : ℕ) → OwnProgram ts p → Lefts (flat_program p n) (left_strings p)
    unfolding flat_program left_strings OwnProgram
    program end n o = none
    program (assign i r ps e k) n o =
        let m = n + 1 + length ps + size e in
        skip RELATION_NAME _ _ 0 (λ e. omega arith) (omega arith)
        (both (lefts ps o.2) (both (expression e _) (skip ASSIGN n _ i (λ e. omega arith) (omega arith) (program k (m + 1) o.4))))
    program (print i is k) n o = both (items is n) (skip PRINT n 0 i (λ e. omega arith) (omega arith) (program k (n + size_items is + 1) o.2))
    program (test i e a b k) n o =
        let m = n + size e + 1 in
        let l = m + size_program a + 1 in
        let f = l + size_program b in
        both (expression e n)
        (skip TEST 0 l i (λ e. omega arith) (omega arith)
        (both (program a m o.2) (skip JUMP 0 f 0 (λ e. omega arith) (omega arith) (both (program b l o.3) (program k f o.4)))))
    program (while i e a k) n o =
        let m = n + size e + 1 in
        let l = m + size_program a + 1 in
        both (expression e n)
        (skip TEST 0 l i (λ e. omega arith) (omega arith) (both (program a m o.2) (skip AGAIN (n + size e - 1) m 0 (λ e. omega arith) (omega arith) (program k l o.3))))
    program (for i v e a k) n o =
        let m = n + 1 + size e + 1 in
        let l = m + size_program a in
        skip BIND (number v) 0 0 (λ e. omega arith) (omega arith)
        (both (expression e (n + 1))
        (skip RANGE (number v) l i (λ e. omega arith) (omega arith)
        (both (program a m o.3) (skip NEXT (number v) m 0 (λ e. omega arith) (omega arith) (program k (l + 1) o.4)))))
    program (block a k) n o = both (program a n o.0) (program k (n + size_program a) o.1)

-- the strings that the words of a parsed program show are those on its left-hand sides
pub left_strings_shown : (query : Text) (tokens words : List ℕ) (ts : List Token) (p : Program) → Parsed query tokens words ts p → map (string_element query) (left_tokens tokens words) ≡ left_strings p
left_strings_shown query tokens words ts p h = rw h.flat (shown query tokens (program query tokens ts h.few h.stand p 0 h.own))

-- and their texts lie within the query
pub left_strings_within : (query : Text) (tokens words : List ℕ) (ts : List Token) (p : Program) → Parsed query tokens words ts p → Inside query tokens → Fits query (left_tokens tokens words)
left_strings_within query tokens words ts p h i = rw h.flat (within query tokens i (program query tokens ts h.few h.stand p 0 h.own))
