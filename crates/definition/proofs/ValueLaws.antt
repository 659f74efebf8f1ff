-- Accepted texts: every element is a value that some fact may have, and one of the facts is printed in quotes just where a fact quoted it.
use mathlib.Core.Path.{◌≡◌, refl, sym, ap, subst, ◌∙◌}
use mathlib.Core.Logic.{◌⊎◌, inl, inr}
use mathlib.Core.Bool.{Bool, true, false, ◌&&◌, ◌||◌, not, cond, or_comm, or-false, or-true}
use mathlib.Core.List.{List, [], ◌∷◌, ◌++◌, map}
use Prim.Native.Nat.{ℕ, zero, suc, ◌+◌, ◌≤◌}
use native.Mathlib.Nat.{le_of_suc-le-suc}
use native.Mathlib.Omega.{arith}
use native.Mathlib.Decide.{dec_le}
use lib.Dec.{T, leb, ltb, eqb, leb→le}
use lib.ListN.{length, take, drop, get_or, get_or-eq_default, length-take}
use borrow.Author.Tests.{ltb-false, not-false}
use Rattle.definition.specs.Text.{Text, ascii, span, same, member, starts, some_of, all_of, is_legal, is_blank, needs_quotes, is_name}
use Rattle.definition.specs.Limits.{Limits, FACT_BYTES, WORD_BYTES, ARITY}
use Rattle.definition.specs.Token.{Terminal, string, Token, token_at, Lexed, tokens, stopped, lex, lexed, first_wrong}
use Rattle.definition.specs.Syntax.{Program}
use Rattle.definition.specs.Syntax
use Rattle.definition.specs.Answer.{Answer, ok, refused, ◌>>=◌, refuse_if}
use Rattle.definition.specs.Facts.{Line, cut, onto, without_return, lines, fact_lines, Element, Fact, Word, none, one, wrong, is_inside, quoted_word, bare_word, word, on_word, elements, fact}
use Rattle.definition.specs.Facts.{Facts, legal_bytes, read_facts}
use Rattle.definition.specs.Names.{strings, left_strings}
use Rattle.definition.specs.Accept.{Accepted, accept, read_query}
use Rattle.definition.specs.Print.{is_quoted, in_quotes}
use Rattle.definition.proofs.BoolLaws.{or_cases, or_left, or_right, and_left, and_right, and_both, is_true, is_false, apart, or_eq_false}
use Rattle.definition.proofs.MeaningLaws.{same_eq, eqb_sym}
use Rattle.definition.proofs.ListLaws.{all_append, Every, every_none, every_one, every_head, every_tail, every_both}
use Rattle.definition.proofs.AcceptLaws.{never, ok_injective, bind_ok, then_ok, was_ok, not_refused, parts, EachLine, no_line, a_line, lines_of_facts, has, in_facts, universe}
use Rattle.definition.proofs.TextLaws.{no_end, returned}
use Rattle.definition.proofs.PlaceLaws.{At}
use Rattle.definition.proofs.TokenLaws.{Spelled, spelled_string, string_byte, Tokens, lexed_tokens, spelled_at, span_all}
use Rattle.definition.proofs.ElementLaws.{token_located, strings_of, query_read, member_at}
use Rattle.definition.proofs.LegalLaws.{dot_kept, row_2, some_illegal, row_2_lines}
use Rattle.definition.proofs.WrittenLaws.{no_quote, line_byte, IsValue, all_weaken, all_and}

-- Identifiers and strings of a query.
span_full : (p : ℕ → Bool) (xs : Text) → length xs ≤ span p xs → T (all_of p xs)
unfolding span all_of
span_full p [] h = tt
span_full p (x ∷ xs) h = go (p x) h (span_full p xs)
  where
    go : (b : Bool) → suc (length xs) ≤ cond b (suc (span p xs)) 0 → (length xs ≤ span p xs → T (all_of p xs)) → T (b && all_of p xs)
    go true h ih = ih (le_of_suc-le-suc h)
    go false h ih = absurd (omega arith)

all_drop : (p : ℕ → Bool) (k : ℕ) (xs : Text) → T (all_of p xs) → T (all_of p (drop k xs))
unfolding all_of
all_drop p zero [] h = h
all_drop p zero (x ∷ xs) h = h
all_drop p (suc k) [] h = h
all_drop p (suc k) (x ∷ xs) h = all_drop p k xs (and_right (p x) (all_of p xs) h)

all_take : (p : ℕ → Bool) (k : ℕ) (xs : Text) → T (all_of p xs) → T (all_of p (take k xs))
unfolding all_of
all_take p zero [] h = tt
all_take p zero (x ∷ xs) h = tt
all_take p (suc k) [] h = tt
all_take p (suc k) (x ∷ xs) h = and_both (p x) (all_of p (take k xs)) (and_left (p x) (all_of p xs) h) (all_take p k xs (and_right (p x) (all_of p xs) h))

-- row 9 is not met
lexed_legal : (query : Text) (ts : List Token) → lexed query ≡ tokens ts → T (all_of is_legal query)
unfolding lexed
lexed_legal query ts e = go (lex query 0 0 0) e
  where
    ho : (b : Bool) (us : List Token) → ltb (span is_legal query) (length query) ≡ b → cond b (stopped (span is_legal query)) (tokens us) ≡ tokens ts → T (all_of is_legal query)
    ho true us d e = let z : ◌≡◌ {A = ℕ} 0 1 = cc in absurd (omega arith)
    ho false us d e = span_full is_legal query (ltb-false (span is_legal query) (length query) d)

    go : (l : Lexed) → first_wrong l (span is_legal query) (length query) ≡ tokens ts → T (all_of is_legal query)
    go (stopped p) e = let z : ◌≡◌ {A = ℕ} 0 1 = cc in absurd (omega arith)
    go (tokens us) e = ho (ltb (span is_legal query) (length query)) us refl e

located_legal : (query : Text) (i : ℕ) (w : Text) → T (all_of is_legal query) → At query i w → T (all_of is_legal w)
located_legal query i w h a =
    let d : T (all_of is_legal (w ++ a.rest)) = subst (λ (l : Text). T (all_of is_legal l)) a.is (all_drop is_legal i query h) in
    and_left (all_of is_legal w) (all_of is_legal a.rest) (rw (all_append is_legal w a.rest) at d)

string_value : {query : Text} {ts : List Token} → Tokens query 0 ts → T (all_of is_legal query) → (x : ℕ) → (token_at ts x).terminal ≡ string x → IsValue (token_at ts x).text
unfolding all_of
string_value {query} {ts} each legal x e = go (located_legal query _ (token_at ts x).text legal (token_located each x)) (subst (λ (c : Terminal). Spelled c (token_at ts x).text) e (spelled_at each x))
  where
    go : {n : ℕ} {w : Text} → T (all_of is_legal w) → Spelled (string n) w → IsValue w
    go {w = w} g (spelled_string short h) =
        record {
          short = short;
          unquoted = all_weaken string_byte no_quote (λ y t. and_left (no_quote y) (no_end y) t) w h;
          bytes = all_and is_legal no_end w g (all_weaken string_byte no_end (λ y t. and_right (no_quote y) (no_end y) t) w h);
        }

-- an element with a value that some fact may have, in quotes where it needs them
pub record ValueElement (e : Element) : Type 0 where
  pub value : IsValue e.value
  pub plain : e.quoted ≡ false → needs_quotes e.value ≡ false

-- every string on a left-hand side is a value
a_value : (ts : List Token) → ((x : ℕ) → (token_at ts x).terminal ≡ string x → IsValue (token_at ts x).text) → (x : ℕ) → (token_at ts x).terminal ≡ string x
    → Every ValueElement (strings (Syntax.string (token_at ts x) ∷ []))
unfolding strings
a_value ts h x e = every_one (record { value = h x e; plain = λ q. absurd (apart q) }) every_none

pub strings_values : (query : Text) (p : Program) → read_query query ≡ ok p → Every ValueElement (left_strings p)
strings_values query p e =
    let r = query_read query p e in
    let each = lexed_tokens query r.tokens r.lexes in
    subst (λ (q : Program). Every ValueElement (left_strings q)) r.said
    (strings_of r.tokens (Every ValueElement) every_none (λ xs ys g h. every_both g h) (a_value r.tokens (string_value each (lexed_legal query r.tokens r.lexes))) r.tree r.numbered)

-- The lines of facts that row 2 does not refuse hold legal bytes alone.
abbrev LegalLine : Line → Type 0
LegalLine l = T (all_of line_byte l.bytes)

-- a line holds no byte 10
abbrev Whole : Text → Type 0
Whole l = T (all_of no_end l)

cut_whole : (xs : Text) → Every Whole (cut xs)
unfolding cut all_of
cut_whole [] = every_one tt every_none
cut_whole (x ∷ xs) = go (eqb x 10) refl (cut xs) (cut_whole xs)
  where
    go : (b : Bool) → eqb x 10 ≡ b → (ls : List Text) → Every Whole ls → Every Whole (cond b ([] ∷ ls) (onto x ls))
    go true e ls h = every_one tt h
    go false e [] h = every_one {a = x ∷ []} (rw e tt) every_none
    go false e (l ∷ ls) h = every_one {a = x ∷ l} (rw e (every_head h)) (every_tail h)

without_whole : (l : Text) → Whole l → Whole (without_return l)
without_whole l h =
    let r = returned l in
    let both : T (all_of no_end (without_return l ++ r.0)) = subst Whole r.1 h in
    and_left (all_of no_end (without_return l)) (all_of no_end r.0) (rw (all_append no_end (without_return l) r.0) at both)

lines_legal : (ls : List Text) (i : ℕ) → Every Whole ls → some_illegal (map without_return ls) ≡ false → EachLine LegalLine (lines i ls)
unfolding lines some_illegal
lines_legal [] i h e = no_line
lines_legal (l ∷ ls) i h e = go (starts (ascii ".") l) (rw (dot_kept l) at e) (lines_legal ls (suc (i + length l)) (every_tail h))
  where
    m : Text
    m = without_return l

    go : (b : Bool) → cond b false (not (all_of is_legal m) || some_illegal (map without_return ls)) ≡ false
        → (some_illegal (map without_return ls) ≡ false → EachLine LegalLine (lines (suc (i + length l)) ls))
        → EachLine LegalLine (cond b [] (record { bytes = m; at = i } ∷ lines (suc (i + length l)) ls))
    go true d ih = no_line
    go false d ih =
        let k = or_eq_false (not (all_of is_legal m)) (some_illegal (map without_return ls)) d in
        a_line (all_and is_legal no_end m (rw (not-false (all_of is_legal m) k.0) tt) (without_whole l (every_head h))) (ih k.1)

legal_lines : (limits : Limits) (xs : Text) (f : Facts) → read_facts limits xs ≡ ok f → EachLine LegalLine (fact_lines xs)
unfolding read_facts fact_lines
legal_lines limits xs f e =
    let e₁ = then_ok (refuse_if (ltb FACT_BYTES (length xs)) 1 FACT_BYTES) _ f e in
    let d : row_2 xs ≡ false = not_refused (row_2 xs) 2 (legal_bytes xs) (was_ok (refuse_if (row_2 xs) 2 (legal_bytes xs)) _ f e₁) in
    lines_legal (cut xs) 0 (cut_whole xs) (sym (row_2_lines xs) ∙ d)

-- Values of facts.
data ValueWord : Word → Type 0 where
  value_none : ValueWord none
  value_wrong : {p : ℕ} → ValueWord (wrong p)
  value_one : {e : Element} {n : ℕ} → ValueElement e → ValueWord (one e n)

value_by : (b : Bool) {v w : Word} → (b ≡ true → ValueWord v) → (b ≡ false → ValueWord w) → ValueWord (cond b v w)
value_by true a c = a refl
value_by false a c = c refl

short_take : (n : ℕ) (xs : Text) → T (leb n WORD_BYTES) → length (take n xs) ≤ WORD_BYTES
short_take n xs t = omega (arith, leb→le n WORD_BYTES t, length-take n xs)

quotes_none : (xs : Text) → some_of (eqb 34) xs ≡ false → T (all_of no_quote xs)
unfolding some_of all_of
quotes_none [] e = tt
quotes_none (x ∷ xs) e =
    let h = or_eq_false (eqb 34 x) (some_of (eqb 34) xs) e in
    and_both (no_quote x) (all_of no_quote xs) (rw (eqb_sym x 34, h.0) tt) (quotes_none xs h.1)

quoted_value : (i : ℕ) (xs : Text) → T (all_of line_byte xs) → ValueWord (quoted_word i xs)
unfolding quoted_word
quoted_value i xs h =
    let n = span no_quote xs in
    let a = starts (34 ∷ []) (drop n xs) in
    let b = leb n WORD_BYTES in
    let c = leb (span is_inside (drop n xs)) 1 in
    value_by (a && b && c)
    (λ e. value_one (record {
      value = record { short = short_take n xs (and_right a b (and_left (a && b) c (rw e tt))); unquoted = span_all no_quote xs; bytes = all_take line_byte n xs h };
      plain = λ q. absurd (apart q);
    }))
    (λ e. value_wrong)

inside_none : (xs : Text) → T (all_of is_inside xs) → some_of is_blank xs ≡ false
unfolding some_of all_of
inside_none [] h = refl
inside_none (x ∷ xs) h = rw (is_false (is_blank x) (and_left (is_inside x) (all_of is_inside xs) h), inside_none xs (and_right (is_inside x) (all_of is_inside xs) h))

-- a run of what is no blank is not empty where it begins
bare_plain : (x : ℕ) (xs : Text) → is_blank x ≡ false → needs_quotes (take (span is_inside (x ∷ xs)) (x ∷ xs)) ≡ false
unfolding needs_quotes span all_of
bare_plain x xs e =
    let first : span is_inside (x ∷ xs) ≡ suc (span is_inside xs) = rw e in
    subst (λ (n : ℕ). needs_quotes (take n (x ∷ xs)) ≡ false) (sym first)
    (inside_none (x ∷ take (span is_inside xs) xs) (rw e (span_all is_inside xs)))

bare_value : (i x : ℕ) (ys : Text) → is_blank x ≡ false → T (all_of line_byte (x ∷ ys)) → ValueWord (bare_word i (x ∷ ys))
unfolding bare_word
bare_value i x ys begins h =
    let xs = x ∷ ys in
    let n = span is_inside xs in
    let a = leb n WORD_BYTES in
    let b = some_of (eqb 34) (take n xs) in
    value_by (a && not b)
    (λ e. value_one (record {
      value = record { short = short_take n xs (and_left a (not b) (rw e tt)); unquoted = quotes_none (take n xs) (is_false b (and_right a (not b) (rw e tt))); bytes = all_take line_byte n xs h };
      plain = λ q. bare_plain x ys begins;
    }))
    (λ e. value_wrong)

word_value : (i : ℕ) (xs : Text) → span is_blank xs ≡ 0 → T (all_of line_byte xs) → ValueWord (word i xs)
unfolding word all_of span
word_value i [] z h = value_none
word_value i (x ∷ xs) z h = value_by (eqb x 34) (λ e. quoted_value i xs (and_right (line_byte x) (all_of line_byte xs) h)) (λ e. bare_value i x xs (go (is_blank x) z) h)
  where
    go : (b : Bool) → cond b (suc (span is_blank xs)) 0 ≡ 0 → b ≡ false
    go true z = absurd (omega arith)
    go false z = refl

-- past blanks none follows
no_blank : (xs : Text) → span is_blank (drop (span is_blank xs) xs) ≡ 0
unfolding span
no_blank [] = refl
no_blank (x ∷ xs) = go (is_blank x) refl (no_blank xs)
  where
    go : (b : Bool) → is_blank x ≡ b → span is_blank (drop (span is_blank xs) xs) ≡ 0 → span is_blank (drop (cond b (suc (span is_blank xs)) 0) (x ∷ xs)) ≡ 0
    go true e ih = ih
    go false e ih = rw e

on_value : {w : Word} (f : Element → ℕ → Answer (List Element)) (es : List Element) → ValueWord w
    → ((e : Element) (n : ℕ) → ValueElement e → f e n ≡ ok es → Every ValueElement es) → on_word w f ≡ ok es → Every ValueElement es
on_value f es value_none g h = subst (Every ValueElement) (ok_injective h) every_none
on_value f es value_wrong g h = absurd (never h)
on_value f es (value_one {e} {n} v) g h = g e n v h

elements_values : (k i : ℕ) (xs : Text) (es : List Element) → T (all_of line_byte xs) → elements k i xs ≡ ok es → Every ValueElement es
unfolding elements
elements_values zero i xs es h e =
    let b = span is_blank xs in
    on_value (λ e n. refused 5 e.at) es (word_value (i + b) (drop b xs) (no_blank xs) (all_drop line_byte b xs h)) (λ f n v q. absurd (never q)) e
elements_values (suc k) i xs es h e =
    let b = span is_blank xs in
    on_value (λ f n. do gs ← elements k (i + b + n) (drop (b + n) xs); ok (f ∷ gs)) es (word_value (i + b) (drop b xs) (no_blank xs) (all_drop line_byte b xs h))
    (λ f n v q.
    let (gs, p, s) = bind_ok (elements k (i + b + n) (drop (b + n) xs)) (λ gs. ok (f ∷ gs)) es q in
    subst (Every ValueElement) (ok_injective s) (every_one v (elements_values k (i + b + n) (drop (b + n) xs) gs (all_drop line_byte (b + n) xs h) p)))
    e

-- a fact's elements are values
abbrev pub ValueFact : Fact → Type 0
ValueFact f = Every ValueElement f.elements

fact_value : (l : Line) (f : Fact) → LegalLine l → fact l ≡ ok f → ValueFact f
unfolding fact
fact_value l f h e =
    let n = span is_inside l.bytes in
    let (es, p, s) = bind_ok (elements ARITY (l.at + n) (drop n l.bytes)) _ f (then_ok (refuse_if (not (is_name (take n l.bytes))) 3 l.at) _ f e) in
    subst ValueFact (ok_injective s) (elements_values ARITY (l.at + n) (drop n l.bytes) es (all_drop line_byte n l.bytes h) p)

pub facts_values : (limits : Limits) (xs : Text) (f : Facts) → read_facts limits xs ≡ ok f → Every ValueFact f.facts
facts_values limits xs f e =
    lines_of_facts limits LegalLine (λ s. Every ValueFact s.facts) (λ l f s t q p a h. subst (Every ValueFact) a.facts (every_both h (every_one (fact_value l f q p) every_none))) xs f
    (legal_lines limits xs f e) every_none e

pub accepted_elements : (limits : Limits) (facts query : Text) (w : Accepted) → accept limits facts query ≡ ok w → Every ValueFact w.facts
accepted_elements limits facts query w e = let h = parts limits facts query w e in subst (Every ValueFact) h.same_facts (facts_values limits facts h.facts_read h.read)

-- every element is a value
has_value : {x : Text} {es : List Element} → Every ValueElement es → T (has x es) → IsValue x
unfolding has some_of
has_value every_none t = absurd t
has_value {x} (every_one {a = e} {xs = es} h hs) t = go (or_cases (same x e.value) (has x es) t) (has_value hs)
  where
    go : T (same x e.value) ⊎ T (has x es) → (T (has x es) → IsValue x) → IsValue x
    go (inl s) ih = subst IsValue (sym (same_eq x e.value s)) h.value
    go (inr s) ih = ih s

pub in_value : {x : Text} {fs : List Fact} → Every ValueFact fs → T (in_facts x fs) → IsValue x
unfolding in_facts some_of
in_value every_none t = absurd t
in_value {x} (every_one {a = f} {xs = fs} h hs) t = go (or_cases (has x f.elements) (in_facts x fs) t) (in_value hs)
  where
    go : T (has x f.elements) ⊎ T (in_facts x fs) → (T (in_facts x fs) → IsValue x) → IsValue x
    go (inl s) ih = has_value h s
    go (inr s) ih = ih s

pub accepted_values : (limits : Limits) (facts query : Text) (w : Accepted) → accept limits facts query ≡ ok w → (x : Text) → T (member x w.universe) → IsValue x
accepted_values limits facts query w e x m =
    let h = parts limits facts query w e in
    let s : T (has x (left_strings w.program) || in_facts x w.facts) = subst T ((universe limits facts query w e).members x) m in
    go (strings_values query w.program h.query_read) (accepted_elements limits facts query w e) (or_cases (has x (left_strings w.program)) (in_facts x w.facts) s)
  where
    go : Every ValueElement (left_strings w.program) → Every ValueFact w.facts → T (has x (left_strings w.program)) ⊎ T (in_facts x w.facts) → IsValue x
    go g h (inl s) = has_value g s
    go g h (inr s) = in_value h s

-- the text of an element, of any number
pub value_numbered : (us : List Text) → ((x : Text) → T (member x us) → IsValue x) → (a : ℕ) → IsValue (get_or us a [])
unfolding all_of
value_numbered us v a = go (dec_le (suc a) (length us))
  where
    go : Dec (suc a ≤ length us) → IsValue (get_or us a [])
    go (yes h) = v (get_or us a []) (member_at us a h)
    go (no h) = let l : length us ≤ a = omega arith in subst IsValue (sym (get_or-eq_default us [] l)) (record { short = omega arith; unquoted = tt; bytes = tt })

pub element_value : (limits : Limits) (facts query : Text) (w : Accepted) → accept limits facts query ≡ ok w → (a : ℕ) → IsValue (get_or w.universe a [])
element_value limits facts query w e = value_numbered w.universe (accepted_values limits facts query w e)

-- An element of the facts that needs quotes is quoted by a fact.
has_quoted : (x : Text) {es : List Element} → Every ValueElement es → T (has x es) → needs_quotes x ≡ true → T (some_of (λ e. same x e.value && e.quoted) es)
unfolding has some_of
has_quoted x every_none t n = t
has_quoted x (every_one {a = e} {xs = es} h hs) t n = go (or_cases (same x e.value) (has x es) t) (λ s. has_quoted x hs s n)
  where
    rest : Bool
    rest = some_of (λ e. same x e.value && e.quoted) es

    is_quoted_here : T (same x e.value) → T e.quoted
    is_quoted_here s = ho e.quoted refl
      where
        ho : (b : Bool) → e.quoted ≡ b → T b
        ho true q = tt
        ho false q = absurd (apart (sym n ∙ ap needs_quotes (same_eq x e.value s) ∙ h.plain q))

    go : T (same x e.value) ⊎ T (has x es) → (T (has x es) → T rest) → T ((same x e.value && e.quoted) || rest)
    go (inl s) ih = or_left (same x e.value && e.quoted) rest (and_both (same x e.value) e.quoted s (is_quoted_here s))
    go (inr s) ih = or_right (same x e.value && e.quoted) rest (ih s)

in_quoted : (x : Text) {fs : List Fact} → Every ValueFact fs → T (in_facts x fs) → needs_quotes x ≡ true → T (some_of (λ f. some_of (λ e. same x e.value && e.quoted) f.elements) fs)
unfolding in_facts some_of
in_quoted x every_none t n = t
in_quoted x (every_one {a = f} {xs = fs} h hs) t n = go (or_cases (has x f.elements) (in_facts x fs) t) (λ s. in_quoted x hs s n)
  where
    here : Bool
    here = some_of (λ e. same x e.value && e.quoted) f.elements

    rest : Bool
    rest = some_of (λ f. some_of (λ e. same x e.value && e.quoted) f.elements) fs

    go : T (has x f.elements) ⊎ T (in_facts x fs) → (T (in_facts x fs) → T rest) → T (here || rest)
    go (inl s) ih = or_left here rest (has_quoted x h s n)
    go (inr s) ih = or_right here rest (ih s)

-- so one of the facts is printed in quotes just where a fact quoted it
pub quotes_given : (w : Accepted) → Every ValueFact w.facts → (x : Text) → T (in_facts x w.facts) → in_quotes w x ≡ is_quoted w x
unfolding in_quotes is_quoted
quotes_given w vs x m = go (needs_quotes x) refl
  where
    go : (b : Bool) → needs_quotes x ≡ b → is_quoted w x || b ≡ is_quoted w x
    go true n = rw (is_true (is_quoted w x) (in_quoted x vs m n))
    go false n = or-false (is_quoted w x)

pub quoted_by_facts : (limits : Limits) (facts query : Text) (w : Accepted) → accept limits facts query ≡ ok w → (x : Text) → T (in_facts x w.facts) → in_quotes w x ≡ is_quoted w x
quoted_by_facts limits facts query w e = quotes_given w (accepted_elements limits facts query w e)

-- where n adds nothing to q, a part of it does not either
adds_nothing : (a n q : Bool) → q || n ≡ q → (a && n) || q ≡ q || n
adds_nothing a n true e = or-true (a && n)
adds_nothing true n false e = or-false n
adds_nothing false n false e = sym e

-- and the rule adds quotes to strings of the query alone
pub universe_quotes : (limits : Limits) (facts query : Text) (w : Accepted) → accept limits facts query ≡ ok w → (x : Text) → T (member x w.universe)
    → (has x (left_strings w.program) && needs_quotes x) || is_quoted w x ≡ in_quotes w x
unfolding in_quotes
universe_quotes limits facts query w e x m = go (or_cases (has x (left_strings w.program)) (in_facts x w.facts) (subst T ((universe limits facts query w e).members x) m))
  where
    go : T (has x (left_strings w.program)) ⊎ T (in_facts x w.facts) → (has x (left_strings w.program) && needs_quotes x) || is_quoted w x ≡ is_quoted w x || needs_quotes x
    go (inl s) = rw (is_true (has x (left_strings w.program)) s) (or_comm (needs_quotes x) (is_quoted w x))
    go (inr s) = adds_nothing (has x (left_strings w.program)) (needs_quotes x) (is_quoted w x) (quoted_by_facts limits facts query w e x s)
