-- What is written as facts reads back: a fact from its line, lines from their text, and the facts of any rows of names and values.
use mathlib.Core.Path.{◌≡◌, refl, sym, ap, ap₂, fun_ext, subst, ◌∙◌}
use mathlib.Core.Logic.{◌⊎◌, inl, inr}
use mathlib.Core.Bool.{Bool, true, false, ◌&&◌, ◌||◌, not, cond}
use mathlib.Core.List.{List, [], ◌∷◌, ◌++◌, map, append_assoc, append-nil}
use Prim.Native.Nat.{ℕ, zero, suc, ◌+◌, ◌≤◌, ◌<◌}
use native.Mathlib.Omega.{arith}
use lib.Dec.{T, leb, eqb, eqb→eq, leb→le}
use lib.ListN.{length, drop, length-append}
use lib.Seq.{take-append_seam, drop-append_seam}
use borrow.Author.Tests.{le-ltb, le-leb, lt-leb, ne_eqb}
use Rattle.definition.specs.Text.{Text, ascii, between, span, same, starts, some_of, all_of, gather, is_letter, is_part, is_legal, is_blank, needs_quotes, member, reserved, is_name}
use Rattle.definition.specs.Limits.{Limits, FACT_BYTES, WORD_BYTES, ARITY}
use Rattle.definition.specs.Answer.{Answer, ok, refused, ◌>>=◌}
use Rattle.definition.specs.Facts.{cut, without_return, lines, fact_lines, Element, Fact, one, wrong, is_inside, quoted_word, bare_word, word, elements, skipped, fact}
use Rattle.definition.specs.Facts.{Facts, with_fact, read_lines, legal_bytes, read_facts}
use Rattle.definition.specs.Print.{spaced, fact_line}
use Rattle.definition.proofs.BoolLaws.{or_cases, or_left, and_left, and_right, and_both, is_true, is_false, apart, or_eq_false}
use Rattle.definition.proofs.AcceptLaws.{no_facts}
use Rattle.definition.proofs.ListLaws.{all_append, Each, each_none, each_one, Every, every_none, every_one}
use Rattle.definition.proofs.LoadLaws.{values}

-- a byte that an element may hold, and one that a line may hold
abbrev pub no_quote : ℕ → Bool
no_quote x = not (eqb x 34)

abbrev pub line_byte : ℕ → Bool
line_byte x = is_legal x && not (eqb x 10)

-- a value that some fact may have: at most 32 bytes, each legal, no quote, no byte 10
pub record IsValue (t : Text) : Type 0 where
  pub short : length t ≤ WORD_BYTES
  pub unquoted : T (all_of no_quote t)
  pub bytes : T (all_of line_byte t)

-- how a fact may write a value: in quotes, or bare where it needs none
pub data Writes : Text → Text → Type 0 where
  bare : {v : Text} → IsValue v → needs_quotes v ≡ false → Writes v v
  in_quotes : {v : Text} → IsValue v → Writes v (34 ∷ v ++ (34 ∷ []))

abbrev pub fact_values : Fact → List Text
fact_values f = values f.elements

-- a word in quotes begins with one
abbrev pub opens_quote : Text → Bool
opens_quote [] = false
opens_quote (x ∷ xs) = eqb x 34

abbrev pub quotes : List Element → List Bool
quotes es = map (λ e. e.quoted) es

-- runs of bytes
pub all_weaken : {A : Type 0} (p q : A → Bool) → ((x : A) → T (p x) → T (q x)) → (xs : List A) → T (all_of p xs) → T (all_of q xs)
unfolding all_of
all_weaken p q f [] h = tt
all_weaken p q f (x ∷ xs) h = and_both (q x) (all_of q xs) (f x (and_left (p x) (all_of p xs) h)) (all_weaken p q f xs (and_right (p x) (all_of p xs) h))

pub all_and : (p q : ℕ → Bool) (xs : Text) → T (all_of p xs) → T (all_of q xs) → T (all_of (λ x. p x && q x) xs)
unfolding all_of
all_and p q [] g h = tt
all_and p q (x ∷ xs) g h =
    and_both (p x && q x) (all_of (λ y. p y && q y) xs) (and_both (p x) (q x) (and_left (p x) (all_of p xs) g) (and_left (q x) (all_of q xs) h))
    (all_and p q xs (and_right (p x) (all_of p xs) g) (and_right (q x) (all_of q xs) h))

all_both : (p : ℕ → Bool) (xs ys : Text) → T (all_of p xs) → T (all_of p ys) → T (all_of p (xs ++ ys))
all_both p xs ys g h = rw (all_append p xs ys) (and_both (all_of p xs) (all_of p ys) g h)

pub span_run : (p : ℕ → Bool) (xs ys : Text) → T (all_of p xs) → span p ys ≡ 0 → span p (xs ++ ys) ≡ length xs
unfolding span all_of
span_run p [] ys h e = e
span_run p (x ∷ xs) ys h e = rw (is_true (p x) (and_left (p x) (all_of p xs) h), span_run p xs ys (and_right (p x) (all_of p xs) h) e)

none_of : (p : ℕ → Bool) (xs : Text) → some_of p xs ≡ false → T (all_of (λ x. not (p x)) xs)
unfolding some_of all_of
none_of p [] e = tt
none_of p (x ∷ xs) e = let h = or_eq_false (p x) (some_of p xs) e in rw h.0 (none_of p xs h.1)

no_quotes : (xs : Text) → T (all_of no_quote xs) → some_of (eqb 34) xs ≡ false
unfolding some_of all_of
no_quotes [] h = refl
no_quotes (x ∷ xs) h =
    let n = is_false (eqb x 34) (and_left (no_quote x) (all_of no_quote xs) h) in
    rw (ne_eqb 34 x (λ e. other e n), no_quotes xs (and_right (no_quote x) (all_of no_quote xs) h))
  where
    other : 34 ≡ x → eqb x 34 ≡ false → ⊥
    other e n = apart (subst (λ (k : ℕ). eqb k 34 ≡ false) (sym e) n)

-- Words after a name, each after one space.
unfoldable pub words : List Text → Text
words [] = []
words (w ∷ ws) = 32 ∷ w ++ words ws

pub spaced_words : (r : Text) (ws : List Text) → spaced (r ∷ ws) ≡ r ++ words ws
unfolding spaced words
spaced_words r [] = sym (append-nil r)
spaced_words r (w ∷ ws) = ap (λ (l : Text). r ++ (32 ∷ l)) (spaced_words w ws)

words_stop : (ws : List Text) → span is_inside (words ws) ≡ 0
unfolding words span is_blank
words_stop [] = refl
words_stop (w ∷ ws) = refl

bare_starts : (v rest : Text) → needs_quotes v ≡ false → span is_blank (v ++ rest) ≡ 0
unfolding needs_quotes span some_of
bare_starts [] rest e = absurd (apart e)
bare_starts (x ∷ xs) rest e = rw (or_eq_false (is_blank x) (some_of is_blank xs) e).0

word_starts : {v w : Text} → Writes v w → (rest : Text) → span is_blank (w ++ rest) ≡ 0
unfolding span is_blank
word_starts (bare {v} h e) rest = bare_starts v rest e
word_starts (in_quotes h) rest = refl

-- what needs no quotes holds no blank
bare_inside : (v : Text) → needs_quotes v ≡ false → T (all_of is_inside v)
unfolding needs_quotes all_of
bare_inside [] n = tt
bare_inside (x ∷ xs) n = none_of is_blank (x ∷ xs) n

quoted_reads : (v rest : Text) (i : ℕ) → IsValue v → span is_inside rest ≡ 0 → quoted_word i ((v ++ (34 ∷ [])) ++ rest) ≡ one (record { value = v; quoted = true; at = i }) (length v + 2)
unfolding quoted_word starts span is_blank
quoted_reads v rest i h e =
    rw (append_assoc v (34 ∷ []) rest, span_run no_quote v (34 ∷ rest) h.unquoted refl, drop-append_seam v (34 ∷ rest), take-append_seam v (34 ∷ rest), le-leb (length v) WORD_BYTES h.short, e)

bare_reads : (v rest : Text) (i : ℕ) → IsValue v → T (all_of is_inside v) → span is_inside rest ≡ 0 → bare_word i (v ++ rest) ≡ one (record { value = v; quoted = false; at = i }) (length v)
unfolding bare_word
bare_reads v rest i h n e = rw (span_run is_inside v rest n e, take-append_seam v rest, le-leb (length v) WORD_BYTES h.short, no_quotes v h.unquoted)

pub no_opening : (v : Text) → T (all_of no_quote v) → opens_quote v ≡ false
unfolding all_of
no_opening [] h = refl
no_opening (x ∷ xs) h = is_false (eqb x 34) (and_left (no_quote x) (all_of no_quote xs) h)

-- what stands at a word is its value
one_word : {v w : Text} → Writes v w → (i : ℕ) (rest : Text) → span is_inside rest ≡ 0 → (e : Element) × (word i (w ++ rest) ≡ one e (length w)) × (e.value ≡ v) × (e.quoted ≡ opens_quote w)
unfolding word all_of some_of needs_quotes
one_word (in_quotes {v} h) i rest e =
    (record { value = v; quoted = true; at = i }, quoted_reads v rest i h e ∙ ap (one (record { value = v; quoted = true; at = i })) (omega (arith, length-append v (34 ∷ []))), refl, refl)
one_word (bare {v} h n) i rest e = (record { value = v; quoted = false; at = i }, go v h n, refl, sym (no_opening v h.unquoted))
  where
    go : (u : Text) → IsValue u → needs_quotes u ≡ false → word i (u ++ rest) ≡ one (record { value = u; quoted = false; at = i }) (length u)
    go [] h n = absurd (apart n)
    go (x ∷ xs) h n = rw (is_false (eqb x 34) (and_left (no_quote x) (all_of no_quote xs) h.unquoted)) (bare_reads (x ∷ xs) rest i h (bare_inside (x ∷ xs) n) e)

drop_one : (n x : ℕ) (xs : Text) → drop (1 + n) (x ∷ xs) ≡ drop n xs
drop_one n x xs = let e : 1 + n ≡ suc n = omega arith in rw e

next_element : (k j n : ℕ) (xs rest : Text) (e : Element) (es : List Element) → span is_blank xs ≡ 0 → word (j + 1) xs ≡ one e n → drop n xs ≡ rest
    → elements k (j + 1 + n) rest ≡ ok es → elements (suc k) j (32 ∷ xs) ≡ ok (e ∷ es)
unfolding elements span is_blank
next_element k j n xs rest e es s q d r = rw (s, q, drop_one n 32 xs, d, r)

elements_read : (k : ℕ) {vs ws : List Text} → Each Writes vs ws → length vs ≤ k → (j : ℕ) → (es : List Element) × (elements k j (words ws) ≡ ok es) × (values es ≡ vs) × (quotes es ≡ map opens_quote ws)
unfolding elements words span word
elements_read zero each_none h j = ([], refl, refl, refl)
elements_read (suc k) each_none h j = ([], refl, refl, refl)
elements_read zero (each_one g gs) h j = absurd (omega arith)
elements_read (suc k) (each_one {b = w} {ys = ws} g gs) h j =
    let o = one_word g (j + 1) (words ws) (words_stop ws) in
    let m = elements_read k gs (omega arith) (j + 1 + length w) in
    (o.0 ∷ m.0, next_element k j (length w) (w ++ words ws) (words ws) o.0 m.0 (word_starts g (words ws)) o.1 (drop-append_seam w (words ws)) m.1, ap₂ ◌∷◌ o.2 m.2, ap₂ ◌∷◌ o.3 m.3)

-- Names: letters, digits and underscores, a letter or an underscore first.
in_range : (a b x : ℕ) → T (between a b x) → (a ≤ x) × (x ≤ b)
in_range a b x h = (leb→le a x (and_left (leb a x) (leb x b) h), leb→le x b (and_right (leb a x) (leb x b) h))

letter_range : (x : ℕ) → T (is_letter x) → (65 ≤ x) × (x ≤ 122)
unfolding is_letter
letter_range x h = go (or_cases (between 65 90 x || between 97 122 x) (eqb x 95) h)
  where
    first : T (between 65 90 x) ⊎ T (between 97 122 x) → (65 ≤ x) × (x ≤ 122)
    first (inl h) = let r = in_range 65 90 x h in (r.0, omega (arith, r.1))
    first (inr h) = let r = in_range 97 122 x h in (omega (arith, r.0), r.1)

    go : T (between 65 90 x || between 97 122 x) ⊎ T (eqb x 95) → (65 ≤ x) × (x ≤ 122)
    go (inl h) = first (or_cases (between 65 90 x) (between 97 122 x) h)
    go (inr h) = let r = eqb→eq x 95 h in (omega arith, omega arith)

part_range : (x : ℕ) → T (is_part x) → (48 ≤ x) × (x ≤ 122)
unfolding is_part
part_range x h = go (or_cases (is_letter x) (between 48 57 x) h)
  where
    go : T (is_letter x) ⊎ T (between 48 57 x) → (48 ≤ x) × (x ≤ 122)
    go (inl h) = let r = letter_range x h in (omega (arith, r.0), r.1)
    go (inr h) = let r = in_range 48 57 x h in (r.0, omega (arith, r.1))

part_inside : (x : ℕ) → T (is_part x) → T (is_inside x)
unfolding is_blank
part_inside x h = let r = part_range x h in rw (ne_eqb x 9 (λ e. omega (arith, r.0)), ne_eqb x 32 (λ e. omega (arith, r.0))) tt

part_line : (x : ℕ) → T (is_part x) → T (line_byte x)
unfolding is_legal
part_line x h =
    let r = part_range x h in
    let low : 32 ≤ x = omega (arith, r.0) in
    let high : x ≤ 126 = omega (arith, r.1) in
    rw (ne_eqb x 9 (λ e. omega (arith, r.0)), ne_eqb x 10 (λ e. omega (arith, r.0)), le-leb 32 x low, le-leb x 126 high) tt

-- the first bytes and the others of a name
begins_well : (x : ℕ) (xs : Text) → T (is_name (x ∷ xs)) → T (is_letter x && all_of is_part xs)
unfolding is_name
begins_well x xs h =
    let right = is_letter x && all_of is_part xs in
    let short = leb (length xs) 31 in
    let long = not (same (x ∷ xs) (ascii "_")) in
    and_left right short (and_left (right && short) long (and_left (right && short && long) (not (member (x ∷ xs) reserved)) h))

pub name_parts : (r : Text) → T (is_name r) → T (all_of is_part r)
unfolding is_name all_of is_part
name_parts [] h = absurd h
name_parts (x ∷ xs) h =
    let b = begins_well x xs h in
    and_both (is_part x) (all_of is_part xs) (or_left (is_letter x) (between 48 57 x) (and_left (is_letter x) (all_of is_part xs) b)) (and_right (is_letter x) (all_of is_part xs) b)

name_run : (r : Text) (ws : List Text) → T (is_name r) → span is_inside (r ++ words ws) ≡ length r
name_run r ws n = span_run is_inside r (words ws) (all_weaken is_part is_inside part_inside r (name_parts r n)) (words_stop ws)

-- a fact's line: its name, then a word for each value, each after one space
pub written_fact : (r : Text) {vs ws : List Text} (i : ℕ) → T (is_name r) → Each Writes vs ws → length vs ≤ ARITY
    → (f : Fact) × (fact (record { bytes = spaced (r ∷ ws); at = i }) ≡ ok f) × (f.name ≡ r) × (fact_values f ≡ vs) × (quotes f.elements ≡ map opens_quote ws)
unfolding fact
written_fact r {vs} {ws} i n hs few =
    let m = elements_read ARITY hs few (i + length r) in (
      record { name = r; at = i; elements = m.0 },
      (rw (spaced_words r ws, name_run r ws n, take-append_seam r (words ws), is_true (is_name r) n, drop-append_seam r (words ws), m.1)),
      refl,
      m.2,
      m.3,
    )

-- A value of over 32 bytes, written likewise, is row 4 where its word begins, whatever follows it.
pub data Overlong : Text → Text → Type 0 where
  bare_long : {v : Text} → WORD_BYTES < length v → T (all_of no_quote v) → needs_quotes v ≡ false → Overlong v v
  quoted_long : {v : Text} → WORD_BYTES < length v → T (all_of no_quote v) → Overlong v (34 ∷ v ++ (34 ∷ []))

long_starts : {v x : Text} → Overlong v x → (rest : Text) → span is_blank (x ++ rest) ≡ 0
unfolding span is_blank
long_starts (bare_long {v} l u n) rest = bare_starts v rest n
long_starts (quoted_long l u) rest = refl

long_word : {v x : Text} → Overlong v x → (i : ℕ) (rest : Text) → span is_inside rest ≡ 0 → word i (x ++ rest) ≡ wrong i
unfolding word quoted_word bare_word starts all_of span
long_word (quoted_long {v} l u) i rest e =
    rw (append_assoc v (34 ∷ []) rest, span_run no_quote v (34 ∷ rest) u refl, drop-append_seam v (34 ∷ rest), lt-leb (length v) WORD_BYTES l)
long_word (bare_long {v} l u n) i rest e = go v l u n
  where
    go : (v : Text) → WORD_BYTES < length v → T (all_of no_quote v) → needs_quotes v ≡ false → word i (v ++ rest) ≡ wrong i
    go [] l u n = absurd (omega arith)
    go (x ∷ xs) l u n =
        rw (is_false (eqb x 34) (and_left (no_quote x) (all_of no_quote xs) u), span_run is_inside (x ∷ xs) rest (bare_inside (x ∷ xs) n) e, lt-leb (length (x ∷ xs)) WORD_BYTES l)

wrong_first : (k j p : ℕ) (xs : Text) → span is_blank xs ≡ 0 → word (j + 1) xs ≡ wrong p → elements k j (32 ∷ xs) ≡ refused 4 p
unfolding elements span is_blank
wrong_first zero j p xs s q = rw (s, q)
wrong_first (suc k) j p xs s q = rw (s, q)

wrong_later : (k j n p : ℕ) (xs rest : Text) (e : Element) → span is_blank xs ≡ 0 → word (j + 1) xs ≡ one e n → drop n xs ≡ rest → elements k (j + 1 + n) rest ≡ refused 4 p → elements (suc k) j (32 ∷ xs) ≡ refused 4 p
unfolding elements span is_blank
wrong_later k j n p xs rest e s q d r = rw (s, q, drop_one n 32 xs, d, r)

long_element : (k : ℕ) {vs ws : List Text} {v x : Text} → Each Writes vs ws → length vs ≤ k → Overlong v x → (xs : List Text) (j : ℕ) → elements k j (words (ws ++ (x ∷ xs))) ≡ refused 4 (j + length (words ws) + 1)
unfolding words
long_element k {x = x} each_none h l xs j =
    wrong_first k j (j + 1) (x ++ words xs) (long_starts l (words xs)) (long_word l (j + 1) (words xs) (words_stop xs)) ∙ ap (refused 4) (omega arith)
long_element zero (each_one g gs) h l xs j = absurd (omega arith)
long_element (suc k) {x = x} (each_one {b = w} {ys = ws} g gs) h l xs j =
    let rest = words (ws ++ (x ∷ xs)) in
    let o = one_word g (j + 1) rest (words_stop (ws ++ (x ∷ xs))) in
    wrong_later k j (length w) _ (w ++ rest) rest o.0 (word_starts g rest) o.1 (drop-append_seam w rest) (long_element k gs (omega arith) l xs (j + 1 + length w))
    ∙ ap (refused 4) (omega (arith, length-append w (words ws)))

pub long_fact : (r : Text) {vs ws : List Text} {v x : Text} (xs : List Text) (i : ℕ) → T (is_name r) → Each Writes vs ws → length vs ≤ ARITY → Overlong v x
    → fact (record { bytes = spaced (r ∷ ws ++ (x ∷ xs)); at = i }) ≡ refused 4 (i + length r + length (words ws) + 1)
unfolding fact
long_fact r {vs} {ws} {v} {x} xs i n hs few l =
    let all = ws ++ (x ∷ xs) in
    rw (spaced_words r all, name_run r all n, take-append_seam r (words all), is_true (is_name r) n, drop-append_seam r (words all), long_element ARITY hs few l xs (i + length r))

-- Lines and their text. A line may be blank, a comment or begin with a dot.
pub record IsLine (l : Text) : Type 0 where
  pub bytes : T (all_of line_byte l)

abbrev pub text_of : List Text → Text
text_of ls = gather (λ l. l ++ (10 ∷ [])) ls

cut_first : (l rest : Text) → T (all_of line_byte l) → cut (l ++ (10 ∷ rest)) ≡ l ∷ cut rest
unfolding cut all_of
cut_first [] rest h = refl
cut_first (x ∷ xs) rest h =
    let first = and_left (line_byte x) (all_of line_byte xs) h in
    rw (is_false (eqb x 10) (and_right (is_legal x) (not (eqb x 10)) first), cut_first xs rest (and_right (line_byte x) (all_of line_byte xs) h))

cut_written : {ls : List Text} → Every IsLine ls → cut (text_of ls) ≡ ls ++ ([] ∷ [])
unfolding gather cut
cut_written every_none = refl
cut_written (every_one {a = l} {xs = ls} h hs) = rw (append_assoc l (10 ∷ []) (text_of ls)) (cut_first l (text_of ls) h.bytes ∙ ap (λ (r : List Text). l ∷ r) (cut_written hs))

legal_all : (xs : Text) → T (all_of is_legal xs) → legal_bytes xs ≡ length xs
unfolding legal_bytes all_of
legal_all [] h = refl
legal_all (x ∷ xs) h = rw (is_true (is_legal x) (and_left (is_legal x) (all_of is_legal xs) h), legal_all xs (and_right (is_legal x) (all_of is_legal xs) h))

legal_written : {ls : List Text} → Every IsLine ls → T (all_of is_legal (text_of ls))
unfolding gather all_of is_legal
legal_written every_none = tt
legal_written (every_one {a = l} {xs = ls} h hs) =
    all_both is_legal (l ++ (10 ∷ [])) (text_of ls) (all_both is_legal l (10 ∷ []) (all_weaken line_byte is_legal (λ x t. and_left (is_legal x) (not (eqb x 10)) t) l h.bytes) tt) (legal_written hs)

-- the empty line after the last byte 10 is skipped
last_skipped : (limits : Limits) (ls : List Text) (i : ℕ) → read_lines limits (lines i (ls ++ ([] ∷ []))) ≡ read_lines limits (lines i ls)
unfolding lines read_lines starts all_of without_return
last_skipped limits [] i = fun_ext (λ s. refl)
last_skipped limits (l ∷ ls) i = fun_ext (λ s. go s (starts (ascii ".") l) (last_skipped limits ls (suc (i + length l))))
  where
    go : (s : Facts) (b : Bool) → read_lines limits (lines (suc (i + length l)) (ls ++ ([] ∷ []))) ≡ read_lines limits (lines (suc (i + length l)) ls)
        → read_lines limits (cond b [] (record { bytes = without_return l; at = i } ∷ lines (suc (i + length l)) (ls ++ ([] ∷ [])))) s
        ≡ read_lines limits (cond b [] (record { bytes = without_return l; at = i } ∷ lines (suc (i + length l)) ls)) s
    go s true e = refl
    go s false e =
        ap (λ (f : Facts → Answer Facts). cond (skipped (without_return l)) (f s) (do g ← fact (record { bytes = without_return l; at = i }); t ← with_fact limits s g; f t)) e

-- a text of lines, each ended by byte 10, is read line by line: rows 1 and 2 are not met
pub written_lines : (limits : Limits) {ls : List Text} → Every IsLine ls → length (text_of ls) ≤ FACT_BYTES
    → read_facts limits (text_of ls) ≡ read_lines limits (lines 0 ls) no_facts
unfolding read_facts fact_lines
written_lines limits {ls} hs short =
    let all = legal_all (text_of ls) (legal_written hs) in
    rw (le-ltb FACT_BYTES (length (text_of ls)) short, le-ltb (legal_bytes (text_of ls)) (length (text_of ls)) (omega (arith, all)), cut_written hs)
    (ap (λ (f : Facts → Answer Facts). f no_facts) (last_skipped limits ls 0))

-- Rows of names and values, written as facts.
pub record Row : Type 0 where
  pub name : Text
  pub values : List Text
  -- how the values are written
  pub words : List Text

pub record IsRow (r : Row) : Type 0 where
  pub named : T (is_name r.name)
  pub few : length r.values ≤ ARITY
  pub written : Each Writes r.values r.words

abbrev pub row_line : Row → Text
row_line r = spaced (r.name ∷ r.words)

word_bytes : {v w : Text} → Writes v w → T (all_of line_byte w)
unfolding all_of is_legal
word_bytes (bare h e) = h.bytes
word_bytes (in_quotes {v} h) = all_both line_byte v (34 ∷ []) h.bytes tt

words_bytes : {vs ws : List Text} → Each Writes vs ws → T (all_of line_byte (words ws))
unfolding words all_of is_legal
words_bytes each_none = tt
words_bytes (each_one {b = w} {ys = ws} h hs) = all_both line_byte w (words ws) (word_bytes h) (words_bytes hs)

pub row_bytes : (r : Row) → IsRow r → IsLine (row_line r)
row_bytes r h =
    record { bytes = rw (spaced_words r.name r.words) (all_both line_byte r.name (words r.words) (all_weaken is_part line_byte part_line r.name (name_parts r.name h.named)) (words_bytes h.written)) }

-- the line of a row is no comment, not blank and ends no facts
letter_first : (r rest : Text) → T (is_name r) → (starts (ascii ".") (r ++ rest) ≡ false) × (skipped (r ++ rest) ≡ false)
unfolding starts all_of is_name is_blank
letter_first [] rest h = absurd h
letter_first (x ∷ xs) rest h =
    let b = letter_range x (and_left (is_letter x) (all_of is_part xs) (begins_well x xs h)) in (
      (rw (ne_eqb 46 x (λ e. omega (arith, b.0)))),
      (rw (ne_eqb 35 x (λ e. omega (arith, b.0)), ne_eqb x 9 (λ e. omega (arith, b.0)), ne_eqb x 32 (λ e. omega (arith, b.0)))),
    )

pub row_kept : (r : Row) → IsRow r → (starts (ascii ".") (row_line r) ≡ false) × (skipped (row_line r) ≡ false)
row_kept r h = rw (spaced_words r.name r.words) (letter_first r.name (words r.words) h.named)

line_whole : (l : Text) → T (all_of line_byte l) → without_return l ≡ l
unfolding without_return all_of is_legal
line_whole [] h = refl
line_whole (x ∷ []) h = go (eqb x 13) refl
  where
    go : (b : Bool) → eqb x 13 ≡ b → cond b [] (x ∷ []) ≡ x ∷ []
    go true e = absurd (subst (λ (k : ℕ). T (all_of line_byte (k ∷ []))) (eqb→eq x 13 (rw e tt)) h)
    go false e = refl
line_whole (x ∷ y ∷ ys) h = ap (λ (l : Text). x ∷ l) (line_whole (y ∷ ys) (and_right (line_byte x) (all_of line_byte (y ∷ ys)) h))

-- a fact says what a row does
pub record Says (r : Row) (f : Fact) : Type 0 where
  pub name : f.name ≡ r.name
  pub values : fact_values f ≡ r.values
  pub quotes : quotes f.elements ≡ map opens_quote r.words

-- the facts taken in one after another: rows 5 to 7
unfoldable pub take_facts : Limits → List Fact → Facts → Answer Facts
take_facts limits [] s = ok s
take_facts limits (f ∷ fs) s = do t ← with_fact limits s f; take_facts limits fs t

row_read : (limits : Limits) (r : Row) (ls : List Text) (i : ℕ) → IsRow r
    → (f : Fact) × Says r f × ((s : Facts) → read_lines limits (lines i (row_line r ∷ ls)) s ≡ (do t ← with_fact limits s f; read_lines limits (lines (suc (i + length (row_line r))) ls) t))
unfolding lines read_lines
row_read limits r ls i h =
    let w = written_fact r.name i h.named h.written h.few in
    let k = row_kept r h in
    (w.0, record { name = w.2; values = w.3; quotes = w.4 }, λ s. rw (k.0, line_whole (row_line r) (row_bytes r h).bytes, k.1, w.1))

bind_assoc : {A B C : Type 0} (m : Answer A) (f : A → Answer B) (g : B → Answer C) → ◌>>=◌ (◌>>=◌ m f) g ≡ ◌>>=◌ m (λ a. ◌>>=◌ (f a) g)
bind_assoc (ok a) f g = refl
bind_assoc (refused r p) f g = refl

bind_ends : {A : Type 0} (m : Answer A) → ◌>>=◌ m ok ≡ m
bind_ends (ok a) = refl
bind_ends (refused r p) = refl

-- rows, and then other lines, which begin at j
pub rows_before : (limits : Limits) {rows : List Row} → Every IsRow rows → (ls : List Text) (i : ℕ)
    → (fs : List Fact) × Each Says rows fs × (j : ℕ) × ((s : Facts) → read_lines limits (lines i (map row_line rows ++ ls)) s ≡ (do t ← take_facts limits fs s; read_lines limits (lines j ls) t))
unfolding take_facts
rows_before limits every_none ls i = ([], each_none, i, λ s. refl)
rows_before limits (every_one {a = r} {xs = rows} h hs) ls i =
    let m = row_read limits r (map row_line rows ++ ls) i h in
    let n = rows_before limits hs ls (suc (i + length (row_line r))) in
    let rest : Facts → Answer Facts = λ t. read_lines limits (lines n.2 ls) t in (
      m.0 ∷ n.0,
      each_one m.1 n.1,
      n.2,
      λ s. m.2 s ∙ ap (◌>>=◌ (with_fact limits s m.0)) (fun_ext n.3) ∙ sym (bind_assoc (with_fact limits s m.0) (take_facts limits n.0) rest),
    )

rows_read : (limits : Limits) {rows : List Row} → Every IsRow rows → (i : ℕ)
    → (fs : List Fact) × Each Says rows fs × ((s : Facts) → read_lines limits (lines i (map row_line rows)) s ≡ take_facts limits fs s)
unfolding lines read_lines
rows_read limits {rows} hs i =
    let n = rows_before limits hs [] i in
    (n.0, n.1, λ s. ap (λ (ls : List Text). read_lines limits (lines i ls) s) (sym (append-nil (map row_line rows))) ∙ n.3 s ∙ bind_ends (take_facts limits n.0 s))

pub all_lines : {rows : List Row} → Every IsRow rows → Every IsLine (map row_line rows)
all_lines every_none = every_none
all_lines (every_one {a = r} h hs) = every_one (row_bytes r h) (all_lines hs)

-- the text of rows: a line for each
abbrev pub rows_text : List Row → Text
rows_text rows = gather (λ r. fact_line r.name r.words) rows

pub text_lines : (rows : List Row) → rows_text rows ≡ text_of (map row_line rows)
unfolding gather fact_line
text_lines [] = refl
text_lines (r ∷ rows) = ap (λ (l : Text). (row_line r ++ (10 ∷ [])) ++ l) (text_lines rows)

-- what is written reads back: the text of rows is read as facts that say the same, in the same order; only rows 5 to 7 may refuse them
pub written_rows : (limits : Limits) {rows : List Row} → Every IsRow rows → length (rows_text rows) ≤ FACT_BYTES
    → (fs : List Fact) × Each Says rows fs × (read_facts limits (rows_text rows) ≡ take_facts limits fs no_facts)
written_rows limits {rows} hs short =
    let n = rows_read limits hs 0 in
    let e = text_lines rows in
    (n.0, n.1, ap (read_facts limits) e ∙ written_lines limits (all_lines hs) (subst (λ (t : Text). length t ≤ FACT_BYTES) e short) ∙ n.2 _)
