-- The elements of the facts and the strings on left-hand sides begin in their texts, or, empty, at their end.
use Prim.Native.Nat.{ℕ, zero, suc, ◌+◌, ◌-◌, ◌/◌, ◌<◌, ◌≤◌}
use mathlib.Core.Path.{◌≡◌, refl, sym, ap, subst, ◌∙◌}
use mathlib.Core.Bool.{Bool, true, false, ◌&&◌, not, cond}
use mathlib.Core.List.{List, [], ◌∷◌, ◌++◌, map}
use native.Mathlib.Omega.{arith}
use borrow.Author.Tests.{lt-ltb}
use lib.Dec.{eqb, leb}
use lib.ListN.{length, get_or, take, drop, length-drop}
use Rattle.definition.specs.Text.{Text, ascii, same, some_of, span, starts, gather, is_blank, is_name}
use Rattle.definition.specs.Limits.{WORD_BYTES, ARITY}
use Rattle.definition.specs.Answer.{Answer, ok, refused, ◌>>=◌, refuse_if}
use Rattle.definition.specs.Token.{Token}
use Rattle.definition.specs.Facts.{Line, Element, Fact, Word, none, one, wrong, is_inside, word, quoted_word, bare_word, on_word, elements, skipped, fact, without_return, lines, onto, cut}
use Rattle.definition.specs.Accept.{Accepted}
use Rattle.definition.specs.Accept as Accept
use Rattle.definition.specs.Names.{left_strings}
use Rattle.definition.specs.Calls.{Part, no_part, first_part, element_part}
use Rattle.definition.proofs.AcceptLaws.{never, ok_injective, bind_ok, then_ok}
use Rattle.definition.proofs.ListLaws.{gather_append}
use Rattle.definition.proofs.TextLaws.{return_shorter}
use Rattle.definition.proofs.PlaceLaws.{value_at}
use Rattle.parts.specs.Packed.{part_of}
use Rattle.facts.specs.Reading.{answered, line_facts, facts_from, all_facts}
use Rattle.lexer.specs.Tokens.{Inside}
use Rattle.kinds.specs.Resolved.{Parsed}
use Rattle.universe.specs.Strings.{string_element, left_tokens}
use Rattle.universe.proofs.ElementParts.{elements_in}
use Rattle.universe.proofs.LeftStrings.{Fits, left_strings_shown, left_strings_within}
use Rattle.universe.proofs.Filling.{Filled, filled_part}
use Rattle.element.specs.Addresses.{source, Begins}

-- the values of some elements begin at m or before
unfoldable pub Low : ℕ → List Element → Type 0
Low m [] = Unit {0}
Low m (e ∷ es) = (value_at e ≤ m) × Low m es

data LowWord (m : ℕ) : Word → Type 0 where
  low_none : LowWord m none
  low_wrong : {p : ℕ} → LowWord m (wrong p)
  low_one : {e : Element} {n : ℕ} → value_at e ≤ m → LowWord m (one e n)

low_if : {m : ℕ} (b : Bool) {v w : Word} → LowWord m v → LowWord m w → LowWord m (cond b v w)
low_if true a c = a
low_if false a c = c

-- bytes from i on, if any, end at m or before
abbrev Ends : ℕ → ℕ → Text → Type 0
Ends m i xs = 0 < length xs → i + length xs ≤ m

ends_later : (m i k : ℕ) (xs : Text) → Ends m i xs → Ends m (i + k) (drop k xs)
ends_later m i k xs h g = let d : length (drop k xs) ≡ length xs - k = length-drop k xs in omega (arith, d, h (omega (arith, d)))

low_word : (m i : ℕ) (xs : Text) → Ends m i xs → LowWord m (word i xs)
unfolding word quoted_word bare_word
low_word m i [] h = low_none
low_word m i (x ∷ xs) h =
    let n = span (λ y. not (eqb y 34)) xs in
    let k = span is_inside (x ∷ xs) in
    let l : i + length (x ∷ xs) ≤ m = h (omega arith) in
    low_if (eqb x 34)
    (low_if (starts (34 ∷ []) (drop n xs) && leb n WORD_BYTES && leb (span is_inside (drop n xs)) 1) (low_one {e = record { value = take n xs; quoted = true; at = i }} {n = n + 2} (omega (arith, l))) low_wrong)
    (low_if (leb k WORD_BYTES && not (some_of (eqb 34) (take k (x ∷ xs)))) (low_one {e = record { value = take k (x ∷ xs); quoted = false; at = i }} {n = k} (omega (arith, l))) low_wrong)

on_low : {m : ℕ} {w : Word} (f : Element → ℕ → Answer (List Element)) (es : List Element) → LowWord m w
    → ((e : Element) (n : ℕ) → value_at e ≤ m → f e n ≡ ok es → Low m es) → on_word w f ≡ ok es → Low m es
unfolding Low
on_low {m} f es low_none g h = subst (Low m) (ok_injective h) tt
on_low f es low_wrong g h = absurd (never h)
on_low f es (low_one {e} {n} a) g h = g e n a h

low_elements : (m k i : ℕ) (xs : Text) (es : List Element) → Ends m i xs → elements k i xs ≡ ok es → Low m es
unfolding elements Low
low_elements m zero i xs es l h = let b = span is_blank xs in on_low (λ e n. refused 5 e.at) es (low_word m (i + b) (drop b xs) (ends_later m i b xs l)) (λ e n a q. absurd (never q)) h
low_elements m (suc k) i xs es l h =
    let b = span is_blank xs in
    on_low (λ e n. do gs ← elements k (i + b + n) (drop (b + n) xs); ok (e ∷ gs)) es (low_word m (i + b) (drop b xs) (ends_later m i b xs l))
    (λ e n a q.
    let (gs, p, s) = bind_ok (elements k (i + b + n) (drop (b + n) xs)) (λ gs. ok (e ∷ gs)) es q in
    subst (Low m) (ok_injective s) (a, low_elements m k (i + b + n) (drop (b + n) xs) gs (λ g. omega (arith, ends_later m i (b + n) xs l g)) p))
    h

low_append : (m : ℕ) (xs ys : List Element) → Low m xs → Low m ys → Low m (xs ++ ys)
unfolding Low
low_append m [] ys s t = t
low_append m (e ∷ xs) ys s t = (s.0, low_append m xs ys s.1 t)

low_fact : (m : ℕ) (l : Line) (f : Fact) → l.at + length l.bytes ≤ m → fact l ≡ ok f → Low m f.elements
unfolding fact
low_fact m l f h e =
    let n = span is_inside l.bytes in
    let e₂ = then_ok (refuse_if (not (is_name (take n l.bytes))) 3 l.at) _ f e in
    let (es, p, s) = bind_ok (elements ARITY (l.at + n) (drop n l.bytes)) _ f e₂ in
    subst (λ (g : Fact). Low m g.elements) (ok_injective s) (low_elements m ARITY (l.at + n) (drop n l.bytes) es (ends_later m l.at n l.bytes (λ g. h)) p)

low_line : (m : ℕ) (l : Line) → l.at + length l.bytes ≤ m → Low m (elements_in (line_facts l))
unfolding line_facts gather Low
low_line m l h = go (skipped l.bytes) (fact l) refl
  where
    go : (b : Bool) (a : Answer Fact) → fact l ≡ a → Low m (elements_in (cond b [] (answered a)))
    go true a e = tt
    go false (ok f) e = low_append m f.elements [] (low_fact m l f h e) tt
    go false (refused r p) e = tt

unfoldable LowLines : ℕ → List Line → Type 0
LowLines m [] = Unit {0}
LowLines m (l ∷ ls) = (l.at + length l.bytes ≤ m) × LowLines m ls

low_lines : (m : ℕ) (ls : List Line) → LowLines m ls → Low m (elements_in (gather line_facts ls))
unfolding gather Low LowLines
low_lines m [] h = tt
low_lines m (l ∷ ls) h =
    subst (Low m) (sym (gather_append (λ (f : Fact). f.elements) (line_facts l) (gather line_facts ls)))
    (low_append m (elements_in (line_facts l)) (elements_in (gather line_facts ls)) (low_line m l h.0) (low_lines m ls h.1))

-- the bytes of lines, with one more for each line's end
unfoldable total : List Text → ℕ
total [] = 0
total (l ∷ ls) = length l + 1 + total ls

total_onto : (x : ℕ) (r : List Text) → 0 < total r → total (onto x r) ≡ suc (total r)
unfolding total
total_onto x [] h = absurd (omega arith)
total_onto x (l ∷ ls) h = omega arith

total_cut : (xs : Text) → total (cut xs) ≡ suc (length xs)
unfolding cut total
total_cut [] = refl
total_cut (x ∷ xs) = go (eqb x 10) (total_cut xs)
  where
    go : (b : Bool) → total (cut xs) ≡ suc (length xs) → total (cond b ([] ∷ cut xs) (onto x (cut xs))) ≡ suc (suc (length xs))
    go true e = omega (arith, e)
    go false e = total_onto x (cut xs) (omega (arith, e)) ∙ ap suc e

lines_low : (m : ℕ) (ls : List Text) (i : ℕ) → i + total ls ≤ suc m → LowLines m (lines i ls)
unfolding lines total LowLines
lines_low m [] i h = tt
lines_low m (l ∷ ls) i h = go (starts (ascii ".") l) (lines_low m ls (suc (i + length l)) (omega arith))
  where
    go : (b : Bool) → LowLines m (lines (suc (i + length l)) ls) → LowLines m (cond b [] (record { bytes = without_return l; at = i } ∷ lines (suc (i + length l)) ls))
    go true ih = tt
    go false ih = (omega (arith, h, return_shorter l), ih)

all_low : (facts : Text) → Low (length facts) (elements_in (all_facts facts))
unfolding facts_from
all_low facts = low_lines (length facts) (lines 0 (cut (drop 0 facts))) (lines_low (length facts) (cut (drop 0 facts)) 0 (omega (arith, total_cut facts)))

strings_low : (query : Text) (ts : List ℕ) → Fits query ts → Low (length query) (map (string_element query) ts)
unfolding Low Fits
strings_low query [] f = tt
strings_low query (t ∷ ts) f = (omega (arith, f.0), strings_low query ts f.1)

-- the first of them, too
first_begins : (facts query : Text) (k : ℕ) (t : Text) (es : List Element) (within : Part) → Low (length (source facts query k)) es → Begins facts query within → Begins facts query (first_part k t es within)
unfolding first_part Low
first_begins facts query k t [] within l h = h
first_begins facts query k t (e ∷ es) within l h = go (same t e.value) (first_begins facts query k t es within l.1 h)
  where
    go : (b : Bool) → Begins facts query (first_part k t es within)
        → Begins facts query (cond b (record { text = k; offset = value_at e; length = length t }) (first_part k t es within))
    go true ih = l.0
    go false ih = ih

-- the part of an element
pub part_begins : (facts query : Text) (tokens words places : List ℕ) (w : Accepted) → Filled facts query tokens words places w
    → (ts : List Token) → Parsed query tokens words ts w.program → Inside query tokens → (n : ℕ) → n < Accept.elements w → Begins facts query (part_of (get_or places n 0))
unfolding element_part
part_begins facts query tokens words places w h ts parsed inside n l =
    let t = get_or w.universe n [] in
    let strings : Low (length query) (left_strings w.program)
    = subst (Low (length query)) (left_strings_shown query tokens words ts w.program parsed) (strings_low query (left_tokens tokens words) (left_strings_within query tokens words ts w.program parsed inside)) in
    let own : Low (length facts) (elements_in w.facts) = subst (λ (fs : List Fact). Low (length facts) (elements_in fs)) (sym h.from_facts) (all_low facts) in
    let first : Begins facts query (first_part 0 t (elements_in w.facts) (first_part 1 t (left_strings w.program) no_part))
    = first_begins facts query 0 t (elements_in w.facts) _ own (first_begins facts query 1 t (left_strings w.program) no_part strings (omega arith)) in
    let e : element_part w n ≡ first_part 0 t (elements_in w.facts) (first_part 1 t (left_strings w.program) no_part) = rw (lt-ltb n (Accept.elements w) l) in
    subst (Begins facts query) (sym (filled_part facts query tokens words places w h ts parsed inside n l ∙ e)) first
