-- The elements of the facts and the strings on left-hand sides as parts: what the definition says of the first of them, and of quotes.
use Prim.Native.Nat.{ℕ, suc, ◌+◌, ◌/◌, ◌%◌, ◌<◌, ◌≤◌}
use mathlib.Core.Path.{◌≡◌, refl, sym, ap, ap₂, ◌∙◌}
use mathlib.Core.Bool.{Bool, true, false, ◌&&◌, ◌||◌, cond, and-or_distrib_right}
use mathlib.Core.List.{List, [], ◌∷◌, ◌++◌, map, map-append}
use native.Mathlib.Omega.{arith}
use lib.Dec.{eqb}
use lib.ListN.{length, drop, length-drop}
use lib.Seq.{length-take-le}
use native.Mathlib.Numerals.{add-one}
use Rattle.definition.specs.Text.{Text, same, some_of, gather, needs_quotes}
use Rattle.definition.specs.Limits.{WORD_BYTES}
use Rattle.definition.specs.Facts.{Element, Fact}
use Rattle.definition.specs.Calls.{Part, part_text, first_part}
use Rattle.definition.proofs.AcceptLaws.{has}
use Rattle.definition.proofs.MeaningLaws.{same_eq}
use Rattle.definition.proofs.PlaceLaws.{At, at_part, EachElement, no_element, an_element, value_at}
use Rattle.definition.proofs.ListLaws.{Every, every_head, every_tail, every_weaken, every_gather}
use Rattle.definition.proofs.ValueLaws.{ValueFact}
use Rattle.parts.specs.Packed.{tag_of, part_of, text_of}
use Rattle.parts.proofs.PackLaws.{pack_part, pack_tag}
use Rattle.facts.specs.Words.{element_word}
use Rattle.universe.specs.Strings.{string_word, string_element}
use Rattle.universe.proofs.FirstParts.{part_in, quotes, Small}
use Rattle.universe.proofs.LeftStrings.{Fits}
use Rattle.universe.proofs.StringWords.{string_part, string_tag, string_text}

-- "An element is 0 to 32 bytes"
abbrev pub Short : List Element → Type 0
Short es = Every (λ e. length e.value ≤ WORD_BYTES) es

-- all elements of some facts
abbrev pub elements_in : List Fact → List Element
elements_in fs = gather (λ f. f.elements) fs

pub all_short : {fs : List Fact} → Every ValueFact fs → Short (elements_in fs)
all_short vs = every_gather (λ f. f.elements) (every_weaken (λ f v. every_weaken (λ e h. h.value.short) v) vs)

-- their parts
pub words_in : (fs : List Fact) → gather (λ f. map element_word f.elements) fs ≡ map element_word (elements_in fs)
unfolding gather
words_in [] = refl
words_in (f ∷ fs) = ap (λ (ws : List ℕ). map element_word f.elements ++ ws) (words_in fs) ∙ sym (map-append element_word f.elements (elements_in fs))

tag_two : (b : Bool) → cond b 1 0 < 2
tag_two true = omega arith
tag_two false = omega arith

element_part : (e : Element) → length e.value ≤ WORD_BYTES → part_of (element_word e) ≡ record { text = 0; offset = value_at e; length = length e.value }
element_part e h = pack_part 0 (value_at e) (length e.value) (cond e.quoted 1 0) (omega arith) (omega arith) (omega (arith, tag_two e.quoted))

element_tag : (e : Element) → length e.value ≤ WORD_BYTES → tag_of (element_word e) ≡ cond e.quoted 1 0
element_tag e h = pack_tag 0 (value_at e) (length e.value) (cond e.quoted 1 0) (omega arith) (omega arith) (omega (arith, tag_two e.quoted))

-- equal texts need quotes alike
same_needs : (x y : Text) → same x y && needs_quotes y ≡ same x y && needs_quotes x
same_needs x y = go (same x y) refl
  where
    go : (b : Bool) → same x y ≡ b → b && needs_quotes y ≡ b && needs_quotes x
    go true e = ap needs_quotes (sym (same_eq x y (rw e tt)))
    go false e = refl

quoted_test : (b : Bool) → eqb (cond b 1 0) 1 ≡ b
quoted_test true = refl
quoted_test false = refl

module _ (facts query : Text) where
  element_text : (e : Element) → length e.value ≤ WORD_BYTES → At facts (value_at e) e.value → text_of facts query (element_word e) ≡ e.value
  unfolding text_of
  element_text e h a = ap (part_text facts query) (element_part e h) ∙ at_part a

  pub words_small : (es : List Element) → Short es → Small facts query (map element_word es)
  unfolding Small
  words_small [] s = tt
  words_small (e ∷ es) s = (rw (element_tag e (every_head s)) (tag_two e.quoted), words_small es (every_tail s))

  -- "first occurrence"
  pub first_in_facts : (t : Text) {es : List Element} (within : Part) → EachElement facts es → Short es → part_in facts query t (map element_word es) within ≡ first_part 0 t es within
  unfolding part_in first_part
  first_in_facts t within no_element s = refl
  first_in_facts t within (an_element {e} {es} a r) s =
      ap (λ (x : Text). cond (same t x) (part_of (element_word e)) (part_in facts query t (map element_word es) within)) (element_text e (every_head s) a)
      ∙ go (same t e.value) refl (first_in_facts t within r (every_tail s))
    where
      go : (b : Bool) → same t e.value ≡ b → part_in facts query t (map element_word es) within ≡ first_part 0 t es within
          → cond b (part_of (element_word e)) (part_in facts query t (map element_word es) within) ≡ cond b (record { text = 0; offset = value_at e; length = length t }) (first_part 0 t es within)
      go true h ih = element_part e (every_head s) ∙ ap (λ (x : Text). record { text = 0; offset = value_at e; length = length x }) (sym (same_eq t e.value (rw h tt)))
      go false h ih = ih

  -- "if some fact quoted it"
  pub quoted_in_facts : (t : Text) {es : List Element} → EachElement facts es → Short es → quotes facts query t (map element_word es) ≡ some_of (λ e. same t e.value && e.quoted) es
  unfolding quotes some_of
  quoted_in_facts t no_element s = refl
  quoted_in_facts t (an_element {e} {es} a r) s =
      ap₂ ◌||◌ (ap₂ (λ (x : Text) (b : Bool). same t x && b) (element_text e (every_head s) a) (ap (λ (k : ℕ). eqb k 1) (element_tag e (every_head s)) ∙ quoted_test e.quoted)) (quoted_in_facts t r (every_tail s))

module _ (facts query : Text) where
  pub strings_small : (ts : List ℕ) → Small facts query (map (string_word query) ts)
  unfolding Small
  strings_small [] = tt
  strings_small (t ∷ ts) = (rw (string_tag query t) (tag_two (needs_quotes (string_element query t).value)), strings_small ts)

  -- "or if it is empty or holds a space or tab"
  pub quoted_in_query : (x : Text) (ts : List ℕ) → quotes facts query x (map (string_word query) ts) ≡ has x (map (string_element query) ts) && needs_quotes x
  unfolding quotes has some_of
  quoted_in_query x [] = refl
  quoted_in_query x (t ∷ ts) =
      ap₂ ◌||◌
      (ap₂ (λ (y : Text) (b : Bool). same x y && b) (string_text query t facts) (ap (λ (k : ℕ). eqb k 1) (string_tag query t) ∙ quoted_test (needs_quotes (string_element query t).value)) ∙ same_needs x (string_element query t).value)
      (quoted_in_query x ts)
      ∙ sym (and-or_distrib_right (same x (string_element query t).value) (has x (map (string_element query) ts)) (needs_quotes x))

  -- "first left-hand string"
  pub first_in_query : (x : Text) (ts : List ℕ) (within : Part) → Fits query ts → part_in facts query x (map (string_word query) ts) within ≡ first_part 1 x (map (string_element query) ts) within
  unfolding part_in first_part Fits
  first_in_query x [] within f = refl
  first_in_query x (t ∷ ts) within f =
      ap (λ (y : Text). cond (same x y) (part_of (string_word query t)) (part_in facts query x (map (string_word query) ts) within)) (string_text query t facts)
      ∙ go (same x (string_element query t).value) refl (first_in_query x ts within f.1)
    where
      size : length (string_element query t).value ≡ t / 64 % 64
      size = length-take-le (t / 64 % 64) (drop (t / 4096 + 1) query) (rw length-drop (omega (arith, f.0)))

      go : (b : Bool) → same x (string_element query t).value ≡ b → part_in facts query x (map (string_word query) ts) within ≡ first_part 1 x (map (string_element query) ts) within
          → cond b (part_of (string_word query t)) (part_in facts query x (map (string_word query) ts) within) ≡ cond b (record { text = 1; offset = suc (t / 4096); length = length x }) (first_part 1 x (map (string_element query) ts) within)
      go true h ih =
          string_part query t
          ∙ ap₂ (λ (o n : ℕ). record { text = 1; offset = o; length = n }) (add-one (t / 4096)) (sym (ap length (same_eq x (string_element query t).value (rw h tt)) ∙ size))
      go false h ih = ih
