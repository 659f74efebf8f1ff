-- The elements of a fact entered into the universe, one after another.
use Prim.Native.Nat.{ℕ, zero, suc, ◌+◌, ◌<◌, ◌≤◌}
use mathlib.Core.Path.{◌≡◌, refl, sym, ap, subst, ◌∙◌}
use mathlib.Core.List.{List, [], ◌∷◌, ◌++◌, map, map-append}
use mathlib.Core.Bool.{Bool, true, false, cond}
use native.Mathlib.Numerals.{add-one}
use native.Mathlib.Omega.{arith}
use mir.Val.{bool_byte}
use lib.Dec.{ltb}
use lib.ListN.{length, get_or, take, drop, drop_of_length-le}
use lib.Seq.{length-take-le, drop-cons, take-suc, get_or-take, take_all}
use borrow.Author.Tests.{le-ltb, lt-ltb}
use Rattle.definition.specs.Text.{Text}
use Rattle.definition.specs.Limits.{ARITY, WORD_BYTES}
use Rattle.definition.specs.Facts.{insert, use_elements, Ascending}
use Rattle.definition.specs.Calls.{part_text}
use Rattle.parts.specs.Packed.{pack, text_of}
use Rattle.parts.specs.Entries.{enter, enter_all, texts_of, in_front, count_in, Held}
use Rattle.std.specs.Prelude.{Some, None}
use Rattle.parts.proofs.PackLaws.{pack_part}
use Rattle.parts.proofs.HeldLaws.{length_texts, texts_enter, enter_all_ascending, enter_longer, enter_all_append, held_first, held_take, held_length, held_then, held_front, no_room}
use Rattle.facts.specs.declared.Item.{Item}
use Rattle.facts.specs.declared.FactLine.{FactLine}
use Rattle.std.specs.declared.result.Result.TheVariants.{Ok, Err}
use Rattle.facts.specs.Lines.{start_of, items_of, item_at, Within, AllWithin}
use Rattle.facts.specs.Words.{element_at, elements_at, item_word}
use Rattle.facts.specs.Pass.{limits_of, UniverseUsed}

-- the text of a number that the code makes for a part of the facts
pub facts_text : (facts query : Text) (offset len tag : ℕ) → len < 64 → tag < 4 → text_of facts query (pack 0 offset len tag) ≡ take len (drop offset facts)
unfolding text_of
facts_text facts query offset len tag n t = ap (part_text facts query) (pack_part 0 offset len tag (omega arith) n t)

-- a tag that is the number of a test
pub tag_is : (b : Bool) → bool_byte b ≡ cond b 1 0
tag_is true = refl
tag_is false = refl

pub tag_small : (b : Bool) → cond b 1 0 < 4
tag_small true = omega arith
tag_small false = omega arith

pub item_text : (facts query : Text) (a : ℕ) (x : Item) → x.len ≤ WORD_BYTES → text_of facts query (item_word a x) ≡ (element_at facts a x).value
item_text facts query a x h = facts_text facts query (a + start_of x) x.len (cond x.quoted 1 0) (omega arith) (tag_small x.quoted)

pub within_item : (n : ℕ) (f : FactLine) (i : ℕ) → AllWithin n f → Within n (item_at f i)
within_item n f zero h = h.first
within_item n f (suc zero) h = h.second
within_item n f (suc (suc zero)) h = h.third
within_item n f (suc (suc (suc i))) h = h.third

pub third_item : (f : FactLine) (i : ℕ) → (i ≡ 0 → ⊥) → (i ≡ 1 → ⊥) → f.third ≡ item_at f i
third_item f zero a b = absurd (a refl)
third_item f (suc zero) a b = absurd (b refl)
third_item f (suc (suc zero)) a b = refl
third_item f (suc (suc (suc i))) a b = refl

-- the items of a fact, from the place i on
module _ (f : FactLine) (small : f.arity ≤ ARITY) (i : ℕ) (h : i < f.arity) where
  inside : i < length (items_of f)
  inside = rw (length-take-le f.arity (f.first ∷ f.second ∷ f.third ∷ []) small) h

  the_item : get_or (items_of f) i f.third ≡ item_at f i
  the_item = get_or-take f.arity (f.first ∷ f.second ∷ f.third ∷ []) i f.third h

  pub items_from : drop i (items_of f) ≡ item_at f i ∷ drop (i + 1) (items_of f)
  items_from = drop-cons (items_of f) i f.third inside ∙ ap (λ (x : Item). x ∷ drop (suc i) (items_of f)) the_item ∙ ap (λ (k : ℕ). item_at f i ∷ drop k (items_of f)) (sym (add-one i))

  pub items_to : take (i + 1) (items_of f) ≡ take i (items_of f) ++ (item_at f i ∷ [])
  items_to = ap (λ (k : ℕ). take k (items_of f)) (add-one i) ∙ take-suc (items_of f) i f.third inside ∙ ap (λ (x : Item). take i (items_of f) ++ (x ∷ [])) the_item

module _ (facts query : Text) (a : ℕ) (f : FactLine) (old : List ℕ) (n : ℕ) where
  -- the universe with the first i elements
  unfoldable pub entered_to : ℕ → List ℕ
  entered_to i = enter_all facts query (map (item_word a) (take i (items_of f))) (take n old)

  pub record Entering (words : List ℕ) (count i : ℕ) : Type 0 where
    pub held : Held old words (entered_to i) count
    pub uses : (k : ℕ)
        → use_elements (limits_of k (length old)) (elements_at facts a (items_of f)) (texts_of facts query (take n old))
        ≡ use_elements (limits_of k (length old)) (elements_at facts a (drop i (items_of f))) (texts_of facts query (entered_to i))

  pub entering_start : n ≤ length old → Entering old n 0
  unfolding entered_to enter_all
  entering_start h = record { held = held_first old n h; uses = λ k. refl }

  module _ (words : List ℕ) (count i : ℕ) (h : Entering words count i) where
    pub entering_end : f.arity ≤ i → f.arity ≤ ARITY → UniverseUsed facts query a f old words n (Ok count)
    unfolding entered_to use_elements
    entering_end l s =
        let m : length (items_of f) ≤ i = rw (length-take-le f.arity (f.first ∷ f.second ∷ f.third ∷ []) s) l in
        let e : take i (items_of f) ≡ items_of f = take_all i (items_of f) m in
        let d : drop i (items_of f) ≡ [] = drop_of_length-le (items_of f) m in (
          subst (λ (xs : List Item). Held old words (enter_all facts query (map (item_word a) xs) (take n old)) count) e h.held,
          λ k. h.uses k ∙ rw (d, e),
        )

    pub entering_ascending : Ascending (texts_of facts query (take n old)) → Ascending (texts_of facts query (take count words))
    unfolding entered_to
    entering_ascending o =
        subst (λ (ws : List ℕ). Ascending (texts_of facts query ws)) (sym (held_take h.held)) (enter_all_ascending facts query (map (item_word a) (take i (items_of f))) (take n old) o)

    module _ (small : f.arity ≤ ARITY) (l : i < f.arity) (short : (item_at f i).len ≤ WORD_BYTES) where
      abbrev v : ℕ
      v = item_word a (item_at f i)

      abbrev es : List ℕ
      es = enter facts query (item_word a (item_at f i)) (take count words)

      one_more : es ≡ entered_to (i + 1)
      unfolding entered_to enter_all
      one_more =
          ap (enter facts query v) (held_take h.held)
          ∙ sym (ap (λ (xs : List Item). enter_all facts query (map (item_word a) xs) (take n old)) (items_to f small i l)
          ∙ ap (λ (ws : List ℕ). enter_all facts query ws (take n old)) (map-append (item_word a) (take i (items_of f)) (item_at f i ∷ []))
          ∙ enter_all_append facts query (map (item_word a) (take i (items_of f))) (v ∷ []) (take n old))

      -- the definition's step
      value_in : insert (element_at facts a (item_at f i)).value (texts_of facts query (entered_to i)) ≡ texts_of facts query (entered_to (i + 1))
      value_in =
          ap (λ (t : Text). insert t (texts_of facts query (entered_to i))) (sym (item_text facts query a (item_at f i) short))
          ∙ sym (texts_enter facts query v (entered_to i))
          ∙ ap (texts_of facts query) (ap (enter facts query v) (sym (held_take h.held)) ∙ one_more)

      pub entering_full : None ≡ count_in es words → UniverseUsed facts query a f old words n (Err (a + (item_at f i).place))
      unfolding use_elements
      entering_full c =
          let s : length words < length es = no_room words es c in
          let m : ltb (length old) (length (texts_of facts query (entered_to (i + 1)))) ≡ true
          = lt-ltb (length old) (length (texts_of facts query (entered_to (i + 1)))) (omega (arith, s, ap length one_more, length_texts facts query (entered_to (i + 1)), held_length h.held)) in
          λ k. h.uses k ∙ rw (items_from f small i l, value_in, m)

      pub entering_next : (new : List ℕ) (m : ℕ) → new ≡ in_front es words → Some m ≡ count_in es words → Entering new m (i + 1)
      unfolding use_elements
      entering_next new m w c =
          let g : Held words new es m = held_front words new es m w c in
          let t : count ≤ m = omega (arith, h.held.count, g.count, ap length (ap (enter facts query v) (held_take h.held)), enter_longer facts query v (entered_to i)) in
          let r : Held old new es m = held_then h.held g t in
          let q : ltb (length old) (length (texts_of facts query (entered_to (i + 1)))) ≡ false
          = le-ltb (length old) (length (texts_of facts query (entered_to (i + 1)))) (omega (arith, r.count, r.room, ap length one_more, length_texts facts query (entered_to (i + 1)))) in
          record {
            held = subst (λ (xs : List ℕ). Held old new xs m) one_more r;
            uses = λ k. h.uses k ∙ rw (items_from f small i l, value_in, q);
          }
