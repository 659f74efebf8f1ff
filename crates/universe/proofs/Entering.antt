-- The strings on left-hand sides entered into the universe, word by word.
use Prim.Native.Nat.{ℕ, suc, ◌+◌, ◌/◌, ◌<◌, ◌≤◌}
use mathlib.Core.Path.{◌≡◌, refl, sym, ap, subst, ◌∙◌}
use mathlib.Core.Bool.{Bool, true, false, cond}
use mathlib.Core.List.{List, [], ◌∷◌, ◌++◌, map, map-append}
use native.Mathlib.Numerals.{add-one}
use native.Mathlib.Omega.{arith}
use borrow.Author.Tests.{eq-eqb, ne_eqb, le-ltb, lt-ltb}
use lib.Dec.{eqb, ltb}
use lib.ListN.{length, get_or, take, drop, drop_of_length-le}
use lib.Seq.{drop-cons}
use Rattle.definition.specs.Text.{Text}
use Rattle.definition.specs.Limits.{Limits, document_01}
use Rattle.definition.specs.Answer.{◌>>=◌, ◌>>◌, refuse_if}
use Rattle.definition.specs.Token.{Token}
use Rattle.definition.specs.Syntax.{Program}
use Rattle.definition.specs.Facts.{Element, insert, use_elements}
use Rattle.words.specs.Fields.{kind_of, p_of}
use Rattle.parts.specs.Entries.{Held, enter, enter_all, texts_of, in_front, count_in}
use Rattle.std.specs.Prelude.{Option, Some, None, Result, Ok, Err, ok_or}
use Rattle.parts.proofs.HeldLaws.{length_texts, texts_enter, enter_all_longer, enter_all_append, held_first, held_take, held_drop, held_length, held_then, held_front, no_room}
use Rattle.facts.specs.Pass.{limits_of}
use Rattle.kinds.specs.Resolved.{Parsed}
use Rattle.universe.specs.Strings.{LEFT_STRING, string_word, string_element, left_tokens, with_strings, Enters, StringsMeet}
use Rattle.universe.proofs.LeftStrings.{left_strings_shown}
use Rattle.universe.proofs.StringWords.{string_text}

-- more elements after others
pub use_append : (limits : Limits) (xs ys : List Element) (us : List Text) → use_elements limits (xs ++ ys) us ≡ ◌>>=◌ (use_elements limits xs us) (use_elements limits ys)
unfolding use_elements
use_append limits [] ys us = refl
use_append limits (e ∷ xs) ys us = go (ltb limits.elements (length (insert e.value us))) (use_append limits xs ys (insert e.value us))
  where
    go : (b : Bool) → use_elements limits (xs ++ ys) (insert e.value us) ≡ ◌>>=◌ (use_elements limits xs (insert e.value us)) (use_elements limits ys)
        → ◌>>◌ (refuse_if b 7 e.at) (use_elements limits (xs ++ ys) (insert e.value us)) ≡ ◌>>=◌ (◌>>◌ (refuse_if b 7 e.at) (use_elements limits xs (insert e.value us))) (use_elements limits ys)
    go true h = refl
    go false h = h

-- the tokens of one word and of more
left_cons : (tokens : List ℕ) (w : ℕ) (ws : List ℕ) → left_tokens tokens (w ∷ ws) ≡ left_tokens tokens (w ∷ []) ++ left_tokens tokens ws
unfolding left_tokens
left_cons tokens w ws = go (eqb (kind_of w) LEFT_STRING)
  where
    go : (b : Bool) → cond b (get_or tokens (p_of w) 0 ∷ left_tokens tokens ws) (left_tokens tokens ws) ≡ cond b (get_or tokens (p_of w) 0 ∷ []) [] ++ left_tokens tokens ws
    go true = refl
    go false = refl

module _ (facts query : Text) where
  module _ (tokens : List ℕ) (w : ℕ) (old : List ℕ) (n : ℕ) where
    -- a word of no string on a left-hand side
    pub enters_none : (kind_of w ≡ LEFT_STRING → ⊥) → n ≤ length old → Enters facts query (left_tokens tokens (w ∷ [])) old old n (Ok n)
    unfolding left_tokens enter_all use_elements
    enters_none h l = rw (ne_eqb (kind_of w) LEFT_STRING h) (held_first old n l, λ k. refl)

    module _ (h : kind_of w ≡ LEFT_STRING) (t : ℕ) (token : t ≡ get_or tokens (p_of w) 0) where
      abbrev es : List ℕ
      es = enter facts query (string_word query t) (take n old)

      is_one : left_tokens tokens (w ∷ []) ≡ t ∷ []
      unfolding left_tokens
      is_one = rw (eq-eqb (kind_of w) LEFT_STRING h, token)

      value_in : insert (string_element query t).value (texts_of facts query (take n old)) ≡ texts_of facts query es
      value_in = ap (λ (x : Text). insert x (texts_of facts query (take n old))) (sym (string_text query t facts)) ∙ sym (texts_enter facts query (string_word query t) (take n old))

      pub enters_full : None ≡ count_in es old → Enters facts query (left_tokens tokens (w ∷ [])) old old n (Err (t / 4096))
      unfolding use_elements
      enters_full c =
          let m : ltb (length old) (length (texts_of facts query es)) ≡ true = lt-ltb (length old) (length (texts_of facts query es)) (omega (arith, no_room old es c, length_texts facts query es)) in
          λ k. rw (is_one, value_in, m)

      pub enters_one : (new : List ℕ) (m : ℕ) → new ≡ in_front es old → Some m ≡ count_in es old → Enters facts query (left_tokens tokens (w ∷ [])) old new n (Ok m)
      unfolding use_elements enter_all
      enters_one new m e c =
          let g : Held old new es m = held_front old new es m e c in
          let q : ltb (length old) (length (texts_of facts query es)) ≡ false = le-ltb (length old) (length (texts_of facts query es)) (omega (arith, g.count, g.room, length_texts facts query es)) in
          rw is_one (g, λ k. rw (value_in, q))

      -- what entering the string answers, by what entering its part does
      pub enters_or : (new : List ℕ) (o : Option ℕ) (r : Result ℕ ℕ) (p : ℕ) → r ≡ ok_or o p → p ≡ t / 4096 → new ≡ in_front es old → o ≡ count_in es old → Enters facts query (left_tokens tokens (w ∷ [])) old new n r
      enters_or new None r p d a e c = rw (d, a) (enters_full c)
      enters_or new (Some m) r p d a e c = rw d (enters_one new m e c)

  module _ (tokens words old : List ℕ) (n : ℕ) where
    -- the strings of the first i words are entered
    pub record Entering (new : List ℕ) (count i : ℕ) : Type 0 where
      pub held : Held old new (take count new) count
      pub more : n ≤ count
      pub parts : with_strings facts query (left_tokens tokens words) (take n old) ≡ with_strings facts query (left_tokens tokens (drop i words)) (take count new)
      pub uses : (k : ℕ)
          → use_elements (limits_of k (length old)) (map (string_element query) (left_tokens tokens words)) (texts_of facts query (take n old))
          ≡ use_elements (limits_of k (length old)) (map (string_element query) (left_tokens tokens (drop i words))) (texts_of facts query (take count new))

    pub entering_start : n ≤ length old → Entering old n 0
    entering_start h = record { held = held_first old n h; more = omega arith; parts = refl; uses = λ k. refl }

    module _ (new : List ℕ) (count i : ℕ) (h : Entering new count i) where
      same_length : length new ≡ length old
      same_length = held_length h.held

      module _ (l : i < length words) where
        abbrev w : ℕ
        w = get_or words i 0

        rest_is : left_tokens tokens (drop i words) ≡ left_tokens tokens (get_or words i 0 ∷ []) ++ left_tokens tokens (drop (i + 1) words)
        rest_is = ap (left_tokens tokens) (drop-cons words i 0 l) ∙ left_cons tokens (get_or words i 0) (drop (suc i) words) ∙ ap (λ (k : ℕ). left_tokens tokens (get_or words i 0 ∷ []) ++ left_tokens tokens (drop k words)) (sym (add-one i))

        uses_on : (k : ℕ)
            → use_elements (limits_of k (length old)) (map (string_element query) (left_tokens tokens words)) (texts_of facts query (take n old))
            ≡ ◌>>=◌ (use_elements (limits_of k (length new)) (map (string_element query) (left_tokens tokens (get_or words i 0 ∷ []))) (texts_of facts query (take count new)))
            (use_elements (limits_of k (length old)) (map (string_element query) (left_tokens tokens (drop (i + 1) words))))
        uses_on k =
            h.uses k
            ∙ ap (λ (ts : List ℕ). use_elements (limits_of k (length old)) (map (string_element query) ts) (texts_of facts query (take count new))) rest_is
            ∙ ap (λ (es : List Element). use_elements (limits_of k (length old)) es (texts_of facts query (take count new))) (map-append (string_element query) (left_tokens tokens (get_or words i 0 ∷ [])) (left_tokens tokens (drop (i + 1) words)))
            ∙ use_append (limits_of k (length old)) (map (string_element query) (left_tokens tokens (get_or words i 0 ∷ []))) (map (string_element query) (left_tokens tokens (drop (i + 1) words))) (texts_of facts query (take count new))
            ∙ ap (λ (m : ℕ). ◌>>=◌ (use_elements (limits_of k m) (map (string_element query) (left_tokens tokens (get_or words i 0 ∷ []))) (texts_of facts query (take count new))) (use_elements (limits_of k (length old)) (map (string_element query) (left_tokens tokens (drop (i + 1) words))))) (sym same_length)

        pub entering_next : (new' : List ℕ) (m : ℕ) (r : Result ℕ ℕ) → r ≡ Ok m → Enters facts query (left_tokens tokens (get_or words i 0 ∷ [])) new new' count r → Entering new' m (i + 1)
        entering_next new' m r a b =
            let g : Enters facts query (left_tokens tokens (get_or words i 0 ∷ [])) new new' count (Ok m) = subst (Enters facts query (left_tokens tokens (get_or words i 0 ∷ [])) new new' count) a b in
            let e : take m new' ≡ with_strings facts query (left_tokens tokens (get_or words i 0 ∷ [])) (take count new) = held_take g.0 in
            let t : count ≤ m = omega (arith, h.held.count, g.0.count, enter_all_longer facts query (map (string_word query) (left_tokens tokens (get_or words i 0 ∷ []))) (take count new)) in
            record {
              held = held_then h.held (subst (λ (xs : List ℕ). Held new new' xs m) (sym e) g.0) t;
              more = omega (arith, h.more);
              parts =
                  h.parts
                  ∙ ap (λ (ts : List ℕ). with_strings facts query ts (take count new)) rest_is
                  ∙ ap (λ (vs : List ℕ). enter_all facts query vs (take count new)) (map-append (string_word query) (left_tokens tokens (get_or words i 0 ∷ [])) (left_tokens tokens (drop (i + 1) words)))
                  ∙ enter_all_append facts query (map (string_word query) (left_tokens tokens (get_or words i 0 ∷ []))) (map (string_word query) (left_tokens tokens (drop (i + 1) words))) (take count new)
                  ∙ ap (with_strings facts query (left_tokens tokens (drop (i + 1) words))) (sym e);
              uses = λ k. uses_on k ∙ rw (g.1 k, e);
            }

        pub entering_full : (new' : List ℕ) (p : ℕ) (r : Result ℕ ℕ) → r ≡ Err p → Enters facts query (left_tokens tokens (get_or words i 0 ∷ [])) new new' count r → length old ≡ 64
            → (ts : List Token) (pr : Program) → Parsed query tokens words ts pr → StringsMeet facts query pr tokens words old new' n (Err p)
        entering_full new' p r a b s ts pr q =
            let g : Enters facts query (left_tokens tokens (get_or words i 0 ∷ [])) new new' count (Err p) = subst (Enters facts query (left_tokens tokens (get_or words i 0 ∷ [])) new new' count) a b in
            ap (λ (es : List Element). use_elements document_01 es (texts_of facts query (take n old))) (sym (left_strings_shown query tokens words ts pr q))
            ∙ ap (λ (m : ℕ). use_elements (limits_of 16 m) (map (string_element query) (left_tokens tokens words)) (texts_of facts query (take n old))) (sym s)
            ∙ uses_on 16 ∙ rw (g 16)

      pub entering_end : length words ≤ i → length old ≡ 64 → (ts : List Token) (pr : Program) → Parsed query tokens words ts pr → StringsMeet facts query pr tokens words old new n (Ok count)
      unfolding left_tokens enter_all use_elements
      entering_end l s ts pr q =
          let d : drop i words ≡ [] = drop_of_length-le words l in
          record {
            universe =
                ap (λ (es : List Element). use_elements document_01 es (texts_of facts query (take n old))) (sym (left_strings_shown query tokens words ts pr q))
                ∙ ap (λ (m : ℕ). use_elements (limits_of 16 m) (map (string_element query) (left_tokens tokens words)) (texts_of facts query (take n old))) (sym s)
                ∙ h.uses 16 ∙ rw d;
            parts = sym (h.parts ∙ rw d);
            rest = held_drop h.held;
            more = h.more;
            few = omega (arith, h.held.room);
          }
