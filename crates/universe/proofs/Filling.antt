-- The universe of two accepted texts, as the parts that the facts and the left-hand strings leave: the texts and quotes of its elements, and their first places.
use Prim.Native.Nat.{ℕ, zero, suc, ◌<◌, ◌≤◌}
use mathlib.Core.Path.{◌≡◌, refl, sym, ap, ap₂, subst, ◌∙◌}
use mathlib.Core.Bool.{◌&&◌, ◌||◌, or-false}
use mathlib.Core.List.{List, [], ◌∷◌, map}
use native.Mathlib.Omega.{arith}
use borrow.Author.Tests.{lt-ltb, le-ltb}
use lib.Dec.{T}
use lib.ListN.{length, get_or, take}
use Rattle.definition.specs.Text.{Text, same, member, some_of, needs_quotes}
use Rattle.definition.specs.Limits.{document_01}
use Rattle.definition.specs.Answer.{ok}
use Rattle.definition.specs.Token.{Token}
use Rattle.definition.specs.Syntax.{Program}
use Rattle.definition.specs.Facts.{Element, Facts, read_facts, use_elements, Ascending, Fact}
use Rattle.definition.specs.Names.{left_strings}
use Rattle.definition.specs.Accept.{Accepted, accept, read_query, elements}
use Rattle.definition.specs.Calls.{Part, no_part, first_part, element_part}
use Rattle.definition.specs.Print.{is_quoted, in_quotes}
use Rattle.definition.proofs.AcceptLaws as AcceptLaws
use Rattle.definition.proofs.AcceptLaws.{ok_injective, has}
use Rattle.definition.proofs.ElementLaws.{member_at}
use Rattle.definition.proofs.ValueLaws.{ValueFact, accepted_elements, universe_quotes}
use Rattle.definition.proofs.PlaceLaws.{EachElement, EachFact, accepted_facts, all_elements}
use Rattle.definition.proofs.ListLaws.{some_gather, Every}
use Rattle.parts.specs.Packed.{part_of, text_of}
use Rattle.parts.specs.Entries.{enter_all, texts_of}
use Rattle.parts.proofs.HeldLaws.{length_texts, held_take, enter_all_ascending}
use Rattle.facts.specs.declared.Counts.{Counts}
use Rattle.std.specs.declared.result.Result.TheVariants.{Ok}
use Rattle.facts.specs.Words.{element_word, entered, noted}
use Rattle.facts.specs.Pass.{limits_of, facts_of}
use Rattle.facts.specs.Reading.{all_facts, Meets}
use Rattle.lexer.specs.Tokens.{Inside}
use Rattle.kinds.specs.Resolved.{Parsed}
use Rattle.lines.specs.Lines.{texts}
use Rattle.lines.proofs.LineLaws.{Shows}
use Rattle.universe.specs.Strings.{string_word, left_tokens, with_strings, WithStrings}
use Rattle.universe.proofs.LeftStrings.{left_strings_shown, left_strings_within}
use Rattle.universe.proofs.FirstParts.{part_in, quotes, Small, enter_all_small, part_enter_all, part_at, quotes_enter_all, quotes_at}
use Rattle.universe.proofs.ElementParts.{Short, elements_in, all_short, words_in, words_small, first_in_facts, quoted_in_facts, strings_small, quoted_in_query, first_in_query}

pub texts_at : (facts query : Text) (ws : List ℕ) (n : ℕ) → n < length ws → get_or (texts_of facts query ws) n [] ≡ text_of facts query (get_or ws n 0)
texts_at facts query [] n h = absurd (omega arith)
texts_at facts query (w ∷ ws) zero h = refl
texts_at facts query (w ∷ ws) (suc n) h = texts_at facts query ws n (omega arith)

module _ (facts query : Text) where
  -- the universe of w stands in the places
  pub record Filled (tokens words places : List ℕ) (w : Accepted) : Type 0 where
    pub accepted : accept document_01 facts query ≡ ok w
    pub universe : w.universe ≡ texts_of facts query places
    pub from_facts : w.facts ≡ all_facts facts
    pub parts : places ≡ with_strings facts query (left_tokens tokens words) (entered facts query (all_facts facts))

  -- after the facts are read and the strings of the program entered
  pub filled : (rs rs' us us' tokens words new : List ℕ) (d : Counts) (c : ℕ) (p : Program) (w : Accepted) → length rs ≡ 16 → length us ≡ 64 → Meets facts query rs rs' us us' (Ok d)
      → WithStrings facts query p tokens words us' new d.elements c → read_query query ≡ ok p → accept document_01 facts query ≡ ok w → Filled tokens words (take c new) w
  filled rs rs' us us' tokens words new d c p w r u m s q e =
      let h = AcceptLaws.parts document_01 facts query w e in
      let read : read_facts document_01 facts ≡ ok (facts_of facts query (noted facts query (all_facts facts)) (entered facts query (all_facts facts)) (all_facts facts))
      = ap₂ (λ (i j : ℕ). read_facts (limits_of i j) facts) (sym r) (sym u) ∙ m.0 in
      let given : h.facts_read ≡ facts_of facts query (noted facts query (all_facts facts)) (entered facts query (all_facts facts)) (all_facts facts) = ok_injective (sym h.read ∙ read) in
      let program : w.program ≡ p = ok_injective (sym h.query_read ∙ q) in
      let before : take d.elements us' ≡ entered facts query (all_facts facts) = held_take m.2 in
      record {
        accepted = e;
        universe =
            ok_injective (sym h.collected
            ∙ ap₂ (λ (pr : Program) (xs : List Text). use_elements document_01 (left_strings pr) xs) program (ap (λ (f : Facts). f.universe) given ∙ ap (texts_of facts query) (sym before))
            ∙ s.universe);
        from_facts = sym h.same_facts ∙ ap (λ (f : Facts). f.facts) given;
        parts = s.parts ∙ ap (with_strings facts query (left_tokens tokens words)) before;
      }

  module _ (tokens words places : List ℕ) (w : Accepted) (h : Filled tokens words places w) where
    pub filled_count : elements w ≡ length places
    filled_count = ap length h.universe ∙ length_texts facts query places

    text_there : (n : ℕ) → n < elements w → text_of facts query (get_or places n 0) ≡ get_or w.universe n []
    text_there n l = sym (ap (λ (us : List Text). get_or us n []) h.universe ∙ texts_at facts query places n (omega (arith, filled_count)))

    ascending : Ascending (texts_of facts query places)
    ascending = subst Ascending h.universe (AcceptLaws.universe document_01 facts query w h.accepted).ascending

    located : EachElement facts (elements_in (all_facts facts))
    located = all_elements (subst (EachFact facts) h.from_facts (accepted_facts document_01 facts query w h.accepted))

    short : Short (elements_in (all_facts facts))
    short = all_short (subst (Every ValueFact) h.from_facts (accepted_elements document_01 facts query w h.accepted))

    -- the facts' own parts
    facts_parts : entered facts query (all_facts facts) ≡ enter_all facts query (map element_word (elements_in (all_facts facts))) []
    unfolding entered
    facts_parts = ap (λ (vs : List ℕ). enter_all facts query vs []) (words_in (all_facts facts))

    own_small : Small facts query (map element_word (elements_in (all_facts facts)))
    own_small = words_small facts query (elements_in (all_facts facts)) short

    facts_small : Small facts query (entered facts query (all_facts facts))
    unfolding Small
    facts_small = rw facts_parts (enter_all_small facts query (map element_word (elements_in (all_facts facts))) [] own_small tt)

    module _ (ts : List Token) (parsed : Parsed query tokens words ts w.program) where
      -- an element is quoted by the strings where it needs quotes, or by the facts
      quoted_there : (t : Text) → T (member t w.universe) → quotes facts query t places ≡ in_quotes w t
      unfolding is_quoted quotes some_of Small
      quoted_there t m =
          ap (quotes facts query t) h.parts
          ∙ quotes_enter_all facts query t (map (string_word query) (left_tokens tokens words)) (entered facts query (all_facts facts)) (strings_small facts query (left_tokens tokens words)) facts_small
          ∙ ap₂ ◌||◌
          (quoted_in_query facts query t (left_tokens tokens words) ∙ ap (λ (es : List Element). has t es && needs_quotes t) (left_strings_shown query tokens words ts w.program parsed))
          (ap (quotes facts query t) facts_parts
          ∙ quotes_enter_all facts query t (map element_word (elements_in (all_facts facts))) [] own_small tt
          ∙ or-false (quotes facts query t (map element_word (elements_in (all_facts facts))))
          ∙ quoted_in_facts facts query t located short
          ∙ some_gather (λ (e : Element). same t e.value && e.quoted) (λ (f : Fact). f.elements) (all_facts facts)
          ∙ ap (some_of (λ f. some_of (λ e. same t e.value && e.quoted) f.elements)) (sym h.from_facts))
          ∙ universe_quotes document_01 facts query w h.accepted t m

      -- each element has its text, and its tag says whether it is printed in quotes
      pub filled_shows : Shows w (texts facts query places)
      filled_shows =
          record {
            text = text_there;
            quoted = λ n l.
                sym (quotes_at facts query places n ascending (omega (arith, filled_count)))
                ∙ ap (λ (t : Text). quotes facts query t places) (text_there n l)
                ∙ quoted_there (get_or w.universe n []) (member_at w.universe n l);
          }

    -- and is the part that the element call gives
    module _ (ts : List Token) (parsed : Parsed query tokens words ts w.program) (inside : Inside query tokens) where
      pub filled_part : (n : ℕ) → n < elements w → part_of (get_or places n 0) ≡ element_part w n
      unfolding element_part part_in
      filled_part n l =
          let t = text_of facts query (get_or places n 0) in
          let q : Part = part_in facts query t (map (string_word query) (left_tokens tokens words)) no_part in
          let first : part_of (get_or places n 0) ≡ first_part 0 t (elements_in (all_facts facts)) (first_part 1 t (left_strings w.program) no_part)
          = sym (part_at facts query places n no_part ascending (omega (arith, filled_count)))
          ∙ ap (λ (ws : List ℕ). part_in facts query t ws no_part) h.parts
          ∙ part_enter_all facts query t (map (string_word query) (left_tokens tokens words)) (entered facts query (all_facts facts)) no_part
          (subst (λ (ws : List ℕ). Ascending (texts_of facts query ws)) (sym facts_parts) (enter_all_ascending facts query (map element_word (elements_in (all_facts facts))) [] tt))
          ∙ ap (λ (ws : List ℕ). part_in facts query t ws q) facts_parts
          ∙ part_enter_all facts query t (map element_word (elements_in (all_facts facts))) [] q tt
          ∙ first_in_facts facts query t q located short
          ∙ ap (first_part 0 t (elements_in (all_facts facts)))
          (first_in_query facts query t (left_tokens tokens words) no_part (left_strings_within query tokens words ts w.program parsed inside)
          ∙ ap (λ (es : List Element). first_part 1 t es no_part) (left_strings_shown query tokens words ts w.program parsed)) in
          first ∙ rw (text_there n l, ← h.from_facts, lt-ltb n (elements w) l)

-- "For other n .. it gives the empty part at the query's start"
pub no_element_part : (w : Accepted) (n : ℕ) → elements w ≤ n → element_part w n ≡ no_part
unfolding element_part
no_element_part w n h = rw (le-ltb n (elements w) h)
