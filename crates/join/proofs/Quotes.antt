-- Elements of both texts: which of them are printed in quotes.
use Prim.Native.Nat.{ℕ, ◌<◌}
use mathlib.Core.Path.{◌≡◌, refl, sym, ap, ap₂, subst, ◌∙◌}
use mathlib.Core.Bool.{◌&&◌, ◌||◌, or-false, or_comm}
use mathlib.Core.List.{List, [], ◌∷◌, ◌++◌, map}
use native.Mathlib.Omega.{arith}
use lib.Dec.{T, eqb}
use lib.ListN.{length, get_or}
use Rattle.definition.specs.Text.{Text, same, member, some_of}
use Rattle.definition.specs.Limits.{document_01}
use Rattle.definition.specs.Answer.{ok}
use Rattle.definition.specs.Facts.{Element, Fact, Facts, read_facts, Ascending}
use Rattle.definition.specs.Accept.{elements}
use Rattle.definition.specs.Print.{is_quoted, in_quotes}
use Rattle.definition.specs.Join.{as_accepted}
use Rattle.definition.proofs.ElementLaws.{member_at}
use Rattle.definition.proofs.ListLaws.{some_append, some_gather, Every}
use Rattle.definition.proofs.PlaceLaws.{EachElement, EachFact, facts_located, all_elements}
use Rattle.definition.proofs.ValueLaws.{ValueFact, facts_values}
use Rattle.definition.proofs.JoinReading.{both_read, union_of, union_sound}
use Rattle.definition.proofs.JoinLaws.{union_quotes}
use Rattle.parts.specs.Packed.{text_of}
use Rattle.parts.specs.Entries.{enter_all, texts_of}
use Rattle.parts.proofs.HeldLaws.{length_texts}
use Rattle.facts.specs.Words.{element_word, entered}
use Rattle.facts.specs.Reading.{all_facts}
use Rattle.lines.specs.Lines.{texts}
use Rattle.lines.proofs.LineLaws.{Shows}
use Rattle.universe.proofs.FirstParts.{quotes, Small, enter_all_small, quotes_enter_all, quotes_at}
use Rattle.universe.proofs.ElementParts.{Short, elements_in, all_short, words_in, words_small, quoted_in_facts}
use Rattle.universe.proofs.Filling.{texts_at}
use Rattle.turning.specs.Turned.{turned}
use Rattle.turning.proofs.TurnedLaws.{turns, turned_text}
use Rattle.join.specs.United.{one, union, United}

-- the same list before two others
cancel : {A : Type 0} (xs : List A) {ys zs : List A} → xs ++ ys ≡ xs ++ zs → ys ≡ zs
cancel [] e = e
cancel {A} (x ∷ xs) {ys} {zs} e = let t : xs ++ ys ≡ xs ++ zs = cc in cancel xs t

module _ (a b : Text) where
  -- parts turned quote the same texts
  turned_quotes : (t : Text) (ws : List ℕ) → quotes b a t (map turned ws) ≡ quotes a b t ws
  unfolding quotes some_of
  turned_quotes t [] = refl
  turned_quotes t (w ∷ ws) = ap₂ ◌||◌ (ap₂ (λ (x : Text) (k : ℕ). same t x && eqb k 1) (turned_text a b w) (turns w).tag) (turned_quotes t ws)

  turned_small : (ws : List ℕ) → Small a b ws → Small b a (map turned ws)
  unfolding Small
  turned_small [] s = tt
  turned_small (w ∷ ws) s = (omega (arith, (turns w).tag, s.0), turned_small ws s.1)

-- the facts of a text that is read, as parts of it
module _ (facts query : Text) (f : Facts) (read : read_facts document_01 facts ≡ ok f) (again : f.facts ≡ all_facts facts) where
  short : Short (elements_in (all_facts facts))
  short = all_short (subst (Every ValueFact) again (facts_values document_01 facts f read))

  located : EachElement facts (elements_in (all_facts facts))
  located = all_elements (subst (EachFact facts) again (facts_located document_01 facts f read))

  words_quote : (t : Text) → quotes facts query t (map element_word (elements_in (all_facts facts))) ≡ some_of (λ g. some_of (λ e. same t e.value && e.quoted) g.elements) (all_facts facts)
  words_quote t = quoted_in_facts facts query t located short ∙ some_gather (λ (e : Element). same t e.value && e.quoted) (λ (g : Fact). g.elements) (all_facts facts)

  own_small : Small facts query (map element_word (elements_in (all_facts facts)))
  own_small = words_small facts query (elements_in (all_facts facts)) short

  entered_words : entered facts query (all_facts facts) ≡ enter_all facts query (map element_word (elements_in (all_facts facts))) []
  unfolding entered
  entered_words = ap (λ (vs : List ℕ). enter_all facts query vs []) (words_in (all_facts facts))

  entered_small : Small facts query (entered facts query (all_facts facts))
  unfolding Small
  entered_small = rw entered_words (enter_all_small facts query (map element_word (elements_in (all_facts facts))) [] own_small tt)

  entered_quote : (t : Text) → quotes facts query t (entered facts query (all_facts facts)) ≡ some_of (λ g. some_of (λ e. same t e.value && e.quoted) g.elements) (all_facts facts)
  unfolding quotes some_of Small
  entered_quote t =
      ap (quotes facts query t) entered_words ∙ quotes_enter_all facts query t (map element_word (elements_in (all_facts facts))) [] own_small tt
      ∙ or-false (quotes facts query t (map element_word (elements_in (all_facts facts)))) ∙ words_quote t

module _ (first second : Text) (relations universe : List ℕ) (h : United first second relations universe) where
  abbrev u : Facts
  u = union first second relations universe

  -- the second text is read by itself too
  second_again : (g : Facts) × (read_facts document_01 second ≡ ok g) × (g.facts ≡ all_facts second)
  second_again =
      let b = both_read document_01 first second (one first second) u h.read_one h.read_both in
      (b.two, b.read_two, sym (cancel (all_facts first) (union_of document_01 first second (one first second) u h.read_one h.read_both b.two b.read_two)))

  quoted_there : (t : Text) → T (member t u.universe) → quotes second first t universe ≡ in_quotes (as_accepted u) t
  unfolding is_quoted
  quoted_there t m =
      let (g, read, again) = second_again in
      let f = one first second in
      let q : Fact → _ = λ g. some_of (λ e. same t e.value && e.quoted) g.elements in
      ap (quotes second first t) (h.elements_are ∙ ap (λ (vs : List ℕ). enter_all second first vs (map turned (entered first second (all_facts first)))) (words_in (all_facts second)))
      ∙ quotes_enter_all second first t (map element_word (elements_in (all_facts second))) (map turned (entered first second (all_facts first))) (own_small second first g read again) (turned_small first second (entered first second (all_facts first)) (entered_small first second f h.read_one refl))
      ∙ ap₂ ◌||◌ (words_quote second first g read again t) (turned_quotes first second t (entered first second (all_facts first)) ∙ entered_quote first second f h.read_one refl t)
      ∙ or_comm (some_of q (all_facts second)) (some_of q (all_facts first))
      ∙ sym (some_append q (all_facts first) (all_facts second))
      ∙ sym (union_quotes document_01 first second (one first second) u h.read_one h.read_both t m)

  size : elements (as_accepted u) ≡ length universe
  size = length_texts second first universe

  ascending : Ascending (texts_of second first universe)
  ascending = (union_sound document_01 first second (one first second) u h.read_one h.read_both).ascending

  text_there : (n : ℕ) → n < elements (as_accepted u) → text_of second first (get_or universe n 0) ≡ get_or u.universe n []
  text_there n l = sym (texts_at second first universe n (omega (arith, size)))

  -- each element has its text, and its tag says whether it is printed in quotes
  pub union_shows : Shows (as_accepted u) (texts second first universe)
  union_shows =
      record {
        text = text_there;
        quoted = λ n l.
            sym (quotes_at second first universe n ascending (omega (arith, size))) ∙ ap (λ (t : Text). quotes second first t universe) (text_there n l)
            ∙ quoted_there (get_or u.universe n []) (member_at u.universe n l);
      }
