-- The facts' numbers entered one after another, and the number of one fact as the code finds it.
use Prim.Native.Nat.{ℕ, ◌+◌, ◌*◌, ◌%◌, ◌<◌, ◌≤◌}
use mathlib.Core.Path.{◌≡◌, refl, sym, ap, ap₂, subst, ◌∙◌}
use mathlib.Core.List.{List, [], ◌∷◌, ◌++◌, map, append-nil, append_assoc, map-append}
use native.Mathlib.Nat.{mod-eq_of_lt}
use native.Mathlib.Omega.{arith}
use lib.ListN.{length, get_or, take, drop, length-append, length-drop}
use lib.Seq.{take_at, length-take-le}
use Rattle.definition.specs.Text.{Text}
use Rattle.definition.specs.Facts.{Element, Fact}
use Rattle.definition.specs.Tables.{Tuple}
use Rattle.definition.specs.Accept.{Accepted, elements}
use Rattle.definition.proofs.InLaws.{In, here, in_right}
use Rattle.definition.proofs.LoadLaws.{values}
use Rattle.tuples.specs.Places.{number_at}
use Rattle.tuples.proofs.Tables.{number_below}
use Rattle.tuples.proofs.Loading.{Numbered, none, one, numbered_below}
use Rattle.parts.specs.Entries.{index}
use Rattle.parts.proofs.HeldLaws.{length_texts}
use Rattle.facts.specs.declared.FactLine.{FactLine}
use Rattle.facts.specs.Lines.{AllWithin}
use Rattle.facts.specs.Words.{fact_at, line_word}
use Rattle.facts.specs.Reading.{all_facts}
use Rattle.numbers.specs.Sets.{entered, entered_all}
use Rattle.numbers.proofs.SetLaws.{entered_length}
use Rattle.numbers.proofs.KeptLaws.{all_snoc}
use Rattle.loading.specs.Given.{tuple_at, Known, Stated}
use Rattle.loading.proofs.OneFact.{all_again, few, arity, its_numbers, relation_place}
use Rattle.counting.specs.FactNumbers.{fact_numbers, fact_number, number_set}
use Rattle.counting.proofs.FactCounts.{numbers_are, few_tuples}

-- a set with the numbers of some facts before, and of all facts of a text, fs, but the last ones, gs
pub record Entered (w : Accepted) (before fs gs : List Fact) (set : List ℕ) : Type 0 where
  pub so_far : List Fact
  pub all : fs ≡ so_far ++ gs
  pub is : set ≡ number_set w (before ++ so_far)

-- the words after one more number
module _ (words words' : List ℕ) (n v r : ℕ) (h : n < length words) (c : r ≡ length (entered v (take n words))) (e : words' ≡ entered v (take n words) ++ drop r words) where
  pub taken : take r words' ≡ entered v (take n words)
  taken = ap (take r) e ∙ take_at (entered v (take n words)) (drop r words) r (sym c)

  pub one_more : r ≤ n + 1
  one_more = omega (arith, c, entered_length v (take n words), length-take-le n words (omega arith))

  pub same_size : length words' ≡ length words
  same_size = ap length e ∙ length-append (entered v (take n words)) (drop r words) ∙ omega (arith, c, one_more, length-drop r words)

numbered_texts : {us : List Text} {es : List Element} {s : Tuple} → Numbered us es s → map (λ a. get_or us a []) s ≡ values es
numbered_texts none = refl
numbered_texts (one h e n) = ap₂ ◌∷◌ e (numbered_texts n)

module _ (w : Accepted) (before fs : List Fact) where
  pub entered_none : {set : List ℕ} → set ≡ number_set w before → Entered w before fs fs set
  entered_none e = record { so_far = []; all = refl; is = e ∙ ap (number_set w) (sym (append-nil before)) }

  pub entered_in : {g : Fact} {gs : List Fact} {set : List ℕ} → Entered w before fs (g ∷ gs) set → In g fs
  entered_in {g} h = subst (In g) (sym h.all) (in_right h.so_far (here refl))

  pub entered_one : {g : Fact} {gs : List Fact} {set : List ℕ} → Entered w before fs (g ∷ gs) set → Entered w before fs gs (entered (fact_number w g) set)
  entered_one {g} {gs} h =
      record {
        so_far = h.so_far ++ (g ∷ []);
        all = h.all ∙ sym (append_assoc h.so_far (g ∷ []) gs);
        is =
            ap (entered (fact_number w g)) h.is ∙ sym (all_snoc (map (fact_number w) (before ++ h.so_far)) (fact_number w g) [])
            ∙ ap (λ (vs : List ℕ). entered_all vs []) (sym (map-append (fact_number w) (before ++ h.so_far) (g ∷ [])))
            ∙ ap (number_set w) (append_assoc before h.so_far (g ∷ []));
      }

  pub entered_last : {set : List ℕ} → Entered w before fs [] set → set ≡ number_set w (before ++ fs)
  entered_last h = h.is ∙ ap (λ (gs : List Fact). number_set w (before ++ gs)) (sym (append-nil h.so_far) ∙ sym h.all)

module _ (facts query : Text) (relations places : List ℕ) (w : Accepted) (g : Stated facts query relations places w) where
  size : length places ≡ elements w
  size = sym (length_texts facts query places) ∙ ap length g.universe

  module _ (a n : ℕ) (f : FactLine) (within : AllWithin n f) (said : In (fact_at facts a f) w.facts) where
    numbers_at : tuple_at facts query places a f ≡ fact_numbers w (fact_at facts a f)
    unfolding fact_numbers
    numbers_at =
        let s = its_numbers facts query relations places w g a n f within said in
        sym (numbers_are w.universe g.sound.ascending (tuple_at facts query places a f) (numbered_below s) (fact_at facts a f).elements (numbered_texts s))

    small : number_at (elements w) 0 (tuple_at facts query places a f) < 16777216
    small =
        let s = tuple_at facts query places a f in
        omega (
          arith,
          number_below (elements w) s (numbered_below (its_numbers facts query relations places w g a n f within said)),
          few_tuples (elements w) (length s) (few facts query relations places w g) (omega (arith, arity facts query relations places w g a n f within said, within.arity)),
        )

    -- the number by the relation's index and the tuple's number
    pub number_is : (k u i : ℕ) (t : Tuple) → k ≡ index facts query (line_word a f) relations → u ≡ length places → t ≡ tuple_at facts query places a f → i ≡ number_at u 0 t
        → k * 16777216 + i % 16777216 ≡ fact_number w (fact_at facts a f)
    unfolding fact_number
    number_is k u i t p q r s =
        let e : i ≡ number_at (elements w) 0 (tuple_at facts query places a f) = s ∙ ap₂ (λ (v : ℕ) (x : Tuple). number_at v 0 x) (q ∙ size) r in
        ap₂ (λ (x y : ℕ). x * 16777216 + y) (p ∙ relation_place facts query relations places w g a n f within said)
        (ap (λ (x : ℕ). x % 16777216) e ∙ mod-eq_of_lt small ∙ ap (number_at (elements w) 0) numbers_at)

-- the facts of accepted texts, entered into no numbers, are all that there are
module _ (facts query : Text) (relations places : List ℕ) (w : Accepted) (g : Known facts query relations places w) where
  pub all_entered : {set : List ℕ} → ((gs : List Fact) → [] ≡ number_set w gs → ((f : Fact) → In f (all_facts facts) → In f w.facts) → set ≡ number_set w (gs ++ all_facts facts))
      → set ≡ number_set w w.facts
  unfolding entered_all
  all_entered h = let e = all_again facts query relations places w g in h [] refl (λ f i. subst (In f) (sym e) i) ∙ ap (number_set w) (sym e)
