-- The store before the first fact, after each, and after the last.
use Prim.Native.Nat.{ℕ, ◌+◌, ◌<◌, ◌≤◌}
use mathlib.Core.Path.{◌≡◌, refl, sym, ap, ap₂, subst, ◌∙◌}
use mathlib.Core.List.{List, [], ◌∷◌, ◌++◌, append-nil, append_assoc}
use native.Mathlib.Omega.{arith}
use lib.ListN.{length, get_or, take, drop, replicate, length-append, length-drop, length-replicate, replicate-append-replicate}
use lib.Seq.{sets, length-take-le, take_at, drop_at}
use Rattle.definition.specs.Text.{Text, some_of, gather}
use Rattle.definition.specs.Facts.{Relation, Fact}
use Rattle.definition.specs.Tables.{Tuple, table, table_words}
use Rattle.definition.specs.Accept.{Accepted, elements, relation_words, scratch_words, words_needed}
use Rattle.definition.specs.Assignment.{fact_holds, loaded}
use Rattle.definition.specs.Claim.{table_image, store_image}
use Rattle.definition.proofs.TableLaws.{length_table}
use Rattle.definition.proofs.InLaws.{In, here, in_right}
use Rattle.tuples.specs.Places.{with_tuple}
use Rattle.tuples.proofs.Loading.{Alone, here as first_alone, there as later-alone, tables_by, tables_by_none, tables_by_all, store_grows}
use Rattle.parts.specs.Entries.{index}
use Rattle.facts.specs.declared.FactLine.{FactLine}
use Rattle.facts.specs.Lines.{AllWithin}
use Rattle.facts.specs.Words.{fact_at, line_word}
use Rattle.facts.specs.Reading.{facts_from}
use Rattle.loading.specs.Given.{tuple_at, Stated, Ready, Loaded, AllLoaded}
use Rattle.loading.proofs.OneFact.{all_again, known_stated, few, arity, its_numbers, only}

-- ---- the words of a relation

-- its words end before those of all relations do
room : (u : ℕ) {x : Text} {n : ℕ} {rs : List Relation} {k : ℕ} → Alone x n rs k → (k < length rs) × (relation_words u (take k rs) + table_words u n ≤ relation_words u rs)
unfolding relation_words
room u (first_alone {r} {rs} e a w) = (omega arith, omega (arith, ap (table_words u) a))
room u (later-alone {r} e a) = let (p, q) = room u a in (omega arith, omega arith)

image_words : (w : Accepted) (fs : List Fact) (rs : List Relation) → length (table_image (tables_by w fs rs)) ≡ relation_words (elements w) rs
unfolding table_image gather relation_words
image_words w fs [] = refl
image_words w fs (r ∷ rs) = length-append (table_of r) (table_image (tables_by w fs rs)) ∙ ap₂ ◌+◌ (length_table (elements w) r.arity _) (image_words w fs rs)
  where
    table_of : Relation → List ℕ
    table_of r = table (elements w) r.arity (λ t. some_of (fact_holds w r.name t) fs)

-- ---- the store

module _ (w : Accepted) where
  pub loaded_all : (words : List ℕ) → Loaded w [] words → AllLoaded w words
  loaded_all words l =
      let e : l.so_far ≡ w.facts = sym (append-nil l.so_far) ∙ sym l.all in
      l.words ∙ ap (λ (fs : List Fact). table_image (tables_by w fs w.relations) ++ replicate (scratch_words w) 0) e
      ∙ ap (λ ts. table_image ts ++ replicate (scratch_words w) 0) (tables_by_all w)

-- the store whose first words are zeroed, and then replaced by others
module _ (store zeros : List ℕ) (needed : ℕ) (h : needed ≤ length store) (z : zeros ≡ replicate (length (take needed store)) 0) where
  all_zero : zeros ≡ replicate needed 0
  all_zero = z ∙ ap (λ (k : ℕ). replicate k 0) (length-take-le needed store h)

  count : length zeros ≡ needed
  count = ap length all_zero ∙ length-replicate needed 0

  pub first_zero : take needed (zeros ++ drop needed store) ≡ replicate needed 0
  first_zero = take_at zeros (drop needed store) needed count ∙ all_zero

  pub first_words : needed ≡ length (take needed (zeros ++ drop needed store))
  first_words = sym (ap length first_zero ∙ length-replicate needed 0)

  after : drop needed (zeros ++ drop needed store) ≡ drop needed store
  after = drop_at zeros (drop needed store) needed count

  pub whole_store : (w : Accepted) (words : List ℕ) → AllLoaded w words → needed ≡ words_needed w → words ++ drop needed (zeros ++ drop needed store) ≡ store_image w (loaded w) store
  unfolding store_image
  whole_store w words e n =
      ap₂ ◌++◌ e (after ∙ ap (λ (k : ℕ). drop k store) n) ∙ append_assoc (table_image (loaded w)) (replicate (scratch_words w) 0) (drop (words_needed w) store)

  module _ (words : List ℕ) (e : length words ≡ length (take needed (zeros ++ drop needed store))) where
    pub later_words : drop needed (words ++ drop needed (zeros ++ drop needed store)) ≡ drop needed store
    later_words = drop_at words (drop needed (zeros ++ drop needed store)) needed (e ∙ sym first_words) ∙ after

    pub same_words : length (words ++ drop needed (zeros ++ drop needed store)) ≡ length store
    same_words = length-append words (drop needed (zeros ++ drop needed store)) ∙ omega (arith, e, first_words, ap length after, length-drop needed store)

module _ (facts query : Text) (relations places firsts : List ℕ) (u : ℕ) (w : Accepted) (r : Ready facts query relations places firsts u w) where
  pub loaded_none : (words : List ℕ) → words ≡ replicate (words_needed w) 0 → Loaded w (facts_from facts 0) words
  unfolding words_needed
  loaded_none words e =
      record {
        so_far = [];
        all = all_again facts query relations places w r.known;
        words = e ∙ sym (replicate-append-replicate (relation_words (elements w) w.relations) (scratch_words w) 0) ∙ ap (λ (l : List ℕ). l ++ replicate (scratch_words w) 0) (tables_by_none w w.relations);
      }

  stated : Stated facts query relations places w
  stated = known_stated facts query relations places w r.known

  module _ (a n : ℕ) (f : FactLine) (within : AllWithin n f) (gs : List Fact) (store : List ℕ) (l : Loaded w (fact_at facts a f ∷ gs) store) where
    abbrev this : Fact
    this = fact_at facts a f

    abbrev tuple : Tuple
    tuple = tuple_at facts query places a f

    abbrev k : ℕ
    k = index facts query (line_word a f) relations

    given : In this w.facts
    given = subst (In this) (sym l.all) (in_right l.so_far (here refl))

    one_only : Alone this.name (length tuple) w.relations k
    one_only = only facts query relations places w stated a n f within given

    first : get_or firsts k 0 ≡ relation_words (elements w) (take k w.relations)
    first = r.laid.relations k (room (elements w) one_only).0

    words : table_words u f.arity ≡ table_words (elements w) (length tuple)
    words = ap₂ table_words r.size (sym (arity facts query relations places w stated a n f within given))

    inside : get_or firsts k 0 + table_words u f.arity ≤ length store
    inside =
        let e = ap length l.words ∙ length-append (table_image (tables_by w l.so_far w.relations)) (replicate (scratch_words w) 0) in
        omega (arith, first, words, (room (elements w) one_only).1, e, image_words w l.so_far w.relations)

    -- what `load_at` does for the relation at place i
    abbrev Puts : List ℕ → ℕ → Tuple → Type 0
    Puts store' i s = get_or firsts i 0 + table_words u f.arity ≤ length store → store' ≡ sets store (get_or firsts i 0) (with_tuple u (take (table_words u f.arity) (drop (get_or firsts i 0) store)) s)

    put : (store' : List ℕ) → Puts store' k tuple → Loaded w gs store'
    put store' h =
        record {
          so_far = l.so_far ++ (this ∷ []);
          all = l.all ∙ sym (append_assoc l.so_far (this ∷ []) gs);
          words =
              h inside ∙ ap (λ (v : ℕ). sets store (get_or firsts k 0) (with_tuple v (take (table_words u f.arity) (drop (get_or firsts k 0) store)) tuple)) r.size
              ∙ store_grows w (few facts query relations places w stated) stated.sound.ascending l.so_far this tuple (its_numbers facts query relations places w stated a n f within given) one_only store (replicate (scratch_words w) 0) (get_or firsts k 0) (table_words u f.arity) l.words first words;
        }

    -- the next fact's tuple put into its relation's table
    pub loaded_one : (store' : List ℕ) (i : ℕ) (s : Tuple) → i ≡ index facts query (line_word a f) relations → s ≡ tuple_at facts query places a f
        → (get_or firsts i 0 + table_words u f.arity ≤ length store → store' ≡ sets store (get_or firsts i 0) (with_tuple u (take (table_words u f.arity) (drop (get_or firsts i 0) store)) s))
        → Loaded w gs store'
    loaded_one store' i s p q h = put store' (subst (Puts store' k) q (subst (λ (j : ℕ). Puts store' j s) p h))
