-- The numbers of facts: the different ones of each relation are as many as its table has tuples.
use Prim.Native.Nat.{ℕ, zero, suc, ◌+◌, ◌-◌, ◌*◌, ◌^◌, ◌≤◌, ◌<◌}
use mathlib.Core.Path.{◌≡◌, refl, sym, ap, ap₂, subst, ◌∙◌}
use mathlib.Core.Bool.{Bool, true, false}
use mathlib.Core.List.{List, [], ◌∷◌, ◌++◌, map}
use native.Mathlib.Nat.{le_trans, le_of_suc-le-suc, zero-add, zero-lt-suc, pow-le-pow_left, pow-le-pow_right}
use native.Mathlib.Decide.{dec_lt}
use native.Mathlib.Omega.{arith}
use lib.Dec.{T, eqb}
use lib.ListN.{length, get_or, replicate, length-append, length-map, length-replicate}
use lib.Seq.{ext_get_or}
use Rattle.definition.specs.Text.{Text, same, some_of, keep, below}
use Rattle.definition.specs.Limits.{document_01}
use Rattle.definition.specs.Facts.{Element, Fact, Relation, Ascending}
use Rattle.definition.specs.Tables.{Tuple, bit, holds_from, holds, table, tuples, tuple_count}
use Rattle.definition.specs.Accept.{Accepted, elements}
use Rattle.definition.specs.Meaning.{Tables, numbers}
use Rattle.definition.specs.Assignment.{same_values, element_text, fact_holds, loaded}
use Rattle.definition.specs.Claim.{table_image}
use Rattle.definition.specs.Run.{start, point}
use Rattle.definition.specs.Calls.{counts}
use Rattle.definition.proofs.BoolLaws.{apart, is_true, and_left, and_right, and_both}
use Rattle.definition.proofs.InLaws.{In, in_some, some_in, every_in, in_map, map_in}
use Rattle.definition.proofs.MeaningLaws.{same_refl}
use Rattle.definition.proofs.TableLaws.{Below}
use Rattle.definition.proofs.RunLaws.{point_shaped}
use Rattle.definition.proofs.RelationLaws.{place_of, no_relation}
use Rattle.definition.proofs.UniverseLaws.{number_of}
use Rattle.definition.proofs.SoundLaws.{Sound}
use Rattle.definition.proofs.LoadLaws.{all_below, values, same_values_eq, same_values_refl, fact_tuple}
use Rattle.definition.proofs.CountLaws.{table_counts, counts_of, counts_loaded}
use Rattle.tuples.specs.Places.{digits, number_at}
use Rattle.tuples.proofs.Tables.{number_digits, digits_number, number_below}
use Rattle.tuples.proofs.Lists.{digits_in}
use Rattle.tuples.proofs.Loading.{Alone}
use Rattle.counts.proofs.Relations.{length_counts}
use Rattle.loading.proofs.Named.{alone, alone_at, alone_one}
use Rattle.counting.specs.Tallies.{relation_of, tallied}
use Rattle.counting.specs.FactNumbers.{fact_numbers, fact_number, number_set}
use Rattle.counting.proofs.TallyLaws.{zeros, length_tallied}
use Rattle.counting.proofs.SetCounts.{its_numbers, tallied_count}

-- ---- elements by number

-- numbers whose texts are the values of some elements are those elements' numbers
pub numbers_are : (us : List Text) → Ascending us → (t : Tuple) → Below (length us) t → (es : List Element) → map (λ a. get_or us a []) t ≡ values es
    → map (λ e. get_or (numbers e.value us 0) 0 0) es ≡ t
numbers_are us o [] h [] q = refl
numbers_are us o [] h (x ∷ es) q = let z : ◌≡◌ {A = ℕ} 0 1 = cc in absurd (omega arith)
numbers_are us o (a ∷ t) h [] q = let z : ◌≡◌ {A = ℕ} 0 1 = cc in absurd (omega arith)
numbers_are us o (a ∷ t) h (x ∷ es) q =
    let v : get_or us a [] ≡ x.value = cc in
    let vs : map (λ a. get_or us a []) t ≡ values es = cc in
    ap₂ ◌∷◌ (ap (λ (l : List ℕ). get_or l 0 0) (number_of x.value us 0 a o h.0 (subst (λ (y : Text). T (same y (get_or us a []))) v (same_refl (get_or us a [])))) ∙ zero-add a)
    (numbers_are us o t h.1 es vs)

-- a tuple's number has 24 bits
pub few_tuples : (u n : ℕ) → u ≤ 64 → n ≤ 4 → u ^ n ≤ 16777216
few_tuples u n h l = let m : 64 ^ n ≤ 16777216 = pow-le-pow_right (zero-lt-suc 63) l in le_trans (pow-le-pow_left h n) m

relation_is : (k i : ℕ) → k < 16 → i < 16777216 → relation_of (k * 16777216 + i) ≡ k
relation_is k i h l = omega arith

-- ---- counts by place

no_tuple : (u : ℕ) → tuple_count u 0 (table u 0 (λ t. false)) ≡ 0
unfolding tuple_count table tuples keep holds holds_from bit
no_tuple u = refl

module _ (u : ℕ) (f : Relation → Tuple → Bool) where
  abbrev tables : List Relation → Tables
  tables rs = map (λ r. table u r.arity (f r)) rs

  count_at : (rs : List Relation) (m k : ℕ) → k < length rs
      → get_or (table_counts u rs (tables rs) ++ replicate m 0) k 0 ≡ tuple_count u (get_or rs k no_relation).arity (table u (get_or rs k no_relation).arity (f (get_or rs k no_relation)))
  unfolding table_counts
  count_at [] m k h = absurd (omega arith)
  count_at (r ∷ rs) m zero h = refl
  count_at (r ∷ rs) m (suc k) h = count_at rs m k (le_of_suc-le-suc h)

  count_past : (rs : List Relation) (m k : ℕ) → length rs ≤ k → get_or (table_counts u rs (tables rs) ++ replicate m 0) k 0 ≡ 0
  unfolding table_counts
  count_past [] m k h = zeros m k
  count_past (r ∷ rs) m zero h = absurd (omega arith)
  count_past (r ∷ rs) m (suc k) h = count_past rs m k (le_of_suc-le-suc h)

-- ---- facts that fit their relations

module _ (w : Accepted) (sound : Sound document_01 w) where
  abbrev u : ℕ
  u = elements w

  -- some fact of a relation has a tuple
  abbrev given : Relation → Tuple → Bool
  given r t = some_of (fact_holds w r.name t) w.facts

  abbrev relation_at : ℕ → Relation
  relation_at k = get_or w.relations k no_relation

  pub few : (k : ℕ) → u ^ (relation_at k).arity ≤ 16777216
  few k = few_tuples u (relation_at k).arity sound.few_elements (le_trans (sound.small.each k) (omega arith))

  module _ (g : Fact) (i : In g w.facts) where
    -- its elements' numbers have its values as their texts
    texts : Below u (fact_numbers w g) × (map (element_text w) (fact_numbers w g) ≡ values g.elements)
    unfolding fact_numbers
    texts =
        let (t, below, is) = fact_tuple w sound i in
        let e = numbers_are w.universe sound.ascending t (all_below below) g.elements is in
        subst (λ (s : Tuple). Below u s × (map (element_text w) s ≡ values g.elements)) (sym e) (all_below below, is)

    -- its relation
    its : Alone g.name (length g.elements) w.relations (place_of g.name w.relations)
    its = alone g.name (length g.elements) w.relations sound.distinct (every_in sound.fitted i)

    abbrev k : ℕ
    k = place_of g.name w.relations

    inside : k < 16
    inside = omega (arith, (alone_at its).0, sound.few_relations)

    arity : length (fact_numbers w g) ≡ (relation_at k).arity
    unfolding fact_numbers
    arity = length-map g.elements _ ∙ (alone_at its).2

    -- its tuple by number; the table of its relation has it
    tuple_is : digits u (relation_at k).arity (number_at u 0 (fact_numbers w g)) ≡ fact_numbers w g
    tuple_is = ap (λ (n : ℕ). digits u n (number_at u 0 (fact_numbers w g))) (sym arity) ∙ digits_number u (fact_numbers w g) texts.0

    small : number_at u 0 (fact_numbers w g) < u ^ (relation_at k).arity
    small = subst (λ (n : ℕ). number_at u 0 (fact_numbers w g) < u ^ n) arity (number_below u (fact_numbers w g) texts.0)

    stated : given (relation_at k) (fact_numbers w g) ≡ true
    unfolding fact_holds
    stated =
        is_true _ (in_some (fact_holds w (relation_at k).name (fact_numbers w g)) i
        (and_both (same (relation_at k).name g.name) (same_values (map (element_text w) (fact_numbers w g)) g.elements) (subst T (sym (alone_at its).1) tt)
        (subst (λ (vs : List Text). T (same_values vs g.elements)) (sym texts.1) (same_values_refl g.elements))))

    relation : relation_of (fact_number w g) ≡ k
    unfolding fact_number
    relation = relation_is k (number_at u 0 (fact_numbers w g)) inside (omega (arith, small, few k))

  abbrev vs : List ℕ
  vs = map (fact_number w) w.facts

  -- a number of relation k is that of a tuple which some fact of the relation has
  abbrev Told : ℕ → ℕ → Type 0
  Told k x = (i : ℕ) × (x ≡ k * 16777216 + i) × (i < u ^ (relation_at k).arity) × (given (relation_at k) (digits u (relation_at k).arity i) ≡ true)

  told : (k x : ℕ) → In x vs → relation_of x ≡ k → Told k x
  unfolding fact_number
  told k x h e =
      let (g, i, q) = map_in (fact_number w) w.facts h in
      let p : place_of g.name w.relations ≡ k = sym (relation g i) ∙ ap relation_of (sym q) ∙ e in
      subst (λ (j : ℕ). Told j x) p (number_at u 0 (fact_numbers w g), q, small g i, ap (given (relation_at (place_of g.name w.relations))) (tuple_is g i) ∙ stated g i)

  -- and each such tuple has its number
  numbered : (k : ℕ) → k < length w.relations → (i : ℕ) → i < u ^ (relation_at k).arity → given (relation_at k) (digits u (relation_at k).arity i) ≡ true
      → In (k * 16777216 + i) vs × (relation_of (k * 16777216 + i) ≡ k)
  unfolding fact_number fact_numbers fact_holds
  numbered k h i l e =
      let t = digits u (relation_at k).arity i in
      let (g, j, s) = some_in (fact_holds w (relation_at k).name t) w.facts (subst T (sym e) tt) in
      let n = and_left (same (relation_at k).name g.name) (same_values (map (element_text w) t) g.elements) s in
      let is = same_values_eq (map (element_text w) t) g.elements (and_right (same (relation_at k).name g.name) (same_values (map (element_text w) t) g.elements) s) in
      let p : place_of g.name w.relations ≡ k = alone_one (its g j) k h (is_true _ n) in
      let q : number_at u 0 (fact_numbers w g) ≡ i = ap (number_at u 0) (numbers_are w.universe sound.ascending t (digits_in u (relation_at k).arity i l) g.elements is) ∙ number_digits u (relation_at k).arity i l in
      (subst (λ (x : ℕ). In x vs) (ap₂ (λ (a b : ℕ). a * 16777216 + b) p q) (in_map (fact_number w) j), relation_is k i (omega (arith, h, sound.few_relations)) (omega (arith, l, few k)))

  -- its numbers in the set of all are those of the tuples that its facts have
  pub relation_set : (k : ℕ) → k < length w.relations → keep (λ x. eqb (relation_of x) k) (number_set w w.facts) ≡ map (λ i. k * 16777216 + i) (keep (λ i. given (relation_at k) (digits u (relation_at k).arity i)) (below (u ^ (relation_at k).arity)))
  relation_set k h = its_numbers u (relation_at k).arity k (given (relation_at k)) vs (told k) (numbered k h)

  -- a relation that is not there has none
  none_past : (k : ℕ) → length w.relations ≤ k → (x : ℕ) → In x vs → relation_of x ≡ k → ⊥
  none_past k h x j e =
      let (g, i, q) = map_in (fact_number w) w.facts j in
      omega (arith, h, relation g i, ap relation_of (sym q), e, (alone_at (its g i)).0)

  counted : List ℕ
  counted = tallied (number_set w w.facts) (replicate 16 0)

  one_count : (k : ℕ) → k < 16 → get_or counted k 0 ≡ get_or (counts_of document_01 w (loaded w)) k 0
  unfolding loaded counted
  one_count k l = go (dec_lt k (length w.relations))
    where
      go : Dec (k < length w.relations) → get_or counted k 0 ≡ get_or (counts_of document_01 w (loaded w)) k 0
      go (yes h) =
          tallied_count u (relation_at k).arity k (given (relation_at k)) vs (told k) (numbered k h) l
          ∙ sym (count_at u given w.relations (16 - length w.relations) k h)
      go (no h) =
          tallied_count u 0 k (λ t. false) vs (λ x i e. absurd (none_past k (omega arith) x i e)) (λ i b e. absurd (apart (sym e))) l
          ∙ no_tuple u
          ∙ sym (count_past u given w.relations (16 - length w.relations) k (omega arith))

  -- all facts' different numbers, relation by relation, are the counts as loaded
  pub counted_all : tallied (number_set w w.facts) (replicate 16 0) ≡ counts document_01 w (table_image (loaded w))
  unfolding point start counted
  counted_all =
      ext_get_or 0 counted (counts_of document_01 w (loaded w)) (length_tallied (number_set w w.facts) (replicate 16 0) ∙ sym lengths) (λ k l. one_count k (omega (arith, l, length_tallied (number_set w w.facts) (replicate 16 0))))
      ∙ sym (counts_loaded document_01 w)
    where
      lengths : length (counts_of document_01 w (loaded w)) ≡ 16
      lengths =
          length-append (table_counts u w.relations (loaded w)) (replicate (16 - length w.relations) 0)
          ∙ omega (arith, length_counts (point_shaped w 0), length-replicate {A = ℕ} (16 - length w.relations) 0, sound.few_relations)
