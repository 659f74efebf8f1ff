-- The lines by number are the text of the union.
use Prim.Native.Nat.{ℕ, ◌+◌, ◌*◌, ◌^◌, ◌%◌, ◌<◌}
use mathlib.Core.Path.{◌≡◌, refl, sym, ap, ap₂, subst, ◌∙◌}
use mathlib.Core.Bool.{Bool}
use mathlib.Core.List.{List, [], ◌∷◌, ◌++◌, map}
use native.Mathlib.Omega.{arith}
use lib.Dec.{T, eqb, eqb_refl}
use lib.ListN.{length, get_or}
use Rattle.definition.specs.Text.{Text, some_of, keep, gather, below}
use Rattle.definition.specs.Facts.{Relation, Facts}
use Rattle.definition.specs.Tables.{Tuple, tuples}
use Rattle.definition.specs.Accept.{Accepted, elements}
use Rattle.definition.specs.Assignment.{fact_holds}
use Rattle.definition.specs.Print.{fact_line, shown}
use Rattle.definition.specs.Join.{as_accepted, relation_tuples, relation_lines, union_text}
use Rattle.definition.proofs.InLaws.{In, here, there, in_keep, keep_in, in_map, map_in, every_in}
use Rattle.definition.proofs.ListLaws.{gather_map}
use Rattle.definition.proofs.MeaningLaws.{same_eq}
use Rattle.definition.proofs.DistinctLaws.{Distinct}
use Rattle.definition.proofs.RelationLaws.{place_of, no_relation}
use Rattle.definition.proofs.LoadLaws.{tuples_fit, all_below}
use Rattle.definition.proofs.JoinLaws.{by_name_in, arity_in}
use Rattle.tuples.specs.Places.{digits}
use Rattle.tuples.proofs.Loading.{Alone}
use Rattle.parts.specs.Packed.{tag_of, text_of}
use Rattle.parts.specs.Entries.{index, texts_of}
use Rattle.parts.proofs.HeldLaws.{length_texts}
use Rattle.facts.specs.Words.{relation_of}
use Rattle.lines.specs.Lines.{Texts, texts, line_of}
use Rattle.lines.proofs.LineLaws.{line_same}
use Rattle.numbers.proofs.KeptLaws.{kept_told}
use Rattle.loading.proofs.Named.{alone, alone_at}
use Rattle.loading.proofs.OneFact.{index_place}
use Rattle.counting.specs.FactNumbers.{number_set}
use Rattle.counting.proofs.FactCounts.{few, relation_set}
use Rattle.counting.proofs.RelationNumbers.{relation_numbers}
use Rattle.unions.specs.Union.{relation_part, sorted, number_lines, all_lines, AllNumbered}
use Rattle.join.specs.United.{union, United}
use Rattle.join.proofs.Names.{sorted_by_name, names_texts}
use Rattle.join.proofs.Quotes.{union_shows}
use Rattle.join.proofs.UnionLaws.{sound}

-- what two functions give, where they agree on all of a list
gather_same : {A B : Type 0} (f g : A → List B) (xs : List A) → ((x : A) → In x xs → f x ≡ g x) → gather f xs ≡ gather g xs
unfolding gather
gather_same f g [] h = refl
gather_same f g (x ∷ xs) h = ap₂ ◌++◌ (h x (here refl)) (gather_same f g xs (λ y i. h y (there i)))

module _ (first second : Text) (relations universe : List ℕ) (h : United first second relations universe) where
  abbrev u : Facts
  u = union first second relations universe

  abbrev w : Accepted
  w = as_accepted u

  abbrev T₀ : Texts
  T₀ = texts second first universe

  abbrev set : List ℕ
  set = number_set w w.facts

  size : elements w ≡ length universe
  size = length_texts second first universe

  distinct : Distinct (texts_of second first relations)
  distinct = subst Distinct (names_texts second first relations) (sound first second relations universe h).distinct

  -- the lines of a relation by the tuples that are its own
  own_lines : (r : Relation) → gather (line_of T₀ (r.name ∷ [])) (relation_tuples w r) ≡ relation_lines w r
  unfolding relation_lines fact_line relation_tuples
  own_lines r =
      gather_same (line_of T₀ (r.name ∷ [])) (λ t. fact_line r.name (map (shown w) t)) (relation_tuples w r)
      (λ t i. line_same w T₀ (union_shows first second relations universe h) (r.name ∷ []) t (all_below (every_in (tuples_fit (elements w) r.arity) (keep_in _ (tuples (elements w) r.arity) i).0).below))

  -- one of the relations, by its part: where it stands among them
  module _ (v : ℕ) (i : In v (sorted second first relations)) where
    abbrev r : Relation
    r = relation_of second first v

    abbrev k : ℕ
    k = place_of r.name w.relations

    abbrev there_is : Relation
    there_is = get_or w.relations k no_relation

    in_relations : In r w.relations
    in_relations = by_name_in w.relations (subst (In r) (sorted_by_name second first relations distinct) (in_map (relation_of second first) i))

    only : Alone r.name r.arity w.relations k
    only = alone r.name r.arity w.relations (sound first second relations universe h).distinct (arity_in (sound first second relations universe h).distinct in_relations)

    place_is : index second first v relations ≡ k
    place_is = index_place second first v relations w.relations (sym (names_texts second first relations))

    its_name : there_is.name ≡ r.name
    its_name = same_eq there_is.name r.name (subst T (sym (alone_at only).1) tt)

    its_arity : r.arity ≡ there_is.arity
    its_arity = (alone_at only).2

    inside : k < length w.relations
    inside = (alone_at only).0

    same_lines : relation_lines w there_is ≡ relation_lines w r
    unfolding relation_lines relation_tuples
    same_lines = rw (its_name, its_arity)

    its_lines : number_lines T₀ (text_of second first v) (index second first v relations) (tag_of v) set ≡ relation_lines w r
    unfolding number_lines
    its_lines =
        let n = there_is.arity in
        let line : Tuple → Text = line_of T₀ (there_is.name ∷ []) in
        ap₂ (λ (j : ℕ) (x : Text). gather (λ y. line_of T₀ (x ∷ []) (digits (length universe) (tag_of v) (y % 16777216))) (keep (λ y. eqb (relation_part y) j) set)) place_is (sym its_name)
        ∙ ap₂ (λ (m b : ℕ). gather (λ y. line (digits m b (y % 16777216))) (keep (λ y. eqb (relation_part y) k) set)) (sym size) its_arity
        ∙ sym (gather_map line (λ y. digits (elements w) n (y % 16777216)) (keep (λ y. eqb (relation_part y) k) set))
        ∙ ap (gather line) (relation_numbers w (sound first second relations universe h) k inside)
        ∙ own_lines there_is
        ∙ same_lines

    its_numbers : (x : ℕ) → In x set → relation_part x ≡ index second first v relations → x % 16777216 < length universe ^ tag_of v
    its_numbers x j e =
        let n = there_is.arity in
        let kept : In x (keep (λ y. eqb (relation_part y) k) set) = in_keep (λ y. eqb (relation_part y) k) j (subst (λ (m : ℕ). T (eqb m k)) (sym (e ∙ place_is)) (eqb_refl k)) in
        let passes : ℕ → Bool = λ i. some_of (fact_holds w there_is.name (digits (elements w) n i)) w.facts in
        let (y, l, q) = map_in (λ i. k * 16777216 + i) (keep passes (below (elements w ^ n))) (subst (In x) (relation_set w (sound first second relations universe h) k inside) kept) in
        let b : y < elements w ^ n = omega (arith, (kept_told passes (elements w ^ n) 0 y l).1) in
        let m : x % 16777216 ≡ y = omega (arith, q, b, few w (sound first second relations universe h) k) in
        subst (λ (z : ℕ). z < length universe ^ tag_of v) (sym m) (subst (λ (z : ℕ). y < z) (ap₂ ◌^◌ size (sym its_arity)) b)

  all_numbered : AllNumbered second first relations (length universe) set (sorted second first relations)
  all_numbered v i = its_numbers v i

  lines_are : all_lines T₀ relations set (sorted second first relations) ≡ union_text u
  unfolding all_lines union_text
  lines_are =
      gather_same _ (λ v. relation_lines w (relation_of second first v)) (sorted second first relations) its_lines
      ∙ sym (gather_map (relation_lines w) (relation_of second first) (sorted second first relations))
      ∙ ap (gather (relation_lines w)) (sorted_by_name second first relations distinct)

  -- and so for lists and numbers that are those
  module _ (rs us xs : List ℕ) (e : rs ≡ relations) (f : us ≡ universe) (g : xs ≡ set) where
    pub numbered_there : AllNumbered second first rs (length us) xs (sorted second first rs)
    numbered_there =
        subst (λ (l : List ℕ). AllNumbered second first l (length us) xs (sorted second first l)) (sym e)
        (subst (λ (l : List ℕ). AllNumbered second first relations (length l) xs (sorted second first relations)) (sym f)
        (subst (λ (l : List ℕ). AllNumbered second first relations (length universe) l (sorted second first relations)) (sym g) all_numbered))

    pub text_there : all_lines (texts second first us) rs xs (sorted second first rs) ≡ union_text u
    text_there =
        ap₂ (λ (x y : List ℕ). all_lines (texts second first y) x xs (sorted second first x)) e f
        ∙ ap (λ (l : List ℕ). all_lines T₀ relations l (sorted second first relations)) g ∙ lines_are
