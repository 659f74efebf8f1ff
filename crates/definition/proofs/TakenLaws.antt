-- Rows 5 to 7 are not met by facts of relations that are few enough, each with its one arity, with elements that are few enough.
use mathlib.Core.Path.{◌≡◌, refl, sym, ap, subst, ◌∙◌}
use mathlib.Core.Logic.{◌⊎◌, inl, inr}
use mathlib.Core.Bool.{Bool, true, false, cond}
use mathlib.Core.List.{List, [], ◌∷◌, ◌++◌, append_assoc, append-nil}
use Prim.Native.Nat.{ℕ, ◌≤◌, ◌<◌}
use native.Mathlib.Omega.{arith}
use lib.Dec.{T}
use lib.ListN.{length, length-append, length-map}
use borrow.Author.Tests.{le-ltb, lt-leb, eq-eqb}
use Rattle.definition.specs.Text.{Text, same, some_of, member}
use Rattle.definition.specs.Limits.{Limits}
use Rattle.definition.specs.Answer.{ok}
use Rattle.definition.specs.Facts.{Element, Fact, elements}
use Rattle.definition.specs.Facts.{Facts, Relation, insert, Ascending, arities, add_relation, on_arities, use_relation, use_elements, last_place, with_fact}
use Rattle.definition.proofs.BoolLaws.{or_cases}
use Rattle.definition.proofs.ListLaws.{Every, every_none, every_one, every_both}
use Rattle.definition.proofs.MeaningLaws.{same_eq, same_equal}
use Rattle.definition.proofs.UniverseLaws.{member_insert, insert_ascending}
use Rattle.definition.proofs.DistinctLaws.{Distinct, distinct_none, distinct_more, Within, fewer, ascending_distinct}
use Rattle.definition.proofs.AcceptLaws.{no_facts, fact_relation}
use Rattle.definition.proofs.NamedLaws.{names, names_more, has_arity, no_arity, HasArity}
use Rattle.definition.proofs.WrittenLaws.{take_facts}

-- a use of a relation, and a fact, that fit the relations qs and the texts vs
abbrev pub Matches : List Relation → Relation → Type 0
Matches qs q = arities q.name qs ≡ q.arity ∷ []

pub record FitsIn (qs : List Relation) (vs : List Text) (f : Fact) : Type 0 where
  pub relation : HasArity qs f
  pub elements : Every (λ e. T (member e.value vs)) f.elements

-- the arity found is the one that fits
found_arity : (qs : List Relation) (x : Text) (m : ℕ) (ms : List ℕ) {rs : List Relation} → Every (Matches qs) rs → arities x rs ≡ m ∷ ms → arities x qs ≡ m ∷ []
unfolding arities
found_arity qs x m ms every_none e = let z : ◌≡◌ {A = ℕ} 0 1 = cc in absurd (omega arith)
found_arity qs x m ms (every_one {a = r} {xs = rs} h hs) e = go (same x r.name) refl e (found_arity qs x m ms hs)
  where
    go : (b : Bool) → same x r.name ≡ b → cond b (r.arity ∷ []) (arities x rs) ≡ m ∷ ms → (arities x rs ≡ m ∷ ms → arities x qs ≡ m ∷ []) → arities x qs ≡ m ∷ []
    go true d e ih = let k : r.arity ≡ m = cc in ap (λ (y : Text). arities y qs) (same_equal x r.name d) ∙ h ∙ ap (λ (n : ℕ). n ∷ []) k
    go false d e ih = ih e

module _ (limits : Limits) (qs : List Relation) (vs : List Text) (few_relations : length qs ≤ limits.relations) (few_elements : length vs ≤ limits.elements) where
  -- what has been taken in fits too
  pub record Inside (s : Facts) : Type 0 where
    pub relations : Every (Matches qs) s.relations
    pub distinct : Distinct (names s.relations)
    pub ascending : Ascending s.universe
    pub within : Within s.universe vs

  matched : {rs : List Relation} → Every (Matches qs) rs → Within (names rs) (names qs)
  unfolding member some_of
  matched every_none x m = absurd m
  matched (every_one {a = r} {xs = rs} h hs) x m = go (or_cases (same x r.name) (member x (names rs)) m) (matched hs x)
    where
      go : T (same x r.name) ⊎ T (member x (names rs)) → (T (member x (names rs)) → T (member x (names qs))) → T (member x (names qs))
      go (inl s) ih = has_arity x r.arity [] qs (ap (λ (y : Text). arities y qs) (same_eq x r.name s) ∙ h)
      go (inr n) ih = ih n

  pub relation_taken : (q : Relation) (p : ℕ) (rs : List Relation) → Matches qs q → Every (Matches qs) rs → Distinct (names rs)
      → (ss : List Relation) × (use_relation limits q p rs ≡ ok ss) × Every (Matches qs) ss × Distinct (names ss)
  unfolding use_relation add_relation
  relation_taken q p rs h hs d = go (arities q.name rs) refl
    where
      Result : List ℕ → Type 0
      Result ns = (ss : List Relation) × (on_arities limits ns q p rs ≡ ok ss) × Every (Matches qs) ss × Distinct (names ss)

      go : (ns : List ℕ) → arities q.name rs ≡ ns → Result ns
      go [] e =
          let all : Every (Matches qs) (rs ++ (q ∷ [])) = every_both hs (every_one h every_none) in
          let apart_all : Distinct (names (rs ++ (q ∷ []))) = subst Distinct (sym (names_more rs q)) (distinct_more q.name d (no_arity q.name rs e)) in
          let room : length rs < limits.relations =
          omega (arith, fewer (names qs) apart_all (matched all), length-map qs (λ r. r.name), length-map (rs ++ (q ∷ [])) (λ r. r.name), length-append rs (q ∷ [])) in
          (rs ++ (q ∷ []), (rw (lt-leb limits.relations (length rs) room)), all, apart_all)
      go (m ∷ ns) e =
          let same_arity : m ≡ q.arity = first_of (sym (found_arity qs q.name m ns hs e) ∙ h) in
          (rs, (rw (eq-eqb m q.arity same_arity)), hs, d)
        where
          first_of : ◌≡◌ {A = List ℕ} (m ∷ []) (q.arity ∷ []) → m ≡ q.arity
          first_of e = cc

  pub elements_taken : {es : List Element} → Every (λ e. T (member e.value vs)) es → (us : List Text) → Ascending us → Within us vs
      → (ws : List Text) × (use_elements limits es us ≡ ok ws) × Ascending ws × Within ws vs
  unfolding use_elements
  elements_taken every_none us a h = (us, refl, a, h)
  elements_taken (every_one {a = e} m ms) us a h =
      let v = e.value in
      let b = insert_ascending v us a in
      let k : Within (insert v us) vs = λ x n. inserted x (or_cases (same x v) (member x us) (subst T (member_insert x v us) n)) in
      let i = elements_taken ms (insert v us) b k in
      (i.0, (rw (le-ltb limits.elements (length (insert v us)) (omega (arith, fewer vs (ascending_distinct (insert v us) b) k))) i.1), i.2, i.3)
    where
      inserted : (x : Text) → T (same x e.value) ⊎ T (member x us) → T (member x vs)
      inserted x (inl s) = subst (λ (y : Text). T (member y vs)) (sym (same_eq x e.value s)) m
      inserted x (inr n) = h x n

  pub taken_from : {fs : List Fact} → Every (FitsIn qs vs) fs → (s : Facts) → Inside s → (f : Facts) × (take_facts limits fs s ≡ ok f) × (s.facts ++ fs ≡ f.facts)
  unfolding take_facts with_fact
  taken_from every_none s i = (s, refl, append-nil s.facts)
  taken_from (every_one {a = f} {xs = fs} h hs) s i =
      let q = relation_taken (fact_relation f) (last_place f.at f.elements) s.relations h.relation i.relations i.distinct in
      let u = elements_taken h.elements s.universe i.ascending i.within in
      let t : Facts = record { relations = q.0; universe = u.0; facts = s.facts ++ (f ∷ []) } in
      let k = taken_from hs t (record { relations = q.2; distinct = q.3; ascending = u.2; within = u.3 }) in
      (k.0, (rw (q.1, u.1) k.1), sym (append_assoc s.facts (f ∷ []) fs) ∙ k.2)

  pub facts_taken : {fs : List Fact} → Every (FitsIn qs vs) fs → (f : Facts) × (take_facts limits fs no_facts ≡ ok f) × (fs ≡ f.facts)
  unfolding member some_of
  facts_taken hs = taken_from hs no_facts (record { relations = every_none; distinct = distinct_none; ascending = tt; within = λ x m. absurd m })
