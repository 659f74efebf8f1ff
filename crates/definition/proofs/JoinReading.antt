-- A second text read after a first: read alone it is a text of facts; after a first it adds its own facts, and what holds of the facts of
-- one text holds of both.
use mathlib.Core.Path.{◌≡◌, refl, sym, ap, ap₂, fun_ext, subst, ◌∙◌}
use mathlib.Core.Bool.{Bool, true, false, ◌&&◌, ◌||◌, not, cond, or-false}
use mathlib.Core.List.{List, [], ◌∷◌, ◌++◌, map, append_assoc, append-nil}
use Prim.Native.Nat.{ℕ, ◌≤◌}
use native.Mathlib.Omega.{arith}
use lib.Dec.{T, ltb, eqb}
use lib.ListN.{length, length-map}
use borrow.Author.Tests.{le-ltb, ltb-false, eq-eqb}
use Rattle.definition.specs.Text.{Text, same, member, some_of}
use Rattle.definition.specs.Limits.{Limits, FACT_BYTES}
use Rattle.definition.specs.Answer.{Answer, ok, refused, ◌>>=◌, refuse_if}
use Rattle.definition.specs.Facts.{Line, Fact, Relation, Facts, fact_lines, skipped, fact, arities, last_place, with_fact, read_lines, legal_bytes, read_facts}
use Rattle.definition.specs.Join.{of_first, clashes, join_fact, join_lines, read_second, as_accepted}
use Rattle.definition.proofs.ListLaws.{some_append, Every, every_none, every_one, every_both, every_right, every_map}
use Rattle.definition.proofs.InLaws.{all_in, every_in, in_some}
use Rattle.definition.proofs.MeaningLaws.{same_eq, same_refl}
use Rattle.definition.proofs.DistinctLaws.{Distinct, distinct_none}
use Rattle.definition.proofs.AcceptLaws.{ok_injective, bind_ok, then_ok, was_ok, not_refused, no_facts, fact_relation, Added, fact_added, facts_hold, lines_keep, has, in_facts, FactUniverse, more_universe, nothing_yet}
use Rattle.definition.proofs.LegalLaws.{row_2}
use Rattle.definition.proofs.NamedLaws.{names, names_more, has_arity, Named, RelationUse, known_use, new_use, relation_use, relation_used, fact_name}
use Rattle.definition.proofs.ArityLaws.{Small, small_none, small_rest, small_one, relation_small, fact_few}
use Rattle.definition.proofs.UniverseSize.{elements_few}
use Rattle.definition.proofs.RelationCount.{relation_few}
use Rattle.definition.proofs.WrittenLaws.{take_facts}
use Rattle.definition.proofs.TakenLaws.{FitsIn, facts_taken}
use Rattle.definition.proofs.SoundLaws.{Sound}

-- Clashes: none where the text at hand gives all relations, and none with the arity that the relation has.
pub clashes_none : (r : Text) (n : ℕ) {rs : List Relation} → Every (λ q. q.text ≡ 0) rs → clashes r n rs ≡ false
unfolding clashes
clashes_none r n every_none = refl
clashes_none r n (every_one {a = q} {xs = rs} h hs) = go (same r q.name) (clashes_none r n hs)
  where
    go : (b : Bool) → clashes r n rs ≡ false → cond b (eqb q.text 1 && not (eqb q.arity n)) (clashes r n rs) ≡ false
    go true ih = rw h
    go false ih = ih

absent_clashes : (r : Text) (n : ℕ) (rs : List Relation) → arities r rs ≡ [] → clashes r n rs ≡ false
unfolding clashes arities
absent_clashes r n [] e = refl
absent_clashes r n (q ∷ rs) e = go (same r q.name) e (absent_clashes r n rs)
  where
    go : (b : Bool) → cond b (q.arity ∷ []) (arities r rs) ≡ [] → (arities r rs ≡ [] → clashes r n rs ≡ false)
        → cond b (eqb q.text 1 && not (eqb q.arity n)) (clashes r n rs) ≡ false
    go true e ih = let z : ◌≡◌ {A = ℕ} 0 1 = cc in absurd (omega arith)
    go false e ih = ih e

known_clashes : (r : Text) (n : ℕ) (rs : List Relation) → arities r rs ≡ n ∷ [] → clashes r n rs ≡ false
unfolding clashes arities
known_clashes r n [] e = refl
known_clashes r n (q ∷ rs) e = go (same r q.name) e (known_clashes r n rs)
  where
    go : (b : Bool) → cond b (q.arity ∷ []) (arities r rs) ≡ n ∷ [] → (arities r rs ≡ n ∷ [] → clashes r n rs ≡ false)
        → cond b (eqb q.text 1 && not (eqb q.arity n)) (clashes r n rs) ≡ false
    go true e ih = let k : q.arity ≡ n = cc in rw (eq-eqb q.arity n k) (none (eqb q.text 1))
      where
        none : (b : Bool) → b && false ≡ false
        none true = refl
        none false = refl
    go false e ih = ih e

use_clashes : {q : Relation} {rs qs : List Relation} → RelationUse q rs qs → clashes q.name q.arity rs ≡ false
use_clashes {q} {rs} (known_use d) = known_clashes q.name q.arity rs d
use_clashes {q} {rs} (new_use d) = absent_clashes q.name q.arity rs d

-- The relations of the first text: the same but for their text.
abbrev pub first_relation : Relation → Relation
first_relation r = record { name = r.name; arity = r.arity; text = 1; at = r.at }

abbrev pub of_one : List Relation → List Relation
of_one rs = map first_relation rs

pub first_names : (rs : List Relation) → names (of_one rs) ≡ names rs
first_names [] = refl
first_names (r ∷ rs) = ap (λ (l : List Text). r.name ∷ l) (first_names rs)

pub first_arities : (x : Text) (rs : List Relation) → arities x (of_one rs) ≡ arities x rs
unfolding arities
first_arities x [] = refl
first_arities x (r ∷ rs) = ap (λ (l : List ℕ). cond (same x r.name) (r.arity ∷ []) l) (first_arities x rs)

first_small : (rs : List Relation) → Small rs → Small (of_one rs)
first_small [] h = h
first_small (r ∷ rs) h = small_one (first_relation r) (of_one rs) (h.each 0) (first_small rs (small_rest h))

first_named : (rs : List Relation) (fs : List Fact) → Named rs fs → Named (of_one rs) fs
first_named rs fs h =
    record {
      named = every_map first_relation h.named;
      distinct = subst Distinct (sym (first_names rs)) h.distinct;
      fitted = all_in fs (λ f i. first_arities f.name rs ∙ every_in h.fitted i);
    }

absorbed : (a b : Bool) → (T b → T a) → a ≡ a || b
absorbed true b f = refl
absorbed false true f = absurd (f tt)
absorbed false false f = refl

use_names : {q : Relation} {rs qs : List Relation} → RelationUse q rs qs → (x : Text) → member x (names qs) ≡ member x (names rs) || same x q.name
unfolding member some_of
use_names {q} {rs} (known_use d) x = absorbed (member x (names rs)) (same x q.name) (λ s. subst (λ (y : Text). T (member y (names rs))) (sym (same_eq x q.name s)) (has_arity q.name q.arity [] rs d))
use_names {q} {rs} (new_use d) x = ap (member x) (names_more rs q) ∙ some_append (same x) (names rs) (q.name ∷ []) ∙ ap (λ (b : Bool). member x (names rs) || b) (or-false (same x q.name))

module _ (limits : Limits) where
  -- Read alone: nothing clashes, so the second text is read as any text of facts, or refused by the same row.
  own_more : (s : Facts) (f : Fact) (t : Facts) → Added limits s f t → Every (λ r. r.text ≡ 0) s.relations → Every (λ r. r.text ≡ 0) t.relations
  own_more s f t a h = go (relation_use limits (fact_relation f) (last_place f.at f.elements) s.relations t.relations a.relations)
    where
      go : {qs : List Relation} → RelationUse (fact_relation f) s.relations qs → Every (λ r. r.text ≡ 0) qs
      go (known_use d) = h
      go (new_use d) = every_both h (every_one refl every_none)

  -- the relations of a text that is read are its own
  pub facts_own : (xs : Text) (f : Facts) → read_facts limits xs ≡ ok f → Every (λ r. r.text ≡ 0) f.relations
  facts_own = facts_hold limits (λ s. Every (λ r. r.text ≡ 0) s.relations) (λ l f s t p a h. own_more s f t a h) every_none

  pub lines_alone : (ls : List Line) (s : Facts) → Every (λ r. r.text ≡ 0) s.relations → join_lines limits ls s ≡ read_lines limits ls s
  unfolding join_lines read_lines join_fact
  lines_alone [] s h = refl
  lines_alone (l ∷ ls) s h = ap₂ (cond (skipped l.bytes)) (lines_alone ls s h) (taken (fact l) (λ t. lines_alone ls t))
    where
      Rest : Type 0
      Rest = (t : Facts) → Every (λ r. r.text ≡ 0) t.relations → join_lines limits ls t ≡ read_lines limits ls t

      on : (f : Fact) (a : Answer Facts) → with_fact limits s f ≡ a → Rest → ◌>>=◌ a (join_lines limits ls) ≡ ◌>>=◌ a (read_lines limits ls)
      on f (ok t) e ih = ih t (own_more s f t (fact_added limits s f t e) h)
      on f (refused r p) e ih = refl

      taken : (a : Answer Fact) → Rest → (do f ← a; t ← join_fact limits s f; join_lines limits ls t) ≡ (do f ← a; t ← with_fact limits s f; read_lines limits ls t)
      taken (ok f) ih = rw (clashes_none f.name (length f.elements) h) (on f (with_fact limits s f) refl ih)
      taken (refused r p) ih = refl

  pub read_alone : (xs : Text) → read_second limits no_facts xs ≡ read_facts limits xs
  unfolding read_second read_facts
  read_alone xs = rw (lines_alone (fact_lines xs) no_facts every_none)

  -- After a first text: what is read is what the same lines give where the relations' texts are not asked, and the other way round.
  fact_joined : (s : Facts) (f : Fact) (t : Facts) → join_fact limits s f ≡ ok t → with_fact limits s f ≡ ok t
  unfolding join_fact
  fact_joined s f t e = then_ok (refuse_if (clashes f.name (length f.elements) s.relations) 20 f.at) _ t e

  fact_joins : (s : Facts) (f : Fact) (t : Facts) → with_fact limits s f ≡ ok t → join_fact limits s f ≡ ok t
  unfolding join_fact
  fact_joins s f t e =
      rw (use_clashes (relation_use limits (fact_relation f) (last_place f.at f.elements) s.relations t.relations (fact_added limits s f t e).relations)) e

  pub lines_joined : (ls : List Line) (s t : Facts) → join_lines limits ls s ≡ ok t → read_lines limits ls s ≡ ok t
  unfolding join_lines read_lines
  lines_joined [] s t e = e
  lines_joined (l ∷ ls) s t e = go (skipped l.bytes) e (λ u. lines_joined ls u t)
    where
      go : (b : Bool) → cond b (join_lines limits ls s) (do f ← fact l; u ← join_fact limits s f; join_lines limits ls u) ≡ ok t → ((u : Facts) → join_lines limits ls u ≡ ok t → read_lines limits ls u ≡ ok t)
          → cond b (read_lines limits ls s) (do f ← fact l; u ← with_fact limits s f; read_lines limits ls u) ≡ ok t
      go true e ih = ih s e
      go false e ih =
          let (f, p, e₁) = bind_ok (fact l) _ t e in
          let (u, p₁, e₂) = bind_ok (join_fact limits s f) _ t e₁ in
          rw (p, fact_joined s f u p₁) (ih u e₂)

  pub lines_join : (ls : List Line) (s t : Facts) → read_lines limits ls s ≡ ok t → join_lines limits ls s ≡ ok t
  unfolding join_lines read_lines
  lines_join [] s t e = e
  lines_join (l ∷ ls) s t e = go (skipped l.bytes) e (λ u. lines_join ls u t)
    where
      go : (b : Bool) → cond b (read_lines limits ls s) (do f ← fact l; u ← with_fact limits s f; read_lines limits ls u) ≡ ok t → ((u : Facts) → read_lines limits ls u ≡ ok t → join_lines limits ls u ≡ ok t)
          → cond b (join_lines limits ls s) (do f ← fact l; u ← join_fact limits s f; join_lines limits ls u) ≡ ok t
      go true e ih = ih s e
      go false e ih =
          let (f, p, e₁) = bind_ok (fact l) _ t e in
          let (u, p₁, e₂) = bind_ok (with_fact limits s f) _ t e₁ in
          rw (p, fact_joins s f u p₁) (ih u e₂)

  -- a text read after the facts s: rows 1 and 2 are not met, and the lines give t
  pub record ReadAfter (s : Facts) (xs : Text) (t : Facts) : Type 0 where
    pub short : length xs ≤ FACT_BYTES
    pub legal : row_2 xs ≡ false
    pub lines : read_lines limits (fact_lines xs) s ≡ ok t

  pub second_read : (s : Facts) (xs : Text) (t : Facts) → read_second limits s xs ≡ ok t → ReadAfter s xs t
  unfolding read_second
  second_read s xs t e =
      let row_1 = refuse_if (ltb FACT_BYTES (length xs)) 1 FACT_BYTES in
      let e₁ = then_ok row_1 _ t e in
      let illegal = refuse_if (row_2 xs) 2 (legal_bytes xs) in
      record {
        short = ltb-false FACT_BYTES (length xs) (not_refused _ 1 FACT_BYTES (was_ok row_1 _ t e));
        legal = not_refused (row_2 xs) 2 (legal_bytes xs) (was_ok illegal _ t e₁);
        lines = lines_joined (fact_lines xs) s t (then_ok illegal _ t e₁);
      }

  pub reads_second : (s : Facts) (xs : Text) (t : Facts) → ReadAfter s xs t → read_second limits s xs ≡ ok t
  unfolding read_second
  reads_second s xs t h = rw (le-ltb FACT_BYTES (length xs) h.short, h.legal) (lines_join (fact_lines xs) s t h.lines)

  pub alone_read : (xs : Text) (f : Facts) → read_facts limits xs ≡ ok f → ReadAfter no_facts xs f
  alone_read xs f e = second_read no_facts xs f (read_alone xs ∙ e)

  pub reads_alone : (xs : Text) (f : Facts) → ReadAfter no_facts xs f → read_facts limits xs ≡ ok f
  reads_alone xs f h = sym (read_alone xs) ∙ reads_second no_facts xs f h

  -- What holds of facts that were read, of one text or of two: names differ, the limits are kept, each fact fits, the elements and the
  -- relations are those of the facts.
  pub record Good (s : Facts) : Type 0 where
    pub named : Named s.relations s.facts
    pub few_relations : length s.relations ≤ limits.relations
    pub few_elements : length s.universe ≤ limits.elements
    pub small : Small s.relations
    pub universe : FactUniverse s
    pub used : (x : Text) → member x (names s.relations) ≡ some_of (λ g. same x g.name) s.facts

  good_none : Good no_facts
  unfolding member some_of
  good_none =
      record {
        named = record { named = every_none; distinct = distinct_none; fitted = every_none };
        few_relations = omega arith;
        few_elements = omega arith;
        small = small_none;
        universe = nothing_yet;
        used = λ x. refl;
      }

  good_more : (l : Line) (f : Fact) (s t : Facts) → fact l ≡ ok f → Added limits s f t → Good s → Good t
  unfolding some_of
  good_more l f s t p a g =
      let q = fact_relation f in
      let place = last_place f.at f.elements in
      let (n, k) = relation_used limits q place s.relations t.relations s.facts a.relations (fact_name l f p) g.named in
      record {
        named = subst (Named t.relations) a.facts (record { named = n.named; distinct = n.distinct; fitted = every_both n.fitted (every_one k every_none) });
        few_relations = relation_few limits q place s.relations t.relations a.relations g.few_relations;
        few_elements = elements_few limits f.elements s.universe t.universe a.universe g.few_elements;
        small = relation_small limits q place s.relations t.relations a.relations (fact_few l f p) g.small;
        universe = more_universe limits s f t a g.universe;
        used = λ x.
            use_names (relation_use limits q place s.relations t.relations a.relations) x ∙ ap₂ ◌||◌ (g.used x) (sym (or-false (same x f.name)))
            ∙ sym (some_append (λ g. same x g.name) s.facts (f ∷ [])) ∙ ap (some_of (λ g. same x g.name)) a.facts;
      }

  pub facts_good : (xs : Text) (f : Facts) → read_facts limits xs ≡ ok f → Good f
  facts_good = facts_hold limits Good good_more good_none

  pub first_good : (f : Facts) → Good f → Good (of_first f)
  first_good f g =
      record {
        named = first_named f.relations f.facts g.named;
        few_relations = omega (arith, g.few_relations, length-map f.relations first_relation);
        few_elements = g.few_elements;
        small = first_small f.relations g.small;
        universe = record { ascending = g.universe.ascending; members = g.universe.members };
        used = λ x. ap (member x) (first_names f.relations) ∙ g.used x;
      }

  pub second_good : (s : Facts) (xs : Text) (t : Facts) → read_second limits s xs ≡ ok t → Good s → Good t
  second_good s xs t e = lines_keep limits Good good_more (fact_lines xs) s t (second_read s xs t e).lines

  pub good_fits : (s : Facts) → Good s → Every (FitsIn s.relations s.universe) s.facts
  unfolding in_facts has
  good_fits s g =
      all_in s.facts (λ f i.
      record {
        relation = every_in g.named.fitted i;
        elements = all_in f.elements (λ e j.
            subst T (sym (g.universe.members e.value)) (in_some (λ (f : Fact). some_of (λ d. same e.value d.value) f.elements) i (in_some (λ d. same e.value d.value) j (same_refl e.value))));
      })

  pub good_sound : (s : Facts) → Good s → Sound limits (as_accepted s)
  good_sound s g =
      record {
        ascending = g.universe.ascending;
        few_elements = g.few_elements;
        few_relations = g.few_relations;
        small = g.small;
        distinct = g.named.distinct;
        fitted = g.named.fitted;
        inside = λ x t. subst T (sym (g.universe.members x)) t;
      }

  -- both texts
  pub union_good : (first second : Text) (f u : Facts) → read_facts limits first ≡ ok f → read_second limits (of_first f) second ≡ ok u → Good u
  union_good first second f u e d = second_good (of_first f) second u d (first_good f (facts_good first f e))

  pub union_sound : (first second : Text) (f u : Facts) → read_facts limits first ≡ ok f → read_second limits (of_first f) second ≡ ok u → Sound limits (as_accepted u)
  union_sound first second f u e d = good_sound u (union_good first second f u e d)

-- The lines of a text, and the facts that they give.
pub data Gives : List Line → List Fact → Type 0 where
  gives_none : Gives [] []
  gives_skip : {l : Line} {ls : List Line} {fs : List Fact} → skipped l.bytes ≡ true → Gives ls fs → Gives (l ∷ ls) fs
  gives_one : {l : Line} {f : Fact} {ls : List Line} {fs : List Fact} → skipped l.bytes ≡ false → fact l ≡ ok f → Gives ls fs → Gives (l ∷ ls) (f ∷ fs)

module _ (limits : Limits) where
  lines_give : (ls : List Line) (s t : Facts) → read_lines limits ls s ≡ ok t → (fs : List Fact) × Gives ls fs × (s.facts ++ fs ≡ t.facts)
  unfolding read_lines
  lines_give [] s t e = ([], gives_none, append-nil s.facts ∙ ap (λ (u : Facts). u.facts) (ok_injective e))
  lines_give (l ∷ ls) s t e = go (skipped l.bytes) refl e (λ s e. lines_give ls s t e)
    where
      Result : List Line → Facts → Type 0
      Result ls s = (fs : List Fact) × Gives ls fs × (s.facts ++ fs ≡ t.facts)

      go : (b : Bool) → skipped l.bytes ≡ b → cond b (read_lines limits ls s) (do f ← fact l; u ← with_fact limits s f; read_lines limits ls u) ≡ ok t
          → ((s : Facts) → read_lines limits ls s ≡ ok t → Result ls s) → Result (l ∷ ls) s
      go true d e ih = let k = ih s e in (k.0, gives_skip d k.1, k.2)
      go false d e ih =
          let (f, p, e₁) = bind_ok (fact l) _ t e in
          let (u, p₁, e₂) = bind_ok (with_fact limits s f) _ t e₁ in
          let k = ih u e₂ in
          (f ∷ k.0, gives_one d p k.1, sym (append_assoc s.facts (f ∷ []) k.0) ∙ ap (λ (l : List Fact). l ++ k.0) (fact_added limits s f u p₁).facts ∙ k.2)

  pub gives_take : {ls : List Line} {fs : List Fact} → Gives ls fs → (s : Facts) → read_lines limits ls s ≡ take_facts limits fs s
  unfolding read_lines take_facts
  gives_take gives_none s = refl
  gives_take (gives_skip d g) s = rw d (gives_take g s)
  gives_take (gives_one {f = f} d p g) s = rw (d, p) (ap (◌>>=◌ (with_fact limits s f)) (fun_ext (gives_take g)))

  pub facts_given : (xs : Text) (f : Facts) → read_facts limits xs ≡ ok f → Gives (fact_lines xs) f.facts
  facts_given xs f e = let k = lines_give (fact_lines xs) no_facts f (alone_read limits xs f e).lines in subst (Gives (fact_lines xs)) k.2 k.1

  -- the facts of both texts are those of the first and then those that the second's lines give
  pub union_facts : (first second : Text) (f u : Facts) → read_facts limits first ≡ ok f → read_second limits (of_first f) second ≡ ok u
      → (fs : List Fact) × Gives (fact_lines second) fs × (u.facts ≡ f.facts ++ fs)
  union_facts first second f u e d = let k = lines_give (fact_lines second) (of_first f) u (second_read limits (of_first f) second u d).lines in (k.0, k.1, sym k.2)

  -- Both texts: each is read by itself, and the facts of the union are those of the first and then those of the second.
  pub record Both (first second : Text) (u : Facts) : Type 0 where
    pub one : Facts
    pub two : Facts
    pub read_one : read_facts limits first ≡ ok one
    pub read_two : read_facts limits second ≡ ok two
    pub good : Good limits u
    pub facts : one.facts ++ two.facts ≡ u.facts

  pub both_read : (first second : Text) (f u : Facts) → read_facts limits first ≡ ok f → read_second limits (of_first f) second ≡ ok u → Both first second u
  both_read first second f u e d =
      let g = union_good limits first second f u e d in
      let (fs, gives, is) = union_facts first second f u e d in
      let fit : Every (FitsIn u.relations u.universe) fs = every_right f.facts (subst (Every (FitsIn u.relations u.universe)) is (good_fits limits u g)) in
      let k = facts_taken limits u.relations u.universe g.few_relations g.few_elements fit in
      let r = second_read limits (of_first f) second u d in
      record {
        one = f;
        two = k.0;
        read_one = e;
        read_two = reads_alone limits second k.0 (record { short = r.short; legal = r.legal; lines = gives_take gives no_facts ∙ k.1 });
        good = g;
        facts = ap (λ (l : List Fact). f.facts ++ l) (sym k.2) ∙ sym is;
      }

  -- the same, by the facts that the second has alone
  pub union_of : (first second : Text) (f u : Facts) → read_facts limits first ≡ ok f → read_second limits (of_first f) second ≡ ok u → (g : Facts) → read_facts limits second ≡ ok g → u.facts ≡ f.facts ++ g.facts
  union_of first second f u e d g e' =
      let b = both_read first second f u e d in
      sym b.facts ∙ ap₂ (λ (x y : Facts). x.facts ++ y.facts) (ok_injective (sym b.read_one ∙ e)) (ok_injective (sym b.read_two ∙ e'))
