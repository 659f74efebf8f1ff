-- What a join writes, read as facts, is the union of the two texts; its relations stand in strict byte order of name.
use mathlib.Core.Path.{◌≡◌, refl, sym, ap, ap₂, subst, ◌∙◌}
use mathlib.Core.Logic.{◌⊎◌, inl, inr, ◌↔◌}
use mathlib.Core.Bool.{Bool, true, false, ◌&&◌, ◌||◌, cond}
use mathlib.Core.List.{List, [], ◌∷◌, ◌++◌, map}
use Prim.Native.Nat.{ℕ, ◌≤◌}
use native.Mathlib.Omega.{arith}
use lib.Dec.{T, ltb, not_T}
use lib.ListN.{length, get_or, length-map}
use borrow.Author.Tests.{ltb-false}
use Rattle.definition.specs.Text.{Text, same, earlier, member, some_of, gather}
use Rattle.definition.specs.Limits.{Limits, FACT_BYTES, ARITY}
use Rattle.definition.specs.Answer.{Answer, ok, refused, refuse_if}
use Rattle.definition.specs.Facts.{Element, Fact, Relation, Facts, insert, Ascending, arities, read_facts}
use Rattle.definition.specs.Tables.{Tuple, tuples}
use Rattle.definition.specs.Accept.{Accepted, accept, elements}
use Rattle.definition.specs.Assignment.{same_values, element_text, fact_holds, loaded}
use Rattle.definition.specs.Print.{fact_line, is_quoted, in_quotes, shown}
use Rattle.definition.specs.Join.{of_first, as_accepted, insert_by_name, by_name, relation_tuples, relation_lines, union_text, read_second, Told, right, of_text, within_room, join}
use Rattle.definition.proofs.BoolLaws.{or_cases, or_left, or_right, and_left, and_right, and_both, or_eq_false, is_true, is_false, apart, both_ways}
use Rattle.definition.proofs.ListLaws.{some_append, gather_append, gather_map, Each, each_none, each_one, Every, every_none, every_one, every_head, every_both, every_keep, every_gather}
use Rattle.definition.proofs.InLaws.{In, here, there, in_keep, keep_in, in_some, some_in, every_in, all_in, in_map, map_in, in_gather, gather_in, each_left, each_right, in_tuples}
use Rattle.definition.proofs.TupleLaws.{gather_ext}
use Rattle.definition.proofs.MeaningLaws.{same_eq, same_refl, same_itself, same_equal, member_first, member_later}
use Rattle.definition.proofs.DistinctLaws.{Distinct, distinct_one, distinct_head, distinct_tail}
use Rattle.definition.proofs.UniverseLaws.{member_insert, insert_ascending}
use Rattle.definition.proofs.AcceptLaws.{ok_injective, then_ok, was_ok, not_refused, has, in_facts, parts}
use Rattle.definition.proofs.NamedLaws.{names}
use Rattle.definition.proofs.ArityLaws.{Small, small_rest}
use Rattle.definition.proofs.LoadLaws.{Fits, tuples_fit, tuples_of, values, same_values_eq, same_values_refl, says, has_fact, fact_tuple, loaded_says, says_loaded}
use Rattle.definition.proofs.WrittenLaws.{IsValue, fact_values, quotes, opens_quote, no_opening, Row, IsRow, rows_text, Says, written_rows}
use Rattle.definition.proofs.TakenLaws.{FitsIn, facts_taken}
use Rattle.definition.proofs.ValueLaws.{ValueFact, facts_values, in_value, value_numbered, quotes_given}
use Rattle.definition.proofs.ReadBack.{tuple_row, says_fits, all_rows}
use Rattle.definition.proofs.JoinReading.{Good, good_sound, Both, both_read}

-- Relations by name: the same, in strict byte order of name.
name_insert : (r : Relation) (qs : List Relation) → member r.name (names qs) ≡ false → names (insert_by_name r qs) ≡ insert r.name (names qs)
unfolding insert_by_name insert member some_of
name_insert r [] e = refl
name_insert r (q ∷ qs) e =
    let h = or_eq_false (same r.name q.name) (member r.name (names qs)) e in
    rw h.0 (go (earlier r.name q.name) (name_insert r qs h.1))
  where
    go : (b : Bool) → names (insert_by_name r qs) ≡ insert r.name (names qs)
        → names (cond b (r ∷ q ∷ qs) (q ∷ insert_by_name r qs)) ≡ cond b (r.name ∷ q.name ∷ names qs) (q.name ∷ insert r.name (names qs))
    go true ih = refl
    go false ih = ap (λ (l : List Text). q.name ∷ l) ih

pub record ByName (rs qs : List Relation) : Type 0 where
  pub ascending : Ascending (names qs)
  pub same_names : (x : Text) → member x (names qs) ≡ member x (names rs)

-- "relations in byte order of name"
pub names_ascend : {rs : List Relation} → Distinct (names rs) → ByName rs (by_name rs)
unfolding by_name member some_of
names_ascend {rs = []} d = record { ascending = tt; same_names = λ x. refl }
names_ascend {rs = r ∷ rs} (distinct_one m d) =
    let h = names_ascend {rs = rs} d in
    let e = name_insert r (by_name rs) (h.same_names r.name ∙ m) in
    record {
      ascending = subst Ascending (sym e) (insert_ascending r.name (names (by_name rs)) h.ascending);
      same_names = λ x. ap (member x) e ∙ member_insert x r.name (names (by_name rs)) ∙ ap (λ (b : Bool). same x r.name || b) (h.same_names x);
    }

in_insert : (r : Relation) {q : Relation} {qs : List Relation} → In q (r ∷ qs) → In q (insert_by_name r qs)
unfolding insert_by_name
in_insert r {q} {qs = []} i = i
in_insert r {q} {qs = s ∷ qs} i = go (earlier r.name s.name) i (λ j. in_insert r {qs = qs} j)
  where
    go : (b : Bool) → In q (r ∷ s ∷ qs) → (In q (r ∷ qs) → In q (insert_by_name r qs)) → In q (cond b (r ∷ s ∷ qs) (s ∷ insert_by_name r qs))
    go true i ih = i
    go false (here e) ih = there (ih (here e))
    go false (there (here e)) ih = here e
    go false (there (there i)) ih = there (ih (there i))

insert_in : (r : Relation) {q : Relation} (qs : List Relation) → In q (insert_by_name r qs) → In q (r ∷ qs)
unfolding insert_by_name
insert_in r [] i = i
insert_in r {q} (s ∷ qs) i = go (earlier r.name s.name) i (insert_in r qs)
  where
    swap : In q (r ∷ qs) → In q (r ∷ s ∷ qs)
    swap (here e) = here e
    swap (there i) = there (there i)

    go : (b : Bool) → In q (cond b (r ∷ s ∷ qs) (s ∷ insert_by_name r qs)) → (In q (insert_by_name r qs) → In q (r ∷ qs)) → In q (r ∷ s ∷ qs)
    go true i ih = i
    go false (here e) ih = there (here e)
    go false (there i) ih = swap (ih i)

pub in_by_name : {q : Relation} (rs : List Relation) → In q rs → In q (by_name rs)
unfolding by_name
in_by_name {q = q} [] x' = elim x' [ ]
in_by_name (r ∷ rs) (here e) = in_insert r (here e)
in_by_name (r ∷ rs) (there i) = in_insert r (there (in_by_name rs i))

pub by_name_in : {q : Relation} (rs : List Relation) → In q (by_name rs) → In q rs
unfolding by_name
by_name_in {q = q} [] i = elim i [ ]
by_name_in {q} (r ∷ rs) i = go (insert_in r (by_name rs) i) (by_name_in rs)
  where
    go : In q (r ∷ by_name rs) → (In q (by_name rs) → In q rs) → In q (r ∷ rs)
    go (here e) ih = here e
    go (there j) ih = there (ih j)

-- A relation of distinct names: its name is one of the names, and has its one arity.
pub name_in : {q : Relation} {rs : List Relation} → In q rs → T (member q.name (names rs))
name_in {q = q} {rs = []} x'' = elim x'' [ ]
name_in {q} {rs = r ∷ rs} (here e) = subst (λ (x : Text). T (member q.name (x ∷ names rs))) (ap (λ (z : Relation). z.name) e) (member_first q.name (names rs))
name_in {q} {rs = r ∷ rs} (there i) = member_later r.name q.name (names rs) (name_in i)

arity_within : {q : Relation} {rs : List Relation} → In q rs → Distinct (names rs) → arities q.name rs ≡ q.arity ∷ []
unfolding arities
arity_within {q = q} {rs = []} x5 d = elim x5 [ ]
arity_within {q} {rs = r ∷ rs} (here e) d = rw (e, same_itself r.name)
arity_within {q} {rs = r ∷ rs} (there i) d = rw (other) (arity_within i (distinct_tail d))
  where
    other : same q.name r.name ≡ false
    other = is_false (same q.name r.name) (not_T (same q.name r.name) (λ s. apart (sym (is_true (member r.name (names rs)) (subst (λ (x : Text). T (member x (names rs))) (same_eq q.name r.name s) (name_in i))) ∙ distinct_head d)))

pub arity_in : {rs : List Relation} → Distinct (names rs) → {q : Relation} → In q rs → arities q.name rs ≡ q.arity ∷ []
arity_in d i = arity_within i d

arities_in : (x : Text) (n : ℕ) (rs : List Relation) → arities x rs ≡ n ∷ [] → (q : Relation) × In q rs × (q.name ≡ x) × (q.arity ≡ n)
unfolding arities
arities_in x n [] e = let z : ◌≡◌ {A = ℕ} 0 1 = cc in absurd (omega arith)
arities_in x n (r ∷ rs) e = go (same x r.name) refl e (arities_in x n rs)
  where
    Result : List Relation → Type 0
    Result qs = (q : Relation) × In q qs × (q.name ≡ x) × (q.arity ≡ n)

    go : (b : Bool) → same x r.name ≡ b → cond b (r.arity ∷ []) (arities x rs) ≡ n ∷ [] → (arities x rs ≡ n ∷ [] → Result rs) → Result (r ∷ rs)
    go true d e ih = let k : r.arity ≡ n = cc in (r, here refl, sym (same_equal x r.name d), k)
    go false d e ih = let k = ih e in (k.0, there k.1, k.2, k.3)

small_in : (rs : List Relation) → Small rs → {q : Relation} → In q rs → q.arity ≤ ARITY
small_in [] h {q = q} x'' = elim x'' [ ]
small_in (r ∷ rs) h (here e) = subst (λ (z : Relation). z.arity ≤ ARITY) (sym e) (h.each 0)
small_in (r ∷ rs) h (there i) = small_in rs (small_rest h) i

-- The lines as rows of names and values.
gather_gather : {A B C : Type 0} (f : B → List C) (g : A → List B) (xs : List A) → gather f (gather g xs) ≡ gather (λ x. gather f (g x)) xs
unfolding gather
gather_gather f g [] = refl
gather_gather f g (x ∷ xs) = gather_append f (g x) (gather g xs) ∙ ap (λ l. gather f (g x) ++ l) (gather_gather f g xs)

abbrev pub relation_rows : Accepted → Relation → List Row
relation_rows w q = map (tuple_row w q.name) (relation_tuples w q)

unfoldable pub rows_of : Facts → List Row
rows_of u = gather (relation_rows (as_accepted u)) (by_name u.relations)

pub union_rows : (u : Facts) → union_text u ≡ rows_text (rows_of u)
unfolding union_text relation_lines rows_of
union_rows u =
    gather_ext _ _ (λ q. sym (gather_map (λ r. fact_line r.name r.words) (tuple_row (as_accepted u) q.name) (relation_tuples (as_accepted u) q))) (by_name u.relations)
    ∙ sym (gather_gather (λ r. fact_line r.name r.words) (relation_rows (as_accepted u)) (by_name u.relations))

-- Each row is one of a relation and a tuple, and is what some fact says.
record Given (u : Facts) (r : Row) : Type 0 where
  relation : Relation
  of_relations : In relation u.relations
  tuple : Tuple
  fits : Fits (elements (as_accepted u)) relation.arity tuple
  is_row : r ≡ tuple_row (as_accepted u) relation.name tuple
  fact : Fact
  of_union : In fact u.facts
  name : r.name ≡ fact.name
  values : r.values ≡ fact_values fact

row_given : (u : Facts) (r : Row) → In r (rows_of u) → Given u r
unfolding rows_of relation_tuples fact_holds
row_given u r i =
    let w = as_accepted u in
    let (q, j, k) = gather_in (relation_rows w) (by_name u.relations) i in
    let (t, l, e) = map_in (tuple_row w q.name) (relation_tuples w q) k in
    let h = keep_in (λ t. some_of (fact_holds w q.name t) u.facts) (tuples (elements w) q.arity) l in
    let (g, m, b) = some_in (fact_holds w q.name t) u.facts h.1 in
    let named = same q.name g.name in
    let valued = same_values (map (element_text w) t) g.elements in
    record {
      relation = q;
      of_relations = by_name_in u.relations j;
      tuple = t;
      fits = every_in (tuples_fit (elements w) q.arity) h.0;
      is_row = e;
      fact = g;
      of_union = m;
      name = ap (λ (r : Row). r.name) e ∙ same_eq q.name g.name (and_left named valued b);
      values = ap (λ (r : Row). r.values) e ∙ same_values_eq (map (element_text w) t) g.elements (and_right named valued b);
    }

-- and each fact has its row
fact_row : (limits : Limits) (u : Facts) → Good limits u → (g : Fact) → In g u.facts → (r : Row) × In r (rows_of u) × (r.name ≡ g.name) × (r.values ≡ fact_values g)
unfolding rows_of relation_tuples fact_holds
fact_row limits u good g i =
    let w = as_accepted u in
    let (q, j, named, sized) = arities_in g.name (length g.elements) u.relations (every_in good.named.fitted i) in
    let (t, below, e) = fact_tuple w (good_sound limits u good) i in
    let size : length t ≡ q.arity = sym (length-map t (element_text w)) ∙ ap length e ∙ length-map g.elements (λ e. e.value) ∙ sym sized in
    let held : T (fact_holds w q.name t g) =
    and_both (same q.name g.name) (same_values (map (element_text w) t) g.elements)
    (subst (λ (x : Text). T (same q.name x)) named (same_refl q.name))
    (subst (λ (vs : List Text). T (same_values vs g.elements)) (sym e) (same_values_refl g.elements)) in
    let kept : In t (relation_tuples w q) =
    in_keep (λ t. some_of (fact_holds w q.name t) u.facts) (subst (λ (n : ℕ). In t (tuples (elements w) n)) size (in_tuples (elements w) below)) (in_some (fact_holds w q.name t) i held) in
    (tuple_row w q.name t, in_gather (relation_rows w) (in_by_name u.relations j) (in_map (tuple_row w q.name) kept), named, e)

pub rows_right : (limits : Limits) (u : Facts) → Good limits u → Every ValueFact u.facts → Every IsRow (rows_of u)
unfolding rows_of relation_tuples
rows_right limits u good vs =
    let w = as_accepted u in
    every_gather (relation_rows w)
    (all_in (by_name u.relations) (λ q i.
    let j = by_name_in u.relations i in
    all_rows w q.name q.arity (every_in good.named.named j) (small_in u.relations good.small j)
    (value_numbered u.universe (λ x m. in_value vs (subst T (good.universe.members x) m)))
    (every_keep (λ t. some_of (fact_holds w q.name t) u.facts) (tuples_fit (elements w) q.arity))))

rows_fit : (limits : Limits) (u : Facts) → Good limits u → {fs : List Fact} → Each Says (rows_of u) fs → Every (FitsIn u.relations u.universe) fs
rows_fit limits u good {fs} h = all_in fs fit
  where
    fit : (f : Fact) → In f fs → FitsIn u.relations u.universe f
    fit f i =
        let (r, j, s) = each_right h i in
        let g = row_given u r j in
        every_head
        (says_fits (as_accepted u) g.relation.name g.relation.arity (arity_in good.named.distinct g.of_relations) (g.tuple ∷ []) (every_one g.fits every_none)
        (each_one (subst (λ (r : Row). Says r f) g.is_row s) each_none))

-- "Reading the result gives the union of the two, relation by relation": facts of two lists that say the same.
abbrev pub Covers : List Fact → List Fact → Type 0
Covers fs gs = (f : Fact) → In f fs → (g : Fact) × In g gs × (f.name ≡ g.name) × (fact_values f ≡ fact_values g)

has_covered : (r : Text) (vs : List Text) (fs gs : List Fact) → Covers fs gs → T (has_fact r vs fs) → T (has_fact r vs gs)
unfolding has_fact
has_covered r vs fs gs c t =
    let (a, i, h) = some_in (says r vs) fs t in
    let (b, j, n, v) = c a i in
    let named = same r a.name in
    let valued = same_values vs a.elements in
    in_some (says r vs) j
    (and_both (same r b.name) (same_values vs b.elements) (subst (λ (x : Text). T (same r x)) n (and_left named valued h))
    (subst (λ (l : List Text). T (same_values l b.elements)) (sym (same_values_eq vs a.elements (and_right named valued h) ∙ v)) (same_values_refl b.elements)))

-- Facts that give the same tuples and quote the same elements.
pub record Alike (u v : Facts) : Type 0 where
  pub forth : Covers u.facts v.facts
  pub back : Covers v.facts u.facts
  pub quotes : (x : Text) → is_quoted (as_accepted u) x ≡ is_quoted (as_accepted v) x

pub alike_tuples : {u v : Facts} → Alike u v → (r : Text) (vs : List Text) → has_fact r vs u.facts ≡ has_fact r vs v.facts
alike_tuples {u} {v} a r vs =
    both_ways (has_fact r vs u.facts) (has_fact r vs v.facts) (has_covered r vs u.facts v.facts a.forth) (has_covered r vs v.facts u.facts a.back)

has_covers : (fs gs : List Fact) → ((r : Text) (vs : List Text) → has_fact r vs fs ≡ has_fact r vs gs) → Covers fs gs
unfolding has_fact
has_covers fs gs h f i =
    let test = says f.name (fact_values f) in
    let (g, j, t) = some_in test gs
    (subst T (h f.name (fact_values f)) (in_some test i (and_both (same f.name f.name) (same_values (fact_values f) f.elements) (same_refl f.name) (same_values_refl f.elements)))) in
    let named = same f.name g.name in
    let valued = same_values (fact_values f) g.elements in
    (g, j, same_eq f.name g.name (and_left named valued t), same_values_eq (fact_values f) g.elements (and_right named valued t))

pub tuples_alike : (u v : Facts) → ((r : Text) (vs : List Text) → has_fact r vs u.facts ≡ has_fact r vs v.facts) → ((x : Text) → is_quoted (as_accepted u) x ≡ is_quoted (as_accepted v) x) → Alike u v
tuples_alike u v h q = record { forth = has_covers u.facts v.facts h; back = has_covers v.facts u.facts (λ r vs. sym (h r vs)); quotes = q }

-- the rows' facts say what the union says
module _ (limits : Limits) (u : Facts) (good : Good limits u) {fs : List Fact} (says : Each Says (rows_of u) fs) where
  forth : Covers u.facts fs
  forth g i =
      let (r, j, n, v) = fact_row limits u good g i in
      let (f, k, s) = each_left says j in
      (f, k, sym n ∙ sym s.name, sym v ∙ sym s.values)

  back : Covers fs u.facts
  back f i =
      let (r, j, s) = each_right says i in
      let g = row_given u r j in
      (g.fact, g.of_union, s.name ∙ g.name, s.values ∙ g.values)

-- "an element in quotes if either text quoted it or Paper 3 requires it": what is read back is quoted where the union quotes it
record Written (w : Accepted) (e : Element) (a : ℕ) : Type 0 where
  value : e.value ≡ element_text w a
  quoted : e.quoted ≡ opens_quote (shown w a)

all_written : (w : Accepted) (es : List Element) (t : Tuple) → values es ≡ map (element_text w) t → quotes es ≡ map opens_quote (map (shown w) t) → Each (Written w) es t
all_written w [] [] d e = each_none
all_written w [] (a ∷ t) d e = let z : ◌≡◌ {A = ℕ} 0 1 = cc in absurd (omega arith)
all_written w (f ∷ es) [] d e = let z : ◌≡◌ {A = ℕ} 0 1 = cc in absurd (omega arith)
all_written w (f ∷ es) (a ∷ t) d e =
    let d₁ : f.value ≡ element_text w a = cc in
    let d₂ : values es ≡ map (element_text w) t = cc in
    let e₁ : f.quoted ≡ opens_quote (shown w a) = cc in
    let e₂ : quotes es ≡ map opens_quote (map (shown w) t) = cc in
    each_one (record { value = d₁; quoted = e₁ }) (all_written w es t d₂ e₂)

shown_opens : (w : Accepted) (a : ℕ) → IsValue (element_text w a) → opens_quote (shown w a) ≡ in_quotes w (element_text w a)
unfolding shown
shown_opens w a v = go (in_quotes w (element_text w a))
  where
    go : (b : Bool) → opens_quote (cond b (34 ∷ element_text w a ++ (34 ∷ [])) (element_text w a)) ≡ b
    go true = refl
    go false = no_opening (element_text w a) v.unquoted

-- some element of a fact is x, in quotes
abbrev quotes_it : Text → Fact → Bool
quotes_it x f = some_of (λ e. same x e.value && e.quoted) f.elements

module _ (limits : Limits) (u : Facts) (good : Good limits u) (vs : Every ValueFact u.facts) {fs : List Fact} (says : Each Says (rows_of u) fs) where
  -- the elements of a fact, by the tuple of its row
  fact_written : (f : Fact) (r : Row) → Says r f → (g : Given u r) → Each (Written (as_accepted u)) f.elements g.tuple
  fact_written f r s g =
      all_written (as_accepted u) f.elements g.tuple (s.values ∙ ap (λ (r : Row). r.values) g.is_row) (s.quotes ∙ ap (λ (r : Row). map opens_quote r.words) g.is_row)

  -- what a tuple's element is shown with
  opens : (r : Row) (g : Given u r) (a : ℕ) → In a g.tuple → opens_quote (shown (as_accepted u) a) ≡ is_quoted (as_accepted u) (get_or u.universe a [])
  unfolding in_facts has
  opens r g a i =
      let w = as_accepted u in
      let x = get_or u.universe a [] in
      let (e, j, d) = map_in (λ e. e.value) g.fact.elements (subst (In x) (sym (ap (λ (r : Row). r.values) g.is_row) ∙ g.values) (in_map (element_text w) i)) in
      let here_x : T (has x g.fact.elements) = in_some (λ e. same x e.value) j (subst (λ (y : Text). T (same x y)) d (same_refl x)) in
      let given : T (in_facts x u.facts) = in_some (λ f. has x f.elements) g.of_union here_x in
      shown_opens w a (in_value vs given) ∙ quotes_given w vs x given

  quotes_back : (x : Text) → T (some_of (quotes_it x) fs) → T (some_of (quotes_it x) u.facts)
  unfolding is_quoted
  quotes_back x t =
      let w = as_accepted u in
      let (f, i, k) = some_in (quotes_it x) fs t in
      let (e, j, q) = some_in (λ e. same x e.value && e.quoted) f.elements k in
      let (r, l, s) = each_right says i in
      let g = row_given u r l in
      let (a, m, h) = each_left (fact_written f r s g) j in
      let is_x : get_or u.universe a [] ≡ x = sym h.value ∙ sym (same_eq x e.value (and_left (same x e.value) e.quoted q)) in
      subst (λ (y : Text). T (is_quoted w y)) is_x (subst T (h.quoted ∙ opens r g a m) (and_right (same x e.value) e.quoted q))

  quotes_forth : (x : Text) → T (some_of (quotes_it x) u.facts) → T (some_of (quotes_it x) fs)
  unfolding is_quoted
  quotes_forth x t =
      let w = as_accepted u in
      let (g, i, k) = some_in (quotes_it x) u.facts t in
      let (e, j, q) = some_in (λ e. same x e.value && e.quoted) g.elements k in
      let (r, l, n, v) = fact_row limits u good g i in
      let (f, m, s) = each_left says l in
      let p = row_given u r l in
      let is_x : x ≡ e.value = same_eq x e.value (and_left (same x e.value) e.quoted q) in
      let (a, o, d) = map_in (element_text w) p.tuple (subst (In x) (sym v ∙ ap (λ (r : Row). r.values) p.is_row) (subst (λ (y : Text). In y (fact_values g)) (sym is_x) (in_map (λ e. e.value) j))) in
      let (c, y, h) = each_right (fact_written f r s p) o in
      let quoted : T c.quoted = subst T (sym (h.quoted ∙ opens r p a o)) (subst (λ (y : Text). T (is_quoted w y)) d t) in
      in_some (quotes_it x) m (in_some (λ e. same x e.value && e.quoted) y (and_both (same x c.value) c.quoted (subst (λ (y : Text). T (same x y)) (d ∙ sym h.value) (same_refl x)) quoted))

-- The union's text, of at most 32,768 bytes, is read as facts with the union's tuples and quotes.
pub union_reads : (limits : Limits) (u : Facts) → Good limits u → Every ValueFact u.facts → length (union_text u) ≤ FACT_BYTES → (h : Facts) × (read_facts limits (union_text u) ≡ ok h) × Alike h u
unfolding is_quoted
union_reads limits u good vs short =
    let e = union_rows u in
    let m = written_rows limits (rows_right limits u good vs) (subst (λ (t : Text). length t ≤ FACT_BYTES) e short) in
    let k = facts_taken limits u.relations u.universe good.few_relations good.few_elements (rows_fit limits u good m.1) in (
      k.0,
      ap (read_facts limits) e ∙ m.2 ∙ k.1,
      record {
        forth = subst (λ (l : List Fact). Covers l u.facts) k.2 (back limits u good m.1);
        back = subst (Covers u.facts) k.2 (forth limits u good m.1);
        quotes = λ x. ap (some_of (quotes_it x)) (sym k.2) ∙ both_ways (some_of (quotes_it x) m.0) (some_of (quotes_it x) u.facts) (quotes_back limits u good vs m.1 x) (quotes_forth limits u good vs m.1 x);
      },
    )

-- What a join that is not refused went through.
pub record JoinParts (limits : Limits) (first second : Text) (room : ℕ) (t : Text) : Type 0 where
  pub one : Facts
  pub union : Facts
  pub read_one : read_facts limits first ≡ ok one
  pub read_both : read_second limits (of_first one) second ≡ ok union
  pub both : Both limits first second union
  pub is : union_text union ≡ t
  pub short : length t ≤ FACT_BYTES
  pub enough : length t ≤ room

right_injective : {A : Type 0} {a b : A} → ◌≡◌ {A = Told A} (right a) (right b) → a ≡ b
right_injective e = cc

told_ok : {A B : Type 0} (n : ℕ) (m : Answer A) (f : A → Told B) (b : B) → of_text n m f ≡ right b → (a : A) × (m ≡ ok a) × (f a ≡ right b)
told_ok n (ok a) f b e = (a, refl, e)
told_ok n (refused r p) f b e = let z : ◌≡◌ {A = ℕ} 0 1 = cc in absurd (omega arith)

fits_room : (room : ℕ) (s t : Text) → within_room room s ≡ ok t → (s ≡ t) × (length s ≤ FACT_BYTES) × (length s ≤ room)
unfolding within_room
fits_room room s t e =
    let over = ltb FACT_BYTES (length s) || ltb room (length s) in
    let d = or_eq_false (ltb FACT_BYTES (length s)) (ltb room (length s)) (not_refused over 21 (length s) (was_ok (refuse_if over 21 (length s)) _ t e)) in
    (ok_injective (then_ok (refuse_if over 21 (length s)) _ t e), ltb-false FACT_BYTES (length s) d.0, ltb-false room (length s) d.1)

pub join_parts : (limits : Limits) (first second : Text) (room : ℕ) (t : Text) → join limits first second room ≡ right t → JoinParts limits first second room t
unfolding join
join_parts limits first second room t e =
    let (f, p, e₁) = told_ok 1 (read_facts limits first) _ t e in
    let (u, q, e₂) = told_ok 2 (read_second limits (of_first f) second) _ t e₁ in
    let (s, r, e₃) = told_ok 0 (within_room room (union_text u)) right t e₂ in
    let h = fits_room room (union_text u) s r in
    let d : union_text u ≡ t = h.0 ∙ right_injective e₃ in
    record { one = f; union = u; read_one = p; read_both = q; both = both_read limits first second f u p q; is = d; short = subst (λ (l : Text). length l ≤ FACT_BYTES) d h.1; enough = subst (λ (l : Text). length l ≤ room) d h.2 }

pub record IsUnion (limits : Limits) (first second t : Text) : Type 0 where
  pub one : Facts
  pub two : Facts
  pub union : Facts
  pub read_one : read_facts limits first ≡ ok one
  pub read_two : read_facts limits second ≡ ok two
  pub read_union : read_facts limits t ≡ ok union
  pub same_tuples : (r : Text) (vs : List Text) → has_fact r vs union.facts ≡ has_fact r vs one.facts || has_fact r vs two.facts
  pub same_quotes : (x : Text) → is_quoted (as_accepted union) x ≡ is_quoted (as_accepted one) x || is_quoted (as_accepted two) x

-- a test of the union's facts
some_both : (p : Fact → Bool) (f g u : Facts) → f.facts ++ g.facts ≡ u.facts → some_of p u.facts ≡ some_of p f.facts || some_of p g.facts
some_both p f g u e = ap (some_of p) (sym e) ∙ some_append p f.facts g.facts

-- elements of both texts are values, and one of them is written in quotes just where a fact quoted it
pub both_values : (limits : Limits) {first second : Text} {u : Facts} → Both limits first second u → Every ValueFact u.facts
both_values limits {first} {second} b = subst (Every ValueFact) b.facts (every_both (facts_values limits first b.one b.read_one) (facts_values limits second b.two b.read_two))

pub union_quotes : (limits : Limits) (first second : Text) (f u : Facts) → read_facts limits first ≡ ok f → read_second limits (of_first f) second ≡ ok u
    → (x : Text) → T (member x u.universe) → in_quotes (as_accepted u) x ≡ is_quoted (as_accepted u) x
union_quotes limits first second f u p q x m =
    let b = both_read limits first second f u p q in
    quotes_given (as_accepted u) (both_values limits b) x (subst T (b.good.universe.members x) m)

-- "Reading the result gives the union of the two, relation by relation": of every join that is not refused both texts are accepted by
-- themselves, the result is accepted, gives a relation a tuple where one of them does, and quotes an element where one of them does
pub joined_reads : (limits : Limits) (first second : Text) (room : ℕ) (t : Text) → join limits first second room ≡ right t → IsUnion limits first second t
unfolding has_fact is_quoted
joined_reads limits first second room t e =
    let p = join_parts limits first second room t e in
    let b = p.both in
    let k = union_reads limits p.union b.good (both_values limits b) (subst (λ (l : Text). length l ≤ FACT_BYTES) (sym p.is) p.short) in
    record {
      one = b.one;
      two = b.two;
      union = k.0;
      read_one = b.read_one;
      read_two = b.read_two;
      read_union = ap (read_facts limits) (sym p.is) ∙ k.1;
      same_tuples = λ r vs. alike_tuples k.2 r vs ∙ some_both (says r vs) b.one b.two p.union b.facts;
      same_quotes = λ x. k.2.quotes x ∙ some_both (quotes_it x) b.one b.two p.union b.facts;
    }

-- the facts of an accepted text
facts_of : (limits : Limits) (xs query : Text) (f : Facts) (w : Accepted) → read_facts limits xs ≡ ok f → accept limits xs query ≡ ok w → f.facts ≡ w.facts
facts_of limits xs query f w e a = let h = parts limits xs query w a in ap (λ (g : Facts). g.facts) (ok_injective (sym e ∙ h.read)) ∙ h.same_facts

-- and so do their tables, loaded beside any queries: a relation has a tuple of texts where it has it in one of the two
pub joined_loads : (limits : Limits) (first second : Text) (room : ℕ) (t : Text) → join limits first second room ≡ right t
    → (p q s : Text) (v w u : Accepted) → accept limits first p ≡ ok v → accept limits second q ≡ ok w → accept limits t s ≡ ok u
    → (r : Text) (vs : List Text) → In vs (tuples_of u (loaded u) r) ↔ (In vs (tuples_of v (loaded v) r) ⊎ In vs (tuples_of w (loaded w) r))
joined_loads limits first second room t e p q s v w u a b c r vs = (λ i. apart_again (or_cases (has_fact r vs v.facts) (has_fact r vs w.facts) (subst T same_tuples (loaded_says limits t s u c r vs i))), together)
  where
    same_tuples : has_fact r vs u.facts ≡ has_fact r vs v.facts || has_fact r vs w.facts
    same_tuples =
        let k = joined_reads limits first second room t e in
        ap (has_fact r vs) (sym (facts_of limits t s k.union u k.read_union c)) ∙ k.same_tuples r vs
        ∙ ap₂ (λ (fs gs : List Fact). has_fact r vs fs || has_fact r vs gs) (facts_of limits first p k.one v k.read_one a) (facts_of limits second q k.two w k.read_two b)

    apart_again : T (has_fact r vs v.facts) ⊎ T (has_fact r vs w.facts) → In vs (tuples_of v (loaded v) r) ⊎ In vs (tuples_of w (loaded w) r)
    apart_again (inl h) = inl (says_loaded limits first p v a r vs h)
    apart_again (inr h) = inr (says_loaded limits second q w b r vs h)

    together : In vs (tuples_of v (loaded v) r) ⊎ In vs (tuples_of w (loaded w) r) → In vs (tuples_of u (loaded u) r)
    together (inl i) = says_loaded limits t s u c r vs (subst T (sym same_tuples) (or_left (has_fact r vs v.facts) (has_fact r vs w.facts) (loaded_says limits first p v a r vs i)))
    together (inr i) = says_loaded limits t s u c r vs (subst T (sym same_tuples) (or_right (has_fact r vs v.facts) (has_fact r vs w.facts) (loaded_says limits second q w b r vs i)))
