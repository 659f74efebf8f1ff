-- The text of a union depends on its tuples and on which elements are quoted alone. So joining is commutative and associative, byte for
-- byte, a text joined with itself gives its own facts, and what is written stays as it is when it is joined again.
use mathlib.Core.Path.{◌≡◌, refl, sym, ap, ap₂, fun_ext, subst, ◌∙◌}
use mathlib.Core.Logic.{◌⊎◌, inl, inr}
use mathlib.Core.Bool.{Bool, ◌&&◌, ◌||◌, or_comm, or_assoc, or_self}
use mathlib.Core.List.{List, [], ◌∷◌, ◌++◌, map}
use Prim.Native.Nat.{ℕ, ◌≤◌}
use native.Mathlib.Omega.{arith}
use lib.Dec.{T, eqb, eqb→eq, eqb_refl}
use lib.ListN.{length, get_or, length-map}
use borrow.Author.Tests.{le-ltb}
use Rattle.definition.specs.Text.{Text, same, member, some_of, gather}
use Rattle.definition.specs.Limits.{Limits, FACT_BYTES}
use Rattle.definition.specs.Answer.{ok}
use Rattle.definition.specs.Facts.{Element, Fact, Relation, Facts, Ascending, arities, read_facts}
use Rattle.definition.specs.Tables.{Tuple}
use Rattle.definition.specs.Assignment.{same_values, fact_holds}
use Rattle.definition.specs.Print.{is_quoted, in_quotes, shown}
use Rattle.definition.specs.Join.{of_first, as_accepted, by_name, relation_tuples, relation_lines, union_text, read_second, right, of_text, within_room, join}
use Rattle.definition.proofs.BoolLaws.{or_cases, or_right, and_left, and_right, and_both, both_ways}
use Rattle.definition.proofs.ListLaws.{some_append, Each, each_none, each_one, Every, every_left, every_right}
use Rattle.definition.proofs.InLaws.{In, here, there, in_some, some_in, every_in, all_in}
use Rattle.definition.proofs.MeaningLaws.{same_eq, same_refl, member_first}
use Rattle.definition.proofs.DistinctLaws.{Within, behind}
use Rattle.definition.proofs.UniverseLaws.{earlier_trans, earlier_not_same}
use Rattle.definition.proofs.AcceptLaws.{ok_injective, has, in_facts}
use Rattle.definition.proofs.NamedLaws.{names}
use Rattle.definition.proofs.LoadLaws.{values, same_values_eq, same_values_refl, says, has_fact}
use Rattle.definition.proofs.WrittenLaws.{fact_values}
use Rattle.definition.proofs.TakenLaws.{FitsIn, Inside, taken_from}
use Rattle.definition.proofs.JoinReading.{Good, facts_good, first_good, good_fits, alone_read, reads_second, gives_take, facts_given, union_good, both_read, union_of}
use Rattle.definition.proofs.JoinLaws.{names_ascend, by_name_in, name_in, arity_in, Covers, Alike, tuples_alike, union_reads, both_values, join_parts, joined_reads}

-- Two sets of texts in byte order that hold the same texts are equal.
first_least : (u v : Text) (us vs : List Text) → Ascending (u ∷ us) → Ascending (v ∷ vs) → T (member u (v ∷ vs)) → T (member v (u ∷ us)) → u ≡ v
unfolding member some_of
first_least u v us vs a b m n = go (or_cases (same u v) (member u vs) m) (or_cases (same v u) (member v us) n)
  where
    go : T (same u v) ⊎ T (member u vs) → T (same v u) ⊎ T (member v us) → u ≡ v
    go (inl s) k = same_eq u v s
    go (inr s) (inl t) = sym (same_eq v u t)
    go (inr s) (inr t) = absurd (earlier_not_same u u (earlier_trans u v u (behind u us a v t) (behind v vs b u s)) (same_refl u))

rest_within : (u : Text) (us vs : List Text) → Ascending (u ∷ us) → Within (u ∷ us) (u ∷ vs) → Within us vs
unfolding member some_of
rest_within u us vs a h x m = go (or_cases (same x u) (member x vs) (h x (or_right (same x u) (member x us) m)))
  where
    go : T (same x u) ⊎ T (member x vs) → T (member x vs)
    go (inl s) = absurd (earlier_not_same u x (behind u us a x m) (subst (λ (y : Text). T (same y x)) (same_eq x u s) (same_refl x)))
    go (inr n) = n

ascending_same : (us vs : List Text) → Ascending us → Ascending vs → Within us vs → Within vs us → us ≡ vs
unfolding member some_of
ascending_same [] [] a b h k = refl
ascending_same [] (v ∷ vs) a b h k = absurd (k v (member_first v vs))
ascending_same (u ∷ us) [] a b h k = absurd (h u (member_first u us))
ascending_same (u ∷ us) (v ∷ vs) a b h k =
    let e = first_least u v us vs a b (h u (member_first u us)) (k v (member_first v vs)) in
    let h' = rest_within u us vs a (subst (λ (x : Text). Within (u ∷ us) (x ∷ vs)) (sym e) h) in
    let k' = rest_within v vs us b (subst (λ (x : Text). Within (v ∷ vs) (x ∷ us)) e k) in
    ap₂ ◌∷◌ e (ascending_same us vs a.1 b.1 h' k')

-- Tests of facts by their names and values, and of all facts by any test.
abbrev ByValues : (Fact → Bool) → Type 0
ByValues p = (f g : Fact) → f.name ≡ g.name → fact_values f ≡ fact_values g → T (p f) → T (p g)

some_alike : (p : Fact → Bool) → ByValues p → {u v : Facts} → Alike u v → some_of p u.facts ≡ some_of p v.facts
some_alike p r {u} {v} a = both_ways (some_of p u.facts) (some_of p v.facts) (covered u.facts v.facts a.forth) (covered v.facts u.facts a.back)
  where
    covered : (fs gs : List Fact) → Covers fs gs → T (some_of p fs) → T (some_of p gs)
    covered fs gs c t =
        let (f, i, k) = some_in p fs t in
        let (g, j, n, v) = c f i in
        in_some p j (r f g n v k)

has_values : (x : Text) (es : List Element) → has x es ≡ member x (values es)
unfolding has member some_of
has_values x [] = refl
has_values x (e ∷ es) = ap (λ (b : Bool). same x e.value || b) (has_values x es)

size_values : (f g : Fact) → fact_values f ≡ fact_values g → length f.elements ≡ length g.elements
size_values f g e = sym (length-map f.elements (λ e. e.value)) ∙ ap length e ∙ length-map g.elements (λ e. e.value)

by_has : (x : Text) → ByValues (λ f. has x f.elements)
by_has x f g n v t = subst T (has_values x f.elements ∙ ap (member x) v ∙ sym (has_values x g.elements)) t

by_named : (x : Text) → ByValues (λ f. same x f.name)
by_named x f g n v t = subst (λ (y : Text). T (same x y)) n t

by_arity : (x : Text) (n : ℕ) → ByValues (λ f. same x f.name && eqb (length f.elements) n)
by_arity x m f g n v t = subst (λ (y : Text). T (same x y && eqb (length g.elements) m)) n (subst (λ (k : ℕ). T (same x f.name && eqb k m)) (size_values f g v) t)

by_tuple : (x : Text) (vs : List Text) → ByValues (λ f. same x f.name && same_values vs f.elements)
by_tuple x vs f g n v t =
    let named = same x f.name in
    let valued = same_values vs f.elements in
    and_both (same x g.name) (same_values vs g.elements) (subst (λ (y : Text). T (same x y)) n (and_left named valued t))
    (subst (λ (l : List Text). T (same_values l g.elements)) (sym (same_values_eq vs f.elements (and_right named valued t) ∙ v)) (same_values_refl g.elements))

-- facts that no test tells apart
untold_alike : (u v : Facts) → ((p : Fact → Bool) → some_of p u.facts ≡ some_of p v.facts) → Alike u v
unfolding has_fact is_quoted
untold_alike u v h = tuples_alike u v (λ r vs. h (says r vs)) (λ x. h (λ f. some_of (λ e. same x e.value && e.quoted) f.elements))

-- some fact of a relation's name has as many elements as it
abbrev of_arity : Text → ℕ → Fact → Bool
of_arity x n g = same x g.name && eqb (length g.elements) n

module _ (limits : Limits) where
  first_arity : {m n : ℕ} → ◌≡◌ {A = List ℕ} (m ∷ []) (n ∷ []) → m ≡ n
  first_arity e = cc

  arity_used : (u : Facts) → Good limits u → {q : Relation} → In q u.relations → T (some_of (of_arity q.name q.arity) u.facts)
  arity_used u g {q} i =
      let (f, j, s) = some_in (λ f. same q.name f.name) u.facts (subst T (g.used q.name) (name_in i)) in
      let e : length f.elements ≡ q.arity =
      first_arity (sym (every_in g.named.fitted j) ∙ ap (λ (x : Text). arities x u.relations) (sym (same_eq q.name f.name s)) ∙ arity_in g.named.distinct i) in
      in_some (of_arity q.name q.arity) j (and_both (same q.name f.name) (eqb (length f.elements) q.arity) s (subst (λ (n : ℕ). T (eqb (length f.elements) n)) e (eqb_refl (length f.elements))))

  used_arity : (u : Facts) → Good limits u → (x : Text) (n : ℕ) → T (some_of (of_arity x n) u.facts) → arities x u.relations ≡ n ∷ []
  used_arity u g x n t =
      let (f, j, s) = some_in (of_arity x n) u.facts t in
      let named = same x f.name in
      let sized = eqb (length f.elements) n in
      ap (λ (y : Text). arities y u.relations) (same_eq x f.name (and_left named sized s)) ∙ every_in g.named.fitted j ∙ ap (λ (m : ℕ). m ∷ []) (eqb→eq (length f.elements) n (and_right named sized s))

  record SameShape (q r : Relation) : Type 0 where
    name : q.name ≡ r.name
    arity : q.arity ≡ r.arity

  module _ (u v : Facts) (g : Good limits u) (h : Good limits v) (alike : Alike u v) where
    same_universe : u.universe ≡ v.universe
    unfolding in_facts
    same_universe =
        ascending_same u.universe v.universe g.universe.ascending h.universe.ascending (λ x m. subst T (members x) m) (λ x m. subst T (sym (members x)) m)
      where
        members : (x : Text) → member x u.universe ≡ member x v.universe
        members x = g.universe.members x ∙ some_alike (λ f. has x f.elements) (by_has x) alike ∙ sym (h.universe.members x)

    same_names : names (by_name u.relations) ≡ names (by_name v.relations)
    same_names =
        let a = names_ascend g.named.distinct in
        let b = names_ascend h.named.distinct in
        let members : (x : Text) → member x (names (by_name u.relations)) ≡ member x (names (by_name v.relations)) =
        λ x. a.same_names x ∙ g.used x ∙ some_alike (λ f. same x f.name) (by_named x) alike ∙ sym (h.used x) ∙ sym (b.same_names x) in
        ascending_same (names (by_name u.relations)) (names (by_name v.relations)) a.ascending b.ascending (λ x m. subst T (members x) m) (λ x m. subst T (sym (members x)) m)

    shaped : (q r : Relation) → In q u.relations → In r v.relations → q.name ≡ r.name → SameShape q r
    shaped q r i j e =
        let k = used_arity v h q.name q.arity (subst T (some_alike (of_arity q.name q.arity) (by_arity q.name q.arity) alike) (arity_used u g i)) in
        record { name = e; arity = first_arity (sym k ∙ ap (λ (x : Text). arities x v.relations) e ∙ arity_in h.named.distinct j) }

    all_shaped : (qs rs : List Relation) → ((q : Relation) → In q qs → In q u.relations) → ((r : Relation) → In r rs → In r v.relations) → names qs ≡ names rs → Each SameShape qs rs
    all_shaped [] [] a b e = each_none
    all_shaped [] (r ∷ rs) a b e = let z : ◌≡◌ {A = ℕ} 0 1 = cc in absurd (omega arith)
    all_shaped (q ∷ qs) [] a b e = let z : ◌≡◌ {A = ℕ} 0 1 = cc in absurd (omega arith)
    all_shaped (q ∷ qs) (r ∷ rs) a b e =
        let e₁ : q.name ≡ r.name = cc in
        let e₂ : names qs ≡ names rs = cc in
        each_one (shaped q r (a q (here refl)) (b r (here refl)) e₁) (all_shaped qs rs (λ q i. a q (there i)) (λ r i. b r (there i)) e₂)

    same_shown : (a : ℕ) → shown (as_accepted u) a ≡ shown (as_accepted v) a
    unfolding shown in_quotes
    same_shown a = rw (alike.quotes (get_or u.universe a []), same_universe)

    same_held : (x y : Text) → x ≡ y → (t : Tuple) → some_of (fact_holds (as_accepted u) x t) u.facts ≡ some_of (fact_holds (as_accepted v) y t) v.facts
    unfolding fact_holds
    same_held x y e t =
        let vs = map (λ a. get_or u.universe a []) t in
        some_alike (λ f. same x f.name && same_values vs f.elements) (by_tuple x vs) alike ∙ rw (e, same_universe)

    same_lines : (q r : Relation) → SameShape q r → relation_lines (as_accepted u) q ≡ relation_lines (as_accepted v) r
    unfolding relation_lines relation_tuples
    same_lines q r s =
        let held : ◌≡◌ {A = Tuple → Bool} (λ t. some_of (fact_holds (as_accepted u) q.name t) u.facts) (λ t. some_of (fact_holds (as_accepted v) r.name t) v.facts) = fun_ext (same_held q.name r.name s.name) in
        let all : shown (as_accepted u) ≡ shown (as_accepted v) = fun_ext same_shown in
        rw (held, all, s.name, s.arity, same_universe)

    -- the text of a union depends on its tuples and on which elements are quoted alone
    pub same_union : union_text u ≡ union_text v
    unfolding union_text gather
    same_union = each_gather (all_shaped (by_name u.relations) (by_name v.relations) (λ q i. by_name_in u.relations i) (λ r i. by_name_in v.relations i) same_names)
      where
        each_gather : {qs rs : List Relation} → Each SameShape qs rs → gather (relation_lines (as_accepted u)) qs ≡ gather (relation_lines (as_accepted v)) rs
        each_gather each_none = refl
        each_gather (each_one {a = q} {b = r} s ss) = ap₂ ◌++◌ (same_lines q r s) (each_gather ss)

-- What fits is read after the first text: rows 20 and 5 to 7 are not met.
module _ (limits : Limits) where
  module _ (qs : List Relation) (vs : List Text) (few_relations : length qs ≤ limits.relations) (few_elements : length vs ≤ limits.elements) where
    -- what was read fits where its facts do
    inside : (s : Facts) → Good limits s → Every (FitsIn qs vs) s.facts → Inside limits qs vs few_relations few_elements s
    unfolding in_facts has
    inside s g fits = record { relations = all_in s.relations matches; distinct = g.named.distinct; ascending = g.universe.ascending; within = λ x m. within x (subst T (g.universe.members x) m) }
      where
        matches : (q : Relation) → In q s.relations → arities q.name qs ≡ q.arity ∷ []
        matches q i =
            let (f, j, t) = some_in (of_arity q.name q.arity) s.facts (arity_used limits s g i) in
            let named = same q.name f.name in
            let sized = eqb (length f.elements) q.arity in
            ap (λ (y : Text). arities y qs) (same_eq q.name f.name (and_left named sized t)) ∙ (every_in fits j).relation ∙ ap (λ (m : ℕ). m ∷ []) (eqb→eq (length f.elements) q.arity (and_right named sized t))

        within : (x : Text) → T (in_facts x s.facts) → T (member x vs)
        within x t =
            let (f, i, h) = some_in (λ f. has x f.elements) s.facts t in
            let (e, j, d) = some_in (λ e. same x e.value) f.elements h in
            subst (λ (y : Text). T (member y vs)) (sym (same_eq x e.value d)) (every_in (every_in fits i).elements j)

    -- Two texts that are read by themselves, and whose facts fit some relations, each with its one arity, and some elements, within the
    -- limits, are read one after the other: only row 21 may refuse the join.
    pub join_accepts : (first second : Text) (f g : Facts) → read_facts limits first ≡ ok f → read_facts limits second ≡ ok g → Every (FitsIn qs vs) f.facts → Every (FitsIn qs vs) g.facts
        → (u : Facts) × (read_second limits (of_first f) second ≡ ok u)
    join_accepts first second f g p q fits more =
        let k = taken_from limits qs vs few_relations few_elements more (of_first f) (inside (of_first f) (first_good limits f (facts_good limits first f p)) fits) in
        let r = alone_read limits second g q in
        (k.0, reads_second limits (of_first f) second k.0 (record { short = r.short; legal = r.legal; lines = gives_take limits (facts_given limits second g q) (of_first f) ∙ k.1 }))

  -- the answer where neither text is refused: the union's text, or row 21
  pub join_reads : (first second : Text) (room : ℕ) (f u : Facts) → read_facts limits first ≡ ok f → read_second limits (of_first f) second ≡ ok u
      → join limits first second room ≡ of_text 0 (within_room room (union_text u)) right
  unfolding join
  join_reads first second room f u p q = rw (p, q)

  room_enough : (room : ℕ) (t : Text) → length t ≤ FACT_BYTES → length t ≤ room → of_text {A = Text} {B = Text} 0 (within_room room t) right ≡ right t
  unfolding within_room
  room_enough room t short enough = rw (le-ltb FACT_BYTES (length t) short, le-ltb room (length t) enough)

  -- joining is commutative: where neither text is refused, the other way round the answer is the same, row 21 with its length included
  pub join_swaps : (first second : Text) (room : ℕ) (f u : Facts) → read_facts limits first ≡ ok f → read_second limits (of_first f) second ≡ ok u → join limits second first room ≡ join limits first second room
  join_swaps first second room f u p q =
      let b = both_read limits first second f u p q in
      let all : Every (FitsIn u.relations u.universe) (b.one.facts ++ b.two.facts) = subst (Every (FitsIn u.relations u.universe)) (sym b.facts) (good_fits limits u b.good) in
      let (v, d) = join_accepts u.relations u.universe b.good.few_relations b.good.few_elements second first b.two b.one b.read_two b.read_one (every_right b.one.facts all) (every_left b.one.facts b.two.facts all) in
      let c = both_read limits second first b.two v b.read_two d in
      let swapped : b.two.facts ++ b.one.facts ≡ v.facts = sym (union_of limits second first b.two v b.read_two d b.one b.read_one) in
      let alike : Alike v u =
      untold_alike v u (λ p. ap (some_of p) (sym swapped) ∙ some_append p b.two.facts b.one.facts ∙ or_comm (some_of p b.two.facts) (some_of p b.one.facts) ∙ sym (some_append p b.one.facts b.two.facts) ∙ ap (some_of p) b.facts) in
      join_reads second first room b.two v b.read_two d ∙ ap (λ (t : Text). of_text 0 (within_room room t) right) (same_union limits v u c.good b.good alike) ∙ sym (join_reads first second room f u p q)

  pub join_commutes : (first second : Text) (room : ℕ) (t : Text) → join limits first second room ≡ right t → join limits second first room ≡ right t
  join_commutes first second room t e = let p = join_parts limits first second room t e in join_swaps first second room p.one p.union p.read_one p.read_both ∙ e

  -- a text that is read, joined with itself, gives the text of its own facts, or row 21
  pub join_itself : (xs : Text) (room : ℕ) (f : Facts) → read_facts limits xs ≡ ok f → join limits xs xs room ≡ of_text 0 (within_room room (union_text f)) right
  join_itself xs room f e =
      let g = facts_good limits xs f e in
      let fits = good_fits limits f g in
      let (v, d) = join_accepts f.relations f.universe g.few_relations g.few_elements xs xs f f e e fits fits in
      let twice : f.facts ++ f.facts ≡ v.facts = sym (union_of limits xs xs f v e d f e) in
      let alike : Alike v f = untold_alike v f (λ p. ap (some_of p) (sym twice) ∙ some_append p f.facts f.facts ∙ or_self (some_of p f.facts)) in
      join_reads xs xs room f v e d ∙ ap (λ (t : Text). of_text 0 (within_room room t) right) (same_union limits v f (union_good limits xs xs f v e d) g alike)

  -- and what is written then has the tuples of the text
  pub joined_itself : (xs : Text) (room : ℕ) (t : Text) → join limits xs xs room ≡ right t
      → (f : Facts) × (h : Facts) × (read_facts limits xs ≡ ok f) × (read_facts limits t ≡ ok h) × ((r : Text) (vs : List Text) → has_fact r vs h.facts ≡ has_fact r vs f.facts)
  joined_itself xs room t e =
      let k = joined_reads limits xs xs room t e in
      let one : k.two ≡ k.one = ok_injective (sym k.read_two ∙ k.read_one) in
      (k.one, k.union, k.read_one, k.read_union, λ r vs. k.same_tuples r vs ∙ ap (λ (f : Facts). has_fact r vs k.one.facts || has_fact r vs f.facts) one ∙ or_self (has_fact r vs k.one.facts))

  -- the facts that a written text is read as are written as that text
  pub canonical : (first second : Text) (room : ℕ) (t : Text) → join limits first second room ≡ right t → (h : Facts) → read_facts limits t ≡ ok h → union_text h ≡ t
  canonical first second room t e h q =
      let p = join_parts limits first second room t e in
      let k = union_reads limits p.union p.both.good (both_values limits p.both) (subst (λ (l : Text). length l ≤ FACT_BYTES) (sym p.is) p.short) in
      let same_facts : k.0 ≡ h = ok_injective (sym k.1 ∙ ap (read_facts limits) p.is ∙ q) in
      same_union limits h p.union (facts_good limits t h q) p.both.good (subst (λ (g : Facts). Alike g p.union) same_facts k.2) ∙ p.is

  -- joined with itself it stays as it is
  pub join_again : (first second : Text) (room : ℕ) (t : Text) → join limits first second room ≡ right t → join limits t t room ≡ right t
  join_again first second room t e =
      let p = join_parts limits first second room t e in
      let k = joined_reads limits first second room t e in
      let c = canonical first second room t e k.union k.read_union in
      join_itself t room k.union k.read_union ∙ ap (λ (l : Text). of_text 0 (within_room room l) right) c ∙ room_enough room t p.short p.enough

  -- what is written is settled by the tuples and by which elements are quoted: where two joins are read alike, they are the same text
  pub same_text : (a b c d : Text) (m n : ℕ) (s t : Text) → join limits a b m ≡ right s → join limits c d n ≡ right t → (g h : Facts) → read_facts limits s ≡ ok g → read_facts limits t ≡ ok h
      → ((r : Text) (vs : List Text) → has_fact r vs g.facts ≡ has_fact r vs h.facts) → ((x : Text) → is_quoted (as_accepted g) x ≡ is_quoted (as_accepted h) x) → s ≡ t
  same_text a b c d m n s t e e' g h p q tuples quotes =
      sym (canonical a b m s e g p) ∙ same_union limits g h (facts_good limits s g p) (facts_good limits t h q) (tuples_alike g h tuples quotes) ∙ canonical c d n t e' h q

  -- three texts, joined from the left or from the right, give the same text
  pub join_associates : (a b c s t x y : Text) (k l m n : ℕ) → join limits a b k ≡ right s → join limits s c l ≡ right x → join limits b c m ≡ right t → join limits a t n ≡ right y → x ≡ y
  join_associates a b c s t x y k l m n e₁ e₂ e₃ e₄ =
      let p = joined_reads limits a b k s e₁ in
      let q = joined_reads limits s c l x e₂ in
      let u = joined_reads limits b c m t e₃ in
      let v = joined_reads limits a t n y e₄ in
      let ab : q.one ≡ p.union = ok_injective (sym q.read_one ∙ p.read_union) in
      let bc : v.two ≡ u.union = ok_injective (sym v.read_two ∙ u.read_union) in
      let first : v.one ≡ p.one = ok_injective (sym v.read_one ∙ p.read_one) in
      let second : u.one ≡ p.two = ok_injective (sym u.read_one ∙ p.read_two) in
      let third : u.two ≡ q.two = ok_injective (sym u.read_two ∙ q.read_two) in
      let both : (F : Facts → Bool) → F p.union ≡ F p.one || F p.two → F q.union ≡ F q.one || F q.two → F u.union ≡ F u.one || F u.two → F v.union ≡ F v.one || F v.two → F q.union ≡ F v.union =
      λ F f₁ f₂ f₃ f₄.
      f₂ ∙ ap (λ (z : Facts). F z || F q.two) ab ∙ ap (λ (z : Bool). z || F q.two) f₁ ∙ or_assoc (F p.one) (F p.two) (F q.two)
      ∙ ap₂ (λ (z w : Facts). F p.one || (F z || F w)) (sym second) (sym third) ∙ ap (λ (z : Bool). F p.one || z) (sym f₃)
      ∙ ap₂ (λ (z w : Facts). F z || F w) (sym first) (sym bc) ∙ sym f₄ in
      same_text s c a t l n x y e₂ e₄ q.union v.union q.read_union v.read_union
      (λ r vs. both (λ f. has_fact r vs f.facts) (p.same_tuples r vs) (q.same_tuples r vs) (u.same_tuples r vs) (v.same_tuples r vs))
      (λ z. both (λ f. is_quoted (as_accepted f) z) (p.same_quotes z) (q.same_quotes z) (u.same_quotes z) (v.same_quotes z))
