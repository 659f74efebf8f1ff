-- A relation printed with its own name in front, on a page of at most 32,768 bytes, and read back as facts has the same tuples of texts.
use mathlib.Core.Path.{◌≡◌, refl, sym, ap, ap₂, subst, ◌∙◌}
use mathlib.Core.Bool.{Bool, true, false, ◌||◌, not, cond, or-false}
use mathlib.Core.List.{List, [], ◌∷◌, ◌++◌, map}
use Prim.Native.Nat.{ℕ, suc, ◌≤◌, ◌<◌}
use native.Mathlib.Omega.{arith}
use lib.Dec.{T}
use lib.ListN.{length, get_or, length-map}
use Rattle.definition.specs.Text.{Text, ascii, same, member, some_of, all_of, starts, keep, gather, is_name, needs_quotes}
use Rattle.definition.specs.Limits.{Limits, FACT_BYTES, ARITY}
use Rattle.definition.specs.Token.{Token}
use Rattle.definition.specs.Syntax.{Term, name, atom, Item, rows, line_end, print, end}
use Rattle.definition.specs.Answer.{ok}
use Rattle.definition.specs.Facts.{Element, Fact, Relation, Facts, cut, lines, fact_lines, without_return, arities, legal_bytes, read_lines, read_facts}
use Rattle.definition.specs.Names.{join, attributes, free, fact_kinds}
use Rattle.definition.specs.Tables.{Tuple, holds, tuples}
use Rattle.definition.specs.Accept.{Accepted, accept, elements}
use Rattle.definition.specs.Meaning.{Tables, Environment, bind, bind_all, table_of, choices, readings, mean, answers}
use Rattle.definition.specs.Assignment.{same_values, element_text, loaded}
use Rattle.definition.specs.Print.{fact_line, in_quotes, is_quoted, shown, bare, item_text}
use Rattle.definition.specs.Run.{point}
use Rattle.definition.specs.Everything.{everything}
use Rattle.definition.proofs.BoolLaws.{and_right, and_both, or_eq_false}
use Rattle.definition.proofs.ListLaws.{Each, each_none, each_one, Every, every_none, every_one, every_head, every_tail, every_keep, every_weaken, every_map, keep_same, keep_all, gather_map}
use Rattle.definition.proofs.MeaningLaws.{same_refl, same_sym, same_equal, same_itself}
use Rattle.definition.proofs.AcceptLaws.{ok_injective, no_facts, parts, all_accepted}
use Rattle.definition.proofs.DistinctLaws.{Distinct, distinct_head, distinct_tail, absent}
use Rattle.definition.proofs.UniverseSize.{universe_few}
use Rattle.definition.proofs.RelationCount.{few_relations}
use Rattle.definition.proofs.ArityLaws.{small_arities}
use Rattle.definition.proofs.RunLaws.{point_shaped}
use Rattle.definition.proofs.RelationLaws.{no_relation}
use Rattle.definition.proofs.ElementLaws.{member_at}
use Rattle.definition.proofs.LoadLaws.{Fits, tuples_fit, tuples_of, texts_named, values, same_values_eq, same_values_refl, says, has_fact, loaded_says, says_loaded}
use Rattle.definition.proofs.InLaws.{In, in_some, some_in, every_in, in_map, map_in}
use Rattle.definition.proofs.WrittenLaws.{Writes, IsValue, fact_values, Row, IsRow, rows_text, Says, written_rows}
use Rattle.definition.proofs.TakenLaws.{FitsIn, facts_taken}
use Rattle.definition.proofs.WrittenLaws
use Rattle.definition.proofs.NamedLaws.{accepted_named}
use Rattle.definition.proofs.ValueLaws.{element_value}

-- "a relation printed with its own name in front": the item `["R"] R(x,..)`, with different attributes, one for each column
abbrev pub texts : List Token → List Text
texts xs = map (λ x. x.text) xs

abbrev pub NoLoopVariables : (Text → Bool) → List Token → Type 0
NoLoopVariables vs xs = Every (λ x. vs x.text ≡ false) xs

abbrev pub own_print : Term → Token → List Token → Item
own_print s r xs = rows (s ∷ []) (atom r (map name xs))

pub record OwnPrint (w : Accepted) (env : Environment) (s : Term) (r : Token) (xs : List Token) : Type 0 where
  -- a string or a loop variable that is printed as the name
  pub label : bare w env s ≡ r.text
  pub columns : arities r.text w.relations ≡ length xs ∷ []
  pub distinct : Distinct (texts xs)
  pub attributes : NoLoopVariables w.variables xs

pub own_attributes : (vs : Text → Bool) (xs : List Token) → Distinct (texts xs) → NoLoopVariables vs xs → attributes vs (map name xs) ≡ texts xs
unfolding attributes join member some_of
own_attributes vs [] d h = refl
own_attributes vs (x ∷ xs) d h =
    rw (every_head h, own_attributes vs xs (distinct_tail d) (every_tail h))
    (ap (λ (l : List Text). x.text ∷ l) (keep_all (λ y. not (member y (x.text ∷ []))) (every_weaken (λ y e. other y e) (absent x.text (texts xs) (distinct_head d)))))
  where
    other : (y : Text) → same x.text y ≡ false → not (member y (x.text ∷ [])) ≡ true
    other y e = rw (same_sym y x.text, e)

-- what the attributes stand for, where they are given a tuple
bind_others : (x : Text) (a : ℕ) (env : Environment) {ys : List Text} → Every (λ y. same x y ≡ false) ys → map (bind x a env) ys ≡ map env ys
unfolding bind
bind_others x a env every_none = refl
bind_others x a env (every_one h hs) = ap₂ ◌∷◌ (rw h) (bind_others x a env hs)

pub bound : (ys : List Text) (t : Tuple) (env : Environment) → Distinct ys → length t ≡ length ys → map (bind_all ys t env) ys ≡ t
unfolding bind_all bind
bound [] [] env d e = refl
bound [] (a ∷ t) env d e = absurd (omega arith)
bound (y ∷ ys) [] env d e = absurd (omega arith)
bound (y ∷ ys) (a ∷ t) env d e =
    ap₂ ◌∷◌ (rw (same_itself y)) (bind_others y a (bind_all ys t env) (absent y ys (distinct_head d)) ∙ bound ys t env (distinct_tail d) (omega arith))

module _ (w : Accepted) where
  pub own_readings : (env : Environment) (xs : List Token) → readings w env (map name xs) ≡ map env (texts xs) ∷ []
  unfolding readings choices gather
  own_readings env [] = refl
  own_readings env (x ∷ xs) = rw (own_readings env xs)

  pub own_mean : (ts : Tables) (env : Environment) (r : Token) (xs : List Token) (t : Tuple) → Distinct (texts xs) → length t ≡ length xs
      → mean w ts (bind_all (texts xs) t env) (atom r (map name xs)) ≡ holds (elements w) (table_of r.text w.relations ts) t
  unfolding mean some_of
  own_mean ts env r xs t d e =
      rw (own_readings (bind_all (texts xs) t env) xs, bound (texts xs) t env d (e ∙ sym (length-map xs (λ x. x.text)))) (or-false (holds (elements w) (table_of r.text w.relations ts) t))

  -- the item's tuples are those of the relation
  pub own_answers : (ts : Tables) (env : Environment) (r : Token) (xs : List Token) → Distinct (texts xs) → NoLoopVariables w.variables xs
      → answers w ts env (atom r (map name xs)) ≡ keep (holds (elements w) (table_of r.text w.relations ts)) (tuples (elements w) (length xs))
  unfolding answers free
  own_answers ts env r xs d v =
      rw (own_attributes w.variables xs d v, length-map xs (λ x. x.text))
      (keep_same _ _ (every_weaken (λ t f. own_mean ts env r xs t d f.size) (tuples_fit (elements w) (length xs))))

-- The page: a row for each tuple.
shown_writes : (w : Accepted) (a : ℕ) → IsValue (element_text w a) → Writes (element_text w a) (shown w a)
unfolding shown in_quotes
shown_writes w a v = go (is_quoted w (element_text w a) || needs_quotes (element_text w a)) refl
  where
    go : (b : Bool) → is_quoted w (element_text w a) || needs_quotes (element_text w a) ≡ b → Writes (element_text w a) (cond b (34 ∷ element_text w a ++ (34 ∷ [])) (element_text w a))
    go true e = WrittenLaws.in_quotes v
    go false e = WrittenLaws.bare v (or_eq_false (is_quoted w (element_text w a)) (needs_quotes (element_text w a)) e).1

abbrev pub tuple_row : Accepted → Text → Tuple → Row
tuple_row w r t = record { name = r; values = map (element_text w) t; words = map (shown w) t }

own_page : (w : Accepted) (ts : Tables) (env : Environment) (s : Term) (r : Token) (xs : List Token) (us : List Tuple) → bare w env s ≡ r.text → answers w ts env (atom r (map name xs)) ≡ us
    → item_text w ts env (own_print s r xs) ≡ rows_text (map (tuple_row w r.text) us)
unfolding item_text fact_line
own_page w ts env s r xs us l e = rw (e, l) (sym (gather_map (λ q. fact_line q.name q.words) (tuple_row w r.text) us))

members_of : (w : Accepted) {t : Tuple} → Every (λ a. a < elements w) t → Every (λ v. T (member v w.universe)) (map (element_text w) t)
members_of w every_none = every_none
members_of w (every_one {a} h hs) = every_one (member_at w.universe a h) (members_of w hs)

all_writes : (w : Accepted) → ((a : ℕ) → IsValue (element_text w a)) → (t : Tuple) → Each Writes (map (element_text w) t) (map (shown w) t)
all_writes w v [] = each_none
all_writes w v (a ∷ t) = each_one (shown_writes w a (v a)) (all_writes w v t)

value_members : (us : List Text) (es : List Element) (vs : List Text) → values es ≡ vs → Every (λ v. T (member v us)) vs → Every (λ e. T (member e.value us)) es
value_members us [] vs e h = every_none
value_members us (d ∷ es) [] e h = let z : ◌≡◌ {A = ℕ} 0 1 = cc in absurd (omega arith)
value_members us (d ∷ es) (v ∷ vs) e h =
    let first : v ≡ d.value = cc in
    let rest : values es ≡ vs = cc in
    every_one (subst (λ (x : Text). T (member x us)) first (every_head h)) (value_members us es vs rest (every_tail h))

-- every fact has the name
abbrev pub AllNamed : Text → List Fact → Type 0
AllNamed r fs = Every (λ g. g.name ≡ r) fs

module _ (w : Accepted) (r : Text) (n : ℕ) where
  pub says_fits : arities r w.relations ≡ n ∷ [] → (us : List Tuple) → Every (Fits (elements w) n) us → {fs : List Fact} → Each Says (map (tuple_row w r) us) fs
      → Every (FitsIn w.relations w.universe) fs
  says_fits e [] every_none each_none = every_none
  says_fits e (t ∷ us) (every_one h hs) (each_one {b = f} s ss) =
      let size : n ≡ length f.elements = sym h.size ∙ sym (length-map t (element_text w)) ∙ ap length (sym s.values) ∙ length-map f.elements (λ e. e.value) in
      every_one
      (record {
        relation = ap (λ (x : Text). arities x w.relations) s.name ∙ e ∙ ap (λ (m : ℕ). m ∷ []) size;
        elements = value_members w.universe f.elements (map (element_text w) t) s.values (members_of w h.below);
      })
      (says_fits e us hs ss)

  says_named : (us : List Tuple) {fs : List Fact} → Each Says (map (tuple_row w r) us) fs → AllNamed r fs
  says_named [] each_none = every_none
  says_named (t ∷ us) (each_one s ss) = every_one s.name (says_named us ss)

  says_values : (us : List Tuple) {fs : List Fact} → Each Says (map (tuple_row w r) us) fs → map fact_values fs ≡ map (map (element_text w)) us
  says_values [] each_none = refl
  says_values (t ∷ us) (each_one s ss) = ap₂ ◌∷◌ s.values (says_values us ss)

  pub all_rows : T (is_name r) → n ≤ ARITY → ((a : ℕ) → IsValue (element_text w a)) → {us : List Tuple} → Every (Fits (elements w) n) us → Every IsRow (map (tuple_row w r) us)
  all_rows named small v hs =
      every_map (tuple_row w r)
      (every_weaken (λ t f. record { named = named; few = omega (arith, length-map t (element_text w), f.size); written = all_writes w v t }) hs)

-- a relation's name is a name, and its arity is small
named_there : (x : Text) (n : ℕ) {rs : List Relation} → Every (λ r. T (is_name r.name)) rs → arities x rs ≡ n ∷ [] → T (is_name x)
unfolding arities
named_there x n every_none e = let z : ◌≡◌ {A = ℕ} 0 1 = cc in absurd (omega arith)
named_there x n (every_one {a = r} {xs = rs} h hs) e = go (same x r.name) refl e (named_there x n hs)
  where
    go : (b : Bool) → same x r.name ≡ b → cond b (r.arity ∷ []) (arities x rs) ≡ n ∷ [] → (arities x rs ≡ n ∷ [] → T (is_name x)) → T (is_name x)
    go true d e ih = subst (λ (y : Text). T (is_name y)) (sym (same_equal x r.name d)) h
    go false d e ih = ih e

small_there : (x : Text) (n : ℕ) (rs : List Relation) → ((i : ℕ) → (get_or rs i no_relation).arity ≤ ARITY) → arities x rs ≡ n ∷ [] → n ≤ ARITY
unfolding arities
small_there x n [] h e = let z : ◌≡◌ {A = ℕ} 0 1 = cc in absurd (omega arith)
small_there x n (r ∷ rs) h e = go (same x r.name) e (small_there x n rs (λ i. h (suc i)))
  where
    go : (b : Bool) → cond b (r.arity ∷ []) (arities x rs) ≡ n ∷ [] → (arities x rs ≡ n ∷ [] → n ≤ ARITY) → n ≤ ARITY
    go true e ih = let m : r.arity ≡ n = cc in omega (arith, h 0)
    go false e ih = ih e

-- two lists with the same tuples of texts
pub record SameTuples (xs ys : List (List Text)) : Type 0 where
  pub forth : (vs : List Text) → In vs xs → In vs ys
  pub back : (vs : List Text) → In vs ys → In vs xs

-- a page is read back as the relation r of w in the tables ts
pub record ReadsBack (limits : Limits) (w : Accepted) (ts : Tables) (r : Text) (page : Text) : Type 0 where
  -- "read back as facts": none is refused
  pub facts : Facts
  pub read : read_facts limits page ≡ ok facts
  -- "has the same tuples of texts": a fact for each, in the same order, and no fact of another relation
  pub tuples : map fact_values facts.facts ≡ tuples_of w ts r
  pub named : AllNamed r facts.facts
  -- and so has its table, loaded from the page beside any query; there is one
  pub accepts : (v : Accepted) × (accept limits page (ascii "PRINT ENDL;") ≡ ok v)
  pub loads : (query : Text) (v : Accepted) → accept limits page query ≡ ok v → SameTuples (tuples_of v (loaded v) r) (tuples_of w ts r)

-- facts that are read are accepted beside a query that names nothing
accepts_facts : (limits : Limits) (xs : Text) (f : Facts) → read_facts limits xs ≡ ok f → (v : Accepted) × (accept limits xs (ascii "PRINT ENDL;") ≡ ok v)
unfolding everything
accepts_facts limits xs f e = (_, all_accepted limits xs (ascii "PRINT ENDL;") f e (print 0 (line_end ∷ []) end) refl refl (fact_kinds f.relations) refl refl f.universe refl)

has_back : (r : Text) (vs : List Text) {fs : List Fact} → AllNamed r fs → In vs (map fact_values fs) → T (has_fact r vs fs)
unfolding has_fact
has_back r vs {fs} n i =
    let (g, j, e) = map_in fact_values fs i in
    in_some (says r vs) j
    (and_both (same r g.name) (same_values vs g.elements) (subst (λ (x : Text). T (same r x)) (sym (every_in n j)) (same_refl r))
    (subst (λ (xs : List Text). T (same_values xs g.elements)) (sym e) (same_values_refl g.elements)))

has_forth : (r : Text) (vs : List Text) (fs : List Fact) → T (has_fact r vs fs) → In vs (map fact_values fs)
unfolding has_fact
has_forth r vs fs t =
    let (g, i, s) = some_in (says r vs) fs t in
    subst (λ (xs : List Text). In xs (map fact_values fs)) (sym (same_values_eq vs g.elements (and_right (same r g.name) (same_values vs g.elements) s))) (in_map fact_values i)

-- loaded facts have the tuples that they state
pub loads_back : (limits : Limits) (page : Text) (f : Facts) (r : Text) (us : List (List Text)) → read_facts limits page ≡ ok f → map fact_values f.facts ≡ us → AllNamed r f.facts
    → (query : Text) (v : Accepted) → accept limits page query ≡ ok v → SameTuples (tuples_of v (loaded v) r) us
loads_back limits page f r us e tuples named query v a =
    let h = parts limits page query v a in
    let same_facts : f.facts ≡ v.facts = ap (λ (g : Facts). g.facts) (ok_injective (sym e ∙ h.read)) ∙ h.same_facts in
    record {
      forth = λ vs i. subst (In vs) tuples (has_forth r vs f.facts (subst (λ (fs : List Fact). T (has_fact r vs fs)) (sym same_facts) (loaded_says limits page query v a r vs i)));
      back = λ vs i. says_loaded limits page query v a r vs (subst (λ (fs : List Fact). T (has_fact r vs fs)) same_facts (has_back r vs named (subst (In vs) (sym tuples) i)));
    }

-- Of every accepted pair of texts, every point of its run, every relation and every PRINT of it with its own name:
module _ (limits : Limits) (facts query : Text) (w : Accepted) (accepted : accept limits facts query ≡ ok w)
    (n : ℕ) (env : Environment) (s : Term) (r : Token) (xs : List Token) (own : OwnPrint w env s r xs) where
  abbrev pub page : Text
  page = item_text w (point w n).tables env (own_print s r xs)

  -- the tuples of the relation at that point
  abbrev held : List Tuple
  held = keep (holds (elements w) (table_of r.text w.relations (point w n).tables)) (tuples (elements w) (length xs))

  held_texts : tuples_of w (point w n).tables r.text ≡ map (map (element_text w)) held
  held_texts = texts_named w r.text (length xs) (point_shaped w n) own.columns

  own_rows : page ≡ rows_text (map (tuple_row w r.text) held)
  own_rows = own_page w (point w n).tables env s r xs held own.label (own_answers w (point w n).tables env r xs own.distinct own.attributes)

  -- "a relation printed with its own name in front, on a page of at most 32,768 bytes, and read back as facts has the same tuples of texts"
  pub read_back : length page ≤ FACT_BYTES → ReadsBack limits w (point w n).tables r.text page
  read_back short =
      let well = accepted_named limits facts query w accepted in
      let fit : Every (Fits (elements w) (length xs)) held = every_keep (holds (elements w) (table_of r.text w.relations (point w n).tables)) (tuples_fit (elements w) (length xs)) in
      let named = named_there r.text (length xs) well.named own.columns in
      let small = small_there r.text (length xs) w.relations (small_arities limits facts query w accepted).each own.columns in
      let m = written_rows limits (all_rows w r.text (length xs) named small (element_value limits facts query w accepted) fit) (subst (λ (t : Text). length t ≤ FACT_BYTES) own_rows short) in
      let fits = says_fits w r.text (length xs) own.columns held fit m.1 in
      let t = facts_taken limits w.relations w.universe (few_relations limits facts query w accepted) (universe_few limits facts query w accepted) fits in
      let is_read : read_facts limits page ≡ ok t.0 = ap (read_facts limits) own_rows ∙ m.2 ∙ t.1 in
      let texts-read = ap (map fact_values) (sym t.2) ∙ says_values w r.text (length xs) held m.1 ∙ sym held_texts in
      let all_named = subst (AllNamed r.text) t.2 (says_named w r.text (length xs) held m.1) in
      record {
        facts = t.0;
        read = is_read;
        tuples = texts-read;
        named = all_named;
        accepts = accepts_facts limits page t.0 is_read;
        loads = loads_back limits page t.0 r.text (tuples_of w (point w n).tables r.text) is_read texts-read all_named;
      }

  -- "an empty relation prints nothing": no byte, so the page does not hold its name, and nothing is read; LoadLaws.absent-empty is the rest
  pub empty_prints : tuples_of w (point w n).tables r.text ≡ [] → page ≡ []
  unfolding gather
  empty_prints e = own_rows ∙ ap (λ (us : List Tuple). rows_text (map (tuple_row w r.text) us)) (none_held held (sym held_texts ∙ e))
    where
      none_held : (us : List Tuple) → map (map (element_text w)) us ≡ [] → us ≡ []
      none_held [] e = refl
      none_held (t ∷ us) e = let z : ◌≡◌ {A = ℕ} 0 1 = cc in absurd (omega arith)

pub nothing_read : (limits : Limits) → read_facts limits [] ≡ ok no_facts
unfolding read_facts fact_lines cut lines read_lines without_return starts all_of legal_bytes
nothing_read limits = refl
