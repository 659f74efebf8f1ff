-- Facts that differ in places alone are alike: the lines of two texts that hold the same bytes give the same facts but for places, and so, with
-- any query, the same universe and tables; or both texts are refused by one row.
use mathlib.Core.Path.{◌≡◌, refl, ap, ap₂, fun_ext, ◌∙◌}
use mathlib.Core.Bool.{Bool, true, false, ◌&&◌, not, cond}
use mathlib.Core.List.{List, [], ◌∷◌, map}
use Prim.Native.Nat.{ℕ, zero, suc, ◌+◌}
use lib.Dec.{leb, ltb, eqb}
use lib.ListN.{length, take, drop}
use Rattle.definition.specs.Text.{Text, span, starts, some_of, is_blank, is_name}
use Rattle.definition.specs.Limits.{Limits, WORD_BYTES, ARITY}
use Rattle.definition.specs.Token.{Token}
use Rattle.definition.specs.Syntax.{Program}
use Rattle.definition.specs.Answer.{Answer, ok, refused, ◌>>=◌, ◌>>◌, refuse_if}
use Rattle.definition.specs.Facts.{Line, Element, Fact, Word, none, one, wrong, is_inside, quoted_word, bare_word, word, on_word, elements, skipped, fact}
use Rattle.definition.specs.Facts.{Relation, Facts, insert, arities, add_relation, on_arities, use_relation, use_elements, last_place, with_fact, read_lines, read_facts}
use Rattle.definition.specs.Names.{Use, Known, Rule, becomes, first, row, rule, learn, relation, Kinds, follow, use_name, use_names, numbered, fact_kinds, is_variable, variables, in_program, program_patterns, pattern_rows, program_rows, left_strings}
use Rattle.definition.specs.Tables.{Tuple, table}
use Rattle.definition.specs.Accept.{Accepted, accept, read_query}
use Rattle.definition.specs.Assignment.{same_values, fact_holds, loaded, element_text}
use Rattle.definition.proofs.ListLaws.{Each, each_none, each_one, each_length, each_more, each_some, each_map}
use Rattle.definition.proofs.AcceptLaws.{fact_relation}

-- two answers: both refused by one row, or both found and alike
pub data Both {A : Type 0} (R : A → A → Type 0) : Answer A → Answer A → Type 0 where
  both_ok : {a b : A} → R a b → Both R (ok a) (ok b)
  both_refused : {r p q : ℕ} → Both R (refused r p) (refused r q)

module _ {A B : Type 0} {R : A → A → Type 0} {S : B → B → Type 0} where
  bind_both : {m n : Answer A} (f g : A → Answer B) → Both R m n → ((a b : A) → R a b → Both S (f a) (g b)) → Both S (◌>>=◌ m f) (◌>>=◌ n g)
  bind_both f g (both_ok h) k = k _ _ h
  bind_both f g both_refused k = both_refused

module _ {A B : Type 0} {S : B → B → Type 0} where
  bind_same : (m : Answer A) (f g : A → Answer B) → ((a : A) → Both S (f a) (g a)) → Both S (◌>>=◌ m f) (◌>>=◌ m g)
  bind_same (ok a) f g k = k a
  bind_same (refused r p) f g k = both_refused

module _ {B : Type 0} {S : B → B → Type 0} where
  then_same : (m : Answer (Unit {0})) {a b : Answer B} → Both S a b → Both S (◌>>◌ m a) (◌>>◌ m b)
  then_same (ok u) h = h
  then_same (refused r p) h = both_refused

  pub then_both : (t : Bool) (r p q : ℕ) {a b : Answer B} → Both S a b → Both S (◌>>◌ (refuse_if t r p) a) (◌>>◌ (refuse_if t r q) b)
  then_both true r p q h = both_refused
  then_both false r p q h = h

-- Everything but places: elements, facts, relations, and all that the facts give.
pub record SameElement (e f : Element) : Type 0 where
  pub value : e.value ≡ f.value
  pub quoted : e.quoted ≡ f.quoted

pub record SameFact (f g : Fact) : Type 0 where
  pub name : f.name ≡ g.name
  pub elements : Each SameElement f.elements g.elements

pub record SameRelation (q r : Relation) : Type 0 where
  pub name : q.name ≡ r.name
  pub arity : q.arity ≡ r.arity
  pub text : q.text ≡ r.text

pub record Alike (s t : Facts) : Type 0 where
  pub relations : Each SameRelation s.relations t.relations
  pub universe : s.universe ≡ t.universe
  pub facts : Each SameFact s.facts t.facts

abbrev pub SameFacts : Answer Facts → Answer Facts → Type 0
SameFacts a b = Both Alike a b

-- The elements of a line are the same wherever it begins.
data SameWord : Word → Word → Type 0 where
  same_none : SameWord none none
  same_wrong : {p q : ℕ} → SameWord (wrong p) (wrong q)
  same_one : {e f : Element} {n : ℕ} → SameElement e f → SameWord (one e n) (one f n)

word_if : (b : Bool) {u v w x : Word} → SameWord u v → SameWord w x → SameWord (cond b u w) (cond b v x)
word_if true g h = g
word_if false g h = h

quoted_same : (i j : ℕ) (xs : Text) → SameWord (quoted_word i xs) (quoted_word j xs)
unfolding quoted_word
quoted_same i j xs =
    let n = span (λ y. not (eqb y 34)) xs in
    word_if (starts (34 ∷ []) (drop n xs) && leb n WORD_BYTES && leb (span is_inside (drop n xs)) 1) (same_one (record { value = refl; quoted = refl })) same_wrong

bare_same : (i j : ℕ) (xs : Text) → SameWord (bare_word i xs) (bare_word j xs)
unfolding bare_word
bare_same i j xs =
    let n = span is_inside xs in
    word_if (leb n WORD_BYTES && not (some_of (eqb 34) (take n xs))) (same_one (record { value = refl; quoted = refl })) same_wrong

word_same : (i j : ℕ) (xs : Text) → SameWord (word i xs) (word j xs)
unfolding word
word_same i j [] = same_none
word_same i j (x ∷ xs) = word_if (eqb x 34) (quoted_same i j xs) (bare_same i j (x ∷ xs))

on_same : {v w : Word} (f g : Element → ℕ → Answer (List Element)) → SameWord v w
    → ((e d : Element) (n : ℕ) → SameElement e d → Both (Each SameElement) (f e n) (g d n)) → Both (Each SameElement) (on_word v f) (on_word w g)
on_same f g same_none k = both_ok each_none
on_same f g same_wrong k = both_refused
on_same f g (same_one {e} {f = d} {n} h) k = k e d n h

elements_same : (k i j : ℕ) (xs : Text) → Both (Each SameElement) (elements k i xs) (elements k j xs)
unfolding elements
elements_same zero i j xs = let b = span is_blank xs in on_same _ _ (word_same (i + b) (j + b) (drop b xs)) (λ e d n h. both_refused)
elements_same (suc k) i j xs =
    let b = span is_blank xs in
    on_same _ _ (word_same (i + b) (j + b) (drop b xs))
    (λ e d n h. bind_both _ _ (elements_same k (i + b + n) (j + b + n) (drop (b + n) xs)) (λ es ds hs. both_ok (each_one h hs)))

-- lines with the same bytes
pub record SameLine (l m : Line) : Type 0 where
  pub bytes : l.bytes ≡ m.bytes

fact_same : (l m : Line) → SameLine l m → Both SameFact (fact l) (fact m)
unfolding fact
fact_same l m h =
    let n = span is_inside m.bytes in
    rw h.bytes (then_both (not (is_name (take n m.bytes))) 3 l.at m.at
    (bind_both _ _ (elements_same ARITY (l.at + n) (m.at + n) (drop n m.bytes)) (λ es ds hs. both_ok (record { name = refl; elements = hs }))))

-- Relations, universe and facts, fact by fact.
module _ (limits : Limits) where
  arities_same : (r : Text) {qs rs : List Relation} → Each SameRelation qs rs → arities r qs ≡ arities r rs
  unfolding arities
  arities_same r each_none = refl
  arities_same r (each_one h hs) = rw (h.name, h.arity, arities_same r hs)

  add_same : (q r : Relation) → SameRelation q r → {qs rs : List Relation} → Each SameRelation qs rs → Both (Each SameRelation) (add_relation limits q qs) (add_relation limits r rs)
  unfolding add_relation
  add_same q r h {qs} {rs} hs = rw (each_length hs) (then_both (leb limits.relations (length rs)) 6 q.at r.at (both_ok (each_more hs h)))

  use_same : (q r : Relation) (i j : ℕ) → SameRelation q r → {qs rs : List Relation} → Each SameRelation qs rs
      → Both (Each SameRelation) (use_relation limits q i qs) (use_relation limits r j rs)
  unfolding use_relation
  use_same q r i j h {qs} {rs} hs =
      let e : arities q.name qs ≡ arities r.name rs = ap (λ (n : Text). arities n qs) h.name ∙ arities_same r.name hs in
      rw e (go (arities r.name rs))
    where
      go : (ns : List ℕ) → Both (Each SameRelation) (on_arities limits ns q i qs) (on_arities limits ns r j rs)
      go [] = add_same q r h hs
      go (n ∷ ns) = rw h.arity (then_both (not (eqb n r.arity)) 5 i j (both_ok hs))

  elements_used : {es ds : List Element} → Each SameElement es ds → (us : List Text) → Both (λ (a b : List Text). a ≡ b) (use_elements limits es us) (use_elements limits ds us)
  unfolding use_elements
  elements_used each_none us = both_ok refl
  elements_used (each_one {a = e} {b = d} h hs) us =
      let vs = insert d.value us in
      rw h.value (then_both (ltb limits.elements (length vs)) 7 e.at d.at (elements_used hs vs))

  with_same : (s t : Facts) (f g : Fact) → Alike s t → SameFact f g → SameFacts (with_fact limits s f) (with_fact limits t g)
  unfolding with_fact
  with_same s t f g a h =
      bind_both _ _ (use_same (fact_relation f) (fact_relation g) (last_place f.at f.elements) (last_place g.at g.elements) (record { name = h.name; arity = each_length h.elements; text = refl }) a.relations)
      (λ qs rs hs.
      rw a.universe (bind_both _ _ (elements_used h.elements t.universe) (λ us vs e. both_ok (record { relations = hs; universe = e; facts = each_more a.facts h }))))

  pub read_same : {ls ms : List Line} → Each SameLine ls ms → (s t : Facts) → Alike s t → SameFacts (read_lines limits ls s) (read_lines limits ms t)
  unfolding read_lines
  read_same each_none s t a = both_ok a
  read_same (each_one {a = l} {b = m} {xs = ls} {ys = ms} h hs) s t a =
      let e : skipped l.bytes ≡ skipped m.bytes = ap skipped h.bytes in
      rw e (go (skipped m.bytes) (λ u v c. read_same hs u v c))
    where
      go : (b : Bool) → ((u v : Facts) → Alike u v → SameFacts (read_lines limits ls u) (read_lines limits ms v))
          → SameFacts (cond b (read_lines limits ls s) (do f ← fact l; u ← with_fact limits s f; read_lines limits ls u))
          (cond b (read_lines limits ms t) (do f ← fact m; u ← with_fact limits t f; read_lines limits ms u))
      go true ih = ih s t a
      go false ih = bind_both _ _ (fact_same l m h) (λ f g e. bind_both _ _ (with_same s t f g a e) ih)

-- From the facts to the tables: nothing reads a place.
values_same : (ts : List Text) {es ds : List Element} → Each SameElement es ds → same_values ts es ≡ same_values ts ds
unfolding same_values
values_same [] each_none = refl
values_same (t ∷ ts) each_none = refl
values_same [] (each_one h hs) = refl
values_same (t ∷ ts) (each_one h hs) = rw (h.value, values_same ts hs)

-- accepted texts that differ in places alone
pub record SameAccepted (w v : Accepted) : Type 0 where
  pub universe : w.universe ≡ v.universe
  pub relations : Each SameRelation w.relations v.relations
  pub variables : w.variables ≡ v.variables
  pub facts : Each SameFact w.facts v.facts
  pub program : w.program ≡ v.program

pub same_loaded : (w v : Accepted) → SameAccepted w v → loaded w ≡ loaded v
unfolding loaded fact_holds
same_loaded w v h = each_map _ _ (λ q r s. tables q r s) h.relations
  where
    holds_same : (q r : Relation) → SameRelation q r → (t : Tuple) (f g : Fact) → SameFact f g → fact_holds w q.name t f ≡ fact_holds v r.name t g
    holds_same q r s t f g e = rw (s.name, e.name, h.universe, values_same (map (element_text v) t) e.elements)

    tables : (q r : Relation) → SameRelation q r
        → table (length w.universe) q.arity (λ t. some_of (fact_holds w q.name t) w.facts) ≡ table (length v.universe) r.arity (λ t. some_of (fact_holds v r.name t) v.facts)
    tables q r s =
        ap (λ (us : List Text). table (length us) q.arity (λ t. some_of (fact_holds w q.name t) w.facts)) h.universe
        ∙ ap (λ (n : ℕ). table (length v.universe) n (λ t. some_of (fact_holds w q.name t) w.facts)) s.arity
        ∙ ap (table (length v.universe) r.arity) (fun_ext (λ t. each_some (fact_holds w q.name t) (fact_holds v r.name t) (holds_same q r s t) h.facts))

record SameKinds (k l : Kinds) : Type 0 where
  known : k.known ≡ l.known
  relations : Each SameRelation k.relations l.relations

numbered_same : (i : ℕ) {qs rs : List Relation} → Each SameRelation qs rs → (x : Text) → numbered i qs x ≡ numbered i rs x
unfolding numbered
numbered_same i each_none x = refl
numbered_same i (each_one h hs) x = rw (h.name, h.arity, numbered_same (suc i) hs x)

module _ (limits : Limits) where
  follow_same : (k l : Kinds) (t : Token) (r : Rule) → SameKinds k l → Both SameKinds (follow limits k t r) (follow limits l t r)
  follow_same k l t (becomes v) h = both_ok (record { known = ap (learn t.text v) h.known; relations = h.relations })
  follow_same k l t (first n) h =
      let q : Relation = record { name = t.text; arity = n; text = 1; at = t.at } in
      bind_both _ _ (add_same limits q q (record { name = refl; arity = refl; text = refl }) h.relations)
      (λ qs rs hs. both_ok (record { known = ap₂ (λ (m : ℕ) (f : Text → Known). learn t.text (relation m n) f) (each_length h.relations) h.known; relations = hs }))
  follow_same k l t (row r) h = both_refused

  name_same : (k l : Kinds) (u : Use) → SameKinds k l → Both SameKinds (use_name limits k u) (use_name limits l u)
  unfolding use_name
  name_same k l u h =
      let e : k.known u.token.text ≡ l.known u.token.text = ap (λ (f : Text → Known). f u.token.text) h.known in
      rw e (follow_same k l u.token (rule u.role (l.known u.token.text)) h)

  names_same : (us : List Use) (k l : Kinds) → SameKinds k l → Both SameKinds (use_names limits us k) (use_names limits us l)
  unfolding use_names
  names_same [] k l h = both_ok h
  names_same (u ∷ us) k l h = bind_both _ _ (name_same k l u h) (λ a b g. names_same us a b g)

  pub same_accepted : (xs ys query : Text) → SameFacts (read_facts limits xs) (read_facts limits ys) → Both SameAccepted (accept limits xs query) (accept limits ys query)
  unfolding accept
  same_accepted xs ys query h =
      bind_both _ _ h (λ f g a.
      bind_same (read_query query) _ _ (λ p.
      then_same (pattern_rows (program_patterns p)) (
      bind_both _ _ (names_same (in_program p) (fact_kinds f.relations) (fact_kinds g.relations) (record { known = fun_ext (numbered_same 0 a.relations); relations = a.relations }))
      (λ k l e. finish f g a p k l e))))
    where
      finish : (f g : Facts) → Alike f g → (p : Program) (k l : Kinds) → SameKinds k l
          → Both SameAccepted
          (do program_rows (variables k) p; us ← use_elements limits (left_strings p) f.universe; ok (record { universe = us; relations = k.relations; variables = variables k; facts = f.facts; program = p }))
          (do program_rows (variables l) p; us ← use_elements limits (left_strings p) g.universe; ok (record { universe = us; relations = l.relations; variables = variables l; facts = g.facts; program = p }))
      finish f g a p k l e =
          let v : variables k ≡ variables l = ap {B = Text → Bool} (λ (n : Text → Known) (x : Text). is_variable (n x)) e.known in
          rw (a.universe, ap (λ (vs : Text → Bool). program_rows vs p) v)
          (then_same (program_rows (variables l) p) (bind_same (use_elements limits (left_strings p) g.universe) _ _
          (λ us. both_ok (record { universe = refl; relations = e.relations; variables = v; facts = a.facts; program = refl }))))
