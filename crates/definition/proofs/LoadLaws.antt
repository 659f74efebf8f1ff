-- What the facts say is what is loaded: a relation has a tuple of texts just where some fact states it.
use Rattle.std.specs.Prelude.{if◌then◌else◌}
use mathlib.Core.Path.{◌≡◌, refl, sym, ap, ap₂, subst, ◌∙◌}
use mathlib.Core.Logic.{◌⊎◌, inl, inr}
use mathlib.Core.Bool.{Bool, true, false, ◌&&◌, cond}
use mathlib.Core.List.{List, [], ◌∷◌, map}
use Prim.Native.Nat.{ℕ, zero, suc, ◌+◌, ◌≤◌, ◌<◌}
use native.Mathlib.Omega.{arith}
use lib.Dec.{T}
use lib.ListN.{length, get_or, length-map}
use Rattle.definition.specs.Text.{Text, same, member, some_of, keep, from}
use Rattle.definition.specs.Limits.{Limits}
use Rattle.definition.specs.Answer.{ok}
use Rattle.definition.specs.Facts.{Element, Fact, Relation, arities}
use Rattle.definition.specs.Tables.{Tuple, holds, table, tuples}
use Rattle.definition.specs.Accept.{Accepted, accept, elements}
use Rattle.definition.specs.Meaning.{Tables, table_of}
use Rattle.definition.specs.Assignment.{same_values, element_text, fact_holds, loaded}
use Rattle.definition.proofs.BoolLaws.{or_cases, or_left, or_right, and_left, and_right, and_both}
use Rattle.definition.proofs.ListLaws.{Every, every_none, every_one, every_weaken, every_map, every_gather}
use Rattle.definition.proofs.InLaws.{In, here, in_keep, keep_in, in_some, some_in, every_in, in_map, map_in, in_tuples}
use Rattle.definition.proofs.MeaningLaws.{same_eq, same_refl, same_equal}
use Rattle.definition.proofs.TableLaws.{Below, holds_table}
use Rattle.definition.proofs.RunLaws.{Shaped, none, one}
use Rattle.definition.proofs.AcceptLaws.{has, in_facts}
use Rattle.definition.proofs.SoundLaws.{Sound, accepted_sound}

-- Tuples of n elements of a universe of u.
pub record Fits (u n : ℕ) (t : Tuple) : Type 0 where
  pub size : length t ≡ n
  pub below : Every (λ a. a < u) t

pub numbers_below : (n a u : ℕ) → a + n ≤ u → Every (λ b. b < u) (from n a)
unfolding from
numbers_below zero a u h = every_none
numbers_below (suc n) a u h = let first : a < u = omega arith in every_one first (numbers_below n (suc a) u (omega arith))

pub tuples_fit : (u n : ℕ) → Every (Fits u n) (tuples u n)
unfolding tuples
tuples_fit u zero = every_one (record { size = refl; below = every_none }) every_none
tuples_fit u (suc n) =
    every_gather (λ a. map (λ t. a ∷ t) (tuples u n))
    (every_weaken (λ a h. every_map (λ t. a ∷ t) (every_weaken (λ t f. record { size = ap suc f.size; below = every_one h f.below }) (tuples_fit u n))) (numbers_below u 0 u (omega arith)))

pub all_below : {u : ℕ} {t : Tuple} → Every (λ a. a < u) t → Below u t
all_below every_none = tt
all_below (every_one h hs) = (h, all_below hs)

-- the tuples of texts of a table of arity n, ascending
abbrev pub table_texts : Accepted → List ℕ → ℕ → List (List Text)
table_texts w ws n = map (map (element_text w)) (keep (holds (elements w) ws) (tuples (elements w) n))

-- those of a relation; "counts as empty when absent": of a relation that there is not, none
unfoldable pub texts_in : Accepted → Text → List Relation → Tables → List (List Text)
texts_in w r [] ts = []
texts_in w r (q ∷ qs) [] = []
texts_in w r (q ∷ qs) (t ∷ ts) =
    let n = texts_in w r qs ts in
    if same r q.name then (table_texts w t q.arity) else n

abbrev pub tuples_of : Accepted → Tables → Text → List (List Text)
tuples_of w ts r = texts_in w r w.relations ts

-- they are those of its table
pub texts_named : (w : Accepted) (r : Text) (n : ℕ) {u : ℕ} {qs : List Relation} {ts : Tables} → Shaped u qs ts → arities r qs ≡ n ∷ []
    → texts_in w r qs ts ≡ table_texts w (table_of r qs ts) n
unfolding texts_in arities table_of
texts_named w r n none e = let z : ◌≡◌ {A = ℕ} 0 1 = cc in absurd (omega arith)
texts_named w r n (one {q} {qs} {t} {ts} h s) e = go (same r q.name) e (texts_named w r n s)
  where
    go : (b : Bool) → cond b (q.arity ∷ []) (arities r qs) ≡ n ∷ [] → (arities r qs ≡ n ∷ [] → texts_in w r qs ts ≡ table_texts w (table_of r qs ts) n)
        → cond b (table_texts w t q.arity) (texts_in w r qs ts) ≡ table_texts w (cond b t (table_of r qs ts)) n
    go true e ih = let m : q.arity ≡ n = cc in ap (table_texts w t) m
    go false e ih = ih e

-- values as a test and as an equation
abbrev pub values : List Element → List Text
values es = map (λ e. e.value) es

pub same_values_eq : (vs : List Text) (es : List Element) → T (same_values vs es) → vs ≡ values es
unfolding same_values
same_values_eq [] [] t = refl
same_values_eq [] (e ∷ es) t = absurd t
same_values_eq (v ∷ vs) [] t = absurd t
same_values_eq (v ∷ vs) (e ∷ es) t =
    ap₂ ◌∷◌ (same_eq v e.value (and_left (same v e.value) (same_values vs es) t)) (same_values_eq vs es (and_right (same v e.value) (same_values vs es) t))

pub same_values_refl : (es : List Element) → T (same_values (values es) es)
unfolding same_values
same_values_refl [] = tt
same_values_refl (e ∷ es) = and_both (same e.value e.value) (same_values (values es) es) (same_refl e.value) (same_values_refl es)

-- some fact of the relation r has the texts vs
abbrev pub says : Text → List Text → Fact → Bool
says r vs g = same r g.name && same_values vs g.elements

unfoldable pub has_fact : Text → List Text → List Fact → Bool
has_fact r vs fs = some_of (says r vs) fs

-- the numbers of texts of a universe
number_at : (x : Text) (us : List Text) → T (member x us) → (a : ℕ) × (a < length us) × (get_or us a [] ≡ x)
unfolding member some_of
number_at x [] m = absurd m
number_at x (u ∷ us) m = go (or_cases (same x u) (member x us) m) (number_at x us)
  where
    go : T (same x u) ⊎ T (member x us) → (T (member x us) → (a : ℕ) × (a < length us) × (get_or us a [] ≡ x)) → (a : ℕ) × (a < suc (length us)) × (get_or (u ∷ us) a [] ≡ x)
    go (inl s) ih = (0, omega arith, sym (same_eq x u s))
    go (inr n) ih = let k = ih n in (suc k.0, omega (arith, k.1), k.2)

numbers_at : (us : List Text) {xs : List Text} → Every (λ x. T (member x us)) xs → (t : Tuple) × Every (λ a. a < length us) t × (map (λ a. get_or us a []) t ≡ xs)
numbers_at us every_none = ([], every_none, refl)
numbers_at us (every_one {a = x} h hs) =
    let k = number_at x us h in
    let m = numbers_at us hs in
    (k.0 ∷ m.0, every_one k.1 m.1, ap₂ ◌∷◌ k.2 m.2)

-- the elements of a fact are in the universe
fact_members : (w : Accepted) → ((x : Text) → T (in_facts x w.facts) → T (member x w.universe)) → {g : Fact} → In g w.facts → Every (λ x. T (member x w.universe)) (values g.elements)
unfolding in_facts has some_of
fact_members w h {g} i = go g.elements (λ x t. h x (in_some (λ f. has x f.elements) i t))
  where
    go : (es : List Element) → ((x : Text) → T (has x es) → T (member x w.universe)) → Every (λ x. T (member x w.universe)) (values es)
    go [] k = every_none
    go (e ∷ es) k =
        every_one (k e.value (or_left (same e.value e.value) (has e.value es) (same_refl e.value)))
        (go es (λ x t. k x (or_right (same x e.value) (has x es) t)))

-- a fact's elements, by their numbers
pub fact_tuple : {limits : Limits} (w : Accepted) → Sound limits w → {g : Fact} → In g w.facts → (t : Tuple) × Every (λ a. a < elements w) t × (map (element_text w) t ≡ values g.elements)
fact_tuple w sound i = numbers_at w.universe (fact_members w sound.inside i)

module _ (w : Accepted) where
  -- some fact of a relation has the tuple; the relation's table as it is loaded
  abbrev given : Relation → Tuple → Bool
  given q t = some_of (fact_holds w q.name t) w.facts

  abbrev load : Relation → List ℕ
  load q = table (elements w) q.arity (given q)

  stated : (r : Text) (vs : List Text) (qs : List Relation) → In vs (texts_in w r qs (map load qs)) → T (has_fact r vs w.facts)
  unfolding texts_in has_fact fact_holds
  stated r vs [] i = elim i [ ]
  stated r vs (q ∷ qs) i = go (same r q.name) refl i (stated r vs qs)
    where
      found : r ≡ q.name → In vs (table_texts w (load q) q.arity) → T (some_of (says r vs) w.facts)
      found e i =
          let (t, j, is) = map_in (map (element_text w)) (keep (holds (elements w) (load q)) (tuples (elements w) q.arity)) i in
          let (k, h) = keep_in (holds (elements w) (load q)) (tuples (elements w) q.arity) j in
          let f = every_in (tuples_fit (elements w) q.arity) k in
          let loads : holds (elements w) (load q) t ≡ given q t
          = ap (λ (m : ℕ). holds (elements w) (table (elements w) m (given q)) t) (sym f.size) ∙ holds_table (elements w) t (given q) (all_below f.below) in
          let (g, l, s) = some_in (fact_holds w q.name t) w.facts (subst T loads h) in
          in_some (says r vs) l (subst T (ap₂ (λ (x : Text) (ys : List Text). same x g.name && same_values ys g.elements) (sym e) (sym is)) s)

      go : (b : Bool) → same r q.name ≡ b → In vs (cond b (table_texts w (load q) q.arity) (texts_in w r qs (map load qs)))
          → (In vs (texts_in w r qs (map load qs)) → T (some_of (says r vs) w.facts)) → T (some_of (says r vs) w.facts)
      go true e i ih = found (same_equal r q.name e) i
      go false e i ih = ih i

  -- a fact's tuple is in the table of its relation
  loads : (g : Fact) → In g w.facts → (t : Tuple) → Every (λ a. a < elements w) t → map (element_text w) t ≡ values g.elements → (qs : List Relation) → arities g.name qs ≡ length t ∷ []
      → In (map (element_text w) t) (texts_in w g.name qs (map load qs))
  unfolding texts_in arities fact_holds
  loads g i t below is [] e = let z : ◌≡◌ {A = ℕ} 0 1 = cc in absurd (omega arith)
  loads g i t below is (q ∷ qs) e = go (same g.name q.name) refl e (loads g i t below is qs)
    where
      found : g.name ≡ q.name → In (map (element_text w) t) (table_texts w (table (elements w) (length t) (given q)) (length t))
      found d =
          let said : T (fact_holds w q.name t g) =
          and_both (same q.name g.name) (same_values (map (element_text w) t) g.elements) (subst (λ (x : Text). T (same x g.name)) d (same_refl g.name))
          (subst (λ (xs : List Text). T (same_values xs g.elements)) (sym is) (same_values_refl g.elements)) in
          in_map (map (element_text w))
          (in_keep (holds (elements w) (table (elements w) (length t) (given q))) (in_tuples (elements w) below)
          (subst T (sym (holds_table (elements w) t (given q) (all_below below))) (in_some (fact_holds w q.name t) i said)))

      go : (b : Bool) → same g.name q.name ≡ b → cond b (q.arity ∷ []) (arities g.name qs) ≡ length t ∷ []
          → (arities g.name qs ≡ length t ∷ [] → In (map (element_text w) t) (texts_in w g.name qs (map load qs)))
          → In (map (element_text w) t) (cond b (table_texts w (load q) q.arity) (texts_in w g.name qs (map load qs)))
      go true d e ih =
          let m : length t ≡ q.arity = cc in
          subst (λ (n : ℕ). In (map (element_text w) t) (table_texts w (table (elements w) n (given q)) n)) m (found (same_equal g.name q.name d))
      go false d e ih = ih e

-- A relation has a tuple of texts where it is loaded exactly where some fact states it.
module _ (limits : Limits) (facts query : Text) (w : Accepted) (accepted : accept limits facts query ≡ ok w) where
  pub loaded_says : (r : Text) (vs : List Text) → In vs (tuples_of w (loaded w) r) → T (has_fact r vs w.facts)
  unfolding loaded
  loaded_says r vs i = stated w r vs w.relations i

  pub says_loaded : (r : Text) (vs : List Text) → T (has_fact r vs w.facts) → In vs (tuples_of w (loaded w) r)
  unfolding loaded has_fact
  says_loaded r vs s =
      let (g, i, h) = some_in (says r vs) w.facts s in
      let name : g.name ≡ r = sym (same_eq r g.name (and_left (same r g.name) (same_values vs g.elements) h)) in
      let is : vs ≡ values g.elements = same_values_eq vs g.elements (and_right (same r g.name) (same_values vs g.elements) h) in
      let sound = accepted_sound limits facts query w accepted in
      let (t, below, texts) = fact_tuple w sound i in
      let size : length g.elements ≡ length t = sym (length-map g.elements (λ e. e.value)) ∙ ap length (sym texts) ∙ length-map t (element_text w) in
      let fits = every_in sound.fitted i ∙ ap (λ (m : ℕ). m ∷ []) size in
      subst (λ (x : Text). In vs (tuples_of w (loaded w) x)) name (subst (λ (xs : List Text). In xs (tuples_of w (loaded w) g.name)) (texts ∙ sym is) (loads w g i t below texts w.relations fits))

-- a list that holds nothing
none_in : {A : Type 0} (xs : List A) → ((x : A) → In x xs → ⊥) → xs ≡ []
none_in [] h = refl
none_in (x ∷ xs) h = absurd (h x (here refl))

never_said : (r : Text) (vs : List Text) {fs : List Fact} → Every (λ g. same r g.name ≡ false) fs → has_fact r vs fs ≡ false
unfolding has_fact some_of
never_said r vs every_none = refl
never_said r vs (every_one h hs) = rw (h, never_said r vs hs)

-- "counts as empty when absent": a relation of which the facts have none is empty where they are loaded, whether the query names it or not
pub absent_empty : (limits : Limits) (facts query : Text) (w : Accepted) → accept limits facts query ≡ ok w → (r : Text) → Every (λ g. same r g.name ≡ false) w.facts → tuples_of w (loaded w) r ≡ []
absent_empty limits facts query w e r h = none_in (tuples_of w (loaded w) r) (λ vs i. subst T (never_said r vs h) (loaded_says limits facts query w e r vs i))
