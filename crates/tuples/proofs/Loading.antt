-- The facts loaded one after the other make the definition's tables.
use Prim.Native.Nat.{ℕ, suc, ◌+◌, ◌<◌, ◌≤◌, suc-le-suc}
use mathlib.Core.Path.{◌≡◌, refl, sym, ap, ap₂, ◌∙◌, subst}
use mathlib.Core.Bool.{Bool, true, false, ◌&&◌, ◌||◌, or-false, or_assoc}
use mathlib.Core.List.{List, [], ◌∷◌, ◌++◌, map}
use native.Mathlib.Nat.{zero-lt-suc}
use native.Mathlib.Omega.{arith}
use borrow.Author.Tests.{eq-eqb, ne_eqb}
use lib.Dec.{T, eqb}
use lib.ListN.{length, get_or, set, take, drop, replicate, length-map, replicate-append-replicate}
use lib.Seq.{sets}
use Rattle.definition.specs.Text.{Text, same, some_of, gather}
use Rattle.definition.specs.Facts.{Element, Fact, Relation, Ascending}
use Rattle.definition.specs.Tables.{Tuple, table, table_words}
use Rattle.definition.specs.Accept.{Accepted, elements, relation_words}
use Rattle.definition.specs.Meaning.{Tables}
use Rattle.definition.specs.Assignment.{same_values, fact_holds, loaded}
use Rattle.definition.specs.Claim.{table_image}
use Rattle.definition.proofs.BoolLaws.{is_true}
use Rattle.definition.proofs.TableLaws.{Below, length_table}
use Rattle.definition.proofs.MeaningLaws.{same_refl}
use Rattle.definition.proofs.RunLaws.{Shaped, none as no_table, one as one_table}
use Rattle.definition.proofs.RelationLaws.{words_before}
use Rattle.definition.proofs.UniverseLaws.{number_of}
use Rattle.tuples.specs.Places.{with_tuple}
use Rattle.tuples.proofs.Tables.{table_same, table_none, insert_table, length_with}
use Rattle.tuples.proofs.Images.{image_part, image_sets}

-- ---- a fact's tuple

-- elements differ in their texts
texts_apart : (us : List Text) (a b : ℕ) → Ascending us → a < length us → b < length us → same (get_or us a []) (get_or us b []) ≡ eqb a b
texts_apart us a b o h l = go (same (get_or us a []) (get_or us b [])) refl
  where
    one : T (same (get_or us a []) (get_or us b [])) → a ≡ b
    one t =
        let e : ◌≡◌ {A = List ℕ} ((0 + a) ∷ []) ((0 + b) ∷ []) = sym (number_of (get_or us a []) us 0 a o h (same_refl (get_or us a []))) ∙ number_of (get_or us a []) us 0 b o l t in
        let q : 0 + a ≡ 0 + b = cc in omega arith

    go : (t : Bool) → same (get_or us a []) (get_or us b []) ≡ t → t ≡ eqb a b
    go true e = sym (eq-eqb a b (one (subst T (sym e) tt)))
    go false e = sym (ne_eqb a b (λ q. apart q))
      where
        apart : a ≡ b → ⊥
        apart q = let z : ◌≡◌ {A = Bool} false true = sym e ∙ is_true _ (subst (λ (k : ℕ). T (same (get_or us a []) (get_or us k []))) q (same_refl (get_or us a []))) in
            let n : ◌≡◌ {A = ℕ} 0 1 = cc in absurd (omega arith)

-- the tuple of a fact's elements in a universe
pub data Numbered (us : List Text) : List Element → Tuple → Type 0 where
  none : Numbered us [] []
  one : {e : Element} {es : List Element} {a : ℕ} {s : Tuple} → a < length us → get_or us a [] ≡ e.value → Numbered us es s → Numbered us (e ∷ es) (a ∷ s)

pub numbered_below : {us : List Text} {es : List Element} {s : Tuple} → Numbered us es s → Below (length us) s
numbered_below none = tt
numbered_below (one h e n) = (h, numbered_below n)

values_same : {us : List Text} {es : List Element} {s : Tuple} → Ascending us → Numbered us es s → (t : Tuple) → Below (length us) t
    → same_values (map (λ a. get_or us a []) t) es ≡ same t s
unfolding same_values same
values_same o none [] h = refl
values_same o none (b ∷ t) h = refl
values_same o (one l e n) [] h = refl
values_same {us} o (one {e = x} {a = a} l e n) (b ∷ t) h =
    ap₂ ◌&&◌ (ap (same (get_or us b [])) (sym e) ∙ texts_apart us b a o h.0 l) (values_same o n t h.1)

pub some_snoc : {A : Type 0} (p : A → Bool) (xs : List A) (y : A) → some_of p (xs ++ (y ∷ [])) ≡ some_of p xs || p y
unfolding some_of
some_snoc p [] y = or-false (p y)
some_snoc p (x ∷ xs) y = ap (λ (b : Bool). p x || b) (some_snoc p xs y) ∙ sym (or_assoc (p x) (some_of p xs) (p y))

-- ---- relations by name

-- no relation has the name
pub data Without (x : Text) : List Relation → Type 0 where
  none : Without x []
  one : {r : Relation} {rs : List Relation} → same r.name x ≡ false → Without x rs → Without x (r ∷ rs)

-- the one relation with the name, of arity n, stands at place k
pub data Alone (x : Text) (n : ℕ) : List Relation → ℕ → Type 0 where
  here : {r : Relation} {rs : List Relation} → same r.name x ≡ true → n ≡ r.arity → Without x rs → Alone x n (r ∷ rs) 0
  there : {r : Relation} {rs : List Relation} {k : ℕ} → same r.name x ≡ false → Alone x n rs k → Alone x n (r ∷ rs) (suc k)

alone_inside : {x : Text} {n : ℕ} {rs : List Relation} {k : ℕ} → Alone x n rs k → k < length rs
alone_inside (here e a n) = zero-lt-suc _
alone_inside (there e n) = suc-le-suc (alone_inside n)

-- ---- the tables of the first facts

module _ (w : Accepted) where
  -- the table of a relation, and all tables, where these are the facts
  abbrev pub table_by : List Fact → Relation → List ℕ
  table_by fs r = table (elements w) r.arity (λ t. some_of (fact_holds w r.name t) fs)

  abbrev pub tables_by : List Fact → List Relation → Tables
  tables_by fs rs = map (table_by fs) rs

  pub tables_by_all : tables_by w.facts w.relations ≡ loaded w
  unfolding loaded
  tables_by_all = refl

  -- words that are zero are the tables of no fact
  pub tables_by_none : (rs : List Relation) → replicate (relation_words (elements w) rs) 0 ≡ table_image (tables_by [] rs)
  unfolding relation_words table_image gather some_of
  tables_by_none [] = refl
  tables_by_none (r ∷ rs) =
      sym (replicate-append-replicate (table_words (elements w) r.arity) (relation_words (elements w) rs) 0)
      ∙ ap₂ ◌++◌ (table_none (elements w) r.arity) (tables_by_none rs)

  shaped_by : (fs : List Fact) (rs : List Relation) → Shaped (elements w) rs (tables_by fs rs)
  shaped_by fs [] = no_table
  shaped_by fs (r ∷ rs) = one_table (length_table (elements w) r.arity (λ t. some_of (fact_holds w r.name t) fs)) (shaped_by fs rs)

  alone_words : (fs : List Fact) {x : Text} {n : ℕ} {rs : List Relation} {k : ℕ} → Alone x n rs k → length (get_or (tables_by fs rs) k []) ≡ table_words (elements w) n
  alone_words fs (here {r} e a n) = length_table (elements w) r.arity (λ t. some_of (fact_holds w r.name t) fs) ∙ ap (table_words (elements w)) (sym a)
  alone_words fs (there e n) = alone_words fs n

  module _ (small : elements w ≤ 64) (order : Ascending w.universe) (fs : List Fact) (f : Fact) (s : Tuple) (numbered : Numbered w.universe f.elements s) where
    fact_tuple : (r : Text) (t : Tuple) → Below (elements w) t → fact_holds w r t f ≡ same r f.name && same t s
    unfolding fact_holds
    fact_tuple r t h = ap (λ (b : Bool). same r f.name && b) (values_same order numbered t h)

    -- a table that the next fact leaves alone, and one that it adds to
    table_stays : (r : Relation) → same r.name f.name ≡ false → table_by (fs ++ (f ∷ [])) r ≡ table_by fs r
    table_stays r e =
        table_same (elements w) r.arity (λ t. some_of (fact_holds w r.name t) (fs ++ (f ∷ []))) (λ t. some_of (fact_holds w r.name t) fs)
        (λ t l h. some_snoc (fact_holds w r.name t) fs f
        ∙ ap (λ (b : Bool). some_of (fact_holds w r.name t) fs || b) (fact_tuple r.name t h ∙ ap (λ (b : Bool). b && same t s) e)
        ∙ or-false (some_of (fact_holds w r.name t) fs))

    table_grows : (r : Relation) → same r.name f.name ≡ true → length s ≡ r.arity → table_by (fs ++ (f ∷ [])) r ≡ with_tuple (elements w) (table_by fs r) s
    table_grows r e n =
        table_same (elements w) r.arity (λ t. some_of (fact_holds w r.name t) (fs ++ (f ∷ []))) (λ t. some_of (fact_holds w r.name t) fs || same t s)
        (λ t l h. some_snoc (fact_holds w r.name t) fs f
        ∙ ap (λ (b : Bool). some_of (fact_holds w r.name t) fs || b) (fact_tuple r.name t h ∙ ap (λ (b : Bool). b && same t s) e))
        ∙ subst (λ (m : ℕ). table (elements w) m g ≡ with_tuple (elements w) (table (elements w) m (λ t. some_of (fact_holds w r.name t) fs)) s) n
        (sym (insert_table (elements w) s (numbered_below numbered) small (λ t. some_of (fact_holds w r.name t) fs)))
      where
        g : Tuple → Bool
        g t = some_of (fact_holds w r.name t) fs || same t s

    abbrev more : List Fact
    more = fs ++ (f ∷ [])

    tables_stay : {rs : List Relation} → Without f.name rs → tables_by more rs ≡ tables_by fs rs
    tables_stay none = refl
    tables_stay (one {r} e n) = ap₂ ◌∷◌ (table_stays r e) (tables_stay n)

    -- the fact's own relation, at place k, gets one tuple more
    pub tables_grow : {rs : List Relation} {k : ℕ} → Alone f.name (length s) rs k → tables_by more rs ≡ set (tables_by fs rs) k (with_tuple (elements w) (get_or (tables_by fs rs) k []) s)
    tables_grow (here {r} e a n) = ap₂ ◌∷◌ (table_grows r e a) (tables_stay n)
    tables_grow (there {r} e n) = ap₂ ◌∷◌ (table_stays r e) (tables_grow n)

    -- so does the store that `load` leaves
    pub store_grows : {rs : List Relation} {k : ℕ} → Alone f.name (length s) rs k → (store z : List ℕ) (off len : ℕ) → store ≡ table_image (tables_by fs rs) ++ z
        → off ≡ relation_words (elements w) (take k rs) → len ≡ table_words (elements w) (length s)
        → sets store off (with_tuple (elements w) (take len (drop off store)) s) ≡ table_image (tables_by more rs) ++ z
    store_grows {rs} {k} a store z off len e p q =
        ap₂ (λ (l new : List ℕ). sets l off (with_tuple (elements w) new s)) e (ap (λ (l : List ℕ). take len (drop off l)) e ∙ image_part ts k z inside off len first words)
        ∙ image_sets ts k z inside off (with_tuple (elements w) (get_or ts k []) s) first (length_with (elements w) (get_or ts k []) s)
        ∙ ap (λ (us : Tables). table_image us ++ z) (sym (tables_grow a))
      where
        ts : Tables
        ts = tables_by fs rs

        inside : k < length ts
        inside = rw length-map (alone_inside a)

        first : length (table_image (take k ts)) ≡ off
        first = words_before (shaped_by fs rs) k ∙ sym p

        words : length (get_or ts k []) ≡ len
        words = alone_words fs a ∙ sym q
