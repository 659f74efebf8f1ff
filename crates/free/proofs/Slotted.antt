-- A statement's attribute names as digits: one more than their place in its list of names.
use Prim.Native.Nat.{ℕ, suc, ◌+◌, ◌<◌, ◌≤◌}
use mathlib.Core.Path.{◌≡◌, refl, sym, ap, ◌∙◌}
use mathlib.Core.Bool.{Bool, true, false, cond, not, ◌&&◌, ◌||◌}
use mathlib.Core.List.{List, [], ◌∷◌, ◌++◌, map, map-append, append_assoc, append-nil}
use native.Mathlib.Omega.{arith}
use borrow.Author.Tests.{eq-eqb, ne_eqb}
use lib.Dec.{eqb}
use lib.ListN.{length}
use Rattle.definition.specs.Text.{Text, same, some_of, member, keep, all_of}
use Rattle.definition.specs.Syntax.{Term, name, string, anything}
use Rattle.definition.specs.Names.{Role, Use, in_terms, join, attributes, takes_attribute, attribute_names, subset}
use Rattle.definition.proofs.BoolLaws.{is_true}
use Rattle.definition.proofs.MeaningLaws.{same_eq, same_refl}
use Rattle.digits.specs.Lists as Lists
use Rattle.digits.proofs.Listing.{Once}
use Rattle.slots.proofs.Texts.{add_text, join_add, join_nil, member_append}

unfoldable pub pos_from : Text → List Text → ℕ → ℕ
pos_from x [] i = 0
pos_from x (y ∷ ys) i = cond (same x y) (i + 1) (pos_from x ys (i + 1))

absurd_bool : {A : Type 0} (b : Bool) → b ≡ false → b ≡ true → A
absurd_bool b e f = absurd (let z : ◌≡◌ {A = ℕ} 0 1 = cc in omega arith)

itself : (x : Text) → same x x ≡ true
itself x = is_true (same x x) (same_refl x)

alike : (x y : Text) → same x y ≡ true → x ≡ y
alike x y e = same_eq x y (rw e tt)

same_sym : (x y : Text) → same x y ≡ same y x
same_sym x y = go (same x y) (same y x) refl refl
  where
    go : (b c : Bool) → same x y ≡ b → same y x ≡ c → b ≡ c
    go true true e f = refl
    go false false e f = refl
    go true false e f = absurd_bool (same y x) f (rw (alike x y e) (itself y))
    go false true e f = absurd_bool (same x y) e (rw (alike y x f) (itself x))

pub pos_le : (x : Text) (xs : List Text) (i : ℕ) → pos_from x xs i ≤ i + length xs
unfolding pos_from
pos_le x [] i = omega arith
pos_le x (y ∷ ys) i = go (same x y) (pos_le x ys (i + 1))
  where
    go : (b : Bool) → pos_from x ys (i + 1) ≤ i + 1 + length ys → cond b (i + 1) (pos_from x ys (i + 1)) ≤ i + suc (length ys)
    go true h = omega arith
    go false h = omega arith

pub pos_some : (x : Text) (xs : List Text) (i : ℕ) → member x xs ≡ true → i < pos_from x xs i
unfolding pos_from member some_of
pos_some x [] i h = absurd_bool false refl h
pos_some x (y ∷ ys) i h = go (same x y) h (pos_some x ys (i + 1))
  where
    go : (b : Bool) → b || member x ys ≡ true → (member x ys ≡ true → i + 1 < pos_from x ys (i + 1)) → i < cond b (i + 1) (pos_from x ys (i + 1))
    go true k more = omega arith
    go false k more = omega (arith, more k)

pub pos_none : (x : Text) (xs : List Text) (i : ℕ) → member x xs ≡ false → pos_from x xs i ≡ 0
unfolding pos_from member some_of
pos_none x [] i h = refl
pos_none x (y ∷ ys) i h = go (same x y) h (pos_none x ys (i + 1))
  where
    go : (b : Bool) → b || member x ys ≡ false → (member x ys ≡ false → pos_from x ys (i + 1) ≡ 0) → cond b (i + 1) (pos_from x ys (i + 1)) ≡ 0
    go true k more = absurd_bool true k refl
    go false k more = more k

-- no later place is this one
apart_later : (x : Text) (xs : List Text) (i : ℕ) → i + 1 ≡ pos_from x xs (i + 1) → ⊥
apart_later x xs i e = go (member x xs) refl
  where
    go : (b : Bool) → member x xs ≡ b → ⊥
    go true h = omega (arith, pos_some x xs (i + 1) h, e)
    go false h = omega (arith, pos_none x xs (i + 1) h, e)

-- names are told apart by their places
pub pos_same : (y x : Text) (xs : List Text) (i : ℕ) → member y xs ≡ true → same y x ≡ eqb (pos_from y xs i) (pos_from x xs i)
unfolding pos_from member some_of
pos_same y x [] i h = absurd_bool false refl h
pos_same y x (a ∷ xs) i h = go (same y a) (same x a) refl refl h (pos_same y x xs (i + 1))
  where
    go : (b c : Bool) → same y a ≡ b → same x a ≡ c → b || member y xs ≡ true → (member y xs ≡ true → same y x ≡ eqb (pos_from y xs (i + 1)) (pos_from x xs (i + 1))) →
        same y x ≡ eqb (cond b (i + 1) (pos_from y xs (i + 1))) (cond c (i + 1) (pos_from x xs (i + 1)))
    go true true e f k more = rw (alike y a e, alike x a f) (itself a) ∙ sym (eq-eqb (i + 1) (i + 1) refl)
    go true false e f k more = ap (λ (z : Text). same z x) (alike y a e) ∙ same_sym a x ∙ f ∙ sym (ne_eqb (i + 1) (pos_from x xs (i + 1)) (apart_later x xs i))
    go false true e f k more = ap (same y) (alike x a f) ∙ e ∙ sym (ne_eqb (pos_from y xs (i + 1)) (i + 1) (λ z. apart_later y xs i (sym z)))
    go false false e f k more = more k

-- a name before others, and the others after it
joined_first : (x : Text) (rs : List Text) → member x (join (x ∷ []) rs) ≡ true
unfolding join member some_of
joined_first x rs = rw (itself x) refl

kept : (y x : Text) (rs : List Text) → same y x ≡ false → member y rs ≡ true → member y (keep (λ z. not (member z (x ∷ []))) rs) ≡ true
unfolding member some_of keep
kept y x [] e h = h
kept y x (z ∷ rs) e h = go (same z x) (same y z) refl refl h (kept y x rs e)
  where
    go : (c b : Bool) → same z x ≡ c → same y z ≡ b → b || member y rs ≡ true → (member y rs ≡ true → member y (keep (λ z. not (member z (x ∷ []))) rs) ≡ true) →
        member y (cond (not (c || false)) (z ∷ keep (λ z. not (member z (x ∷ []))) rs) (keep (λ z. not (member z (x ∷ []))) rs)) ≡ true
    go true true f g k more = absurd_bool (same y x) e (rw (alike y z g) f)
    go true false f g k more = more k
    go false true f g k more = rw g refl
    go false false f g k more = rw g (more k)

joined_later : (y x : Text) (rs : List Text) → member y rs ≡ true → member y (join (x ∷ []) rs) ≡ true
unfolding join member some_of
joined_later y x rs h = go (same y x) refl (λ e. kept y x rs e h)
  where
    go : (b : Bool) → same y x ≡ b → (same y x ≡ false → member y (keep (λ z. not (member z (x ∷ []))) rs) ≡ true) → b || member y (keep (λ z. not (member z (x ∷ []))) rs) ≡ true
    go true e k = refl
    go false e k = k e

module _ (names : List Text) where
  abbrev pub slot : Text → ℕ
  slot x = pos_from x names 0

  -- all of a list are among the names
  unfoldable pub AllIn : List Text → Type 0
  AllIn [] = Unit {0}
  AllIn (x ∷ xs) = (member x names ≡ true) × AllIn xs

  pub all_append : (xs ys : List Text) → AllIn xs → AllIn ys → AllIn (xs ++ ys)
  unfolding AllIn
  all_append [] ys h k = k
  all_append (x ∷ xs) ys h k = (h.0, all_append xs ys h.1 k)

  pub all_keep : (p : Text → Bool) (xs : List Text) → AllIn xs → AllIn (keep p xs)
  unfolding AllIn keep
  all_keep p [] h = tt
  all_keep p (x ∷ xs) h = go (p x) (all_keep p xs h.1)
    where
      go : (b : Bool) → AllIn (keep p xs) → AllIn (cond b (x ∷ keep p xs) (keep p xs))
      go true k = (h.0, k)
      go false k = k

  pub all_join : (xs ys : List Text) → AllIn xs → AllIn ys → AllIn (join xs ys)
  unfolding join
  all_join xs ys h k = all_append xs _ h (all_keep (λ y. not (member y xs)) ys k)

  -- membership by slots
  map_member : (x : Text) (xs : List Text) → AllIn xs → Lists.member (slot x) (map slot xs) ≡ member x xs
  unfolding AllIn Lists.member member some_of
  map_member x [] h = refl
  map_member x (y ∷ ys) h = rw (← pos_same y x names 0 h.0, same_sym y x) (go (same x y) (map_member x ys h.1))
    where
      go : (b : Bool) → Lists.member (slot x) (map slot ys) ≡ member x ys → cond b true (Lists.member (slot x) (map slot ys)) ≡ b || member x ys
      go true ih = refl
      go false ih = ih

  -- a name taken away
  pub map_remove : (x : Text) (xs : List Text) → AllIn xs → map slot (keep (λ y. not (same y x)) xs) ≡ Lists.remove (slot x) (map slot xs)
  unfolding AllIn Lists.remove keep
  map_remove x [] h = refl
  map_remove x (y ∷ ys) h = rw (← pos_same y x names 0 h.0) (go (same y x) (map_remove x ys h.1))
    where
      go : (b : Bool) → map slot (keep (λ y. not (same y x)) ys) ≡ Lists.remove (slot x) (map slot ys) →
          map slot (cond (not b) (y ∷ keep (λ y. not (same y x)) ys) (keep (λ y. not (same y x)) ys)) ≡ cond b (Lists.remove (slot x) (map slot ys)) (slot y ∷ Lists.remove (slot x) (map slot ys))
      go true ih = ih
      go false ih = ap (λ (l : List ℕ). slot y ∷ l) ih

  -- one name more
  slot_positive : (x : Text) → member x names ≡ true → eqb (slot x) 0 ≡ false
  slot_positive x h = ne_eqb (slot x) 0 (λ e. omega (arith, pos_some x names 0 h))

  map_add : (xs : List Text) (x : Text) → AllIn xs → member x names ≡ true → Lists.add (map slot xs) (slot x) ≡ map slot (add_text xs x)
  unfolding Lists.add
  map_add xs x h k = rw (slot_positive x k, map_member x xs h) (go (member x xs))
    where
      go : (b : Bool) → cond b (map slot xs) (map slot xs ++ (slot x ∷ [])) ≡ map slot (cond b xs (xs ++ (x ∷ [])))
      go true = refl
      go false = sym (map-append slot xs (x ∷ []))

  all_add : (xs : List Text) (x : Text) → AllIn xs → member x names ≡ true → AllIn (add_text xs x)
  unfolding AllIn
  all_add xs x h k = go (member x xs)
    where
      go : (b : Bool) → AllIn (cond b xs (xs ++ (x ∷ [])))
      go true = h
      go false = all_append xs (x ∷ []) h (k, tt)

  none : (z y : Text) → same z y ≡ false → member z (y ∷ []) ≡ false
  unfolding member some_of
  none z y e = rw e refl

  add_zero : (ds : List ℕ) → Lists.add ds 0 ≡ ds
  unfolding Lists.add
  add_zero ds = refl

  -- names that are not x, not among xs: whether x is counted among xs or not
  keep_last : (xs : List Text) (y : Text) (ys : List Text) → AllIn ys → Lists.member (slot y) (map slot ys) ≡ false → keep (λ z. not (member z xs)) ys ≡ keep (λ z. not (member z (xs ++ (y ∷ [])))) ys
  unfolding keep AllIn Lists.member
  keep_last xs y [] h n = refl
  keep_last xs y (z ∷ ys) h n = rw (member_append z xs (y ∷ [])) (go (eqb (slot z) (slot y)) (pos_same z y names 0 h.0) n (keep_last xs y ys h.1))
    where
      go : (b : Bool) → same z y ≡ b → cond b true (Lists.member (slot y) (map slot ys)) ≡ false →
          (Lists.member (slot y) (map slot ys) ≡ false → keep (λ z. not (member z xs)) ys ≡ keep (λ z. not (member z (xs ++ (y ∷ [])))) ys) →
          cond (not (member z xs)) (z ∷ keep (λ z. not (member z xs)) ys) (keep (λ z. not (member z xs)) ys)
          ≡ cond (not (member z xs || member z (y ∷ []))) (z ∷ keep (λ z. not (member z (xs ++ (y ∷ [])))) ys) (keep (λ z. not (member z (xs ++ (y ∷ [])))) ys)
      go true e k more = absurd_bool true k refl
      go false e k more = rw (none z y e, more k) (same_test (member z xs))
        where
          same_test : (m : Bool) →
              cond (not m) (z ∷ keep (λ z. not (member z (xs ++ (y ∷ [])))) ys) (keep (λ z. not (member z (xs ++ (y ∷ [])))) ys)
              ≡ cond (not (m || false)) (z ∷ keep (λ z. not (member z (xs ++ (y ∷ [])))) ys) (keep (λ z. not (member z (xs ++ (y ∷ [])))) ys)
          same_test true = refl
          same_test false = refl

  adds_nil : (ds : List ℕ) → Lists.adds ds [] ≡ ds
  unfolding Lists.adds
  adds_nil ds = refl

  adds_step : (ds : List ℕ) (d : ℕ) (es : List ℕ) → Lists.adds ds (d ∷ es) ≡ Lists.adds (Lists.add ds d) es
  unfolding Lists.adds
  adds_step ds d es = refl

  -- names, then others
  pub map_join : (xs ys : List Text) → AllIn xs → AllIn ys → Once (map slot ys) → map slot (join xs ys) ≡ Lists.adds (map slot xs) (map slot ys)
  unfolding join keep AllIn Once
  map_join xs [] h k o = ap (map slot) (append-nil xs) ∙ sym (adds_nil (map slot xs))
  map_join xs (y ∷ ys) h k o =
      rw (adds_step (map slot xs) (slot y) (map slot ys), map_add xs y h k.0) (go (member y xs) refl (λ zs a. map_join zs ys a k.1 o.1))
    where
      go : (b : Bool) → member y xs ≡ b → ((zs : List Text) → AllIn zs → map slot (zs ++ keep (λ y. not (member y zs)) ys) ≡ Lists.adds (map slot zs) (map slot ys)) →
          map slot (xs ++ cond (not (member y xs)) (y ∷ keep (λ y. not (member y xs)) ys) (keep (λ y. not (member y xs)) ys)) ≡ Lists.adds (map slot (cond b xs (xs ++ (y ∷ [])))) (map slot ys)
      go true e more = rw e (more xs h)
      go false e more =
          rw (e, keep_last xs y ys k.1 o.0)
          (ap (map slot) (sym (append_assoc xs (y ∷ []) (keep (λ z. not (member z (xs ++ (y ∷ [])))) ys))) ∙ more (xs ++ (y ∷ [])) (all_append xs (y ∷ []) h (k.0, tt)))

  -- the terms of an atom, one by one
  module _ (vs : Text → Bool) (loops : (x : Text) → vs x ≡ true → member x names ≡ false) where
    abbrev pub digit : Term → ℕ
    digit (name t) = slot t.text
    digit (string t) = 0
    digit anything = 0

    -- each attribute of terms is among the names
    unfoldable pub TermsIn : List Term → Type 0
    TermsIn [] = Unit {0}
    TermsIn (name t ∷ ps) = (vs t.text ≡ false → member t.text names ≡ true) × TermsIn ps
    TermsIn (string t ∷ ps) = TermsIn ps
    TermsIn (anything ∷ ps) = TermsIn ps

    -- each attribute of the names used is among the names
    unfoldable pub Covered : List Use → Type 0
    Covered [] = Unit {0}
    Covered (u ∷ us) = (takes_attribute u.role ≡ true → vs u.token.text ≡ false → member u.token.text names ≡ true) × Covered us

    pub covered_split : (us ws : List Use) → Covered (us ++ ws) → Covered us × Covered ws
    unfolding Covered
    covered_split [] ws c = (tt, c)
    covered_split (u ∷ us) ws c = let r = covered_split us ws c.1 in ((c.0, r.0), r.1)

    pub covered_terms : (p : Role) (ps : List Term) → takes_attribute p ≡ true → Covered (in_terms p ps) → TermsIn ps
    unfolding Covered in_terms TermsIn
    covered_terms p [] e c = tt
    covered_terms p (name t ∷ ps) e c = (c.0 e, covered_terms p ps e c.1)
    covered_terms p (string t ∷ ps) e c = covered_terms p ps e c
    covered_terms p (anything ∷ ps) e c = covered_terms p ps e c

    pub covered_names : (us : List Use) → ((x : Text) → member x (attribute_names vs us) ≡ true → member x names ≡ true) → Covered us
    unfolding Covered attribute_names
    covered_names [] h = tt
    covered_names (u ∷ us) h = (λ a b. h u.token.text (first a b), covered_names us (λ x m. h x (later x m)))
      where
        x₀ : Text
        x₀ = u.token.text

        first : takes_attribute u.role ≡ true → vs x₀ ≡ false → member x₀ (cond (takes_attribute u.role && not (vs x₀)) (join (x₀ ∷ []) (attribute_names vs us)) (attribute_names vs us)) ≡ true
        first a b = rw (a, b) (joined_first x₀ (attribute_names vs us))

        later : (x : Text) → member x (attribute_names vs us) ≡ true → member x (cond (takes_attribute u.role && not (vs x₀)) (join (x₀ ∷ []) (attribute_names vs us)) (attribute_names vs us)) ≡ true
        later x m = pick (takes_attribute u.role && not (vs x₀))
          where
            pick : (b : Bool) → member x (cond b (join (x₀ ∷ []) (attribute_names vs us)) (attribute_names vs us)) ≡ true
            pick true = joined_later x x₀ (attribute_names vs us) m
            pick false = m

    pub all_attributes : (ps : List Term) → TermsIn ps → AllIn (attributes vs ps)
    unfolding TermsIn attributes AllIn
    all_attributes [] h = tt
    all_attributes (string t ∷ ps) h = all_attributes ps h
    all_attributes (anything ∷ ps) h = all_attributes ps h
    all_attributes (name t ∷ ps) h = go (vs t.text) refl (all_attributes ps h.1)
      where
        go : (b : Bool) → vs t.text ≡ b → AllIn (attributes vs ps) → AllIn (cond b (attributes vs ps) (join (t.text ∷ []) (attributes vs ps)))
        go true e a = a
        go false e a = all_join (t.text ∷ []) (attributes vs ps) (h.0 e, tt) a

    pub terms_slots : (ps : List Term) (xs : List Text) → TermsIn ps → AllIn xs → Lists.adds (map slot xs) (map digit ps) ≡ map slot (join xs (attributes vs ps))
    unfolding TermsIn attributes
    terms_slots [] xs h a = adds_nil (map slot xs) ∙ ap (map slot) (sym (join_nil xs))
    terms_slots (string t ∷ ps) xs h a = adds_step (map slot xs) 0 (map digit ps) ∙ rw (add_zero (map slot xs)) (terms_slots ps xs h a)
    terms_slots (anything ∷ ps) xs h a = adds_step (map slot xs) 0 (map digit ps) ∙ rw (add_zero (map slot xs)) (terms_slots ps xs h a)
    terms_slots (name t ∷ ps) xs h a = adds_step (map slot xs) (slot t.text) (map digit ps) ∙ go (vs t.text) refl (λ zs b. terms_slots ps zs h.1 b)
      where
        none_added : (d : ℕ) → d ≡ 0 → Lists.add (map slot xs) d ≡ map slot xs
        none_added d e = rw e (add_zero (map slot xs))

        go : (b : Bool) → vs t.text ≡ b → ((zs : List Text) → AllIn zs → Lists.adds (map slot zs) (map digit ps) ≡ map slot (join zs (attributes vs ps))) →
            Lists.adds (Lists.add (map slot xs) (slot t.text)) (map digit ps) ≡ map slot (join xs (cond b (attributes vs ps) (join (t.text ∷ []) (attributes vs ps))))
        go true e more = rw (none_added (slot t.text) (pos_none t.text names 0 (loops t.text e))) (more xs a)
        go false e more = rw (map_add xs t.text a (h.0 e), join_add xs t.text (attributes vs ps)) (more (add_text xs t.text) (all_add xs t.text a (h.0 e)))

  -- subsets by slots
  pub map_within : (xs ys : List Text) → AllIn ys → Lists.within (map slot xs) (map slot ys) ≡ subset xs ys
  unfolding Lists.within all_of
  map_within [] ys k = refl
  map_within (x ∷ xs) ys k = rw (map_member x ys k) (go (member x ys) (map_within xs ys k))
    where
      go : (b : Bool) → Lists.within (map slot xs) (map slot ys) ≡ subset xs ys → cond b (Lists.within (map slot xs) (map slot ys)) false ≡ b && subset xs ys
      go true ih = ih
      go false ih = refl
