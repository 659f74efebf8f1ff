-- Laws of names: a name keeps its kind, each use fits what is known in the end, and relations are numbered in the store's order.
use mathlib.Core.Path.{◌≡◌, refl, sym, ap, subst, ◌∙◌}
use mathlib.Core.Logic.{◌⊎◌, inl, inr}
use mathlib.Core.Bool.{Bool, true, false, not, cond}
use mathlib.Core.List.{List, [], ◌∷◌, ◌++◌}
use Prim.Native.Nat.{ℕ, suc, ◌+◌, ◌<◌}
use native.Mathlib.Nat.{zero-add}
use native.Mathlib.Omega.{arith}
use lib.Dec.{T, eqb, ltb, leb, eqb→eq}
use lib.ListN.{length, get_or}
use Rattle.definition.specs.Text.{Text, same}
use Rattle.definition.specs.Limits.{Limits, ARITY}
use Rattle.definition.specs.Token.{Token}
use Rattle.definition.specs.Answer.{Answer, ok, refused, ◌>>=◌, refuse_if}
use Rattle.definition.specs.Facts.{Relation, arities, add_relation}
use Rattle.definition.specs.Names.{Role, before_terms, attribute_only, term, variable_only, after_for, enter, leave, Use, use_as, Known, nothing, attribute, variable, open_variable, relation, Rule, becomes, first, row, rule, Kinds, learn, follow, use_name, use_names, numbered, fact_kinds, is_variable}
use Rattle.definition.proofs.BoolLaws.{decide, is_false}
use Rattle.definition.proofs.MeaningLaws.{same_eq, same_itself, other}
use Rattle.definition.proofs.RelationLaws.{place_of, no_relation}
use Rattle.definition.proofs.AcceptLaws.{ok_injective, bind_ok, then_ok}

-- one update
pub learn_here : (x : Text) (v : Known) (known : Text → Known) → learn x v known x ≡ v
unfolding learn
learn_here x v known = rw (same_itself x)

pub learn_other : (x y : Text) (v : Known) (known : Text → Known) → T (not (same x y)) → learn x v known y ≡ known y
unfolding learn
learn_other x y v known n = rw (is_false (same x y) n)

-- what may become of what is known: a kind is kept, and a relation's number and arity
abbrev pub Keeps : Known → Known → Type 0
Keeps nothing w = Unit {0}
Keeps attribute w = w ≡ attribute
Keeps variable w = T (is_variable w)
Keeps open_variable w = T (is_variable w)
Keeps (relation i n) w = w ≡ relation i n

keeps_itself : (v : Known) → Keeps v v
keeps_itself nothing = tt
keeps_itself attribute = refl
keeps_itself variable = tt
keeps_itself open_variable = tt
keeps_itself (relation i n) = refl

variable_keeps : (v w : Known) → T (is_variable v) → Keeps v w → T (is_variable w)
variable_keeps nothing w t h = absurd t
variable_keeps attribute w t h = absurd t
variable_keeps variable w t h = h
variable_keeps open_variable w t h = h
variable_keeps (relation i n) w t h = absurd t

keeps_then : (u v w : Known) → Keeps u v → Keeps v w → Keeps u w
keeps_then nothing v w g h = tt
keeps_then attribute v w g h = subst (λ z. Keeps z w) g h
keeps_then variable v w g h = variable_keeps v w g h
keeps_then open_variable v w g h = variable_keeps v w g h
keeps_then (relation i n) v w g h = subst (λ z. Keeps z w) g h

-- what is known of a name used in a role
abbrev pub Fits : Role → Known → Type 0
Fits (before_terms n) w = (i : ℕ) × (w ≡ relation i n)
Fits attribute_only w = w ≡ attribute
Fits term w = (w ≡ attribute) ⊎ T (is_variable w)
Fits variable_only w = T (is_variable w)
Fits after_for w = T (is_variable w)
Fits enter w = T (is_variable w)
Fits leave w = T (is_variable w)

fits_kept : (p : Role) (v w : Known) → Fits p v → Keeps v w → Fits p w
fits_kept (before_terms n) v w (i, e) h = (i, subst (λ z. Keeps z w) e h)
fits_kept attribute_only v w e h = subst (λ z. Keeps z w) e h
fits_kept term v w (inl e) h = inl (subst (λ z. Keeps z w) e h)
fits_kept term v w (inr t) h = inr (variable_keeps v w t h)
fits_kept variable_only v w t h = variable_keeps v w t h
fits_kept after_for v w t h = variable_keeps v w t h
fits_kept enter v w t h = variable_keeps v w t h
fits_kept leave v w t h = variable_keeps v w t h

-- what is known of a name as a relation
abbrev pub as_relation : Known → Known
as_relation nothing = nothing
as_relation attribute = nothing
as_relation variable = nothing
as_relation open_variable = nothing
as_relation (relation i n) = relation i n

-- the rule of each role and kind keeps the kind, fits the role, and says the same of relations unless it adds one
abbrev Right : Role → Known → Rule → Type 0
Right p v (becomes w) = Keeps v w × Fits p w × (as_relation w ≡ as_relation v)
Right p v (first n) = (v ≡ nothing) × (p ≡ before_terms n)
Right p v (row r) = Unit {0}

rule_right : (p : Role) (v : Known) → Right p v (rule p v)
unfolding rule
rule_right (before_terms n) nothing = go (ltb ARITY n)
  where
    go : (b : Bool) → Right (before_terms n) nothing (cond b (row 5) (first n))
    go true = tt
    go false = (refl, refl)
rule_right (before_terms n) attribute = tt
rule_right (before_terms n) variable = tt
rule_right (before_terms n) open_variable = tt
rule_right (before_terms n) (relation i m) = go (eqb m n) refl
  where
    go : (b : Bool) → eqb m n ≡ b → Right (before_terms n) (relation i m) (cond b (becomes (relation i m)) (row 5))
    go true e = (refl, (i, ap (relation i) (eqb→eq m n (rw e tt))), refl)
    go false e = tt
rule_right attribute_only nothing = (tt, refl, refl)
rule_right attribute_only attribute = (refl, refl, refl)
rule_right attribute_only variable = tt
rule_right attribute_only open_variable = tt
rule_right attribute_only (relation i m) = tt
rule_right term nothing = (tt, inl refl, refl)
rule_right term attribute = (refl, inl refl, refl)
rule_right term variable = tt
rule_right term open_variable = (tt, inr tt, refl)
rule_right term (relation i m) = tt
rule_right variable_only nothing = tt
rule_right variable_only attribute = tt
rule_right variable_only variable = tt
rule_right variable_only open_variable = (tt, tt, refl)
rule_right variable_only (relation i m) = tt
rule_right after_for nothing = (tt, tt, refl)
rule_right after_for attribute = tt
rule_right after_for variable = (tt, tt, refl)
rule_right after_for open_variable = tt
rule_right after_for (relation i m) = tt
rule_right enter nothing = tt
rule_right enter attribute = tt
rule_right enter variable = (tt, tt, refl)
rule_right enter open_variable = tt
rule_right enter (relation i m) = tt
rule_right leave nothing = tt
rule_right leave attribute = tt
rule_right leave variable = tt
rule_right leave open_variable = (tt, tt, refl)
rule_right leave (relation i m) = tt

-- the relation that a name's first use adds
abbrev pub new_relation : Token → ℕ → Relation
new_relation t n = record { name = t.text; arity = n; text = 1; at = t.at }

relation_added : (limits : Limits) (q : Relation) (rs qs : List Relation) → add_relation limits q rs ≡ ok qs → rs ++ (q ∷ []) ≡ qs
unfolding add_relation
relation_added limits q rs qs e = ok_injective (then_ok (refuse_if (leb limits.relations (length rs)) 6 q.at) _ qs e)

-- what one use does: an update of what is known, and the relation that it adds
pub data Used (k : Kinds) (p : Role) (t : Token) : Kinds → Type 0 where
  kept : (v : Known) → rule p (k.known t.text) ≡ becomes v → Used k p t (record { known = learn t.text v k.known; relations = k.relations })
  added : (n : ℕ) → rule p (k.known t.text) ≡ first n
      → Used k p t (record { known = learn t.text (relation (length k.relations) n) k.known; relations = k.relations ++ (new_relation t n ∷ []) })

pub used : (limits : Limits) (k : Kinds) (p : Role) (t : Token) (l : Kinds) → use_name limits k (use_as p t) ≡ ok l → Used k p t l
unfolding use_name
used limits k p t l e = go (rule p (k.known t.text)) refl e
  where
    go : (r : Rule) → rule p (k.known t.text) ≡ r → follow limits k t r ≡ ok l → Used k p t l
    go (becomes v) g e = subst (Used k p t) (ok_injective e) (kept v g)
    go (row r) g e = absurd (let z : ◌≡◌ {A = ℕ} 0 1 = cc in omega arith)
    go (first n) g e =
        let (rs, p₁, q₁) = bind_ok (add_relation limits (new_relation t n) k.relations) _ l e in
        let p₂ : k.relations ++ (new_relation t n ∷ []) ≡ rs = relation_added limits (new_relation t n) k.relations rs p₁ in
        subst (Used k p t) (ok_injective q₁) (subst (λ qs. Used k p t (record { known = learn t.text (relation (length k.relations) n) k.known; relations = qs })) p₂ (added n g))

-- a use changes nothing of another name
pub used_other : {k : Kinds} {p : Role} {t : Token} {l : Kinds} → Used k p t l → (y : Text) → T (not (same t.text y)) → l.known y ≡ k.known y
used_other {k} {p} {t} (kept v e) y n = learn_other t.text y v k.known n
used_other {k} {p} {t} (added c e) y n = learn_other t.text y (relation (length k.relations) c) k.known n

becomes_right : (p : Role) (v w : Known) → rule p v ≡ becomes w → Right p v (becomes w)
becomes_right p v w e = subst (Right p v) e (rule_right p v)

first_right : (p : Role) (v : Known) (n : ℕ) → rule p v ≡ first n → Right p v (first n)
first_right p v n e = subst (Right p v) e (rule_right p v)

-- a relation is added where nothing was known of its name
pub first_unknown : (p : Role) (v : Known) (n : ℕ) → rule p v ≡ first n → v ≡ nothing
first_unknown p v n e = (first_right p v n e).0

-- of a name that is not used nothing changes, and of the name used its kind is kept
learn_keeps : (known : Text → Known) (x : Text) (v : Known) → Keeps (known x) v → (y : Text) → Keeps (known y) (learn x v known y)
learn_keeps known x v h y = go (decide (same x y))
  where
    go : T (same x y) ⊎ T (not (same x y)) → Keeps (known y) (learn x v known y)
    go (inl s) = subst (λ z. Keeps (known z) (learn x v known z)) (same_eq x y s) (subst (Keeps (known x)) (sym (learn_here x v known)) h)
    go (inr n) = subst (Keeps (known y)) (sym (learn_other x y v known n)) (keeps_itself (known y))

used_keeps : {k : Kinds} {p : Role} {t : Token} {l : Kinds} → Used k p t l → (y : Text) → Keeps (k.known y) (l.known y)
used_keeps {k} {p} {t} (kept v e) y = learn_keeps k.known t.text v (becomes_right p (k.known t.text) v e).0 y
used_keeps {k} {p} {t} (added n e) y =
    let new = relation (length k.relations) n in
    learn_keeps k.known t.text new (subst (λ z. Keeps z new) (sym (first_right p (k.known t.text) n e).0) tt) y

used_fits : {k : Kinds} {p : Role} {t : Token} {l : Kinds} → Used k p t l → Fits p (l.known t.text)
used_fits {k} {p} {t} (kept v e) = subst (Fits p) (sym (learn_here t.text v k.known)) (becomes_right p (k.known t.text) v e).1
used_fits {k} {p} {t} (added n e) =
    let w = relation (length k.relations) n in
    subst (λ q. Fits q (learn t.text w k.known t.text)) (sym (first_right p (k.known t.text) n e).1) (length k.relations, learn_here t.text w k.known)

-- what holds before some uses, and after each if it held before, holds after them
pub names_hold : (limits : Limits) (P : Kinds → Type 0) → ((k : Kinds) (u : Use) (l : Kinds) → use_name limits k u ≡ ok l → P k → P l)
    → (us : List Use) (k l : Kinds) → use_names limits us k ≡ ok l → P k → P l
unfolding use_names
names_hold limits P more [] k l e h = subst P (ok_injective e) h
names_hold limits P more (u ∷ us) k l e h =
    let (m, p, q) = bind_ok (use_name limits k u) _ l e in
    names_hold limits P more us m l q (more k u m p h)

-- "One name has one kind throughout": what is known is kept by all uses
pub names_keep : (limits : Limits) (us : List Use) (k l : Kinds) → use_names limits us k ≡ ok l → (y : Text) → Keeps (k.known y) (l.known y)
names_keep limits us k l e y =
    names_hold limits (λ n. Keeps (k.known y) (n.known y)) (λ m u n p h. keeps_then (k.known y) (m.known y) (n.known y) h (used_keeps (used limits m u.role u.token n p) y)) us k l e (keeps_itself (k.known y))

-- each use fits what is known
pub data Fitting (known : Text → Known) : List Use → Type 0 where
  none : Fitting known []
  one : {u : Use} {us : List Use} → Fits u.role (known u.token.text) → Fitting known us → Fitting known (u ∷ us)

pub names_fit : (limits : Limits) (us : List Use) (k l : Kinds) → use_names limits us k ≡ ok l → Fitting l.known us
unfolding use_names
names_fit limits [] k l e = none
names_fit limits (u ∷ us) k l e =
    let (m, p, q) = bind_ok (use_name limits k u) _ l e in
    let x = u.token.text in
    one (fits_kept u.role (m.known x) (l.known x) (used_fits (used limits k u.role u.token m p)) (names_keep limits us m l q x)) (names_fit limits us m l q)

pub fitting_left : {known : Text → Known} (us vs : List Use) → Fitting known (us ++ vs) → Fitting known us
fitting_left [] vs f = none
fitting_left (u ∷ us) vs (one h f) = one h (fitting_left us vs f)

pub fitting_right : {known : Text → Known} (us vs : List Use) → Fitting known (us ++ vs) → Fitting known vs
fitting_right [] vs f = f
fitting_right (u ∷ us) vs (one h f) = fitting_right us vs f

-- the uses of two lists, one after the other
pub names_append : (limits : Limits) (us vs : List Use) (k : Kinds) → use_names limits (us ++ vs) k ≡ (do l ← use_names limits us k; use_names limits vs l)
unfolding use_names
names_append limits [] vs k = refl
names_append limits (u ∷ us) vs k = go (use_name limits k u) (names_append limits us vs)
  where
    go : (a : Answer Kinds) → ((m : Kinds) → use_names limits (us ++ vs) m ≡ (do l ← use_names limits us m; use_names limits vs l))
        → (do l ← a; use_names limits (us ++ vs) l) ≡ (do l ← (do m ← a; use_names limits us m); use_names limits vs l)
    go (ok m) ih = ih m
    go (refused r p) ih = refl

-- Relations are numbered in the store's order.

numbered_itself : (i : ℕ) (rs : List Relation) (x : Text) → as_relation (numbered i rs x) ≡ numbered i rs x
unfolding numbered
numbered_itself i [] x = refl
numbered_itself i (q ∷ qs) x = go (same x q.name) (numbered_itself (suc i) qs x)
  where
    go : (b : Bool) → as_relation (numbered (suc i) qs x) ≡ numbered (suc i) qs x
        → as_relation (cond b (relation i q.arity) (numbered (suc i) qs x)) ≡ cond b (relation i q.arity) (numbered (suc i) qs x)
    go true ih = refl
    go false ih = ih

-- one more relation, of another name and of a new one
numbered_more : (i : ℕ) (rs : List Relation) (q : Relation) (x : Text) → T (not (same x q.name)) → numbered i (rs ++ (q ∷ [])) x ≡ numbered i rs x
unfolding numbered
numbered_more i [] q x n = rw (is_false (same x q.name) n)
numbered_more i (r ∷ rs) q x n = ap (λ z. cond (same x r.name) (relation i r.arity) z) (numbered_more (suc i) rs q x n)

numbered_new : (i : ℕ) (rs : List Relation) (q : Relation) → numbered i rs q.name ≡ nothing → numbered i (rs ++ (q ∷ [])) q.name ≡ relation (i + length rs) q.arity
unfolding numbered
numbered_new i [] q e = rw (same_itself q.name) (ap (λ j. relation j q.arity) (omega arith))
numbered_new i (r ∷ rs) q e = go (same q.name r.name) e (numbered_new (suc i) rs q)
  where
    go : (b : Bool) → cond b (relation i r.arity) (numbered (suc i) rs q.name) ≡ nothing
        → (numbered (suc i) rs q.name ≡ nothing → numbered (suc i) (rs ++ (q ∷ [])) q.name ≡ relation (suc i + length rs) q.arity)
        → cond b (relation i r.arity) (numbered (suc i) (rs ++ (q ∷ [])) q.name) ≡ relation (i + suc (length rs)) q.arity
    go true e ih = absurd (let z : ◌≡◌ {A = ℕ} 0 1 = cc in omega arith)
    go false e ih = ih e ∙ ap (λ j. relation j q.arity) (omega arith)

-- what is known of relations is their place in the list
pub record Numbered (k : Kinds) : Type 0 where
  pub by_place : (x : Text) → as_relation (k.known x) ≡ numbered 0 k.relations x

pub used_numbered : {k : Kinds} {p : Role} {t : Token} {l : Kinds} → Used k p t l → Numbered k → Numbered l
used_numbered {k} {p} {t} (kept v e) n = record { by_place = λ y. go y (decide (same t.text y)) }
  where
    x : Text
    x = t.text

    go : (y : Text) → T (same x y) ⊎ T (not (same x y)) → as_relation (learn x v k.known y) ≡ numbered 0 k.relations y
    go y (inl s) =
        subst (λ z. as_relation (learn x v k.known z) ≡ numbered 0 k.relations z) (same_eq x y s)
        (ap as_relation (learn_here x v k.known) ∙ (becomes_right p (k.known x) v e).2 ∙ n.by_place x)
    go y (inr m) = ap as_relation (learn_other x y v k.known m) ∙ n.by_place y
used_numbered {k} {p} {t} (added c e) n = record { by_place = λ y. go y (decide (same t.text y)) }
  where
    x : Text
    x = t.text

    q : Relation
    q = new_relation t c

    v : Known
    v = relation (length k.relations) c

    fresh : numbered 0 k.relations x ≡ nothing
    fresh = sym (n.by_place x) ∙ ap as_relation (first_right p (k.known x) c e).0

    last : numbered 0 (k.relations ++ (q ∷ [])) x ≡ v
    last = numbered_new 0 k.relations q fresh ∙ ap (λ j. relation j c) (zero-add (length k.relations))

    go : (y : Text) → T (same x y) ⊎ T (not (same x y)) → as_relation (learn x v k.known y) ≡ numbered 0 (k.relations ++ (q ∷ [])) y
    go y (inl s) =
        subst (λ z. as_relation (learn x v k.known z) ≡ numbered 0 (k.relations ++ (q ∷ [])) z) (same_eq x y s)
        (ap as_relation (learn_here x v k.known) ∙ sym last)
    go y (inr m) = ap as_relation (learn_other x y v k.known m) ∙ n.by_place y ∙ sym (numbered_more 0 k.relations q y (other x y m))

pub names_numbered : (limits : Limits) (us : List Use) (k l : Kinds) → use_names limits us k ≡ ok l → Numbered k → Numbered l
names_numbered limits = names_hold limits Numbered (λ k u l e. used_numbered (used limits k u.role u.token l e))

-- "facts come first"
pub facts_numbered : (rs : List Relation) → Numbered (fact_kinds rs)
facts_numbered rs = record { by_place = λ x. numbered_itself 0 rs x }

-- a relation's number is its place in the store's order
abbrev number_in : Known → ℕ
number_in nothing = 0
number_in attribute = 0
number_in variable = 0
number_in open_variable = 0
number_in (relation i n) = i

abbrev arity_in : Known → ℕ
arity_in nothing = 0
arity_in attribute = 0
arity_in variable = 0
arity_in open_variable = 0
arity_in (relation i n) = n

numbered_from : (j : ℕ) (rs : List Relation) (x : Text) (i n : ℕ) → numbered j rs x ≡ relation i n
    → (i ≡ j + place_of x rs) × (place_of x rs < length rs) × ((get_or rs (place_of x rs) no_relation).arity ≡ n)
unfolding numbered place_of
numbered_from j [] x i n e = absurd (let z : ◌≡◌ {A = ℕ} 0 1 = cc in omega arith)
numbered_from j (q ∷ qs) x i n e = go (same x q.name) e (numbered_from (suc j) qs x i n)
  where
    go : (b : Bool) → cond b (relation j q.arity) (numbered (suc j) qs x) ≡ relation i n
        → (numbered (suc j) qs x ≡ relation i n → (i ≡ suc j + place_of x qs) × (place_of x qs < length qs) × ((get_or qs (place_of x qs) no_relation).arity ≡ n))
        → (i ≡ j + cond b 0 (suc (place_of x qs))) × (cond b 0 (suc (place_of x qs)) < suc (length qs)) × ((get_or (q ∷ qs) (cond b 0 (suc (place_of x qs))) no_relation).arity ≡ n)
    go true e ih = (omega (arith, ap number_in e), omega arith, ap arity_in e)
    go false e ih = let (a, b, c) = ih e in (omega (arith, a), omega (arith, b), c)

pub relation_place : (k : Kinds) → Numbered k → (x : Text) (i n : ℕ) → k.known x ≡ relation i n
    → (i ≡ place_of x k.relations) × (i < length k.relations) × ((get_or k.relations i no_relation).arity ≡ n)
relation_place k m x i n e =
    let (d, b, c) = numbered_from 0 k.relations x i n (sym (m.by_place x) ∙ ap as_relation e) in
    let a : i ≡ place_of x k.relations = d ∙ zero-add (place_of x k.relations) in
    (a, subst (λ j. j < length k.relations) (sym a) b, subst (λ j. (get_or k.relations j no_relation).arity ≡ n) (sym a) c)

-- a name stands among relations under the arity that is known of it
abbrev arities_in : Known → List ℕ
arities_in nothing = []
arities_in attribute = []
arities_in variable = []
arities_in open_variable = []
arities_in (relation i n) = n ∷ []

numbered_arities : (i : ℕ) (rs : List Relation) (x : Text) → arities x rs ≡ arities_in (numbered i rs x)
unfolding arities numbered
numbered_arities i [] x = refl
numbered_arities i (q ∷ qs) x = go (same x q.name) (numbered_arities (suc i) qs x)
  where
    go : (b : Bool) → arities x qs ≡ arities_in (numbered (suc i) qs x) → cond b (q.arity ∷ []) (arities x qs) ≡ arities_in (cond b (relation i q.arity) (numbered (suc i) qs x))
    go true ih = refl
    go false ih = ih

-- a name known as a relation stands among the relations, with the arity known
pub relation_arity : (k : Kinds) → Numbered k → (x : Text) (i n : ℕ) → k.known x ≡ relation i n → arities x k.relations ≡ n ∷ []
relation_arity k m x i n e = numbered_arities 0 k.relations x ∙ ap arities_in (sym (m.by_place x) ∙ ap as_relation e)
