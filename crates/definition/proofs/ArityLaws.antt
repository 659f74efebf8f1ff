-- Relations have at most 3 terms: those of the facts by the line's elements, those of the query by their first use.
use mathlib.Core.Path.{◌≡◌, subst}
use mathlib.Core.Bool.{not}
use mathlib.Core.List.{List, [], ◌∷◌, ◌++◌}
use Prim.Native.Nat.{ℕ, zero, suc, ◌+◌, ◌≤◌}
use native.Mathlib.Omega.{arith}
use lib.Dec.{eqb, leb}
use lib.ListN.{length, drop, take, get_or}
use Rattle.definition.specs.Text.{Text, span, is_blank, is_name}
use Rattle.definition.specs.Limits.{Limits, ARITY}
use Rattle.definition.specs.Token.{Token}
use Rattle.definition.specs.Answer.{ok, refused, ◌>>=◌, refuse_if}
use Rattle.definition.specs.Facts.{Relation, Element, Fact, Facts, Line, Word, none, one, wrong, is_inside, word, on_word, elements, fact, add_relation, on_arities, use_relation, arities, last_place, read_facts}
use Rattle.definition.specs.Names.{Role, Use, in_program, Kinds, use_names, fact_kinds}
use Rattle.definition.specs.Accept.{Accepted, accept}
use Rattle.definition.proofs.RelationLaws.{no_relation}
use Rattle.definition.proofs.AcceptLaws.{never, ok_injective, bind_ok, then_ok, fact_relation, facts_hold, parts}
use Rattle.definition.proofs.NameLaws.{new_relation, Used, kept, added, used, names_hold}
use Rattle.definition.proofs.ScopeLaws.{first_small}

-- no relation has more than 3 terms
pub record Small (rs : List Relation) : Type 0 where
  pub each : (i : ℕ) → (get_or rs i no_relation).arity ≤ ARITY

pub small_none : Small []
small_none = record { each = λ i. omega arith }

pub small_rest : {q : Relation} {rs : List Relation} → Small (q ∷ rs) → Small rs
small_rest h = record { each = λ i. h.each (suc i) }

pub small_one : (q : Relation) (rs : List Relation) → q.arity ≤ ARITY → Small rs → Small (q ∷ rs)
small_one q rs h s = record { each = elim [ zero ↦ h | suc i ↦ s.each i ] }

small_more : (rs : List Relation) (q : Relation) → q.arity ≤ ARITY → Small rs → Small (rs ++ (q ∷ []))
small_more [] q h s = small_one q [] h s
small_more (r ∷ rs) q h s = small_one r (rs ++ (q ∷ [])) (s.each 0) (small_more rs q h (small_rest s))

-- "one arity, 0 to 3": a line's elements
elements_few : (k i : ℕ) (xs : Text) (es : List Element) → elements k i xs ≡ ok es → length es ≤ k
unfolding elements
elements_few zero i xs es e = go (word (i + span is_blank xs) (drop (span is_blank xs) xs)) e
  where
    go : (w : Word) → on_word w (λ e n. refused 5 e.at) ≡ ok es → length es ≤ 0
    go none e = subst (λ (l : List Element). length l ≤ 0) (ok_injective e) (omega arith)
    go (wrong p) e = absurd (never e)
    go (one x n) e = absurd (never e)
elements_few (suc k) i xs es e = go (word (i + b) (drop b xs)) e (elements_few k)
  where
    b : ℕ
    b = span is_blank xs

    go : (w : Word) → on_word w (λ e n. do es ← elements k (i + b + n) (drop (b + n) xs); ok (e ∷ es)) ≡ ok es
        → ((i : ℕ) (xs : Text) (es : List Element) → elements k i xs ≡ ok es → length es ≤ k) → length es ≤ suc k
    go none e ih = subst (λ (l : List Element). length l ≤ suc k) (ok_injective e) (omega arith)
    go (wrong p) e ih = absurd (never e)
    go (one x n) e ih =
        let (fs, p, q) = bind_ok (elements k (i + b + n) (drop (b + n) xs)) _ es e in
        let h : length fs ≤ k = ih (i + b + n) (drop (b + n) xs) fs p in
        subst (λ (l : List Element). length l ≤ suc k) (ok_injective q) (omega arith)

pub fact_few : (l : Line) (f : Fact) → fact l ≡ ok f → length f.elements ≤ ARITY
unfolding fact
fact_few l f e =
    let n = span is_inside l.bytes in
    let (es, p, q) = bind_ok (elements ARITY (l.at + n) (drop n l.bytes)) _ f (then_ok (refuse_if (not (is_name (take n l.bytes))) 3 l.at) _ f e) in
    subst (λ (g : Fact). length g.elements ≤ ARITY) (ok_injective q) (elements_few ARITY (l.at + n) (drop n l.bytes) es p)

pub relation_small : (limits : Limits) (q : Relation) (p : ℕ) (rs qs : List Relation) → use_relation limits q p rs ≡ ok qs → q.arity ≤ ARITY → Small rs → Small qs
unfolding use_relation add_relation
relation_small limits q p rs qs e h s = go (arities q.name rs) e
  where
    go : (ns : List ℕ) → on_arities limits ns q p rs ≡ ok qs → Small qs
    go [] e = subst Small (ok_injective (then_ok (refuse_if (leb limits.relations (length rs)) 6 q.at) _ qs e)) (small_more rs q h s)
    go (n ∷ ns) e = subst Small (ok_injective (then_ok (refuse_if (not (eqb n q.arity)) 5 p) _ qs e)) s

pub facts_small : (limits : Limits) (xs : Text) (f : Facts) → read_facts limits xs ≡ ok f → Small f.relations
facts_small limits =
    facts_hold limits (λ u. Small u.relations) (λ l f s t p a h. relation_small limits (fact_relation f) (last_place f.at f.elements) s.relations t.relations a.relations (fact_few l f p) h) small_none

-- the relations that the query adds
used_small : {k : Kinds} {p : Role} {t : Token} {l : Kinds} → Used k p t l → Small k.relations → Small l.relations
used_small {k} {p} {t} (kept v e) h = h
used_small {k} {p} {t} (added n e) h = small_more k.relations (new_relation t n) (first_small p (k.known t.text) n e) h

pub names_small : (limits : Limits) (us : List Use) (k l : Kinds) → use_names limits us k ≡ ok l → Small k.relations → Small l.relations
names_small limits = names_hold limits (λ m. Small m.relations) (λ k u l e. used_small (used limits k u.role u.token l e))

-- the relations of accepted texts
pub small_arities : (limits : Limits) (facts query : Text) (w : Accepted) → accept limits facts query ≡ ok w → Small w.relations
small_arities limits facts query w e =
    let h = parts limits facts query w e in
    subst Small h.relations (names_small limits (in_program w.program) (fact_kinds h.facts_read.relations) h.kinds h.names (facts_small limits facts h.facts_read h.read))
