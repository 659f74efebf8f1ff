-- "At most 16 relations": those of accepted texts are no more than the limit says.
use mathlib.Core.Path.{◌≡◌, subst}
use mathlib.Core.Bool.{not}
use mathlib.Core.List.{List, [], ◌∷◌}
use Prim.Native.Nat.{ℕ, ◌<◌, ◌≤◌}
use native.Mathlib.Omega.{arith}
use lib.Dec.{eqb, leb}
use lib.ListN.{length, length-append}
use borrow.Author.Tests.{leb-false}
use Rattle.definition.specs.Text.{Text}
use Rattle.definition.specs.Limits.{Limits}
use Rattle.definition.specs.Answer.{ok, refuse_if}
use Rattle.definition.specs.Facts.{Relation, add_relation, on_arities, use_relation, arities, last_place}
use Rattle.definition.specs.Names.{Use, Rule, becomes, first, row, rule, follow, in_program, Kinds, use_name, fact_kinds}
use Rattle.definition.specs.Accept.{Accepted, accept}
use Rattle.definition.proofs.AcceptLaws.{never, ok_injective, bind_ok, then_ok, was_ok, not_refused, fact_relation, facts_hold, parts}
use Rattle.definition.proofs.NameLaws.{new_relation, names_hold}

module _ (limits : Limits) where
  abbrev pub Few : List Relation → Type 0
  Few rs = length rs ≤ limits.relations

  -- one more, where the limit is not met yet
  added_few : (q : Relation) (rs qs : List Relation) → add_relation limits q rs ≡ ok qs → Few qs
  unfolding add_relation
  added_few q rs qs e =
      let full = leb limits.relations (length rs) in
      let room : length rs < limits.relations = leb-false limits.relations (length rs) (not_refused full 6 q.at (was_ok (refuse_if full 6 q.at) _ qs e)) in
      subst Few (ok_injective (then_ok (refuse_if full 6 q.at) _ qs e)) (omega (arith, length-append rs (q ∷ [])))

  pub relation_few : (q : Relation) (p : ℕ) (rs qs : List Relation) → use_relation limits q p rs ≡ ok qs → Few rs → Few qs
  unfolding use_relation
  relation_few q p rs qs e h = go (arities q.name rs) e
    where
      go : (ns : List ℕ) → on_arities limits ns q p rs ≡ ok qs → Few qs
      go [] e = added_few q rs qs e
      go (n ∷ ns) e = subst Few (ok_injective (then_ok (refuse_if (not (eqb n q.arity)) 5 p) _ qs e)) h

  -- the relations that the query adds
  name_few : (k : Kinds) (u : Use) (l : Kinds) → use_name limits k u ≡ ok l → Few k.relations → Few l.relations
  unfolding use_name
  name_few k u l e h = go (rule u.role (k.known u.token.text)) e
    where
      go : (r : Rule) → follow limits k u.token r ≡ ok l → Few l.relations
      go (becomes v) e = subst (λ (m : Kinds). Few m.relations) (ok_injective e) h
      go (row r) e = absurd (never e)
      go (first n) e =
          let (rs, p, q) = bind_ok (add_relation limits (new_relation u.token n) k.relations) _ l e in
          subst (λ (m : Kinds). Few m.relations) (ok_injective q) (added_few (new_relation u.token n) k.relations rs p)

  pub few_relations : (facts query : Text) (w : Accepted) → accept limits facts query ≡ ok w → length w.relations ≤ limits.relations
  few_relations facts query w e =
      let h = parts limits facts query w e in
      let first_few : Few h.facts_read.relations =
      facts_hold limits (λ u. Few u.relations) (λ l f s t p a. relation_few (fact_relation f) (last_place f.at f.elements) s.relations t.relations a.relations) (omega arith) facts h.facts_read h.read in
      subst Few h.relations (names_hold limits (λ m. Few m.relations) name_few (in_program w.program) (fact_kinds h.facts_read.relations) h.kinds h.names first_few)
