-- A fact taken in: its relation, then its elements.
use Prim.Native.Nat.{ℕ, zero, suc, ◌+◌, ◌-◌, ◌/◌, ◌%◌, ◌<◌, ◌≤◌}
use mathlib.Core.Path.{◌≡◌, refl, sym, ap, subst, ◌∙◌}
use mathlib.Core.List.{List, [], ◌∷◌}
use mathlib.Core.Bool.{Bool, true, false}
use native.Mathlib.Omega.{arith}
use lib.ListN.{length, get_or, take, drop, length-map}
use lib.Seq.{length-take-le}
use Rattle.definition.specs.Text.{Text}
use Rattle.definition.specs.Limits.{ARITY, WORD_BYTES}
use Rattle.definition.specs.Answer.{ok, refused}
use Rattle.definition.specs.Facts.{Relation, use_relation, last_place, with_fact}
use Rattle.definition.specs.Join.{clashes, join_fact}
use Rattle.definition.specs.declared.Refusal.{Refusal}
use Rattle.definition.specs.declared.Refusal.TheVariants.{Arity, TooManyRelations, TooManyElements, FirstArity}
use Rattle.definition.specs.Calls.{Part}
use Rattle.parts.specs.Packed.{text_of}
use Rattle.parts.specs.Entries.{note}
use Rattle.parts.proofs.PackLaws.{pack_tag, pack_part}
use Rattle.facts.specs.declared.Item.{Item}
use Rattle.facts.specs.declared.FactLine.{FactLine}
use Rattle.facts.specs.declared.Counts.{Counts}
use Rattle.facts.specs.declared.NotUsed.{NotUsed}
use Rattle.facts.specs.declared.NotUsed.TheVariants.{OtherArity, Clash, Full}
use Rattle.std.specs.declared.result.Result.{Result}
use Rattle.std.specs.declared.result.Result.TheVariants.{Ok, Err}
use Rattle.std.specs.Result.{MatchResult, IsErrAnd}
use Rattle.facts.specs.Lines.{items_of, item_at}
use Rattle.facts.specs.Words.{elements_at, fact_at, relation_of, relations_of, line_word, element_at}
use Rattle.facts.specs.Pass.{limits_of, clash_of, RelationUsed, UniverseUsed, FactTaken}
use Rattle.facts.proofs.UseLaws.{facts_text}

-- the use of a name that is made as v and answered as u
pub used_as : (facts query : Text) (rs rs' : List ℕ) (n : ℕ) {v w : ℕ} {u t : Result ℕ NotUsed} → v ≡ w → u ≡ t → RelationUsed facts query v rs rs' n u → RelationUsed facts query w rs rs' n t
used_as facts query rs rs' n {v} {w} {u} {t} e k h = subst (λ (x : ℕ). RelationUsed facts query x rs rs' n t) e (subst (RelationUsed facts query v rs rs' n) k h)

-- the place for which there is no room, made a refusal
module _ (m : Result ℕ Refusal) where
  abbrev Refused : Result ℕ ℕ → Type 0
  Refused u = MatchResult u (λ x. m ≡ Ok x) (λ p. IsErrAnd m (λ q. q ≡ TooManyElements p))

  pub room_left : (u : Result ℕ ℕ) → Refused u → (e : ℕ) → m ≡ Ok e → u ≡ Ok e
  room_left (Ok x) h e k =
      let same : ◌≡◌ {A = Result ℕ Refusal} (Ok x) (Ok e) = sym h ∙ k in
      let i : x ≡ e = cc in ap Ok i
  room_left (Err p) h e k = absurd (subst (λ r. IsErrAnd r (λ q. q ≡ TooManyElements p)) k h)

  pub no_room_left : (u : Result ℕ ℕ) → Refused u → (q : Refusal) → m ≡ Err q → (p : ℕ) × (u ≡ Err p) × (q ≡ TooManyElements p)
  no_room_left (Ok x) h q k =
      let same : ◌≡◌ {A = Result ℕ Refusal} (Ok x) (Err q) = sym h ∙ k in
      let z : ◌≡◌ {A = ℕ} 0 1 = cc in absurd (omega arith)
  no_room_left (Err p) h q k = (p, refl, subst (λ r. IsErrAnd r (λ z. z ≡ TooManyElements p)) k h)

-- the place of the last element
last_of : (facts : Text) (a k : ℕ) (x y z : Item) → k < ARITY → last_place a (elements_at facts a (take (suc k) (x ∷ y ∷ z ∷ []))) ≡ a + (get_or (x ∷ y ∷ z ∷ []) k z).place
last_of facts a zero x y z h = refl
last_of facts a (suc zero) x y z h = refl
last_of facts a (suc (suc zero)) x y z h = refl
last_of facts a (suc (suc (suc k))) x y z h = absurd (omega arith)

pub last_none : (a : ℕ) (f : FactLine) → f.arity ≡ 0 → (facts : Text) → last_place a (elements_at facts a (items_of f)) ≡ a
last_none a f h facts = rw h

pub last_some : (a : ℕ) (f : FactLine) → f.arity ≤ ARITY → (f.arity ≡ 0 → ⊥) → (facts : Text) → last_place a (elements_at facts a (items_of f)) ≡ a + (item_at f (f.arity - 1)).place
last_some a f h n facts =
    let e : f.arity ≡ suc (f.arity - 1) = omega (arith, n) in
    ap (λ (k : ℕ). last_place a (elements_at facts a (take k (f.first ∷ f.second ∷ f.third ∷ [])))) e
    ∙ last_of facts a (f.arity - 1) f.first f.second f.third (omega (arith, n))

module _ (facts query : Text) (a : ℕ) (f : FactLine) (small : f.arity ≤ ARITY) (short : f.name_len ≤ WORD_BYTES) where
  -- the relation that the definition speaks of
  relation_line : relation_of facts query (line_word a f) ≡ record { name = (fact_at facts a f).name; arity = length (elements_at facts a (items_of f)); text = 0; at = a }
  relation_line =
      let n : text_of facts query (line_word a f) ≡ take f.name_len (drop a facts) = facts_text facts query a f.name_len f.arity (omega arith) (omega arith) in
      let k : line_word a f % 4 ≡ f.arity = pack_tag 0 a f.name_len f.arity (omega arith) (omega arith) (omega arith) in
      let q = pack_part 0 a f.name_len f.arity (omega arith) (omega arith) (omega arith) in
      let t : line_word a f / 4 % 2 ≡ 0 = ap (λ (p : Part). p.text) q in
      let o : line_word a f / 512 ≡ a = ap (λ (p : Part). p.offset) q in
      let l : length (elements_at facts a (items_of f)) ≡ f.arity
      = length-map (items_of f) (element_at facts a) ∙ length-take-le f.arity (f.first ∷ f.second ∷ f.third ∷ []) small in
      rw (n, k, t, o, l)

  module _ (rs us : List ℕ) (c : Counts) where
    the_clash : (b : Bool) → clash_of facts query (line_word a f) (take c.relations rs) ≡ b
        → clashes (fact_at facts a f).name (length (elements_at facts a (items_of f))) (relations_of facts query (take c.relations rs)) ≡ b
    the_clash b h = subst (λ (q : Relation). clashes q.name q.arity (relations_of facts query (take c.relations rs)) ≡ b) relation_line h

    pub taken_clash : (rs' us' : List ℕ) → RelationUsed facts query (line_word a f) rs rs' c.relations (Err Clash)
        → FactTaken facts query a f rs rs' us us' c (Err (FirstArity a))
    unfolding join_fact
    taken_clash rs' us' h fs = rw (the_clash true h)

    pub taken_full : (rs' us' : List ℕ) → RelationUsed facts query (line_word a f) rs rs' c.relations (Err Full)
        → FactTaken facts query a f rs rs' us us' c (Err (TooManyRelations a))
    unfolding join_fact with_fact
    taken_full rs' us' h fs =
        let e = h.0 (length us) (last_place a (elements_at facts a (items_of f))) in
        let g : use_relation (limits_of (length rs) (length us)) (record { name = (fact_at facts a f).name; arity = length (elements_at facts a (items_of f)); text = 0; at = a }) (last_place a (elements_at facts a (items_of f))) (relations_of facts query (take c.relations rs)) ≡ refused 6 a
        = subst (λ (q : Relation). use_relation (limits_of (length rs) (length us)) q (last_place a (elements_at facts a (items_of f))) (relations_of facts query (take c.relations rs)) ≡ refused 6 q.at) relation_line e in
        rw (the_clash false h.1, g)

    pub taken_other : (rs' us' : List ℕ) (p : ℕ) → ((t : Text) → last_place a (elements_at t a (items_of f)) ≡ p) → RelationUsed facts query (line_word a f) rs rs' c.relations (Err OtherArity)
        → FactTaken facts query a f rs rs' us us' c (Err (Arity p))
    unfolding join_fact with_fact
    taken_other rs' us' p l h fs =
        let g : use_relation (limits_of (length rs) (length us)) (record { name = (fact_at facts a f).name; arity = length (elements_at facts a (items_of f)); text = 0; at = a }) p (relations_of facts query (take c.relations rs)) ≡ refused 5 p
        = subst (λ (q : Relation). use_relation (limits_of (length rs) (length us)) q p (relations_of facts query (take c.relations rs)) ≡ refused 5 p) relation_line (h.0 (length us) p) in
        rw (the_clash false h.1, l facts, g)

    module _ (rs' us' : List ℕ) (r : ℕ) (h : RelationUsed facts query (line_word a f) rs rs' c.relations (Ok r)) where
      related : use_relation (limits_of (length rs) (length us)) (record { name = (fact_at facts a f).name; arity = length (elements_at facts a (items_of f)); text = 0; at = a }) (last_place a (elements_at facts a (items_of f))) (relations_of facts query (take c.relations rs))
          ≡ ok (relations_of facts query (note facts query (line_word a f) (take c.relations rs)))
      related =
          subst
          (λ (q : Relation). use_relation (limits_of (length rs) (length us)) q (last_place a (elements_at facts a (items_of f))) (relations_of facts query (take c.relations rs)) ≡ ok (relations_of facts query (note facts query (line_word a f) (take c.relations rs))))
          relation_line (h.1 (length us) (last_place a (elements_at facts a (items_of f))))

      pub taken_many : (p : ℕ) → UniverseUsed facts query a f us us' c.elements (Err p) → FactTaken facts query a f rs rs' us us' c (Err (TooManyElements p))
      unfolding join_fact with_fact
      taken_many p g fs = rw (the_clash false h.2, related, g (length rs))

      pub taken_fits : (e : ℕ) → UniverseUsed facts query a f us us' c.elements (Ok e) → FactTaken facts query a f rs rs' us us' c (Ok (record { relations = r; elements = e }))
      unfolding join_fact with_fact
      taken_fits e g = (h.0, g.0, λ fs. rw (the_clash false h.2, related, g.1 (length rs)))
