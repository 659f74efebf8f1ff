-- One of the facts, as it is read again: its tuple, and the place of its relation.
use Prim.Native.Nat.{ℕ, suc, ◌≤◌}
use mathlib.Core.Path.{◌≡◌, refl, sym, ap, subst, ◌∙◌}
use mathlib.Core.Bool.{Bool, true, false, not, cond}
use mathlib.Core.List.{List, [], ◌∷◌, ◌++◌, map, append-nil, append_assoc, map-map}
use native.Mathlib.Omega.{arith}
use lib.Dec.{T}
use lib.ListN.{length, length-map}
use lib.Seq.{length-take-le}
use Rattle.definition.specs.Text.{Text, same, member, span, gather}
use Rattle.definition.specs.Limits.{Limits, document_01}
use Rattle.definition.specs.Answer.{Answer, ok, ◌>>=◌}
use Rattle.definition.specs.Facts.{Fact, Facts, Line, Relation, with_fact, skipped, fact, read_lines, fact_lines, Ascending}
use Rattle.definition.specs.Tables.{Tuple}
use Rattle.definition.specs.Accept.{Accepted, accept}
use Rattle.definition.proofs.InLaws.{In, in_some, every_in}
use Rattle.definition.proofs.RelationLaws.{place_of}
use Rattle.definition.proofs.AcceptLaws.{ok_injective, bind_ok, fact_added, lines_read, parts, has, in_facts}
use Rattle.definition.proofs.NamedLaws.{names}
use Rattle.definition.proofs.SoundLaws.{accepted_sound}
use Rattle.tuples.proofs.Loading.{Alone, Numbered}
use Rattle.parts.specs.Packed.{text_of}
use Rattle.parts.specs.Entries.{index, texts_of}
use Rattle.facts.specs.declared.FactLine.{FactLine}
use Rattle.facts.specs.Lines.{AllWithin, items_of}
use Rattle.facts.specs.Words.{fact_at, line_word, relation_of}
use Rattle.facts.specs.Reading.{answered, line_facts, facts_from}
use Rattle.facts.proofs.UseLaws.{facts_text}
use Rattle.loading.specs.Given.{tuple_at, Known, Stated}
use Rattle.loading.proofs.Named.{alone}
use Rattle.loading.proofs.Tuples.{short_items, numbered}

-- ---- the accepted facts are those that are read again

lines_facts : (limits : Limits) (ls : List Line) (s t : Facts) → read_lines limits ls s ≡ ok t → t.facts ≡ s.facts ++ gather line_facts ls
unfolding read_lines gather line_facts
lines_facts limits [] s t e = ap (λ (f : Facts). f.facts) (sym (ok_injective e)) ∙ sym (append-nil s.facts)
lines_facts limits (l ∷ ls) s t e = go (skipped l.bytes) e (λ s e. lines_facts limits ls s t e)
  where
    go : (b : Bool) → cond b (read_lines limits ls s) (do f ← fact l; u ← with_fact limits s f; read_lines limits ls u) ≡ ok t
        → ((s : Facts) → read_lines limits ls s ≡ ok t → t.facts ≡ s.facts ++ gather line_facts ls) → t.facts ≡ s.facts ++ (cond b [] (answered (fact l)) ++ gather line_facts ls)
    go true e ih = ih s e
    go false e ih =
        let (f, p, q) = bind_ok (fact l) _ t e in
        let (u, p', q') = bind_ok (with_fact limits s f) _ t q in
        ih u q' ∙ ap (λ (fs : List Fact). fs ++ gather line_facts ls) (sym (fact_added limits s f u p').facts) ∙ append_assoc s.facts (f ∷ []) (gather line_facts ls)
        ∙ ap (λ (a : Answer Fact). s.facts ++ (answered a ++ gather line_facts ls)) (sym p)

accepted_again : (limits : Limits) (facts query : Text) (w : Accepted) → accept limits facts query ≡ ok w → w.facts ≡ facts_from facts 0
unfolding facts_from fact_lines
accepted_again limits facts query w e =
    let h = parts limits facts query w e in
    sym h.same_facts ∙ lines_facts limits (fact_lines facts) _ h.facts_read (lines_read limits facts h.facts_read h.read)

-- ---- a fact's relation

-- relations with the names that some words have
pub index_place : (facts query : Text) (v : ℕ) (ws : List ℕ) (rs : List Relation) → map (text_of facts query) ws ≡ names rs → index facts query v ws ≡ place_of (text_of facts query v) rs
unfolding index span place_of
index_place facts query v [] [] e = refl
index_place facts query v [] (r ∷ rs) e = let z : ◌≡◌ {A = ℕ} 0 1 = cc in absurd (omega arith)
index_place facts query v (w ∷ ws) [] e = let z : ◌≡◌ {A = ℕ} 0 1 = cc in absurd (omega arith)
index_place facts query v (w ∷ ws) (r ∷ rs) e =
    let first : text_of facts query w ≡ r.name = cc in
    let rest : map (text_of facts query) ws ≡ names rs = cc in
    go (same (text_of facts query v) (text_of facts query w)) (index_place facts query v ws rs rest)
    ∙ ap (λ (x : Text). cond (same (text_of facts query v) x) 0 (suc (place_of (text_of facts query v) rs))) first
  where
    go : (b : Bool) → index facts query v ws ≡ place_of (text_of facts query v) rs → cond (not b) (suc (index facts query v ws)) 0 ≡ cond b 0 (suc (place_of (text_of facts query v) rs))
    go true ih = refl
    go false ih = ap suc ih

-- ---- what is known is stated

module _ (facts query : Text) (relations places : List ℕ) (w : Accepted) (g : Known facts query relations places w) where
  pub all_again : w.facts ≡ facts_from facts 0
  all_again = accepted_again document_01 facts query w g.accepted

  pub known_stated : Stated facts query relations places w
  known_stated =
      record {
        sound = accepted_sound document_01 facts query w g.accepted;
        names = sym (map-map (λ r. r.name) (relation_of facts query) relations) ∙ ap names g.relations;
        universe = g.universe;
      }

-- ---- one fact

module _ (facts query : Text) (relations places : List ℕ) (w : Accepted) (g : Stated facts query relations places w) where
  pub in_byte_order : Ascending (texts_of facts query places)
  in_byte_order = subst Ascending (sym g.universe) g.sound.ascending

  pub few : length w.universe ≤ 64
  few = g.sound.few_elements

  module _ (a n : ℕ) (f : FactLine) (within : AllWithin n f) (i : In (fact_at facts a f) w.facts) where
    abbrev this : Fact
    this = fact_at facts a f

    abbrev tuple : Tuple
    tuple = tuple_at facts query places a f

    pub arity : length tuple ≡ f.arity
    arity = length-map (items_of f) _ ∙ length-take-le f.arity (f.first ∷ f.second ∷ f.third ∷ []) within.arity

    in_universe : (x : Text) → T (has x this.elements) → T (member x w.universe)
    unfolding in_facts
    in_universe x t = g.sound.inside x (in_some (λ h. has x h.elements) i t)

    pub its_numbers : Numbered w.universe this.elements tuple
    its_numbers = numbered facts query places w.universe g.universe few a (items_of f) (short_items f within) in_universe

    pub relation_place : index facts query (line_word a f) relations ≡ place_of this.name w.relations
    relation_place =
        index_place facts query (line_word a f) relations w.relations g.names
        ∙ ap (λ (x : Text). place_of x w.relations) (facts_text facts query a f.name_len f.arity (omega (arith, within.name)) (omega (arith, within.arity)))

    -- no other relation has its name, and its arity is the fact's
    pub only : Alone this.name (length tuple) w.relations (index facts query (line_word a f) relations)
    only =
        let e : length this.elements ≡ length tuple = length-map (items_of f) _ ∙ sym (length-map (items_of f) _) in
        subst (Alone this.name (length tuple) w.relations) (sym relation_place) (alone this.name (length tuple) w.relations g.sound.distinct (every_in g.sound.fitted i ∙ ap (λ (m : ℕ). m ∷ []) e))
