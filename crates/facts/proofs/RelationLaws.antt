-- The use of a name after some relations, by where it stands among them.
use Prim.Native.Nat.{ℕ, suc, ◌+◌, ◌/◌, ◌%◌, ◌<◌, ◌≤◌}
use mathlib.Core.Path.{◌≡◌, refl, sym, ap, ◌∙◌}
use mathlib.Core.List.{List, [], ◌∷◌, ◌++◌, map-append}
use mathlib.Core.Bool.{Bool, true, false, cond, ◌&&◌, not}
use native.Mathlib.Numerals.{add-one}
use native.Mathlib.Omega.{arith}
use lib.Dec.{eqb}
use lib.ListN.{length, get_or, take, drop, set, length-append, length-map}
use lib.Seq.{length-take-le, set_split, get_or-take, append_snoc}
use borrow.Author.Tests.{le-ltb, lt-ltb, le-leb, lt-leb, eq-eqb, ne_eqb}
use Rattle.definition.specs.Text.{Text, same, span}
use Rattle.definition.specs.Answer.{ok}
use Rattle.definition.specs.Facts.{Relation, arities, add_relation, use_relation}
use Rattle.definition.specs.Join.{clashes}
use Rattle.parts.specs.Packed.{tag_of, text_of}
use Rattle.parts.specs.Entries.{position, index, note}
use Rattle.parts.proofs.HeldLaws.{held_first}
use Rattle.facts.specs.Words.{relation_of, relations_of}
use Rattle.facts.specs.Pass.{clash_of, RelationUsed}
use Rattle.facts.specs.declared.NotUsed.TheVariants.{OtherArity, Clash, Full}
use Rattle.std.specs.declared.result.Result.TheVariants.{Ok, Err}
use Rattle.facts.proofs.WordLaws.{no_and}

-- what the first relation of a name gives, of a value h that only this relation decides
module _ (facts query t : Text) {A : Type 0} (h : List Relation → A) (one : Relation → A) (step : (q : Relation) (qs : List Relation) → h (q ∷ qs) ≡ cond (same t q.name) (one q) (h qs)) where
  known : (ws : List ℕ) → position facts query t ws < length ws → h (relations_of facts query ws) ≡ one (relation_of facts query (get_or ws (position facts query t ws) 0))
  unfolding span
  known [] l = absurd (omega arith)
  known (w ∷ ws) l = step (relation_of facts query w) (relations_of facts query ws) ∙ go (same t (text_of facts query w)) l (known ws)
    where
      i : ℕ
      i = position facts query t ws

      go : (b : Bool) → cond (not b) (suc i) 0 < suc (length ws)
          → (i < length ws → h (relations_of facts query ws) ≡ one (relation_of facts query (get_or ws i 0)))
          → cond b (one (relation_of facts query w)) (h (relations_of facts query ws)) ≡ one (relation_of facts query (get_or (w ∷ ws) (cond (not b) (suc i) 0) 0))
      go true l ih = refl
      go false l ih = ih (omega arith)

  unknown : (ws : List ℕ) → length ws ≤ position facts query t ws → h (relations_of facts query ws) ≡ h []
  unfolding span
  unknown [] l = refl
  unknown (w ∷ ws) l = step (relation_of facts query w) (relations_of facts query ws) ∙ go (same t (text_of facts query w)) l (unknown ws)
    where
      i : ℕ
      i = position facts query t ws

      go : (b : Bool) → suc (length ws) ≤ cond (not b) (suc i) 0
          → (length ws ≤ i → h (relations_of facts query ws) ≡ h [])
          → cond b (one (relation_of facts query w)) (h (relations_of facts query ws)) ≡ h []
      go true l ih = absurd (omega arith)
      go false l ih = ih (omega arith)

-- the arity under which a name stands, and none
module _ (facts query t : Text) where
  pub arity_known : (ws : List ℕ) → position facts query t ws < length ws → arities t (relations_of facts query ws) ≡ tag_of (get_or ws (position facts query t ws) 0) ∷ []
  unfolding arities
  arity_known ws l = known facts query t (arities t) (λ q. q.arity ∷ []) (λ q qs. refl) ws l

  pub arity_unknown : (ws : List ℕ) → length ws ≤ position facts query t ws → arities t (relations_of facts query ws) ≡ []
  unfolding arities
  arity_unknown ws l = unknown facts query t (arities t) (λ q. q.arity ∷ []) (λ q qs. refl) ws l

  -- whether the first text gives it another
  module _ (n : ℕ) where
    clash_known : (ws : List ℕ) → position facts query t ws < length ws
        → clashes t n (relations_of facts query ws) ≡ eqb (get_or ws (position facts query t ws) 0 / 4 % 2) 1 && not (eqb (tag_of (get_or ws (position facts query t ws) 0)) n)
    unfolding clashes
    clash_known ws l = known facts query t (clashes t n) (λ q. eqb q.text 1 && not (eqb q.arity n)) (λ q qs. refl) ws l

    clash_unknown : (ws : List ℕ) → length ws ≤ position facts query t ws → clashes t n (relations_of facts query ws) ≡ false
    unfolding clashes
    clash_unknown ws l = unknown facts query t (clashes t n) (λ q. eqb q.text 1 && not (eqb q.arity n)) (λ q qs. refl) ws l

module _ (facts query : Text) (v : ℕ) where
  module _ (words : List ℕ) (n : ℕ) (within : n ≤ length words) (i : ℕ) (e : i ≡ index facts query v (take n words)) where
    size : length (take n words) ≡ n
    size = length-take-le n words within

    module _ (h : i < n) where
      here : index facts query v (take n words) < length (take n words)
      here = omega (arith, e, size)

      the_word : get_or (take n words) (index facts query v (take n words)) 0 ≡ get_or words i 0
      the_word = ap (λ (k : ℕ). get_or (take n words) k 0) (sym e) ∙ get_or-take n words i 0 h

      the_arity : arities (text_of facts query v) (relations_of facts query (take n words)) ≡ tag_of (get_or words i 0) ∷ []
      unfolding index
      the_arity = arity_known facts query (text_of facts query v) (take n words) here ∙ ap (λ (w : ℕ). tag_of w ∷ []) the_word

      the_clash : clash_of facts query v (take n words) ≡ eqb (get_or words i 0 / 4 % 2) 1 && not (eqb (tag_of (get_or words i 0)) (tag_of v))
      unfolding index
      the_clash =
          clash_known facts query (text_of facts query v) (tag_of v) (take n words) here
          ∙ ap (λ (w : ℕ). eqb (w / 4 % 2) 1 && not (eqb (tag_of w) (tag_of v))) the_word

      module _ (d : tag_of (get_or words i 0) ≡ tag_of v → ⊥) where
        pub relation_clash : get_or words i 0 / 4 % 2 ≡ 1 → RelationUsed facts query v words words n (Err Clash)
        relation_clash t = the_clash ∙ rw (eq-eqb (get_or words i 0 / 4 % 2) 1 t, ne_eqb (tag_of (get_or words i 0)) (tag_of v) d)

        pub relation_other : (get_or words i 0 / 4 % 2 ≡ 1 → ⊥) → RelationUsed facts query v words words n (Err OtherArity)
        unfolding use_relation
        relation_other t =
            (λ k p. rw (the_arity, ne_eqb (tag_of (get_or words i 0)) (tag_of v) d), the_clash ∙ rw (ne_eqb (get_or words i 0 / 4 % 2) 1 t))

      pub relation_known : tag_of (get_or words i 0) ≡ tag_of v → RelationUsed facts query v words words n (Ok n)
      unfolding use_relation note
      relation_known d =
          let t = lt-ltb (index facts query v (take n words)) (length (take n words)) here in
          let s = eq-eqb (tag_of (get_or words i 0)) (tag_of v) d in
          (rw t (held_first words n within), λ k p. rw (the_arity, s, t), the_clash ∙ rw s (no_and (eqb (get_or words i 0 / 4 % 2) 1)))

    module _ (h : n ≤ i) (b : i ≤ length (take n words)) where
      past : index facts query v (take n words) ≡ length (take n words)
      past = omega (arith, e, size, b)

      no_arity : arities (text_of facts query v) (relations_of facts query (take n words)) ≡ []
      unfolding index
      no_arity = arity_unknown facts query (text_of facts query v) (take n words) (omega (arith, past))

      no_clash : clash_of facts query v (take n words) ≡ false
      unfolding index
      no_clash = clash_unknown facts query (text_of facts query v) (tag_of v) (take n words) (omega (arith, past))

      pub relation_full : n ≡ length words → RelationUsed facts query v words words n (Err Full)
      unfolding use_relation add_relation
      relation_full d =
          let m : length words ≤ length (relations_of facts query (take n words)) = omega (arith, size, length-map (take n words) (relation_of facts query)) in
          (λ k p. rw (no_arity, le-leb (length words) (length (relations_of facts query (take n words))) m), no_clash)

      pub relation_new : n < length words → RelationUsed facts query v words (set words n v) n (Ok (n + 1))
      unfolding use_relation note add_relation
      relation_new d =
          let t = le-ltb (index facts query v (take n words)) (length (take n words)) (omega (arith, past)) in
          let m : length (relations_of facts query (take n words)) < length words = omega (arith, size, length-map (take n words) (relation_of facts query)) in (
            rw t (record {
              count = sym (length-append (take n words) (v ∷ []) ∙ ap (λ (k : ℕ). k + 1) size);
              room = omega arith;
              is = set_new;
            }),
            λ k p. rw (no_arity, lt-leb (length words) (length (relations_of facts query (take n words))) m, t) (ap ok (sym (map-append (relation_of facts query) (take n words) (v ∷ [])))),
            no_clash,
          )
        where
          set_new : set words n v ≡ take n words ++ (v ∷ []) ++ drop (n + 1) words
          set_new = set_split words n v d ∙ sym (append_snoc (take n words) v (drop (suc n) words)) ∙ ap (λ (k : ℕ). take n words ++ (v ∷ []) ++ drop k words) (sym (add-one n))
