-- Relations entered by name stand in the definition's order.
use Prim.Native.Nat.{ℕ}
use mathlib.Core.Path.{◌≡◌, refl, ap, ◌∙◌}
use mathlib.Core.Bool.{Bool, true, false, ◌||◌, cond}
use mathlib.Core.List.{List, [], ◌∷◌}
use Rattle.definition.specs.Text.{Text, same, earlier, some_of, member}
use Rattle.definition.specs.Join.{insert_by_name, by_name}
use Rattle.definition.proofs.UniverseLaws.{member_insert}
use Rattle.definition.proofs.BoolLaws.{or_eq_false}
use Rattle.definition.proofs.DistinctLaws.{Distinct, distinct_head, distinct_tail}
use Rattle.definition.proofs.NamedLaws.{names}
use Rattle.parts.specs.Packed.{text_of}
use Rattle.parts.specs.Entries.{enter, texts_of}
use Rattle.parts.proofs.HeldLaws.{texts_enter}
use Rattle.facts.specs.Words.{relation_of, relations_of}
use Rattle.unions.specs.Union.{sorted}

module _ (facts query : Text) where
  -- names are texts
  pub names_texts : (vs : List ℕ) → names (relations_of facts query vs) ≡ texts_of facts query vs
  names_texts [] = refl
  names_texts (v ∷ vs) = ap (λ l. text_of facts query v ∷ l) (names_texts vs)

  enter_new : (v : ℕ) (ws : List ℕ) → member (text_of facts query v) (texts_of facts query ws) ≡ false → relations_of facts query (enter facts query v ws) ≡ insert_by_name (relation_of facts query v) (relations_of facts query ws)
  unfolding enter insert_by_name member some_of
  enter_new v [] m = refl
  enter_new v (w ∷ ws) m =
      let h = or_eq_false (same (text_of facts query v) (text_of facts query w)) (member (text_of facts query v) (texts_of facts query ws)) m in
      rw h.0 (go (earlier (text_of facts query v) (text_of facts query w)) (enter_new v ws h.1))
    where
      go : (b : Bool) → relations_of facts query (enter facts query v ws) ≡ insert_by_name (relation_of facts query v) (relations_of facts query ws)
          → relations_of facts query (cond b (v ∷ w ∷ ws) (w ∷ enter facts query v ws))
          ≡ cond b (relation_of facts query v ∷ relation_of facts query w ∷ relations_of facts query ws) (relation_of facts query w ∷ insert_by_name (relation_of facts query v) (relations_of facts query ws))
      go true ih = refl
      go false ih = ap (λ l. relation_of facts query w ∷ l) ih

  member_sorted : (x : Text) (vs : List ℕ) → member x (texts_of facts query (sorted facts query vs)) ≡ member x (texts_of facts query vs)
  unfolding sorted member some_of
  member_sorted x [] = refl
  member_sorted x (v ∷ vs) =
      ap (member x) (texts_enter facts query v (sorted facts query vs)) ∙ member_insert x (text_of facts query v) (texts_of facts query (sorted facts query vs))
      ∙ ap (λ (b : Bool). same x (text_of facts query v) || b) (member_sorted x vs)

  pub sorted_by_name : (vs : List ℕ) → Distinct (texts_of facts query vs) → relations_of facts query (sorted facts query vs) ≡ by_name (relations_of facts query vs)
  unfolding sorted by_name
  sorted_by_name [] d = refl
  sorted_by_name (v ∷ vs) d =
      enter_new v (sorted facts query vs) (member_sorted (text_of facts query v) vs ∙ distinct_head d)
      ∙ ap (insert_by_name (relation_of facts query v)) (sorted_by_name vs (distinct_tail d))
