-- From one stage of the join to the next: the first text read, its lists turned, the second read after it.
use Prim.Native.Nat.{ℕ, ◌≤◌}
use mathlib.Core.Path.{◌≡◌, sym, ap, ap₂, subst, ◌∙◌}
use mathlib.Core.List.{List, [], map}
use native.Mathlib.Omega.{arith}
use lib.ListN.{length, take, length-map}
use Rattle.definition.specs.Text.{Text}
use Rattle.definition.specs.Limits.{document_01}
use Rattle.definition.specs.Answer.{ok, refusal}
use Rattle.definition.specs.Facts.{Relation, Facts, read_facts, Ascending}
use Rattle.definition.specs.Join.{of_first, read_second}
use Rattle.definition.specs.declared.Refusal.{Refusal}
use Rattle.definition.proofs.JoinReading.{facts_own}
use Rattle.parts.specs.Entries.{texts_of}
use Rattle.parts.proofs.HeldLaws.{held_take, held_length, enter_all_ascending}
use Rattle.facts.specs.declared.Counts.{Counts}
use Rattle.std.specs.declared.result.Result.TheVariants.{Ok, Err}
use Rattle.facts.specs.Words.{noted, entered, relations_of}
use Rattle.facts.specs.Pass.{limits_of, facts_of}
use Rattle.facts.specs.Reading.{all_facts, more_elements, Meets, MeetsAfter}
use Rattle.turning.specs.Turned.{turned}
use Rattle.turning.proofs.TurnedLaws.{turned_texts, turned_relations, take_turned}
use Rattle.join.specs.United.{one, union, FirstRead, United}

module _ (first second : Text) where
  -- after the first text
  pub first_read : (rs rs' us us' : List ℕ) (c : Counts) → length rs ≡ 16 → length us ≡ 64 → Meets first second rs rs' us us' (Ok c) → FirstRead first second rs' us' c
  first_read rs rs' us us' c r u m =
      record {
        read = ap₂ (λ (i j : ℕ). read_facts (limits_of i j) first) (sym r) (sym u) ∙ m.0;
        sixteen = held_length m.1 ∙ r;
        sixty_four = held_length m.2 ∙ u;
        few_relations = omega (arith, m.1.room, r);
        few_elements = omega (arith, m.2.room, u);
        relations_are = held_take m.1;
        elements_are = held_take m.2;
      }

  pub first_fails : (rs us : List ℕ) (q : Refusal) → length rs ≡ 16 → length us ≡ 64 → read_facts (limits_of (length rs) (length us)) first ≡ refusal q → read_facts document_01 first ≡ refusal q
  first_fails rs us q r u e = ap₂ (λ (i j : ℕ). read_facts (limits_of i j) first) (sym r) (sym u) ∙ e

  -- its lists turned
  module _ (rs us : List ℕ) (c : Counts) (h : FirstRead first second rs us c) (rs₁ us₁ : List ℕ) (e : rs₁ ≡ map turned rs) (f : us₁ ≡ map turned us) where
    relations_turned : take c.relations rs₁ ≡ map turned (noted first second (all_facts first))
    relations_turned = ap (take c.relations) e ∙ take_turned c.relations rs ∙ ap (map turned) h.relations_are

    elements_turned : take c.elements us₁ ≡ map turned (entered first second (all_facts first))
    elements_turned = ap (take c.elements) f ∙ take_turned c.elements us ∙ ap (map turned) h.elements_are

    sixteen : length rs₁ ≡ 16
    sixteen = ap length e ∙ length-map rs turned ∙ h.sixteen

    sixty_four : length us₁ ≡ 64
    sixty_four = ap length f ∙ length-map us turned ∙ h.sixty_four

    ascending_turned : Ascending (texts_of second first (take c.elements us₁))
    unfolding entered
    ascending_turned =
        subst Ascending (sym (ap (texts_of second first) elements_turned ∙ turned_texts first second (entered first second (all_facts first))))
        (enter_all_ascending first second _ [] tt)

    pub ready : (c.relations ≤ length rs₁) × (c.elements ≤ length us₁) × Ascending (texts_of second first (take c.elements us₁))
    ready = (omega (arith, sixteen, h.few_relations), omega (arith, sixty_four, h.few_elements), ascending_turned)

    -- the lists hold the first text's facts, as the second text finds them
    found : of_first (one first second) ≡ facts_of second first (take c.relations rs₁) (take c.elements us₁) (all_facts first)
    found =
        ap₂ (λ (qs : List Relation) (vs : List Text). record { relations = qs; universe = vs; facts = all_facts first })
        (sym (ap (relations_of second first) relations_turned ∙ turned_relations first second (noted first second (all_facts first)) (facts_own document_01 first (one first second) h.read)))
        (sym (ap (texts_of second first) elements_turned ∙ turned_texts first second (entered first second (all_facts first))))

    after_first : read_second document_01 (of_first (one first second)) second ≡ read_second (limits_of (length rs₁) (length us₁)) (facts_of second first (take c.relations rs₁) (take c.elements us₁) (all_facts first)) second
    after_first =
        ap (λ (s : Facts). read_second document_01 s second) found
        ∙ ap₂ (λ (i j : ℕ). read_second (limits_of i j) (facts_of second first (take c.relations rs₁) (take c.elements us₁) (all_facts first)) second) (sym sixteen) (sym sixty_four)

    -- after the second text
    module _ (rs' us' : List ℕ) where
      pub second_fails : (q : Refusal) → MeetsAfter second first c rs₁ rs' us₁ us' (Err q) → read_second document_01 (of_first (one first second)) second ≡ refusal q
      second_fails q m = after_first ∙ m (all_facts first)

      module _ (d : Counts) (m : MeetsAfter second first c rs₁ rs' us₁ us' (Ok d)) where
        pub relations_there : d.relations ≤ length rs'
        relations_there = omega (arith, m.1.room, held_length m.1)

        pub elements_there : d.elements ≤ length us'
        elements_there = omega (arith, m.2.room, held_length m.2)

        pub united : United first second (take d.relations rs') (take d.elements us')
        united =
            record {
              read_one = h.read;
              read_both = after_first ∙ m.0 (all_facts first) ∙ ap₂ (λ (x y : List ℕ). ok (union first second x y)) (sym (held_take m.1)) (sym (held_take m.2));
              elements_are = held_take m.2 ∙ ap (more_elements second first (all_facts second)) elements_turned;
            }
