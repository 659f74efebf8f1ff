-- The lists of a union: its relations by name and its elements, in either order of the texts, and its facts.
use Prim.Native.Nat.{ℕ, ◌≤◌}
use mathlib.Core.Path.{◌≡◌, refl, sym, ap, subst, ◌∙◌}
use mathlib.Core.List.{List, [], ◌++◌, map}
use native.Mathlib.Omega.{arith}
use lib.ListN.{length, length-map}
use Rattle.definition.specs.Text.{Text}
use Rattle.definition.specs.Limits.{document_01, FACT_BYTES}
use Rattle.definition.specs.Facts.{Fact}
use Rattle.definition.specs.Accept.{Accepted}
use Rattle.definition.specs.Join.{of_first, as_accepted}
use Rattle.definition.proofs.InLaws.{in_left, in_right}
use Rattle.definition.proofs.SoundLaws.{Sound}
use Rattle.definition.proofs.JoinReading.{second_read, alone_read, union_sound}
use Rattle.parts.specs.Packed.{text_of}
use Rattle.parts.proofs.HeldLaws.{length_texts}
use Rattle.facts.specs.Words.{relation_of}
use Rattle.facts.specs.Reading.{all_facts}
use Rattle.numbers.specs.Sets.{entered_all}
use Rattle.loading.specs.Given.{Stated}
use Rattle.counting.specs.FactNumbers.{number_set}
use Rattle.turning.specs.Turned.{turned}
use Rattle.turning.proofs.TurnedLaws.{all_back, turned_texts}
use Rattle.join.specs.United.{one, union, United, AreOf}
use Rattle.join.proofs.Names.{names_texts}

-- no fact has no number
no_numbers : (w : Accepted) → [] ≡ number_set w []
unfolding entered_all
no_numbers w = refl

-- the facts of both texts entered, with the lists turned before the first and turned back before the second
module _ (first second : Text) (rs us rs₁ us₁ rs₂ us₂ : List ℕ) (e : rs₁ ≡ map turned rs) (f : us₁ ≡ map turned us) (e₂ : rs₂ ≡ map turned rs₁) (f₂ : us₂ ≡ map turned us₁) where
  pub relations_back : rs₂ ≡ rs
  relations_back = e₂ ∙ ap (map turned) e ∙ all_back rs

  pub elements_back : us₂ ≡ us
  elements_back = f₂ ∙ ap (map turned) f ∙ all_back us

  -- lists that state the facts of w state them in the other order of the texts too
  other_way : (w : Accepted) → Stated second first rs us w → Stated first second rs₁ us₁ w
  other_way w s =
      record { sound = s.sound; names = ap (map (text_of first second)) e ∙ turned_texts second first rs ∙ s.names; universe = ap (map (text_of first second)) f ∙ turned_texts second first us ∙ s.universe }

  there_again : (w : Accepted) → Stated second first rs us w → Stated second first rs₂ us₂ w
  there_again w s = subst (λ (x : List ℕ). Stated second first x us₂ w) (sym relations_back) (subst (λ (x : List ℕ). Stated second first rs x w) (sym elements_back) s)

  pub both_entered : (set₁ set₂ : List ℕ)
      → ((w : Accepted) → Stated first second rs₁ us₁ w → (gs : List Fact) → [] ≡ number_set w gs → AreOf (all_facts first) w → set₁ ≡ number_set w (gs ++ all_facts first))
      → ((w : Accepted) → Stated second first rs₂ us₂ w → (gs : List Fact) → set₁ ≡ number_set w gs → AreOf (all_facts second) w → set₂ ≡ number_set w (gs ++ all_facts second))
      → (w : Accepted) → Stated second first rs us w → AreOf (all_facts first ++ all_facts second) w → set₂ ≡ number_set w (all_facts first ++ all_facts second)
  both_entered set₁ set₂ one two w s k =
      two w (there_again w s) (all_facts first) (one w (other_way w s) [] (no_numbers w) (λ g i. k g (in_left (all_facts second) i))) (λ g i. k g (in_right (all_facts first) i))

module _ (first second : Text) (relations universe : List ℕ) (h : United first second relations universe) where
  pub sound : Sound document_01 (as_accepted (union first second relations universe))
  sound = union_sound document_01 first second (one first second) (union first second relations universe) h.read_one h.read_both

  pub stated : Stated second first relations universe (as_accepted (union first second relations universe))
  stated = record { sound = sound; names = sym (names_texts second first relations); universe = refl }

  pub few_relations : length relations ≤ 16
  few_relations = omega (arith, sound.few_relations, length-map relations (relation_of second first))

  pub few_elements : length universe ≤ 64
  few_elements = omega (arith, sound.few_elements, length_texts second first universe)

  pub first_short : length first ≤ FACT_BYTES
  first_short = (alone_read document_01 first (one first second) h.read_one).short

  pub second_short : length second ≤ FACT_BYTES
  second_short = (second_read document_01 (of_first (one first second)) second (union first second relations universe) h.read_both).short
