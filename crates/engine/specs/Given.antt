-- Both texts read, and the words of an accepted query lowered.
use Rattle.std.specs.Prelude.{ℕ, ◌≤◌, ◌≡◌, List, [], length, take, Result, Ok, Err}
use Rattle.definition.specs.Text.{Text}
use Rattle.definition.specs.Limits.{document_01, FACT_BYTES}
use Rattle.definition.specs.Answer.{refused, number, place}
use Rattle.definition.specs.Accept.{Accepted, accept, elements}
use Rattle.definition.specs.declared.Refusal.{Refusal}
use Rattle.lines.specs.Lines.{texts}
use Rattle.lines.proofs.LineLaws.{Shows}
use Rattle.code.specs.Program.{Code}
use Rattle.loading.specs.Given.{Known}
use Rattle.acceptance.specs.declared.Sizes.{Sizes}

-- the relations, the universe and the lowered words of the accepted texts w, in lists as long as what they hold
pub record Given (facts query : Text) (relations places low : List ℕ) (w : Accepted) : Type 0 where
  pub known : Known facts query relations places w
  pub size : elements w ≡ length places
  pub shows : Shows w (texts facts query places)
  pub code : Code w query low [] w.program 0 (length low)
  pub few_relations : length relations ≤ 16
  pub few_places : length places ≤ 64
  pub short : length facts ≤ FACT_BYTES

module _ (facts query : Text) (relations places low : List ℕ) where
  -- in the first cells of arrays
  pub record Fits (s : Sizes) (w : Accepted) : Type 0 where
    pub given : Given facts query (take s.relations relations) (take s.elements places) (take s.words low) w
    pub relations_inside : s.relations ≤ length relations
    pub places_inside : s.elements ≤ length places
    pub words_inside : s.words ≤ length low

  -- the answer of the code: how much of the arrays that is, or the definition's refusal
  pub data Prepared : Result Sizes Refusal → Type 0 where
    prepared : {s : Sizes} (w : Accepted) → Fits s w → Prepared (Ok s)
    refuses : {q : Refusal} → accept document_01 facts query ≡ refused (number q) (place q) → Prepared (Err q)
