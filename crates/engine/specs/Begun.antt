-- What the step loop begins with: the lowered words, the tables' places, the facts' tables in the store and the numbers of their tuples.
use Rattle.std.specs.Prelude.{ℕ, ◌≤◌, ◌≡◌, Err, List, [], length, replicate}
use Rattle.definition.specs.Text.{Text}
use Rattle.definition.specs.Limits.{document_01}
use Rattle.definition.specs.Answer.{ok}
use Rattle.definition.specs.Accept.{Accepted, accept, elements, words_needed}
use Rattle.definition.specs.Assignment.{loaded}
use Rattle.definition.specs.Run.{point}
use Rattle.definition.specs.Claim.{store_image}
use Rattle.definition.specs.Calls.{RunMeets, CountsMeet}
use Rattle.definition.specs.declared.Refusal.{Refusal}
use Rattle.definition.specs.declared.RunAnswer.{RunAnswer}
use Rattle.definition.proofs.CountLaws.{counts_of}
use Rattle.lines.specs.Lines.{texts}
use Rattle.lines.proofs.LineLaws.{Shows}
use Rattle.code.specs.Layout.{Laid}
use Rattle.code.specs.Program.{Code}
use Rattle.coding.specs.Pass.{Depths}

-- no FOR is open, and there is a cell for each number of a name
abbrev pub no_depths : Depths
no_depths = record { depths = replicate 2064 0; deep = 0 }

-- store₀ is the store as it was lent
pub record Begun (facts query : Text) (low firsts places : List ℕ) (u scratch : ℕ) (sizes store₀ store : List ℕ) (w : Accepted) : Type 0 where
  pub accepted : accept document_01 facts query ≡ ok w
  pub size : elements w ≡ u
  pub laid : Laid w firsts scratch
  pub shows : Shows w (texts facts query places)
  pub code : Code w query low [] w.program 0 (length low)
  pub long : words_needed w ≤ length store₀
  pub image : store ≡ store_image w (loaded w) store₀
  pub few : length w.relations ≤ 16
  pub counted : sizes ≡ counts_of document_01 w (point w 0).tables

-- the answer of a run that is refused
abbrev pub NotRun : Refusal → RunAnswer → Type 0
NotRun q r = (r.ran ≡ Err q) × (r.counts ≡ replicate 16 0)

-- the two clauses of the call `run`, of a run that began with that store
abbrev pub Answered : Text → Text → ℕ → List ℕ → Text → RunAnswer → List ℕ → Text → Type 0
Answered facts query budget store₀ output r store' output' =
    RunMeets document_01 facts query budget store₀ output r.ran store' output' × CountsMeet document_01 facts query store₀ r.counts store'
