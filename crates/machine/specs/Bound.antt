-- The actions of lowered words, and what the code of the step loop leaves.
use Rattle.std.specs.Prelude.{ℕ, ◌≡◌, Bool, List}
use Rattle.definition.specs.Text.{Text}
use Rattle.definition.specs.Limits.{document_01}
use Rattle.definition.specs.Accept.{Accepted, elements}
use Rattle.definition.specs.Run.{point}
use Rattle.definition.specs.declared.Stopped.{Stopped}
use Rattle.definition.proofs.CountLaws.{counts_of}
use Rattle.actions.specs.Doing.{left_by, test_by, range_by, assign_by}
use Rattle.machine.specs.Actions.{Actions}
use Rattle.machine.specs.Turns.{Held, turn, is_full}
use Rattle.machine.specs.Standing.{Run, Gone}
use Rattle.machine.specs.Recounts.{target_in, columns_in, Firsts}
use Rattle.machine.specs.declared.Went.{Went}

-- by the words, the first words of the tables, U, the first word for a new table, and what PRINTs print
abbrev pub actions : List ℕ → List ℕ → ℕ → ℕ → (List ℕ → List ℕ → ℕ → Text) → Actions
actions words firsts u scr prints =
    record {
      tests = test_by words firsts u;
      ranges = range_by words firsts u;
      assigns = assign_by words firsts u scr;
      prints = prints;
      leaves = left_by words firsts u;
      target = target_in words;
      columns = columns_in words;
    }

-- what a turn from c leaves, and whether it was a PRINT that does not fit
pub record Turned (A : Actions) (u : ℕ) (code : List ℕ) (c : Held) (full : Bool) (c' : Held) : Type 0 where
  pub fits : full ≡ is_full A u code c
  pub same : c' ≡ turn A u code c

-- the answer of the step loop as a run's
abbrev pub stopped_of : Went → Stopped
stopped_of r = record { ending = r.ending; steps = r.machine.steps; written = r.machine.used }

-- the loop goes on with whichever run the machine stands in: from c₀ after n₀ steps up to a limit, where it stops as r says and holds c
pub record Goes (A : Actions) (u : ℕ) (code : List ℕ) (limit : ℕ) (c₀ : Held) (n₀ : ℕ) (r : Stopped) (c : Held) : Type 0 where
  pub gone : (w : Accepted) (store₀ : List ℕ) (buffer₀ : Text) → elements w ≡ u → Run w A code store₀ buffer₀ c₀ n₀ → Gone w A code store₀ buffer₀ limit r c

-- where the relations' tables stand one after another, counts that are right where the loop starts are right where it stops, after n steps
pub record CountsRight (A : Actions) (u : ℕ) (code firsts : List ℕ) (c₀ : Held) (n₀ : ℕ) (cs₀ : List ℕ) (n : ℕ) (cs : List ℕ) : Type 0 where
  pub right : (w : Accepted) (store₀ : List ℕ) (buffer₀ : Text) → elements w ≡ u → Run w A code store₀ buffer₀ c₀ n₀ → Firsts w firsts
      → cs₀ ≡ counts_of document_01 w (point w n₀).tables → cs ≡ counts_of document_01 w (point w n).tables
