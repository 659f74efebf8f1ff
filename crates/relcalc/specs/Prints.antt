-- What `relcalc` prints: the page of an answer that the definition allows.
use Rattle.std.specs.Prelude.{ℕ, ◌≤◌, ◌≡◌, Result, List, ◌++◌, length, take}
use Rattle.definition.specs.Text.{Text}
use Rattle.definition.specs.Limits.{document_01}
use Rattle.definition.specs.Calls.{ran_answer, RunMeets}
use Rattle.definition.specs.Page.{page}
use Rattle.definition.specs.declared.Refusal.{Refusal}
use Rattle.definition.specs.declared.Stopped.{Stopped}
use Rattle.page.specs.Closing.{shown, Closes}
use Rattle.relcalc.specs.declared.Printed.{Printed}

-- the steps that a run may take
abbrev pub BUDGET : ℕ
BUDGET = 1000000

-- the output's first bytes and the line's first bytes, before (output, line) and after (output', line'), are the page of an answer of the run
pub record Prints (facts query : Text) (store : List ℕ) (output line : Text) (p : Printed) (store' : List ℕ) (output' line' : Text) : Type 0 where
  pub answer : Result Stopped Refusal
  pub meets : RunMeets document_01 facts query BUDGET store output answer store' output'
  pub closes : Closes answer line p.line line'
  pub output_within : p.output ≤ length output'
  pub line_within : p.line ≤ length line'
  pub printed : take p.output output' ++ take p.line line' ≡ page (ran_answer answer) (take (shown answer) output')
