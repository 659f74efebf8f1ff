-- The step loop over the lowered words of accepted texts, from the loaded tables on, is the run of document 01.
use Prim.Native.Nat.{ℕ, ◌≤◌}
use mathlib.Core.Path.{◌≡◌, sym, subst}
use mathlib.Core.List.{List, []}
use lib.ListN.{length}
use Rattle.definition.specs.Text.{Text}
use Rattle.definition.specs.Limits.{Limits}
use Rattle.definition.specs.Answer.{ok}
use Rattle.definition.specs.Accept.{Accepted, accept, elements, words_needed}
use Rattle.definition.specs.Assignment.{loaded}
use Rattle.definition.specs.Claim.{store_image}
use Rattle.definition.specs.Calls.{RunMeets}
use Rattle.definition.specs.declared.Stopped.{Stopped}
use Rattle.std.specs.Prelude.{Ok}
use Rattle.definition.proofs.CallLaws.{run_stopped}
use Rattle.lines.specs.Lines.{Texts}
use Rattle.lines.proofs.LineLaws.{Shows}
use Rattle.actions.specs.Doing.{print_by}
use Rattle.code.specs.Layout.{Laid}
use Rattle.code.specs.Program.{Code}
use Rattle.machine.specs.Actions.{Actions}
use Rattle.machine.specs.Turns.{Held, held}
use Rattle.machine.specs.Standing.{Sizes, Run}
use Rattle.machine.specs.Bound.{actions, Goes}
use Rattle.machine.proofs.Runs.{begin}
use Rattle.running.proofs.Programs.{holds_program}

module _ (w : Accepted) (firsts : List ℕ) (scr : ℕ) (laid : Laid w firsts scr) (T : Texts) (shows : Shows w T) (low : List ℕ) (code : Code w T.query low [] w.program 0 (length low))
    (u : ℕ) (size : elements w ≡ u) (store₀ : List ℕ) (long : words_needed w ≤ length store₀) (buffer₀ : Text) where
  abbrev pub A : Actions
  A = actions low firsts u scr (print_by low firsts u T)

  -- where the tables are loaded, the machine stands at the start of the run
  pub starts : (store ss cs vs : List ℕ) → store ≡ store_image w (loaded w) store₀ → Sizes ss cs vs → Run w A low store₀ buffer₀ (held 0 0 store buffer₀ ss cs vs) 0
  starts store ss cs vs e sizes =
      subst (λ (v : ℕ). Run w (actions low firsts v scr (print_by low firsts v T)) low store₀ buffer₀ (held 0 0 store buffer₀ ss cs vs) 0) size
      (subst (λ (x : List ℕ). Run w (actions low firsts (elements w) scr (print_by low firsts (elements w) T)) low store₀ buffer₀ (held 0 0 x buffer₀ ss cs vs) 0) (sym e)
      (begin w (actions low firsts (elements w) scr (print_by low firsts (elements w) T)) low store₀ buffer₀ ss cs vs sizes (holds_program w firsts scr laid T shows low code) long))

  -- and where the loop stops from there on, the call `run` is met
  pub run_met : (limits : Limits) (facts query : Text) → accept limits facts query ≡ ok w → (store ss cs vs : List ℕ) → store ≡ store_image w (loaded w) store₀ → Sizes ss cs vs
      → (budget : ℕ) (r : Stopped) (c : Held) → Goes A u low budget (held 0 0 store buffer₀ ss cs vs) 0 r c
      → RunMeets limits facts query budget store₀ buffer₀ (Ok r) c.store c.buffer
  run_met limits facts query a store ss cs vs e sizes budget r c g =
      run_stopped limits facts query budget store₀ buffer₀ w r c.store c.buffer a long (g.gone w store₀ buffer₀ size (starts store ss cs vs e sizes)).stop
