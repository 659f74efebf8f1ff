-- What the step loop leaves, as what the run's second clause says of the counts.
use Prim.Native.Nat.{ℕ, ◌≤◌}
use mathlib.Core.Path.{◌≡◌, sym, ap, ◌∙◌}
use mathlib.Core.List.{List, []}
use lib.ListN.{length}
use Rattle.definition.specs.Text.{Text}
use Rattle.definition.specs.Limits.{document_01}
use Rattle.definition.specs.Answer.{ok}
use Rattle.definition.specs.Accept.{Accepted, accept, elements, words_needed}
use Rattle.definition.specs.Assignment.{loaded}
use Rattle.definition.specs.Run.{State, point}
use Rattle.definition.specs.Claim.{store_image}
use Rattle.definition.specs.Calls.{counts, CountsMeet}
use Rattle.definition.specs.declared.Stopped.{Stopped}
use Rattle.definition.proofs.AnswerLaws.{run_accepts}
use Rattle.definition.proofs.CountLaws.{counts_of, counts_at}
use Rattle.lines.specs.Lines.{Texts}
use Rattle.lines.proofs.LineLaws.{Shows}
use Rattle.code.specs.Layout.{Laid}
use Rattle.code.specs.Program.{Code}
use Rattle.machine.specs.Turns.{Held, held}
use Rattle.machine.specs.Standing.{Sizes, Run}
use Rattle.machine.specs.Bound.{Goes, CountsRight}
use Rattle.running.proofs.Runs.{A, starts}

module _ (w : Accepted) (firsts : List ℕ) (scr : ℕ) (laid : Laid w firsts scr) (T : Texts) (shows : Shows w T) (low : List ℕ) (code : Code w T.query low [] w.program 0 (length low))
    (u : ℕ) (size : elements w ≡ u) (store₀ : List ℕ) (long : words_needed w ≤ length store₀) (buffer₀ : Text) where
  abbrev Stands : Held → ℕ → Type 0
  Stands c n = Run w (A w firsts scr laid T shows low code u size store₀ long buffer₀) low store₀ buffer₀ c n

  -- the store where the machine stands
  store_there : (c : Held) (n : ℕ) → Stands c n → c.store ≡ store_image w (point w n).tables store₀
  store_there c n r = r.image ∙ ap (λ (x : State). store_image w x.tables store₀) (sym r.same)

  -- counts of the loaded tables, kept by the loop, meet the run's clause where it stops, however it ends
  pub counts_met : (facts query : Text) → accept document_01 facts query ≡ ok w → length w.relations ≤ 16 → (store ss cs vs : List ℕ) → store ≡ store_image w (loaded w) store₀ → Sizes ss cs vs
      → (before after : List ℕ) → before ≡ counts_of document_01 w (point w 0).tables → (budget : ℕ) (r : Stopped) (c : Held)
      → Goes (A w firsts scr laid T shows low code u size store₀ long buffer₀) u low budget (held 0 0 store buffer₀ ss cs vs) 0 r c
      → CountsRight (A w firsts scr laid T shows low code u size store₀ long buffer₀) u low firsts (held 0 0 store buffer₀ ss cs vs) 0 before r.steps after
      → CountsMeet document_01 facts query store₀ after c.store
  counts_met facts query a few store ss cs vs e sizes before after h budget r c g k =
      let begun : Stands (held 0 0 store buffer₀ ss cs vs) 0 = starts w firsts scr laid T shows low code u size store₀ long buffer₀ store ss cs vs e sizes in
      let there : c.store ≡ store_image w (point w r.steps).tables store₀ = store_there c r.steps (g.gone w store₀ buffer₀ size begun).run in
      let told : after ≡ counts_of document_01 w (point w r.steps).tables = k.right w store₀ buffer₀ size begun (record { few = few; are = laid.relations }) h in
      record { meets = rw (run_accepts document_01 facts query w (length store₀) a long) (told ∙ sym (ap (counts document_01 w) there ∙ counts_at document_01 w store₀ r.steps)) }
