-- Moves and turns of the machine in the definition's run, and where and why it stops.
use Prim.Native.Nat.{ℕ, suc, ◌≤◌, ◌<◌}
use native.Mathlib.Omega.{arith}
use mathlib.Core.Path.{◌≡◌, refl, sym, ap, ◌∙◌}
use mathlib.Core.Bool.{Bool, true, false}
use mathlib.Core.List.{List, []}
use lib.ListN.{length}
use borrow.Author.Tests.{ltb-true, ltb-false}
use Rattle.definition.specs.Text.{Text}
use Rattle.definition.specs.Accept.{Accepted, elements}
use Rattle.definition.specs.Meaning.{Tables}
use Rattle.definition.specs.Run.{Task, State, state, next, next_of, point}
use Rattle.definition.specs.Claim.{Shows}
use Rattle.definition.specs.declared.Ending.{Ending}
use Rattle.definition.specs.declared.Ending.TheVariants.{Done, Spent, Full}
use Rattle.definition.specs.declared.Stopped.{Stopped}
use Rattle.definition.proofs.Claims.{at_end, at_budget, at_print}
use Rattle.machine.specs.Instructions.{Instr, END, PASS, ASSIGN, PRINT, TEST, AGAIN, RANGE, NEXT, JUMP, instr}
use Rattle.machine.specs.Actions.{Actions}
use Rattle.machine.specs.Turns.{Held, Moves, here, on, rests, overflows, goes, goes_after, turn_by, turn, is_full}
use Rattle.machine.specs.Standing.{Run, Gone}
use Rattle.machine.proofs.Steps.{sim_end, sim_print}
use Rattle.machine.proofs.Runs.{moves_on, run_assign, run_test, run_again, run_range, run_next, run_print, run_stay, run_unfit}

false_true : ◌≡◌ {A = Bool} false true → ⊥
false_true e = let z : ◌≡◌ {A = ℕ} 0 1 = cc in omega arith

module _ (w : Accepted) (A : Actions) (code : List ℕ) (store₀ : List ℕ) (buffer₀ : Text) where
  abbrev stopped : Ending → Held → ℕ → Stopped
  stopped e c n = record { ending = e; steps = n; written = c.used }

  pub run_moves : (c : Held) (steps : ℕ) {n : ℕ} → Run w A code store₀ buffer₀ c steps → Moves (elements w) code c.sets c.cursors c.pc n
      → Run w A code store₀ buffer₀ (goes A (elements w) n c) steps
  run_moves c steps r here = r
  run_moves c steps r (on {m} p q) = moves_on w A code store₀ buffer₀ (goes A (elements w) m c) steps (run_moves c steps r p) q

  module _ (c : Held) (steps : ℕ) (r : Run w A code store₀ buffer₀ c steps) where
    -- what the machine shows of the point where it stands
    shows : (e : Ending) → Shows w (point w steps) store₀ buffer₀ (stopped e c steps) c.store c.buffer
    shows e = rw r.same (record { tables = r.image; steps = refl; written = r.count; output = r.bytes })

    output_fits : length (point w steps).output ≤ length buffer₀
    output_fits = rw r.same r.fits

    pub gone_done : (limit : ℕ) → steps ≤ limit → instr code c.pc ≡ END → Gone w A code store₀ buffer₀ limit (stopped Done c steps) c
    gone_done limit l e =
        record {
          stop = at_end steps l (ap (λ (x : State). x.todo) r.same ∙ sim_end w A code (rw e at r.at)) output_fits refl (shows Done);
          run = r;
        }

  module _ (c : Held) (steps : ℕ) (r : Run w A code store₀ buffer₀ c steps) where
    turn_of : (i : Instr) → instr code c.pc ≡ i → rests (elements w) code c.sets c.cursors i → (i ≡ END → ⊥)
        → overflows A (elements w) i c ≡ false → Run w A code store₀ buffer₀ (turn_by A (elements w) i c) (suc steps)
    turn_of END e s n o = absurd (n refl)
    turn_of PASS e s n o = absurd s
    turn_of ASSIGN e s n o = run_assign w A code store₀ buffer₀ c steps r e
    turn_of PRINT e s n o = rw o (run_print w A code store₀ buffer₀ c steps r e (ltb-false _ _ o))
    turn_of (TEST m) e s n o = run_test w A code store₀ buffer₀ c steps r e
    turn_of (AGAIN m) e s n o = run_again w A code store₀ buffer₀ c steps r e
    turn_of (RANGE d m) e s n o = run_range w A code store₀ buffer₀ c steps r e
    turn_of (NEXT d m) e s n o = run_next w A code store₀ buffer₀ c steps r e s
    turn_of (JUMP m) e s n o = absurd s

    -- where a step is taken, tasks are left
    stepped : (ts ts' : Tables) (o o' : Text) (k' : List Task) → next_of w ts o steps r.k ≡ state ts' o' (suc steps) k' → r.k ≡ [] → ⊥
    stepped ts ts' o o' k' h e =
        let q : steps ≡ suc steps = ap (λ (x : State). x.steps) (sym (ap (next_of w ts o steps) e) ∙ h) in
        omega arith

    turned : (c' : Held) → Run w A code store₀ buffer₀ c' (suc steps) → r.k ≡ [] → ⊥
    unfolding point
    turned c' g = stepped r.tables g.tables r.output g.output g.k (sym (ap (next w) r.same) ∙ g.same)

    left_over : (i : Instr) → instr code c.pc ≡ i → rests (elements w) code c.sets c.cursors i → (i ≡ END → ⊥) → r.k ≡ [] → ⊥
    left_over END e s n = absurd (n refl)
    left_over PASS e s n = absurd s
    left_over ASSIGN e s n = turned _ (turn_of ASSIGN e s n refl)
    left_over PRINT e s n =
        let p = (sim_print w A code r.tables r.output steps (rw e at r.at)).stepped in
        stepped r.tables _ r.output _ p.rest p.same
    left_over (TEST m) e s n = turned _ (turn_of (TEST m) e s n refl)
    left_over (AGAIN m) e s n = turned _ (turn_of (AGAIN m) e s n refl)
    left_over (RANGE d m) e s n = turned _ (turn_of (RANGE d m) e s n refl)
    left_over (NEXT d m) e s n = turned _ (turn_of (NEXT d m) e s n refl)
    left_over (JUMP m) e s n = absurd s

    module _ (s : rests (elements w) code c.sets c.cursors (instr code c.pc)) (n : instr code c.pc ≡ END → ⊥) where
      pub run_turn : is_full A (elements w) code c ≡ false → Run w A code store₀ buffer₀ (turn A (elements w) code c) (suc steps)
      unfolding turn is_full
      run_turn o = turn_of (instr code c.pc) refl s n o

      pub gone_spent : (limit : ℕ) → steps ≡ limit → Gone w A code store₀ buffer₀ limit (stopped Spent c steps) c
      gone_spent limit l =
          rw (← l) (record {
            stop = at_budget (λ q. left_over (instr code c.pc) refl s n (sym (ap (λ (x : State). x.todo) r.same) ∙ q)) (output_fits c steps r) refl (shows c steps r Spent);
            run = r;
          })

      full_of : (limit : ℕ) → steps < limit → (i : Instr) → instr code c.pc ≡ i → overflows A (elements w) i c ≡ true
          → Gone w A code store₀ buffer₀ limit (stopped Full (turn_by A (elements w) i c) steps) (turn_by A (elements w) i c)
      full_of limit l END e o = absurd (false_true o)
      full_of limit l PASS e o = absurd (false_true o)
      full_of limit l ASSIGN e o = absurd (false_true o)
      full_of limit l PRINT e o =
          let c' : Held = goes_after A (elements w) c.pc c.pc c in
          let g : Run w A code store₀ buffer₀ c' steps = run_stay w A code store₀ buffer₀ c steps r e in
          rw o (record {
            stop = at_print steps l (run_unfit w A code store₀ buffer₀ c steps r e (ltb-true _ _ o)) (output_fits c' steps g) refl (shows c' steps g Full);
            run = g;
          })
      full_of limit l (TEST m) e o = absurd (false_true o)
      full_of limit l (AGAIN m) e o = absurd (false_true o)
      full_of limit l (RANGE d m) e o = absurd (false_true o)
      full_of limit l (NEXT d m) e o = absurd (false_true o)
      full_of limit l (JUMP m) e o = absurd (false_true o)

      pub gone_full : (limit : ℕ) → steps < limit → is_full A (elements w) code c ≡ true
          → Gone w A code store₀ buffer₀ limit (stopped Full (turn A (elements w) code c) steps) (turn A (elements w) code c)
      unfolding is_full turn
      gone_full limit l o = full_of limit l (instr code c.pc) refl o
