-- The step loop: the run that the machine stands in, turn by turn, and where it stops.
use Prim.Native.Nat.{ℕ, suc, ◌+◌, ◌≤◌, ◌<◌}
use native.Mathlib.Omega.{arith}
use native.Mathlib.Numerals.{add-one}
use mathlib.Core.Path.{◌≡◌, sym, subst, ◌∙◌}
use mathlib.Core.Bool.{Bool, true, false}
use mathlib.Core.List.{List}
use lib.ListN.{length}
use Rattle.definition.specs.Text.{Text}
use Rattle.definition.specs.Accept.{Accepted, elements}
use Rattle.definition.specs.declared.Ending.{Ending}
use Rattle.definition.specs.declared.Ending.TheVariants.{Done, Spent, Full}
use Rattle.definition.specs.declared.Stopped.{Stopped}
use Rattle.machine.specs.Instructions.{instr}
use Rattle.machine.specs.Actions.{Actions}
use Rattle.machine.specs.Turns.{Held, held, Moves, rests, goes, turn, is_full}
use Rattle.machine.specs.Standing.{Run, Gone}
use Rattle.machine.specs.Bound.{Turned, stopped_of, Goes}
use Rattle.machine.specs.declared.Went.{Went}
use Rattle.machine.proofs.Decoding.{instr_end, instr_goes_on}
use Rattle.machine.proofs.Stops.{run_moves, run_turn, gone_done, gone_spent, gone_full}

abbrev stopped : Ending → Held → ℕ → Stopped
stopped e c n = record { ending = e; steps = n; written = c.used }

module _ (A : Actions) (u : ℕ) (code : List ℕ) (limit : ℕ) (c₀ : Held) (n₀ : ℕ) where
  -- the machine has come from c₀ after n₀ steps to c after n
  pub record Going (c : Held) (n : ℕ) : Type 0 where
    pub within : n ≤ limit
    pub runs : (w : Accepted) (store₀ : List ℕ) (buffer₀ : Text) → elements w ≡ u → Run w A code store₀ buffer₀ c₀ n₀ → Run w A code store₀ buffer₀ c n

  pub going_start : n₀ ≤ limit → Going c₀ n₀
  going_start h = record { within = h; runs = λ w s b e r. r }

  module _ (c : Held) (n : ℕ) (g : Going c n) where
    pub going_settled : (at : ℕ) → Moves u code c.sets c.cursors c.pc at → Going (goes A u at c) n
    going_settled at m =
        record {
          within = g.within;
          runs = λ w s b e r. run_moves w A code s b c n (g.runs w s b e r) (subst (λ v. Moves v code c.sets c.cursors c.pc at) (sym e) m);
        }

    pub goes_done : length code ≤ c.pc → Goes A u code limit c₀ n₀ (stopped Done c n) c
    goes_done h = record { gone = λ w s b e r. gone_done w A code s b c n (g.runs w s b e r) limit g.within (instr_end code c.pc h) }

    module _ (t : rests u code c.sets c.cursors (instr code c.pc)) (h : c.pc < length code) where
      rest_of : (w : Accepted) → elements w ≡ u → rests (elements w) code c.sets c.cursors (instr code c.pc)
      rest_of w e = subst (λ v. rests v code c.sets c.cursors (instr code c.pc)) (sym e) t

      pub goes_spent : n ≡ limit → Goes A u code limit c₀ n₀ (stopped Spent c n) c
      goes_spent l = record { gone = λ w s b e r. gone_spent w A code s b c n (g.runs w s b e r) (rest_of w e) (instr_goes_on code c.pc h) limit l }

      module _ (full : Bool) (c' : Held) (k : Turned A u code c full c') where
        pub goes_full : (n ≡ limit → ⊥) → full ≡ true → Goes A u code limit c₀ n₀ (stopped Full c' n) c'
        goes_full l f =
            rw k.same (record {
              gone = λ w s b e r.
                  subst (λ v. Gone w A code s b limit (stopped Full (turn A v code c) n) (turn A v code c)) e
                  (gone_full w A code s b c n (g.runs w s b e r) (rest_of w e) (instr_goes_on code c.pc h) limit (omega (arith, g.within, l))
                  (subst (λ v. is_full A v code c ≡ true) (sym e) (sym k.fits ∙ f)));
            })

        pub going_on : (n ≡ limit → ⊥) → full ≡ false → Going c' (n + 1)
        going_on l f =
            rw (k.same, add-one) (record {
              within = omega (arith, g.within, l);
              runs = λ w s b e r.
                  subst (λ v. Run w A code s b (turn A v code c) (suc n)) e
                  (run_turn w A code s b c n (g.runs w s b e r) (rest_of w e) (instr_goes_on code c.pc h)
                  (subst (λ v. is_full A v code c ≡ false) (sym e) (sym k.fits ∙ f)));
            })

-- the answer, field by field
module _ {A : Actions} {u : ℕ} {code : List ℕ} {limit : ℕ} {c₀ : Held} {n₀ : ℕ} {e : Ending} {pc n used : ℕ} {s b ss cs vs : List ℕ} where
  pub answers : (r : Went) → (r.ending ≡ e) × (r.machine.pc ≡ pc) × (r.machine.steps ≡ n) × (r.machine.used ≡ used)
      → Goes A u code limit c₀ n₀ (stopped e (held pc used s b ss cs vs) n) (held pc used s b ss cs vs)
      → Goes A u code limit c₀ n₀ (stopped_of r) (held r.machine.pc r.machine.used s b ss cs vs)
  answers r q g = rw (q.0, q.1, q.2, q.3) g
