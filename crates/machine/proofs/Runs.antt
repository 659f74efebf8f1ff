-- The machine in the definition's run: where it begins, what moves and steps make of it, and what it shows where it stops.
use Prim.Native.Nat.{ℕ, suc, ◌+◌, ◌-◌, ◌≤◌, ◌<◌}
use native.Mathlib.Omega.{arith}
use mathlib.Core.Path.{◌≡◌, refl, sym, ap, ◌∙◌}
use mathlib.Core.Bool.{cond}
use mathlib.Core.List.{List, [], ◌∷◌, ◌++◌, map}
use lib.ListN.{length, get_or, drop, length-append, length-drop, length-set}
use lib.Seq.{sets, sets-eq, take-append_seam, drop-append-add, drop-drop}
use Rattle.definition.specs.Text.{Text}
use Rattle.definition.specs.Token.{Token}
use Rattle.definition.specs.Syntax.{Term, Expression, Item}
use Rattle.definition.specs.Accept.{Accepted, elements, words_needed}
use Rattle.definition.specs.Meaning.{Tables, nowhere, mean, answers}
use Rattle.definition.specs.Assignment.{loaded, assign_tables}
use Rattle.definition.specs.Print.{print_text}
use Rattle.definition.specs.Run.{State, tasks, next, start, point}
use Rattle.definition.specs.Claim.{is_print, store_image, Unfit}
use Rattle.machine.specs.Instructions.{ASSIGN, PRINT, TEST, AGAIN, RANGE, NEXT, instr}
use Rattle.machine.specs.Actions.{Actions, Handed, Leaves, Tests, Ranges, Assigns, Prints, members, single, scope_environment}
use Rattle.machine.specs.Placed.{HoldsProgram}
use Rattle.machine.specs.Turns.{Held, held, left_at, next_at, Move, passes, jumps, leaves, bytes, goes, goes_after, printed as printed-by, turn_by}
use Rattle.machine.specs.Standing.{Frame, scope_of, environment, around, Within, Shown, Sizes, left, At, at_end as AtI·end, Run}
use Rattle.machine.proofs.Members.{next_inside, next_rest}
use Rattle.machine.proofs.Frames.{shown_open, taken, shown_take, shown_left, shown_after, shown_environment, shown_inside, within_around}
use Rattle.machine.proofs.Steps.{placed_at, sim_pass, sim_jump, Stepped, sim_assign, Printed, sim_print, Tested, sim_test, sim_again, sim_range, Nexts, sim_next}

-- bytes behind an output that stands at the front of a buffer
written : (o x b : Text) → length o + length x ≤ length (o ++ drop (length o) b)
    → sets (o ++ drop (length o) b) (length o) x ≡ (o ++ x) ++ drop (length (o ++ x)) b
written o x b h =
    sets-eq x (o ++ drop (length o) b) (length o) h
    ∙ rw (take-append_seam o (drop (length o) b), drop-append-add o (drop (length o) b) (length x), drop-drop (length x) (length o) b, length-append o x) refl

module _ (w : Accepted) (A : Actions) (code : List ℕ) (store₀ : List ℕ) (buffer₀ : Text) where
  -- the machine at the first word, with the facts' tables in the store
  pub begin : (ss cs vs : List ℕ) → Sizes ss cs vs → HoldsProgram w A code → words_needed w ≤ length store₀
      → Run w A code store₀ buffer₀ (held 0 0 (store_image w (loaded w) store₀) buffer₀ ss cs vs) 0
  unfolding point start environment
  begin ss cs vs z l long =
      record {
        fs = [];
        k = tasks w.program nowhere [];
        tables = loaded w;
        output = [];
        same = refl;
        at = placed_at w A code [] l.placed refl (rw l.ends AtI·end);
        shown = tt;
        within = within_around (elements w) (instr code 0) [] tt;
        depth = omega arith;
        sizes = z;
        long = long;
        image = refl;
        count = refl;
        fits = omega arith;
        bytes = refl;
      }

  module _ (c : Held) (steps : ℕ) (r : Run w A code store₀ buffer₀ c steps) where
    -- Moves that take no step.
    moved : (fs : List Frame) (n : ℕ) → At w A code fs n r.k → Shown c.sets c.cursors c.variables fs → Within (elements w) fs
        → length fs ≤ 32 → Run w A code store₀ buffer₀ (goes A (elements w) n c) steps
    moved fs n a s i d =
        record {
          fs = fs;
          k = r.k;
          tables = r.tables;
          output = r.output;
          same = r.same;
          at = a;
          shown = s;
          within = within_around (elements w) (instr code n) fs i;
          depth = d;
          sizes = r.sizes;
          long = r.long;
          image = r.image;
          count = r.count;
          fits = r.fits;
          bytes = r.bytes;
        }

    -- the innermost open FOR, where the machine is at its NEXT
    nexts : {d n : ℕ} → instr code c.pc ≡ NEXT d n → Nexts w A code d n r.fs c.pc r.k
    nexts e = sim_next w A code e (rw e at r.at)

    module _ {d n : ℕ} (e : instr code c.pc ≡ NEXT d n) where
      next_shown : Shown c.sets c.cursors c.variables ((nexts e).f ∷ (nexts e).fs)
      next_shown = rw (nexts e).opens at r.shown

      next_within : Within (elements w) (nexts e).fs
      next_within =
          let h : Within (elements w) (around (NEXT d n) ((nexts e).f ∷ (nexts e).fs)) = rw (e, (nexts e).opens) at r.within in
          h

      next_left : left w (nexts e).f ≡ left_at (elements w) c.sets c.cursors d
      next_left = shown_left w c.sets c.cursors c.variables (nexts e).f (nexts e).fs d (nexts e).depth next_shown

    pub moves_on : {n : ℕ} → Move (elements w) code c.sets c.cursors c.pc n → Run w A code store₀ buffer₀ (goes A (elements w) n c) steps
    moves_on (passes e) = moved r.fs (suc c.pc) (sim_pass w A code (rw e at r.at)) r.shown (rw e at r.within) r.depth
    moves_on (jumps {n} e) = moved r.fs n (sim_jump w A code (rw e at r.at)) r.shown (rw e at r.within) r.depth
    moves_on (leaves e z) =
        let s = nexts e in
        moved s.fs (suc c.pc) (s.none (next_left e ∙ z)) (next_shown e).3 (next_within e) (omega (arith, s.depth, s.small))

    -- Steps.
    advance : (fs' : List Frame) (ts' : Tables) (o' : Text) (c' : Held) → Stepped w A code fs' c'.pc r.k r.tables r.output steps ts' o'
        → Shown c'.sets c'.cursors c'.variables fs' → Within (elements w) (around (instr code c'.pc) fs') → length fs' ≤ 32
        → Sizes c'.sets c'.cursors c'.variables → c'.store ≡ store_image w ts' store₀ → c'.used ≡ length o' → length o' ≤ length buffer₀ → c'.buffer ≡ o' ++ drop (length o') buffer₀
        → Run w A code store₀ buffer₀ c' (suc steps)
    unfolding point
    advance fs' ts' o' c' s sh i d z im u f b =
        record {
          fs = fs';
          k = s.rest;
          tables = ts';
          output = o';
          same = ap (next w) r.same ∙ s.same;
          at = s.at;
          shown = sh;
          within = i;
          depth = d;
          sizes = z;
          long = r.long;
          image = im;
          count = u;
          fits = f;
          bytes = b;
        }

    point_tables : (point w steps).tables ≡ r.tables
    point_tables = ap (λ (s : State). s.tables) r.same

    -- the actions at a place in the blocks of all open FORs
    module _ (i : Within (elements w) r.fs) where
      handed : Handed w A (scope_of r.fs) c.variables store₀
      handed =
          record {
            inside = shown_inside (elements w) c.sets c.cursors c.variables r.fs r.shown i;
            long = r.long;
          }

      names : scope_environment (scope_of r.fs) c.variables ≡ environment r.fs
      names = shown_environment c.sets c.cursors c.variables r.fs r.shown

      left_as : {at : ℕ} → Leaves w A (scope_of r.fs) at → A.leaves c.variables c.store at ≡ store_image w r.tables store₀
      left_as {at} t = ap (λ s. A.leaves c.variables s at) r.image ∙ (rw point_tables at (t.right steps c.variables store₀ handed))

      tested : {at : ℕ} {x : Expression} → Tests w A (scope_of r.fs) at x → A.tests c.variables c.store at ≡ mean w r.tables (environment r.fs) x
      tested {at} t = ap (λ s. A.tests c.variables s at) r.image ∙ (rw (point_tables, names) at (t.right steps c.variables store₀ handed))

      ranged : {at : ℕ} {x : Expression} → Ranges w A (scope_of r.fs) at x
          → answers w r.tables (environment r.fs) x ≡ map single (members (A.ranges c.variables c.store at) 0 (elements w))
      ranged {at} t = rw r.image (rw (point_tables, names) at (t.right steps c.variables store₀ handed))

      assigned : {at : ℕ} {q : Token} {ps : List Term} {x : Expression} → Assigns w A (scope_of r.fs) at q ps x
          → A.assigns c.variables c.store at ≡ store_image w (assign_tables w r.tables (environment r.fs) q.text ps x w.relations r.tables) store₀
      assigned {at} t = ap (λ s. A.assigns c.variables s at) r.image ∙ (rw (point_tables, names) at (t.right steps c.variables store₀ handed))

      printed : {at : ℕ} {is : List Item} → Prints w A (scope_of r.fs) at is → A.prints c.variables c.store at ≡ print_text w r.tables (environment r.fs) is
      printed {at} t = ap (λ s. A.prints c.variables s at) r.image ∙ (rw (point_tables, names) at (t.right steps c.variables store₀ handed))

    -- a step that changes neither the output nor the open FORs
    quietly : (ts' : Tables) (c' : Held) → Stepped w A code r.fs c'.pc r.k r.tables r.output steps ts' r.output
        → Within (elements w) r.fs → c'.sets ≡ c.sets → c'.cursors ≡ c.cursors → c'.variables ≡ c.variables
        → c'.store ≡ store_image w ts' store₀ → c'.used ≡ c.used → c'.buffer ≡ c.buffer → Run w A code store₀ buffer₀ c' (suc steps)
    quietly ts' c' s i e₁ e₂ e₃ im u b =
        advance r.fs ts' r.output c' s (rw (e₁, e₂, e₃) r.shown) (within_around (elements w) (instr code c'.pc) r.fs i) r.depth (rw (e₁, e₂, e₃) r.sizes) im
        (u ∙ r.count) r.fits (b ∙ r.bytes)

    pub run_assign : instr code c.pc ≡ ASSIGN → Run w A code store₀ buffer₀ (turn_by A (elements w) ASSIGN c) (suc steps)
    run_assign e =
        let i : Within (elements w) r.fs = rw e at r.within in
        let s = sim_assign w A code r.tables r.output steps (rw e at r.at) in
        quietly _ (turn_by A (elements w) ASSIGN c) s.stepped i refl refl refl (assigned i s.does) refl refl

    -- a test at a place, by its value
    run_tested : (at y n : ℕ) → Within (elements w) r.fs → Tested w A code r.fs at y n r.k r.tables r.output steps
        → Run w A code store₀ buffer₀ (goes_after A (elements w) at (cond (A.tests c.variables c.store at) y n) c) (suc steps)
    run_tested at y n i t =
        quietly r.tables (goes_after A (elements w) at (cond (A.tests c.variables c.store at) y n) c)
        (t.stepped (A.tests c.variables c.store at) (sym (tested i t.does))) i refl refl refl (left_as i t.does.leaves) refl refl

    pub run_test : {n : ℕ} → instr code c.pc ≡ TEST n → Run w A code store₀ buffer₀ (turn_by A (elements w) (TEST n) c) (suc steps)
    run_test {n} e = run_tested c.pc (suc c.pc) n (rw e at r.within) (sim_test w A code r.tables r.output steps (rw e at r.at))

    pub run_again : {n : ℕ} → instr code c.pc ≡ AGAIN n → Run w A code store₀ buffer₀ (turn_by A (elements w) (AGAIN n) c) (suc steps)
    run_again {n} e = run_tested (n - 1) n (suc c.pc) (rw e at r.within) (sim_again w A code r.tables r.output steps e (rw e at r.at))

    pub run_range : {d n : ℕ} → instr code c.pc ≡ RANGE d n → Run w A code store₀ buffer₀ (turn_by A (elements w) (RANGE d n) c) (suc steps)
    run_range {d} {n} e =
        let i : Within (elements w) r.fs = rw e at r.within in
        let s = sim_range w A code r.tables r.output steps (rw e at r.at) in
        let g : ℕ = A.ranges c.variables c.store c.pc in
        let v : ℕ = get_or c.variables (length r.fs) 0 in
        let st = s.stepped g v (ranged i s.does) in
        advance _ r.tables r.output (turn_by A (elements w) (RANGE d n) c) st
        (shown_open c.sets c.cursors c.variables r.fs s.v.text d g s.depth (omega (arith, s.small, r.sizes.sets)) (omega (arith, s.small, r.sizes.cursors)) r.shown)
        (rw s.next i) (omega (arith, s.depth, s.small))
        (record { sets = length-set c.sets d g ∙ r.sizes.sets; cursors = length-set c.cursors d 0 ∙ r.sizes.cursors; variables = r.sizes.variables }) (left_as i s.does.leaves) r.count r.fits r.bytes

    pub run_next : {d n : ℕ} → instr code c.pc ≡ NEXT d n → (left_at (elements w) c.sets c.cursors d ≡ [] → ⊥)
        → Run w A code store₀ buffer₀ (turn_by A (elements w) (NEXT d n) c) (suc steps)
    run_next {d} {n} e h =
        let s = nexts e in
        let a : ℕ = next_at (elements w) c.sets c.cursors d in
        let m : left w s.f ≡ a ∷ left w (taken s.f a) =
        next_left e ∙ next_rest (elements w) c.sets c.cursors d h
        ∙ ap (λ l. a ∷ l) (shown_after w c.sets c.cursors c.variables s.f s.fs d a s.depth (next_shown e)) in
        let st = s.more a m r.tables r.output steps in
        advance (taken s.f a ∷ s.fs) r.tables r.output (turn_by A (elements w) (NEXT d n) c) st
        (shown_take c.sets c.cursors c.variables s.f s.fs d a s.depth (omega (arith, s.small, r.sizes.cursors)) (omega (arith, s.small, r.sizes.variables)) (next_shown e))
        (within_around (elements w) (instr code n) (taken s.f a ∷ s.fs) (next_inside (elements w) c.sets c.cursors d h, next_within e))
        (omega (arith, s.depth, s.small))
        (record { sets = r.sizes.sets; cursors = length-set c.cursors d (suc a) ∙ r.sizes.cursors; variables = length-set c.variables d a ∙ r.sizes.variables }) r.image r.count r.fits r.bytes

    -- the buffer keeps its length
    buffer_length : length c.buffer ≡ length buffer₀
    buffer_length =
        ap length r.bytes ∙ length-append r.output (drop (length r.output) buffer₀)
        ∙ ap (λ n. length r.output + n) (length-drop (length r.output) buffer₀) ∙ omega (arith, r.fits)

    module _ (e : instr code c.pc ≡ PRINT) where
      print_within : Within (elements w) r.fs
      print_within = rw e at r.within

      prints : Printed w A code r.fs c.pc r.k r.tables r.output steps
      prints = sim_print w A code r.tables r.output steps (rw e at r.at)

      abbrev more : Text
      more = print_text w r.tables (environment r.fs) prints.is

      print_bytes : bytes A (elements w) c ≡ more
      print_bytes = printed print_within prints.does

      print_length : length (r.output ++ more) ≡ c.used + length (bytes A (elements w) c)
      print_length = omega (arith, length-append r.output more, r.count, ap length print_bytes)

      pub run_print : c.used + length (bytes A (elements w) c) ≤ length c.buffer → Run w A code store₀ buffer₀ (printed-by A (elements w) c) (suc steps)
      run_print h =
          advance r.fs r.tables (r.output ++ more) (printed-by A (elements w) c) prints.stepped r.shown
          (within_around (elements w) (instr code (suc c.pc)) r.fs print_within) r.depth r.sizes (left_as print_within prints.does.leaves) (sym print_length)
          (rw print_length (omega (arith, buffer_length, h)))
          (ap (λ b. sets b c.used (bytes A (elements w) c)) r.bytes
          ∙ ap (λ n. sets (r.output ++ drop (length r.output) buffer₀) n (bytes A (elements w) c)) r.count
          ∙ ap (λ x. sets (r.output ++ drop (length r.output) buffer₀) (length r.output) x) print_bytes
          ∙ written r.output more buffer₀ (omega (arith, length-append r.output more, print_length, ap length r.bytes, h)))

      -- a PRINT that does not fit leaves the machine where it was
      pub run_stay : Run w A code store₀ buffer₀ (goes_after A (elements w) c.pc c.pc c) steps
      run_stay =
          record {
            fs = r.fs;
            k = r.k;
            tables = r.tables;
            output = r.output;
            same = r.same;
            at = r.at;
            shown = r.shown;
            within = r.within;
            depth = r.depth;
            sizes = r.sizes;
            long = r.long;
            image = left_as print_within prints.does.leaves;
            count = r.count;
            fits = r.fits;
            bytes = r.bytes;
          }

      pub run_unfit : length c.buffer < c.used + length (bytes A (elements w) c) → Unfit w (length buffer₀) steps
      unfolding point
      run_unfit h =
          record {
            prints = ap (λ (s : State). is_print s.todo) r.same ∙ prints.prints;
            over = rw (r.same, prints.stepped.same, print_length) (omega (arith, buffer_length, h));
          }
