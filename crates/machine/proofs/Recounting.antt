-- The counts at every point of a run: an assignment makes the count of its own relation anew, and every other step leaves the tables.
use Prim.Native.Nat.{ℕ, suc, ◌+◌, ◌<◌}
use native.Mathlib.Omega.{arith}
use native.Mathlib.Numerals.{add-one}
use mathlib.Core.Path.{◌≡◌, refl, sym, ap, ap₂, subst, ◌∙◌}
use mathlib.Core.Bool.{Bool, true, false}
use mathlib.Core.List.{List, [], ◌∷◌, ◌++◌, map}
use lib.Dec.{eqb, ltb}
use lib.ListN.{length, get_or, set, drop, replicate}
use borrow.Author.Tests.{eqb-true, eqb-false, ltb-true, ltb-false}
use Rattle.definition.specs.Text.{Text}
use Rattle.definition.specs.Token.{Token}
use Rattle.definition.specs.Syntax.{Program}
use Rattle.definition.specs.Limits.{document_01}
use Rattle.definition.specs.Tables.{table}
use Rattle.definition.specs.Accept.{Accepted, elements, scratch_words, words_needed}
use Rattle.definition.specs.Meaning.{Tables, Environment}
use Rattle.definition.specs.Assignment.{assigned, assign_tables}
use Rattle.definition.specs.Run.{Task, State, step, each, next, next_of, point}
use Rattle.definition.specs.Claim.{table_image, store_image}
use Rattle.definition.proofs.RunLaws.{Shaped, point_suc, point_shaped}
use Rattle.definition.proofs.RelationLaws.{place_of, no_relation, assign_at}
use Rattle.definition.proofs.CountLaws.{Made, point_made, counts_of}
use Rattle.words.specs.Fields as Fields
use Rattle.words.specs.Fields.{kind_of, p_of, q_of}
use Rattle.leaves.specs.Nodes.{n_of}
use Rattle.counts.specs.Counting.{recounted}
use Rattle.counts.proofs.Relations.{recount_new}
use Rattle.machine.specs.Instructions.{Instr, END, PASS, ASSIGN, PRINT, TEST, AGAIN, RANGE, NEXT, JUMP, instr}
use Rattle.machine.specs.Actions.{Actions, single}
use Rattle.machine.specs.Turns.{Held, left_at, rests, overflows, turn_by, turn, is_full}
use Rattle.machine.specs.Standing.{Frame, environment, Shown, left, AtI, at_test, at_while, at_again, at_range, at_next, at_print, Run}
use Rattle.machine.specs.Recounts.{target_in, columns_in, counts_by, counts_after, Firsts}
use Rattle.machine.specs.Bound.{Turned, CountsRight}
use Rattle.machine.proofs.Decoding.{is_jump, is_back, is_pass, instr_goes_on}
use Rattle.machine.proofs.Acting.{Steps}
use Rattle.machine.proofs.Frames.{shown_left}
use Rattle.machine.proofs.Steps.{sim_assign}
use Rattle.machine.proofs.Runs.{run_assign}
use Rattle.machine.proofs.Goings.{Going}

-- ---- what the code of a step leaves

module _ (target columns : ℕ → ℕ) (u : ℕ) (firsts code : List ℕ) (pc : ℕ) (s cs : List ℕ) where
  abbrev new_counts : List ℕ
  new_counts = recounted s (get_or firsts (target pc) 0) u (columns pc) (target pc) cs

  counts_are : (i : Instr) → instr code pc ≡ i → counts_after target columns u firsts code pc s cs ≡ counts_by i cs new_counts
  unfolding counts_after
  counts_are i e = ap (λ j. counts_by j cs new_counts) e

  -- an assignment counts its relation anew
  pub counts_new : (cs' : List ℕ) → instr code pc ≡ ASSIGN → cs' ≡ new_counts → cs' ≡ counts_after target columns u firsts code pc s cs
  counts_new cs' e h = h ∙ sym (counts_are ASSIGN e)

  -- any other step leaves the counts
  pub counts_kept : (i : Instr) → instr code pc ≡ i → counts_by i cs new_counts ≡ cs → cs ≡ counts_after target columns u firsts code pc s cs
  counts_kept i e h = sym (counts_are i e ∙ h)

  module _ (h : pc < length code) (k : Steps (kind_of (get_or code pc 0))) (q : kind_of (get_or code pc 0) ≡ Fields.PRINT → ⊥) where
    no_jump : (b : Bool) → eqb (kind_of (get_or code pc 0)) Fields.JUMP ≡ b → (l : Bool) → ltb pc (q_of (get_or code pc 0)) ≡ l → cs ≡ counts_after target columns u firsts code pc s cs
    no_jump true e true l = counts_kept (JUMP (q_of (get_or code pc 0))) (is_jump code pc h (eqb-true _ _ e) (ltb-true _ _ l)) refl
    no_jump true e false l = counts_kept PASS (is_back code pc h (eqb-true _ _ e) (ltb-false _ _ l)) refl
    no_jump false e l m = counts_kept PASS (is_pass code pc h (((((((tt, k.0.0.0.0.1), k.0.0.0.1), k.0.0.1), k.0.1), eqb-false _ _ e), k.1), q)) refl

    pub counts_rest : cs ≡ counts_after target columns u firsts code pc s cs
    counts_rest = no_jump (eqb (kind_of (get_or code pc 0)) Fields.JUMP) refl (ltb pc (q_of (get_or code pc 0))) refl

-- the word at the place, as the code reads it
pub recount_said : (words firsts s cs cs' : List ℕ) (u at v off : ℕ) → v ≡ get_or words at 0 → off ≡ get_or firsts (p_of v) 0 → cs' ≡ recounted s off u (n_of v) (p_of v) cs
    → cs' ≡ recounted s (get_or firsts (target_in words at) 0) u (columns_in words at) (target_in words at) cs
recount_said words firsts s cs cs' u at v off e f h =
    h ∙ ap (λ (o : ℕ). recounted s o u (n_of v) (p_of v) cs) f ∙ ap (λ (x : ℕ). recounted s (get_or firsts (p_of x) 0) u (n_of x) (p_of x) cs) e

-- ---- what a step makes of the tables

module _ (w : Accepted) (A : Actions) (code : List ℕ) (ts : Tables) (o : Text) (s : ℕ) where
  test_tables : {fs : List Frame} {pc l : ℕ} {k : List Task} → AtI w A code (TEST l) fs pc k → (next_of w ts o s k).tables ≡ ts
  unfolding step
  test_tables (at_test e t p j q r) = refl
  test_tables (at_while e t p j r) = refl

  again_tables : {fs : List Frame} {pc l : ℕ} {k : List Task} → AtI w A code (AGAIN l) fs pc k → (next_of w ts o s k).tables ≡ ts
  unfolding step
  again_tables (at_again e t p r) = refl

  range_tables : {fs : List Frame} {pc d m : ℕ} {k : List Task} → AtI w A code (RANGE d m) fs pc k → (next_of w ts o s k).tables ≡ ts
  unfolding step
  range_tables (at_range e l t p j r) = refl

  print_tables : {fs : List Frame} {pc : ℕ} {k : List Task} → AtI w A code PRINT fs pc k → (next_of w ts o s k).tables ≡ ts
  unfolding step
  print_tables (at_print t a) = refl

  -- an element is left to take
  each_tables : (l : List ℕ) → (l ≡ [] → ⊥) → (env : Environment) (v : Token) (a : Program) (k : List Task) → (next_of w ts o s (each (map single l) env v a k)).tables ≡ ts
  unfolding step each
  each_tables [] h env v a k = absurd (h refl)
  each_tables (x ∷ l) h env v a k = refl

  next_tables : (ss cs vs : List ℕ) {fs : List Frame} {pc d y : ℕ} {k : List Task} → AtI w A code (NEXT d y) fs pc k → Shown ss cs vs fs
      → (left_at (elements w) ss cs d ≡ [] → ⊥) → (next_of w ts o s k).tables ≡ ts
  next_tables ss cs vs (at_next {fs} {f} {d = d} v {a} {k} e l q b r) sh h =
      each_tables (left w f) (λ z. h (sym (shown_left w ss cs vs f fs d e sh) ∙ z)) (environment fs) v a k

-- ---- the counts, one step further

module _ (w : Accepted) (A : Actions) (code : List ℕ) (store₀ : List ℕ) (buffer₀ : Text) (firsts : List ℕ) (laid : Firsts w firsts) (c : Held) (n : ℕ) (r : Run w A code store₀ buffer₀ c n) where
  abbrev u : ℕ
  u = elements w

  abbrev now_counts : List ℕ
  now_counts = counts_of document_01 w (point w n).tables

  abbrev next_counts : List ℕ
  next_counts = counts_of document_01 w (point w (suc n)).tables

  abbrev after : List ℕ → List ℕ
  after s = counts_after A.target A.columns u firsts code c.pc s now_counts

  tables_now : (point w n).tables ≡ r.tables
  tables_now = ap (λ (x : State). x.tables) r.same

  tables_next : (point w (suc n)).tables ≡ (next_of w r.tables r.output n r.k).tables
  tables_next = ap (λ (x : State). x.tables) (point_suc w n ∙ ap (next w) r.same)

  same_tables : (next_of w r.tables r.output n r.k).tables ≡ r.tables → now_counts ≡ next_counts
  same_tables e = ap (counts_of document_01 w) (tables_now ∙ sym (tables_next ∙ e))

  kept : (s : List ℕ) (i : Instr) → instr code c.pc ≡ i → counts_by i now_counts (new_counts A.target A.columns u firsts code c.pc s now_counts) ≡ now_counts
      → (next_of w r.tables r.output n r.k).tables ≡ r.tables → after s ≡ next_counts
  kept s i e h t = sym (counts_kept A.target A.columns u firsts code c.pc s now_counts i e h) ∙ same_tables t

  -- an assignment: its relation's table alone is new, and its words are in the store
  module _ (e : instr code c.pc ≡ ASSIGN) where
    abbrev does : Run w A code store₀ buffer₀ (turn_by A u ASSIGN c) (suc n)
    does = run_assign w A code store₀ buffer₀ c n r e

    store_next : (turn_by A u ASSIGN c).store ≡ store_image w (point w (suc n)).tables store₀
    store_next = does.image ∙ ap (λ (x : State). store_image w x.tables store₀) (sym does.same)

    anew : after (turn_by A u ASSIGN c).store ≡ next_counts
    unfolding store_image
    anew =
        let s = sim_assign w A code r.tables r.output n (rw e at r.at) in
        let k : ℕ = place_of s.r.text w.relations in
        let ts : Tables = (point w n).tables in
        let t : List ℕ = table u (get_or w.relations k no_relation).arity (assigned w ts (environment r.fs) s.ps s.x (get_or ts k [])) in
        let q : (point w (suc n)).tables ≡ set ts k t =
        tables_next ∙ ap (λ (x : State). x.tables) s.stepped.same
        ∙ ap (λ (x : Tables). assign_tables w x (environment r.fs) s.r.text s.ps s.x w.relations x) (sym tables_now)
        ∙ assign_at w ts (environment r.fs) s.r.text s.ps s.x (point_shaped w n) in
        let z : List ℕ = replicate (scratch_words w) 0 ++ drop (words_needed w) store₀ in
        sym (counts_new A.target A.columns u firsts code c.pc (turn_by A u ASSIGN c).store now_counts _ e refl)
        ∙ ap (λ (x : List ℕ). new_counts A.target A.columns u firsts code c.pc x now_counts) (store_next ∙ ap (λ (x : Tables). table_image x ++ z) q)
        ∙ ap (λ (j : ℕ). recounted (table_image (set ts k t) ++ z) (get_or firsts j 0) u (A.columns c.pc) j now_counts) s.does.relation
        ∙ recount_new w ts k t (point_shaped w n) (subst (Shaped u w.relations) q (point_shaped w (suc n))) (subst (Made u w.relations) q (point_made w (suc n)))
        s.does.known (omega (arith, s.does.known, laid.few)) (A.columns c.pc) (get_or firsts k 0) s.does.arity s.does.few (laid.are k s.does.known) z
        ∙ ap (counts_of document_01 w) (sym q)

  counted_by : (i : Instr) → instr code c.pc ≡ i → rests u code c.sets c.cursors i → (i ≡ END → ⊥) → after (turn_by A u i c).store ≡ next_counts
  counted_by END e t m = absurd (m refl)
  counted_by PASS e t m = absurd t
  counted_by ASSIGN e t m = anew e
  counted_by PRINT e t m = kept (turn_by A u PRINT c).store PRINT e refl (print_tables w A code r.tables r.output n (rw e at r.at))
  counted_by (TEST l) e t m = kept (turn_by A u (TEST l) c).store (TEST l) e refl (test_tables w A code r.tables r.output n (rw e at r.at))
  counted_by (AGAIN l) e t m = kept (turn_by A u (AGAIN l) c).store (AGAIN l) e refl (again_tables w A code r.tables r.output n (rw e at r.at))
  counted_by (RANGE d l) e t m = kept (turn_by A u (RANGE d l) c).store (RANGE d l) e refl (range_tables w A code r.tables r.output n (rw e at r.at))
  counted_by (NEXT d l) e t m =
      kept (turn_by A u (NEXT d l) c).store (NEXT d l) e refl (next_tables w A code r.tables r.output n c.sets c.cursors c.variables (rw e at r.at) r.shown t)
  counted_by (JUMP l) e t m = absurd t

  pub counted_turn : rests u code c.sets c.cursors (instr code c.pc) → (instr code c.pc ≡ END → ⊥) → after (turn A u code c).store ≡ next_counts
  unfolding turn
  counted_turn t m = counted_by (instr code c.pc) refl t m

-- a PRINT that does not fit leaves the counts
full_kept : (A : Actions) (v u : ℕ) (firsts code : List ℕ) (c : Held) (s cs : List ℕ) (i : Instr) → instr code c.pc ≡ i → overflows A v i c ≡ true
    → counts_after A.target A.columns u firsts code c.pc s cs ≡ cs
full_kept A v u firsts code c s cs END e o = absurd (let z : ◌≡◌ {A = ℕ} 0 1 = cc in omega arith)
full_kept A v u firsts code c s cs PASS e o = sym (counts_kept A.target A.columns u firsts code c.pc s cs PASS e refl)
full_kept A v u firsts code c s cs ASSIGN e o = absurd (let z : ◌≡◌ {A = ℕ} 0 1 = cc in omega arith)
full_kept A v u firsts code c s cs PRINT e o = sym (counts_kept A.target A.columns u firsts code c.pc s cs PRINT e refl)
full_kept A v u firsts code c s cs (TEST l) e o = sym (counts_kept A.target A.columns u firsts code c.pc s cs (TEST l) e refl)
full_kept A v u firsts code c s cs (AGAIN l) e o = sym (counts_kept A.target A.columns u firsts code c.pc s cs (AGAIN l) e refl)
full_kept A v u firsts code c s cs (RANGE d l) e o = sym (counts_kept A.target A.columns u firsts code c.pc s cs (RANGE d l) e refl)
full_kept A v u firsts code c s cs (NEXT d l) e o = sym (counts_kept A.target A.columns u firsts code c.pc s cs (NEXT d l) e refl)
full_kept A v u firsts code c s cs (JUMP l) e o = sym (counts_kept A.target A.columns u firsts code c.pc s cs (JUMP l) e refl)

-- ---- along the loop

module _ (A : Actions) (u : ℕ) (code : List ℕ) (limit : ℕ) (firsts : List ℕ) (c₀ : Held) (n₀ : ℕ) (cs₀ : List ℕ) where
  pub right_start : CountsRight A u code firsts c₀ n₀ cs₀ n₀ cs₀
  right_start = record { right = λ w s b e r f h. h }

  module _ (c : Held) (n : ℕ) (cs : List ℕ) (g : Going A u code limit c₀ n₀ c n) (h : CountsRight A u code firsts c₀ n₀ cs₀ n cs) (full : Bool) (c' : Held) (k : Turned A u code c full c')
      (cs' : List ℕ) (q : cs' ≡ counts_after A.target A.columns u firsts code c.pc c'.store cs) where
    pub right_on : rests u code c.sets c.cursors (instr code c.pc) → c.pc < length code → CountsRight A u code firsts c₀ n₀ cs₀ (n + 1) cs'
    right_on t l =
        rw add-one (record {
          right = λ w s b e r f z.
              q ∙ ap₂ (λ (x y : List ℕ). counts_after A.target A.columns u firsts code c.pc x y) (ap (λ (x : Held). x.store) k.same) (h.right w s b e r f z)
              ∙ subst (λ (v : ℕ). counts_after A.target A.columns v firsts code c.pc (turn A v code c).store (counts_of document_01 w (point w n).tables) ≡ counts_of document_01 w (point w (suc n)).tables) e
              (counted_turn w A code s b firsts f c n (g.runs w s b e r) (subst (λ v. rests v code c.sets c.cursors (instr code c.pc)) (sym e) t) (instr_goes_on code c.pc l));
        })

    pub right_full : full ≡ true → CountsRight A u code firsts c₀ n₀ cs₀ n cs'
    unfolding is_full
    right_full e = rw (q, full_kept A u u firsts code c c'.store cs (instr code c.pc) refl (sym k.fits ∙ e)) h
