-- The turns of the pass: depths, codes, statements.
use Prim.Native.Nat.{ℕ, zero, suc, ◌+◌, ◌-◌, ◌/◌, ◌%◌, ◌<◌, ◌≤◌}
use mathlib.Core.Path.{◌≡◌, refl, sym, ap, ◌∙◌}
use mathlib.Core.Bool.{Bool, true, false, cond}
use mathlib.Core.List.{List, []}
use native.Mathlib.Omega.{arith}
use borrow.Author.Tests.{eq-eqb, ne_eqb, eqb-true, eqb-false, ltb-true, ltb-false}
use lib.Dec.{eqb, ltb}
use lib.ListN.{length, get_or, set, take, drop, replicate, length-replicate, get_or-replicate, get_or-eq_default}
use lib.Seq.{get_or-set_same, get_or-set_other, set_out}
use native.Mathlib.Numerals.{add-one}
use Rattle.definition.specs.Text.{Text}
use Rattle.words.specs.Fields.{kind_of}
use Rattle.slots.specs.declared.Found.{Found}
use Rattle.slots.specs.Slots.{names_of, Holds, fits, over, digit_at}
use Rattle.free.specs.Words as Free
use Rattle.free.specs.Words.{Small}
use Rattle.lowering.specs.Lowering.{at, token_values, lower_at, Filled}
use Rattle.actions.specs.Parts.{is_statement, start}
use Rattle.coding.specs.Pass.{Depths, depths_after, depths_at, names_between, Made, Passed}
use Rattle.coding.specs.Turns.{Shallow, Coded, Turned, Upto}

-- lent zeros are below any bound: four digits (Small), depths (Shallow)
pub zeros_below : (n b : ℕ) → 0 < b → (j : ℕ) → get_or (replicate n 0) j 0 < b
zeros_below n b h j = go (ltb j n) refl
  where
    zeros : List ℕ
    zeros = replicate n 0

    go : (d : Bool) → ltb j n ≡ d → get_or (replicate n 0) j 0 < b
    go true e = let z : get_or zeros j 0 ≡ 0 = get_or-replicate n j 0 0 (ltb-true j n e) in rw z h
    go false e =
        let l = ltb-false j n e in
        let z : length zeros ≡ n = length-replicate n 0 in
        let m : length zeros ≤ j = omega arith in
        rw (get_or-eq_default zeros 0 m) h

pub shallow_set : (depths : List ℕ) (j v : ℕ) → v < 65536 → Shallow depths → Shallow (set depths j v)
shallow_set depths j v l h i = go (eqb i j) refl (ltb j (length depths)) refl
  where
    go : (b : Bool) → eqb i j ≡ b → (d : Bool) → ltb j (length depths) ≡ d → get_or (set depths j v) i 0 < 65536
    go true e true m = let z : i ≡ j = eqb-true i j e in rw (z, get_or-set_same depths j v 0 (ltb-true j (length depths) m)) l
    go true e false m = rw (set_out depths j v (ltb-false j (length depths) m)) (h i)
    go false e d m = rw (get_or-set_other depths j i v 0 (eqb-false i j e)) (h i)

-- the depths after a word
module _ (ids depths : List ℕ) (w deep : ℕ) where
  abbrev next : Depths
  next = depths_after ids w (record { depths = depths; deep = deep })

  pub depth_range : (j : ℕ) (new : List ℕ) → w % 256 ≡ 6 → j ≡ get_or ids (w / 256 % 65536) 0 → new ≡ set depths j deep → (new ≡ next.depths) × (deep + 1 ≡ next.deep)
  unfolding depths_after
  depth_range j new e ej en = (rw (eq-eqb (w % 256) 6 e, ← ej) en, rw (eq-eqb (w % 256) 6 e) refl)

  pub depth_same : (w % 256 ≡ 6 → ⊥) → (w % 256 ≡ 7 → ⊥) → (depths ≡ next.depths) × (deep ≡ next.deep)
  unfolding depths_after
  depth_same e f = (rw (ne_eqb (w % 256) 6 e, ne_eqb (w % 256) 7 f) refl, rw (ne_eqb (w % 256) 6 e, ne_eqb (w % 256) 7 f) refl)

  pub depth_next : (v : ℕ) → (w % 256 ≡ 6 → ⊥) → w % 256 ≡ 7 → v ≡ deep - 1 → (depths ≡ next.depths) × (v ≡ next.deep)
  unfolding depths_after
  depth_next v e f g = (rw (ne_eqb (w % 256) 6 e, eq-eqb (w % 256) 7 f) refl, rw (ne_eqb (w % 256) 6 e, eq-eqb (w % 256) 7 f) g)

-- a statement lowered, or left for its many names
module _ (facts query : Text) (places tokens ids known words : List ℕ) (u : ℕ) (depths : List ℕ) (s k : ℕ) (f : Found)
    (holds : Holds (names_of ids known [] (take (k + 1 - s) (drop s words))) f) where
  between : Holds (names_between facts query places tokens ids known words s k) f
  between = rw add-one at holds

  few : (xs : List ℕ) → Holds xs f → 4 < f.count → length xs ≤ 4 → ⊥
  few xs (fits l c e) h n = omega arith
  few xs (over c l) h n = omega arith

  pub turned_over : (low : List ℕ) → 4 < f.count → Turned facts query places tokens ids known words u depths s k low low
  turned_over low h =
      record {
        same_length = refl;
        before = λ i l. refl;
        after = λ i l. refl;
        made = λ n. absurd (few _ between h n);
      }

  pub turned : (codes fr old new : List ℕ) → f.count ≤ 4 → Coded facts query places tokens ids known f depths words codes s (k + 1)
      → Free.Filled words (digit_at f ids) fr s (k + 1) → Small fr → Filled (lower_at (at words) (at codes) (at tokens) (at fr) (token_values facts query places (at tokens)) u s) s (k + 1) old new
      → Turned facts query places tokens ids known words u depths s k old new
  turned codes fr old new h coded free small low =
      record {
        same_length = low.same_length;
        before = low.before;
        after = λ i l. low.after i (omega arith);
        made = λ n.
            record {
              found = f;
              names = between;
              few = h;
              codes = codes;
              coded = λ i a b. coded i a (omega arith);
              fr = fr;
              free = λ i a b. free i a (omega arith);
              small = small;
              lowered = λ i a b. low.inside i a (omega arith);
            };
      }

-- where statements begin
pub start_le : (words : List ℕ) (k : ℕ) → start words k ≤ k
unfolding start
start_le words zero = omega arith
start_le words (suc n) = go (is_statement (kind_of (get_or words n 0))) (start_le words n)
  where
    go : (b : Bool) → start words n ≤ n → cond b (suc n) (start words n) ≤ suc n
    go true h = omega arith
    go false h = omega arith

-- a statement before k ends before the words of the statement at k begin
pub start_past : (words : List ℕ) (j k : ℕ) → is_statement (kind_of (get_or words j 0)) ≡ true → j < k → j < start words k
unfolding start
start_past words j zero e h = absurd (omega arith)
start_past words j (suc n) e h = go (is_statement (kind_of (get_or words n 0))) refl (eqb j n) refl (start_past words j n e)
  where
    go : (b : Bool) → is_statement (kind_of (get_or words n 0)) ≡ b → (d : Bool) → eqb j n ≡ d → (j < n → j < start words n) → j < cond b (suc n) (start words n)
    go true p d q more = omega arith
    go false p true q more =
        let z : j ≡ n = eqb-true j n q in
        let y : true ≡ false = sym (rw z at e) ∙ p in
        let x : ◌≡◌ {A = ℕ} 0 1 = cc in
        absurd (omega arith)
    go false p false q more = let z = eqb-false j n q in more (omega arith)

module _ (words : List ℕ) (k w : ℕ) (ew : w ≡ get_or words k 0) where
  pub start_on : is_statement (kind_of w) ≡ false → start words k ≡ start words (k + 1)
  unfolding start
  start_on h = let z : is_statement (kind_of (get_or words k 0)) ≡ false = rw (← ew) h in rw (add-one k, z) refl

  pub start_turn : is_statement (kind_of w) ≡ true → k + 1 ≡ start words (k + 1)
  unfolding start
  start_turn h = let z : is_statement (kind_of (get_or words k 0)) ≡ true = rw (← ew) h in rw (add-one k, z) refl

-- a word that is no statement's leaves the depths
no_kind : (x y : ℕ) → is_statement x ≡ false → is_statement y ≡ true → x ≡ y → ⊥
no_kind x y h t e =
    let q : true ≡ false = sym t ∙ sym (ap is_statement e) ∙ h in
    let z : ◌≡◌ {A = ℕ} 0 1 = cc in
    omega arith

statement_range : is_statement 6 ≡ true
unfolding is_statement
statement_range = refl

statement_next : is_statement 7 ≡ true
unfolding is_statement
statement_next = refl

quiet_depths : (ids : List ℕ) (w : ℕ) (d : Depths) → is_statement (kind_of w) ≡ false → depths_after ids w d ≡ d
unfolding depths_after
quiet_depths ids w d h = rw (ne_eqb (w % 256) 6 (no_kind (w % 256) 6 h statement_range), ne_eqb (w % 256) 7 (no_kind (w % 256) 7 h statement_next)) refl

module _ (facts query : Text) (places tokens ids known words : List ℕ) (u : ℕ) where
  -- what was made stays if its cells do
  made_kept : (low new depths : List ℕ) (s k : ℕ) → ((i : ℕ) → i ≤ k → get_or new i 0 ≡ get_or low i 0)
      → Made facts query places tokens ids known words low u depths s k → Made facts query places tokens ids known words new u depths s k
  made_kept low new depths s k same m =
      record {
        found = m.found;
        names = m.names;
        few = m.few;
        codes = m.codes;
        coded = m.coded;
        fr = m.fr;
        free = m.free;
        small = m.small;
        lowered = λ i a b. same i b ∙ m.lowered i a b;
      }

  -- the pass has come to the word k; the words of its statement begin at s
  pub record Going (first old depths low : List ℕ) (s deep k : ℕ) : Type 0 where
    pub begins : s ≡ start words k
    pub depths_are : depths ≡ (depths_at ids words (record { depths = first; deep = 0 }) k).depths
    pub deep_is : deep ≡ (depths_at ids words (record { depths = first; deep = 0 }) k).deep
    pub bound : deep ≤ k
    pub shallow : Shallow depths
    pub made : Upto facts query places tokens ids known words low u (record { depths = first; deep = 0 }) k
    pub same_length : length low ≡ length old
    pub rest : (i : ℕ) → length words ≤ i → get_or low i 0 ≡ get_or old i 0

  module _ (first old : List ℕ) where
    pub going_start : Shallow first → Going first old first old 0 0 0
    unfolding start depths_at
    going_start h =
        record {
          begins = refl;
          depths_are = refl;
          deep_is = refl;
          bound = omega arith;
          shallow = h;
          made = λ j l. absurd (omega arith);
          same_length = refl;
          rest = λ i l. refl;
        }

    module _ (depths low : List ℕ) (s deep k w : ℕ) (l : k < length words) (ew : w ≡ get_or words k 0) (g : Going first old depths low s deep k) where
      abbrev d : Depths
      d = record { depths = first; deep = 0 }

      pub going_on : is_statement (kind_of w) ≡ false → Going first old depths low s deep (k + 1)
      unfolding depths_at
      going_on h =
          let z : is_statement (kind_of (get_or words k 0)) ≡ false = rw (← ew) h in
          let q : depths_at ids words d (k + 1) ≡ depths_at ids words d k = rw add-one (quiet_depths ids (get_or words k 0) (depths_at ids words d k) z) in
          record {
            begins = g.begins ∙ start_on words k w ew h;
            depths_are = rw q g.depths_are;
            deep_is = rw q g.deep_is;
            bound = omega arith;
            shallow = g.shallow;
            made = λ j a e n. upto z j a e n (eqb j k) refl;
            same_length = g.same_length;
            rest = g.rest;
          }
        where
          upto : is_statement (kind_of (get_or words k 0)) ≡ false → (j : ℕ) → j < k + 1 → is_statement (kind_of (get_or words j 0)) ≡ true
              → length (names_between facts query places tokens ids known words (start words j) j) ≤ 4 → (b : Bool) → eqb j k ≡ b
              → Made facts query places tokens ids known words low u (depths_at ids words d (suc j)).depths (start words j) j
          upto z j a e n true q = let p : j ≡ k = eqb-true j k q in absurd (no_kind (kind_of (get_or words k 0)) (kind_of (get_or words j 0)) z e (ap (λ (x : ℕ). kind_of (get_or words x 0)) (sym p)))
          upto z j a e n false q = let p = eqb-false j k q in g.made j (omega arith) e n

      module _ (new-depths new : List ℕ) (new_deep : ℕ) (ed : new-depths ≡ (depths_after ids w (record { depths = depths; deep = deep })).depths)
          (ee : new_deep ≡ (depths_after ids w (record { depths = depths; deep = deep })).deep)
          (t : Turned facts query places tokens ids known words u new-depths s k low new) where
        after : depths_after ids w (record { depths = depths; deep = deep }) ≡ depths_at ids words d (suc k)
        unfolding depths_at
        after = rw (g.depths_are, g.deep_is, ew) refl

        own : (z : ℕ) (ds : List ℕ) → s ≡ z → new-depths ≡ ds → length (names_between facts query places tokens ids known words z k) ≤ 4
            → Made facts query places tokens ids known words new u ds z k
        own z ds e f n = rw (← e, ← f) (t.made (rw e n))

        upto : (j : ℕ) → j < k + 1 → is_statement (kind_of (get_or words j 0)) ≡ true → length (names_between facts query places tokens ids known words (start words j) j) ≤ 4
            → (b : Bool) → eqb j k ≡ b → Made facts query places tokens ids known words new u (depths_at ids words d (suc j)).depths (start words j) j
        upto j a e n true q =
            let p : j ≡ k = eqb-true j k q in
            rw p (own (start words k) (depths_at ids words d (suc k)).depths g.begins (ed ∙ ap (λ (x : Depths). x.depths) after) (rw p at n))
        upto j a e n false q =
            let p = eqb-false j k q in
            let m : j < k = omega arith in
            let past : j < start words k = start_past words j k e m in
            let b = g.begins in
            made_kept low new (depths_at ids words d (suc j)).depths (start words j) j (λ i h. t.before i (omega arith)) (g.made j m e n)

        pub going_turn : is_statement (kind_of w) ≡ true → new_deep ≤ deep + 1 → Shallow new-depths → Going first old new-depths new (k + 1) new_deep (k + 1)
        going_turn h b sh =
            record {
              begins = start_turn words k w ew h;
              depths_are = ed ∙ ap (λ (x : Depths). x.depths) after ∙ rw add-one refl;
              deep_is = ee ∙ ap (λ (x : Depths). x.deep) after ∙ rw add-one refl;
              bound = omega (arith, g.bound);
              shallow = sh;
              made = λ j a e n. upto j a e n (eqb j k) refl;
              same_length = t.same_length ∙ g.same_length;
              rest = λ i a. t.after i (omega arith) ∙ g.rest i a;
            }

    pub going_end : (depths low : List ℕ) (s deep k : ℕ) → length words ≤ k → Going first old depths low s deep k
        → Passed facts query places tokens ids known words low u (record { depths = first; deep = 0 })
    going_end depths low s deep k h g = record { made = λ j a e n. g.made j (omega arith) e n }
