-- An assignment leaves the store of the definition's tables after it.
use Prim.Native.Nat.{ℕ, ◌+◌, ◌-◌, ◌<◌, ◌≤◌}
use mathlib.Core.Path.{◌≡◌, refl, sym, ap, ap₂, subst, ◌∙◌}
use mathlib.Core.Bool.{Bool, true, false, ◌&&◌, cond}
use mathlib.Core.List.{List, ◌++◌}
use native.Mathlib.Nat.{le_refl, mul-le-mul_right}
use native.Mathlib.Omega.{arith}
use borrow.Author.Tests.{le-leb, ltb-true, ltb-false}
use lib.Dec.{T, ltb, leb}
use lib.ListN.{length, get_or, take, drop, replicate, length-append, length-drop, length-replicate, get_or-replicate, take-append-drop, get_or-append}
use lib.Seq.{sets, length-sets, length-take-le, take-take, get_or-take, get_or-drop, get_or-append-add, ext_get_or}
use Rattle.definition.specs.Text.{Text, member}
use Rattle.definition.specs.Token.{Token}
use Rattle.definition.specs.Syntax.{Term, Expression}
use Rattle.definition.specs.Names.{attributes}
use Rattle.definition.specs.Tables.{table, table_words}
use Rattle.definition.specs.Accept.{Accepted, elements, relation_words, scratch_words, words_needed}
use Rattle.definition.specs.Meaning.{Tables, Environment, mean}
use Rattle.definition.specs.Assignment.{assign_tables}
use Rattle.definition.specs.Claim.{table_image, store_image}
use Rattle.definition.proofs.RunLaws.{Shaped, image_length}
use Rattle.definition.proofs.RelationLaws.{place_of, no_relation}
use Rattle.words.specs.Fields.{p_of}
use Rattle.words.specs.Raw.{size}
use Rattle.eval.specs.Nodes.{node_at, n_of}
use Rattle.eval.specs.Meaning.{world, meaning}
use Rattle.closures.specs.Filling.{fill_words}
use Rattle.meaning.specs.Lowered.{none, leaves, expression, Lowered}
use Rattle.meaning.specs.Ready.{Tabled, Held, HeldAll}
use Rattle.meaning.proofs.Filled.{held_kept}
use Rattle.meaning.proofs.Means.{means}
use Rattle.columns.proofs.Assigned.{InSlots}
use Rattle.assignment.specs.New.{new_at}
use Rattle.assignment.proofs.Laws.{assign_store}
use Rattle.actions.specs.Doing.{columns_of, cleared, assign_by_word, assign_by}
use Rattle.actions.proofs.Restored.{touched, fills, cleared_to}
use Rattle.code.specs.Layout.{Laid}
use Rattle.code.specs.Statements.{Whole, AssignCode}
use Rattle.machine.specs.Actions.{scope_environment}
use Rattle.running.proofs.Numbered.{count_few}
use Rattle.running.proofs.Scopes.{open_loops}
use Rattle.running.proofs.Stores.{words_inside, words_largest, behind, zero_behind, same_length}
use Rattle.running.proofs.Parted.{Part, filled_as, cleared_as, in_scratch}
use Rattle.running.proofs.Worked.{tabled_at, front_after, worked}
use Rattle.running.proofs.Tested.{only}
use Rattle.running.proofs.Columns.{slot, slot_low, apart, agree_start, fits_slots}

module _ (w : Accepted) (firsts : List ℕ) (scr : ℕ) (laid : Laid w firsts scr) (low : List ℕ) (query : Text) (scope : List Text) (s k : ℕ) (whole : Whole low s k)
    {r : Token} {ps : List Term} {e : Expression} (c : AssignCode w query low scope s k r ps e) where
  abbrev u : ℕ
  u = elements w

  abbrev base : ℕ
  base = relation_words u w.relations

  abbrev m : ℕ
  m = 1 + length ps + (size e + 0)

  pub assign_part : Part w c.β scope low s m k (only e (s + (1 + length ps)))
  assign_part =
      record {
        named = c.named;
        whole = whole;
        own = omega (arith, c.own);
        words = leaves (1 + length ps) c.first (expression e (subst (λ (j : ℕ). Lowered w c.β scope low e j 0) q c.words) none);
      }
    where
      q : s + 1 + length ps ≡ s + (1 + length ps)
      q = omega arith

  module _ (ts : Tables) (shaped : Shaped u w.relations ts) (vs store₀ : List ℕ) (long : words_needed w ≤ length store₀) (inside : (d : ℕ) → d < length scope → get_or vs d 0 < u) where
    abbrev S : List ℕ
    S = store_image w ts store₀

    -- the store with the closures, its tables and the rest
    abbrev F : List ℕ
    F = fill_words firsts vs u low m s S

    abbrev z : List ℕ
    z = drop base F

    abbrev F' : List ℕ
    F' = table_image ts ++ z

    front : take base F ≡ table_image ts
    front = front_after w firsts scr laid low assign_part ts shaped vs store₀ long

    split : F ≡ F'
    split = sym (take-append-drop base F) ∙ ap (λ (l : List ℕ). l ++ z) front

    filled_length : length F ≡ length store₀
    filled_length = (worked w firsts scr laid low assign_part ts shaped vs store₀ long).long ∙ same_length w ts (image_length shaped) store₀ long

    -- the words before the new table's hold the tables and the closures
    held_front : Held w c.β scope vs ts (take scr F) firsts e 0
    unfolding HeldAll
    held_front =
        held_kept w c.β scope vs c.named.naming low ts firsts base laid.closures e (s + 1 + length ps) 0 F (take scr F) scr c.words
        (omega (arith, laid.new_table, mul-le-mul_right u (count_few w c.β scope low e (s + 1 + length ps) 0 c.words (omega arith))))
        (take-take scr scr F (le_refl scr)) (worked w firsts scr laid low assign_part ts shaped vs store₀ long).held.0

    tabled_front : Tabled w c.β scope vs ts (take scr F) firsts
    tabled_front = tabled_at w firsts scr laid low assign_part ts shaped vs store₀ long (take scr F) (take-take base scr F (omega (arith, laid.new_table)) ∙ front)

    means_front : (v : Environment) (τ : List ℕ) → InSlots c.In (slot w query low scope s k c) (scope_environment scope vs) v τ
        → ((x : Text) → T (member x (attributes w.variables ps)) → v x < u) → mean w ts v e ≡ meaning (world (take scr F') firsts vs u) (node_at low (k - 1)) τ
    means_front v τ a b =
        sym (ap₂ (λ (x : List ℕ) (j : ℕ). meaning (world (take scr x) firsts vs u) (node_at low (j - 1)) τ) (sym split) c.own
        ∙ means w c.β scope vs c.named.naming low ts (take scr F) firsts tabled_front e (s + 1 + length ps) 0 v τ c.words held_front
        (fits_slots w query low scope s k c vs (open_loops w c.β scope c.named vs inside) v τ a b))

    -- outside the closures' tables the words are as before
    kept_there : (i : ℕ) → touched firsts vs u low (length S) m s i ≡ false → get_or F i 0 ≡ get_or S i 0
    kept_there i h = fills firsts vs u low (length S) m s S refl i h

    untouched : (i : ℕ) → scr ≤ i → touched firsts vs u low (length S) m s i ≡ false
    untouched i l = go (touched firsts vs u low (length S) m s i) refl
      where
        go : (b : Bool) → touched firsts vs u low (length S) m s i ≡ b → b ≡ false
        go true e = absurd (omega (arith, (in_scratch w firsts scr laid low assign_part vs (length S) i e).high_end, laid.new_table))
        go false e = refl

    abbrev len : ℕ
    len = table_words u (length ps)

    abbrev off : ℕ
    off = get_or firsts (p_of (get_or low k 0)) 0

    at_relation : off ≡ relation_words u (take (place_of r.text w.relations) w.relations)
    at_relation = ap (λ (i : ℕ). get_or firsts i 0) c.number ∙ laid.relations (place_of r.text w.relations) c.known

    its_words : len ≡ table_words u (get_or w.relations (place_of r.text w.relations) no_relation).arity
    its_words = ap (table_words u) c.arity

    before_scratch : off + len ≤ scr
    before_scratch = omega (arith, at_relation, its_words, words_inside u w.relations (place_of r.text w.relations) c.known, laid.new_table)

    scratch_end : scr + len ≤ base + scratch_words w
    unfolding scratch_words
    scratch_end = omega (arith, its_words, words_largest u w.relations (place_of r.text w.relations) c.known, laid.new_table)

    new_fits : scr + len ≤ length F
    unfolding words_needed
    new_fits = omega (arith, scratch_end, filled_length, long)

    -- the words for the new table are zero
    new_zero : take len (drop scr F) ≡ replicate len 0
    new_zero =
        ext_get_or 0 (take len (drop scr F)) (replicate len 0) (size_there ∙ sym (length-replicate len 0))
        (λ i l. let h : i < len = omega (arith, size_there) in
        get_or-take len (drop scr F) i 0 h ∙ get_or-drop scr F i 0 ∙ kept_there (scr + i) (untouched (scr + i) (omega arith))
        ∙ zero_behind w ts (image_length shaped) store₀ (scr + i) (omega (arith, laid.new_table)) (omega (arith, scratch_end))
        ∙ sym (get_or-replicate len i 0 0 h))
      where
        size_there : length (take len (drop scr F)) ≡ len
        size_there = length-take-le len (drop scr F) (rw length-drop (omega (arith, new_fits)))

    abbrev cs : List ℕ
    cs = take (length ps) (columns_of (get_or low k 0))

    -- the store with the new table, before the closures' words are zero again
    abbrev new_store : List ℕ → List ℕ
    new_store x = sets (sets x off (table u (length ps) (new_at low (take scr x) firsts vs u (k - 1) cs (replicate 8 0) off))) scr (replicate len 0)

    -- an assignment of at most 4 columns whose tables have room makes it
    by_count : (n : ℕ) → n ≡ length ps → (x : List ℕ) → scr + len ≤ length x
        → cond (leb n 4)
        (cond (leb (off + table_words u n) scr && leb (scr + table_words u n) (length x))
        (sets (sets x off (table u n (new_at low (take scr x) firsts vs u (k - 1) (take n (columns_of (get_or low k 0))) (replicate 8 0) off))) scr (replicate (table_words u n) 0)) x) x
        ≡ new_store x
    by_count n q x l =
        ap (λ (j : ℕ). cond (leb j 4)
        (cond (leb (off + table_words u j) scr && leb (scr + table_words u j) (length x))
        (sets (sets x off (table u j (new_at low (take scr x) firsts vs u (k - 1) (take j (columns_of (get_or low k 0))) (replicate 8 0) off))) scr (replicate (table_words u j) 0)) x) x) q
        ∙ ap (λ (b : Bool). cond b (cond (leb (off + len) scr && leb (scr + len) (length x)) (new_store x) x) x) (le-leb (length ps) 4 (omega (arith, c.short)))
        ∙ ap₂ (λ (a b : Bool). cond (a && b) (new_store x) x) (le-leb (off + len) scr before_scratch) (le-leb (scr + len) (length x) l)

    by_word : assign_by_word low firsts u scr (get_or low k 0) k vs F ≡ new_store F
    unfolding assign_by_word
    by_word = by_count (n_of (get_or low k 0)) c.count F new_fits

    -- the tables after the assignment
    abbrev after : Tables
    after = assign_tables w ts (scope_environment scope vs) r.text ps e w.relations ts

    made : new_store F' ≡ table_image after ++ z
    made =
        assign_store w c.In (slot w query low scope s k c) (slot_low w query low scope s k c) (apart w query low scope s k c) ts z low firsts vs scr (k - 1) e (scope_environment scope vs)
        (replicate 8 0) (agree_start w query low scope s k c vs) (omega (arith, image_length shaped, laid.new_table)) ps means_front c.columns r.text shaped c.known (sym c.arity)
        off len at_relation refl (subst (λ (x : List ℕ). scr + len ≤ length x) split new_fits) (subst (λ (x : List ℕ). take len (drop scr x) ≡ replicate len 0) split new_zero)

    -- it is as long as before, and so are its tables
    made_length : length (table_image after ++ z) ≡ length store₀
    made_length =
        ap length (sym made)
        ∙ length-sets (sets F' off (table u (length ps) (new_at low (take scr F') firsts vs u (k - 1) cs (replicate 8 0) off))) scr (replicate len 0)
        ∙ length-sets F' off (table u (length ps) (new_at low (take scr F') firsts vs u (k - 1) cs (replicate 8 0) off))
        ∙ ap length (sym split) ∙ filled_length

    tables_length : length (table_image after) ≡ base
    tables_length =
        omega (arith, made_length, length-append (table_image after) z, length-append (table_image ts) z, ap length split, filled_length, image_length shaped)

    -- outside the closures' tables it is the definition's store
    same_outside : (i : ℕ) → touched firsts vs u low (length S) m s i ≡ false → get_or (table_image after ++ z) i 0 ≡ get_or (store_image w after store₀) i 0
    unfolding store_image
    same_outside i h = go (ltb i base) refl
      where
        go : (b : Bool) → ltb i base ≡ b → get_or (table_image after ++ z) i 0 ≡ get_or (table_image after ++ (replicate (scratch_words w) 0 ++ drop (words_needed w) store₀)) i 0
        go true q =
            let l : i < length (table_image after) = omega (arith, tables_length, ltb-true i base q) in
            get_or-append (table_image after) z 0 i l ∙ sym (get_or-append (table_image after) (replicate (scratch_words w) 0 ++ drop (words_needed w) store₀) 0 i l)
        go false q =
            let l : base ≤ i = ltb-false i base q in
            let at : length (table_image after) + (i - base) ≡ i = omega (arith, tables_length) in
            let from : base + (i - base) ≡ i = omega arith in
            ap (λ (j : ℕ). get_or (table_image after ++ z) j 0) (sym at)
            ∙ get_or-append-add (table_image after) z (i - base) 0
            ∙ get_or-drop base F (i - base) 0
            ∙ ap (λ (j : ℕ). get_or F j 0) from
            ∙ kept_there i h
            ∙ ap (λ (j : ℕ). get_or S j 0) (sym from)
            ∙ behind w ts (image_length shaped) store₀ (i - base)
            ∙ sym (behind w after tables_length store₀ (i - base))
            ∙ ap (λ (j : ℕ). get_or (store_image w after store₀) j 0) from

    closed_zero : (i : ℕ) → touched firsts vs u low (length S) m s i ≡ true → get_or (store_image w after store₀) i 0 ≡ 0
    unfolding scratch_words
    closed_zero i h =
        let t = in_scratch w firsts scr laid low assign_part vs (length S) i h in
        zero_behind w after tables_length store₀ i t.low_end (omega (arith, t.high_end))

    pub assigned_store : assign_by low firsts u scr vs S k ≡ store_image w after store₀
    unfolding assign_by
    assigned_store =
        ap (λ (x : List ℕ). cleared low firsts u (assign_by_word low firsts u scr (get_or low k 0) k vs x) k) (filled_as w firsts scr laid low assign_part vs S)
        ∙ ap (λ (x : List ℕ). cleared low firsts u x k) (by_word ∙ ap new_store split ∙ made)
        ∙ cleared_as w firsts scr laid low assign_part (table_image after ++ z)
        ∙ cleared_to firsts vs u low (length S) m s (table_image after ++ z) (store_image w after store₀)
        (made_length ∙ sym (same_length w ts (image_length shaped) store₀ long))
        (same_length w after tables_length store₀ long ∙ sym (same_length w ts (image_length shaped) store₀ long)) closed_zero same_outside
