-- The pass over the lines, one line after another.
use Prim.Native.Nat.{ℕ, suc, ◌+◌, ◌-◌, ◌<◌, ◌≤◌}
use mathlib.Core.Path.{◌≡◌, refl, sym, ap, ap₂, subst, ◌∙◌}
use mathlib.Core.List.{List, [], ◌∷◌, ◌++◌, map, append-nil, append_assoc, map-append}
use mathlib.Core.Bool.{true, false}
use native.Mathlib.Numerals.{add-one}
use native.Mathlib.Omega.{arith}
use native.Mathlib.Decide.{dec_lt}
use lib.ListN.{length, take, drop, replicate, drop_of_length-le}
use lib.Seq.{drop-cons}
use Rattle.definition.specs.Text.{Text, ascii, starts, span, gather}
use Rattle.definition.specs.Limits.{Limits}
use Rattle.definition.specs.Answer.{ok, refusal}
use Rattle.definition.specs.Facts.{Line, Fact, Facts, cut, without_return, lines, fact_lines, Ascending}
use Rattle.definition.specs.Join.{join_lines, read_second}
use Rattle.definition.specs.declared.Refusal.{Refusal}
use Rattle.definition.proofs.JoinReading.{read_alone}
use Rattle.definition.proofs.ListLaws.{gather_append}
use Rattle.definition.proofs.TextLaws.{no_end}
use Rattle.definition.proofs.LegalLaws.{dot_kept}
use Rattle.breaks.proofs.FirstLine.{cut_first, line_size}
use Rattle.parts.specs.Entries.{Held, note_all, enter_all, texts_of}
use Rattle.parts.proofs.HeldLaws.{enter_all_ascending, held_first, held_take, held_length, held_then, note_all_append, note_all_longer, enter_all_append, enter_all_longer}
use Rattle.facts.specs.declared.Counts.{Counts}
use Rattle.std.specs.declared.option.Option.TheVariants.{Some}
use Rattle.std.specs.declared.result.Result.{Result}
use Rattle.std.specs.declared.result.Result.TheVariants.{Ok, Err}
use Rattle.std.specs.Result.{is_err}
use Rattle.facts.specs.Words.{element_word, fact_word, noted, entered}
use Rattle.facts.specs.Pass.{limits_of, facts_of}
use Rattle.facts.specs.Reading.{line_facts, facts_from, all_facts, line_of, more_relations, more_elements, Taken, LinesRead, MeetsAfter, Meets}

-- the line that starts at a and ends at e, and the lines after it
module _ (xs : Text) (a e : ℕ) (within : a ≤ length xs) (r : e ≡ a + span no_end (drop a xs)) (b : e ≤ length xs) where
  next : suc (a + length (take (e - a) (drop a xs))) ≡ e + 1
  next = let from : a ≤ e = omega (arith, r) in omega (arith, line_size xs a e from b, r)

  -- it ends at t without the byte 13 of its end
  module _ (t : ℕ) (w : take (t - a) (drop a xs) ≡ without_return (take (e - a) (drop a xs))) where
    dot_first : starts (ascii ".") (take (e - a) (drop a xs)) ≡ starts (ascii ".") (take (t - a) (drop a xs))
    dot_first = sym (dot_kept (take (e - a) (drop a xs))) ∙ ap (starts (ascii ".")) (sym w)

    pub lines_dot : starts (ascii ".") (take (t - a) (drop a xs)) ≡ true → lines a (cut (drop a xs)) ≡ []
    unfolding lines
    lines_dot d = rw (cut_first xs a e within r b, dot_first, d)

    module _ (d : starts (ascii ".") (take (t - a) (drop a xs)) ≡ false) where
      pub lines_last : e ≡ length xs → lines a (cut (drop a xs)) ≡ line_of xs a t ∷ []
      unfolding lines
      lines_last k = let m : length xs ≤ e = omega arith in rw (cut_first xs a e within r b, drop_of_length-le xs {i = e} m, dot_first, d, w)

      pub lines_more : e < length xs → lines a (cut (drop a xs)) ≡ line_of xs a t ∷ lines (e + 1) (cut (drop (e + 1) xs))
      unfolding lines
      lines_more k = rw (cut_first xs a e within r b, drop-cons xs e 0, dot_first, d, next, add-one, w)

module _ (facts query : Text) where
  relations_then : (fs gs : List Fact) (ws : List ℕ) → more_relations facts query (fs ++ gs) ws ≡ more_relations facts query gs (more_relations facts query fs ws)
  relations_then fs gs ws = ap (λ vs. note_all facts query vs ws) (map-append fact_word fs gs) ∙ note_all_append facts query (map fact_word fs) (map fact_word gs) ws

  elements_then : (fs gs : List Fact) (ws : List ℕ) → more_elements facts query (fs ++ gs) ws ≡ more_elements facts query gs (more_elements facts query fs ws)
  elements_then fs gs ws =
      ap (λ vs. enter_all facts query vs ws) (gather_append (λ f. map element_word f.elements) fs gs)
      ∙ enter_all_append facts query (gather (λ f. map element_word f.elements) fs) (gather (λ f. map element_word f.elements) gs) ws

  -- from the first n₀ relations and elements of the words on
  module _ (rs₀ us₀ : List ℕ) (n₀ : Counts) where
    -- the relations and elements with those of more facts
    abbrev rs_with : List Fact → List ℕ
    rs_with fs = more_relations facts query fs (take n₀.relations rs₀)

    abbrev us_with : List Fact → List ℕ
    us_with fs = more_elements facts query fs (take n₀.elements us₀)

    -- what was read before the lines ls
    pub record Reading (ls : List Line) (rs us : List ℕ) (c : Counts) : Type 0 where
      pub so_far : List Fact
      pub left : all_facts facts ≡ so_far ++ gather line_facts ls
      pub rows : (fs : List Fact)
          → join_lines (limits_of (length rs₀) (length us₀)) (fact_lines facts) (facts_of facts query (take n₀.relations rs₀) (take n₀.elements us₀) fs)
          ≡ join_lines (limits_of (length rs₀) (length us₀)) ls (facts_of facts query (rs_with so_far) (us_with so_far) (fs ++ so_far))
      pub relations : Held rs₀ rs (rs_with so_far) c.relations
      pub elements : Held us₀ us (us_with so_far) c.elements

    pub reading_start : n₀.relations ≤ length rs₀ → n₀.elements ≤ length us₀ → Reading (lines 0 (cut (drop 0 facts))) rs₀ us₀ n₀
    unfolding facts_from fact_lines note_all enter_all gather
    reading_start a b =
        record {
          so_far = [];
          left = refl;
          rows = λ fs. rw append-nil;
          relations = held_first rs₀ n₀.relations a;
          elements = held_first us₀ n₀.elements b;
        }

    pub reading_ascending : Ascending (texts_of facts query (take n₀.elements us₀)) → {ls : List Line} {rs us : List ℕ} {c : Counts} → Reading ls rs us c → Ascending (texts_of facts query (take c.elements us))
    reading_ascending a h =
        subst (λ (ws : List ℕ). Ascending (texts_of facts query ws)) (sym (held_take h.elements))
        (enter_all_ascending facts query (gather (λ f. map element_word f.elements) h.so_far) (take n₀.elements us₀) a)

    pub reading_end : {rs us rs' us' : List ℕ} {c : Counts} → Reading [] rs us c → rs' ≡ rs → us' ≡ us → LinesRead facts query n₀ rs₀ rs' us₀ us' (Ok c)
    unfolding join_lines gather
    reading_end {rs} {us} {rs'} {us'} {c} h p q =
        let e : all_facts facts ≡ h.so_far = h.left ∙ append-nil h.so_far in (
          λ fs. h.rows fs ∙ ap (λ (gs : List Fact). ok (facts_of facts query (rs_with gs) (us_with gs) (fs ++ gs))) (sym e),
          rw (e, p) h.relations,
          rw (e, q) h.elements,
        )

    module _ {l : Line} {ls : List Line} {rs us : List ℕ} {c : Counts} (h : Reading (l ∷ ls) rs us c) where
      same_limits : limits_of (length rs₀) (length us₀) ≡ limits_of (length rs) (length us)
      same_limits = ap₂ limits_of (sym (held_length h.relations)) (sym (held_length h.elements))

      same_facts : (fs : List Fact) → facts_of facts query (rs_with h.so_far) (us_with h.so_far) fs ≡ facts_of facts query (take c.relations rs) (take c.elements us) fs
      same_facts fs = ap₂ (λ (x y : List ℕ). facts_of facts query x y fs) (sym (held_take h.relations)) (sym (held_take h.elements))

      so_read : (fs : List Fact)
          → join_lines (limits_of (length rs₀) (length us₀)) (fact_lines facts) (facts_of facts query (take n₀.relations rs₀) (take n₀.elements us₀) fs)
          ≡ join_lines (limits_of (length rs) (length us)) (l ∷ ls) (facts_of facts query (take c.relations rs) (take c.elements us) (fs ++ h.so_far))
      so_read fs = h.rows fs ∙ ap₂ (λ (k : Limits) (s : Facts). join_lines k (l ∷ ls) s) same_limits (same_facts (fs ++ h.so_far))

      pub reading_fails : (rs' us' : List ℕ) (q : Refusal) → Taken facts query l rs rs' us us' c (Err q) → LinesRead facts query n₀ rs₀ rs' us₀ us' (Err q)
      reading_fails rs' us' q t fs = so_read fs ∙ t.1 ls (fs ++ h.so_far)

      pub reading_more : {rs' us' : List ℕ} (d : Counts) → Taken facts query l rs rs' us us' c (Ok (Some d)) → Reading ls rs' us' d
      unfolding gather
      reading_more {rs'} {us'} d t =
          let m : more_relations facts query (line_facts l) (take c.relations rs) ≡ rs_with (h.so_far ++ line_facts l)
          = ap (more_relations facts query (line_facts l)) (held_take h.relations) ∙ sym (relations_then h.so_far (line_facts l) (take n₀.relations rs₀)) in
          let n : more_elements facts query (line_facts l) (take c.elements us) ≡ us_with (h.so_far ++ line_facts l)
          = ap (more_elements facts query (line_facts l)) (held_take h.elements) ∙ sym (elements_then h.so_far (line_facts l) (take n₀.elements us₀)) in
          record {
            so_far = h.so_far ++ line_facts l;
            left = h.left ∙ sym (append_assoc h.so_far (line_facts l) (gather line_facts ls));
            rows = λ fs.
                so_read fs ∙ t.3 ls (fs ++ h.so_far)
                ∙ ap₂ (λ (k : Limits) (s : Facts). join_lines k ls s) (sym same_limits)
                (ap₂ (λ (x y : List ℕ). facts_of facts query x y ((fs ++ h.so_far) ++ line_facts l)) m n
                ∙ ap (facts_of facts query (rs_with (h.so_far ++ line_facts l)) (us_with (h.so_far ++ line_facts l))) (append_assoc fs h.so_far (line_facts l)));
            relations = held_then h.relations (subst (λ (ws : List ℕ). Held rs rs' ws d.relations) m t.1) (longer_relations t m);
            elements = held_then h.elements (subst (λ (ws : List ℕ). Held us us' ws d.elements) n t.2) (longer_elements t n);
          }
        where
          longer_relations : Taken facts query l rs rs' us us' c (Ok (Some d)) → more_relations facts query (line_facts l) (take c.relations rs) ≡ rs_with (h.so_far ++ line_facts l) → c.relations ≤ d.relations
          longer_relations t m = omega (arith, t.1.count, h.relations.count, ap length (held_take h.relations), note_all_longer facts query (map fact_word (line_facts l)) (take c.relations rs))

          longer_elements : Taken facts query l rs rs' us us' c (Ok (Some d)) → more_elements facts query (line_facts l) (take c.elements us) ≡ us_with (h.so_far ++ line_facts l) → c.elements ≤ d.elements
          longer_elements t n = omega (arith, t.2.count, h.elements.count, ap length (held_take h.elements), enter_all_longer facts query (gather (λ f. map element_word f.elements) (line_facts l)) (take c.elements us))

-- a refusal at the line that starts at a
module _ (facts : Text) (a e t : ℕ) (within : a ≤ length facts) (r : e ≡ a + span no_end (drop a facts)) (b : e ≤ length facts) (w : take (t - a) (drop a facts) ≡ without_return (take (e - a) (drop a facts)))
    (d : starts (ascii ".") (take (t - a) (drop a facts)) ≡ false) where
  pub fails_at : (query : Text) (rs₀ us₀ : List ℕ) (n₀ : Counts) (rs us : List ℕ) (c : Counts) → Reading facts query rs₀ us₀ n₀ (lines a (cut (drop a facts))) rs us c → (rs' us' : List ℕ) (q : Refusal)
      → ((ls : List Line) (fs : List Fact) → join_lines (limits_of (length rs) (length us)) (line_of facts a t ∷ ls) (facts_of facts query (take c.relations rs) (take c.elements us) fs) ≡ refusal q)
      → LinesRead facts query n₀ rs₀ rs' us₀ us' (Err q)
  fails_at query rs₀ us₀ n₀ rs us c h rs' us' q f = go (dec_lt e (length facts))
    where
      at : (ls : List Line) → lines a (cut (drop a facts)) ≡ line_of facts a t ∷ ls → LinesRead facts query n₀ rs₀ rs' us₀ us' (Err q)
      at ls k = reading_fails facts query rs₀ us₀ n₀ (subst (λ (ms : List Line). Reading facts query rs₀ us₀ n₀ ms rs us c) k h) rs' us' q (d, f)

      go : Dec (e < length facts) → LinesRead facts query n₀ rs₀ rs' us₀ us' (Err q)
      go (yes l) = at (lines (e + 1) (cut (drop (e + 1) facts))) (lines_more facts a e within r b t w d l)
      go (no l) = at [] (lines_last facts a e within r b t w d (omega arith))

-- rows 1 and 2 are not met, so the lines decide
pub lines_decide : (facts query : Text) (c : Counts) (rs rs' us us' : List ℕ) → ((limits : Limits) (s : Facts) → read_second limits s facts ≡ join_lines limits (fact_lines facts) s)
    → (r : Result Counts Refusal) → LinesRead facts query c rs rs' us us' r → MeetsAfter facts query c rs rs' us us' r
lines_decide facts query c rs rs' us us' b (Ok d) h = (λ fs. b (limits_of (length rs) (length us)) _ ∙ h.0 fs, h.1, h.2)
lines_decide facts query c rs rs' us us' b (Err q) h = λ fs. b (limits_of (length rs) (length us)) _ ∙ h fs

-- a text read after nothing is read alone
module _ (facts query : Text) (rs rs' us us' : List ℕ) where
  abbrev MeetsAlone : Result Counts Refusal → Type 0
  MeetsAlone r = MeetsAfter facts query (record { relations = 0; elements = 0 }) rs rs' us us' r

  pub alone_given : (r : Result Counts Refusal) → is_err r ≡ false → MeetsAlone r → Meets facts query rs rs' us us' r
  unfolding noted entered
  alone_given (Ok c) e m = (sym (read_alone (limits_of (length rs) (length us)) facts) ∙ m.0 [], m.1, m.2)
  alone_given (Err q) e m = let z : ◌≡◌ {A = ℕ} 0 1 = cc in absurd (omega arith)

  pub alone_refused : (rs₁ us₁ : List ℕ) → rs₁ ≡ replicate (length rs) 0 → us₁ ≡ replicate (length us) 0 → (r : Result Counts Refusal) → is_err r ≡ true → MeetsAlone r
      → Meets facts query rs rs₁ us us₁ r
  alone_refused rs₁ us₁ a b (Ok c) e m = let z : ◌≡◌ {A = ℕ} 0 1 = cc in absurd (omega arith)
  alone_refused rs₁ us₁ a b (Err q) e m = (sym (read_alone (limits_of (length rs) (length us)) facts) ∙ m [], a, b)
