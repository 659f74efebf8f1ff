-- A part entered into a sorted list, by its place.
use Prim.Native.Nat.{ℕ, zero, suc, ◌+◌, ◌<◌, ◌≤◌}
use mathlib.Core.Path.{◌≡◌, refl, sym, ap, subst, ◌∙◌}
use mathlib.Core.List.{List, [], ◌∷◌, ◌++◌, append_assoc}
use mathlib.Core.Bool.{Bool, true, false}
use native.Mathlib.Numerals.{add-one}
use native.Mathlib.Omega.{arith}
use native.Mathlib.Decide.{dec_lt}
use lib.Dec.{T, ltb}
use lib.ListN.{length, get_or, take, drop, set, drop_of_length-le, length-append, length-set, length-drop, take-append-drop}
use lib.Seq.{drop-cons, take-suc, set_split, length-take-le, set-append_left, take-take}
use borrow.Author.Tests.{le-ltb, lt-ltb}
use Rattle.std.proofs.lemmas.List.{drop-take}
use Rattle.definition.specs.Text.{Text, same, earlier}
use Rattle.definition.proofs.MeaningLaws.{same_eq}
use Rattle.definition.specs.Facts.{Ascending}
use Rattle.definition.proofs.UniverseLaws.{earlier_not_same, earlier_trans}
use Rattle.texts.specs.Orders.{order}
use Rattle.std.specs.Prelude.{Ok, Err, Some, None}
use Rattle.std.specs.declared.cmp.Ordering.TheVariants.{Less, Equal, Greater}
use Rattle.texts.proofs.OrderLaws.{is_same, is_before, is_after}
use Rattle.parts.specs.Packed.{text_of}
use Rattle.parts.specs.Entries.{enter, in_front, count_in, texts_of}
use Rattle.parts.specs.Places.{entered_at}

refuted : (b : Bool) → (T b → ⊥) → b ≡ false
refuted true f = absurd (f tt)
refuted false f = refl

module _ (facts query : Text) (v : ℕ) where
  -- the parts before the place p have earlier texts
  pub record Passed (ws : List ℕ) (p : ℕ) : Type 0 where
    pub is : enter facts query v ws ≡ take p ws ++ enter facts query v (drop p ws)

  pub passed_none : (ws : List ℕ) → Passed ws 0
  passed_none ws = record { is = refl }

  module _ (ws : List ℕ) (p : ℕ) (h : Passed ws p) where
    pub passed_end : length ws ≤ p → enter facts query v ws ≡ entered_at v ws (Err p)
    unfolding enter
    passed_end l = h.is ∙ rw (drop_of_length-le ws)

    module _ (l : p < length ws) where
      pub passed_found : order (text_of facts query v) (text_of facts query (get_or ws p 0)) ≡ Equal → enter facts query v ws ≡ entered_at v ws (Ok p)
      unfolding enter
      passed_found e = h.is ∙ rw (drop-cons ws p 0, is_same (text_of facts query v) (text_of facts query (get_or ws p 0)) e)

      pub passed_new : order (text_of facts query v) (text_of facts query (get_or ws p 0)) ≡ Less → enter facts query v ws ≡ entered_at v ws (Err p)
      unfolding enter
      passed_new e =
          let b = is_before (text_of facts query v) (text_of facts query (get_or ws p 0)) e in
          h.is ∙ rw (drop-cons ws p 0, b.0, b.1)

      pub passed_one : order (text_of facts query v) (text_of facts query (get_or ws p 0)) ≡ Greater → Passed ws (p + 1)
      unfolding enter
      passed_one e =
          let b = is_after (text_of facts query v) (text_of facts query (get_or ws p 0)) e in
          record { is = h.is ∙ rw (drop-cons ws p 0, b.0, b.1, add-one, take-suc ws p 0, append_assoc) }

  abbrev text : ℕ → Text
  text w = text_of facts query w

  -- in strict order the first text is earlier than every other
  first_earlier : (w : ℕ) (ws : List ℕ) (p : ℕ) → Ascending (texts_of facts query (w ∷ ws)) → p < length ws → T (earlier (text w) (text (get_or ws p 0)))
  first_earlier w [] p a l = absurd (omega arith)
  first_earlier w (x ∷ ws) zero a l = a.0
  first_earlier w (x ∷ ws) (suc p) a l = earlier_trans (text w) (text x) (text (get_or ws p 0)) a.0 (first_earlier x ws p a.1 (omega arith))

  -- in byte order, the parts before one than which v is not earlier are earlier than v
  passed_to : (ws : List ℕ) (p : ℕ) → Ascending (texts_of facts query ws) → p < length ws → (T (earlier (text v) (text (get_or ws p 0))) → ⊥) → Passed ws p
  unfolding enter
  passed_to [] p a l n = absurd (omega arith)
  passed_to (w ∷ ws) zero a l n = record { is = refl }
  passed_to (w ∷ ws) (suc p) a l n =
      let f = first_earlier w ws p a (omega arith) in
      let s : same (text v) (text w) ≡ false = refuted (same (text v) (text w)) (λ m. n (subst (λ (t : Text). T (earlier t (text (get_or ws p 0)))) (sym (same_eq (text v) (text w) m)) f)) in
      let e : earlier (text v) (text w) ≡ false = refuted (earlier (text v) (text w)) (λ b. n (earlier_trans (text v) (text w) (text (get_or ws p 0)) b f)) in
      record { is = rw (s, e) (ap (λ (r : List ℕ). w ∷ r) (passed_to ws p a.1 (omega arith) n).is) }

  -- a search that need not pass the parts one by one
  module _ (ws : List ℕ) (p : ℕ) where
    module _ (a : Ascending (texts_of facts query ws)) (l : p < length ws) where
      pub sorted_found : order (text_of facts query v) (text_of facts query (get_or ws p 0)) ≡ Equal → enter facts query v ws ≡ entered_at v ws (Ok p)
      sorted_found e =
          let m : T (same (text v) (text (get_or ws p 0))) = rw (is_same (text v) (text (get_or ws p 0)) e) tt in
          passed_found ws p (passed_to ws p a l (λ b. earlier_not_same (text v) (text (get_or ws p 0)) b m)) l e

      pub sorted_after : order (text_of facts query v) (text_of facts query (get_or ws p 0)) ≡ Greater → Passed ws (p + 1)
      sorted_after e = passed_one ws p (passed_to ws p a l (λ b. subst T (is_after (text v) (text (get_or ws p 0)) e).1 b)) l e

    pub sorted_new : (q : ℕ) → q ≡ p → Passed ws p → (q < length ws → order (text_of facts query v) (text_of facts query (get_or ws q 0)) ≡ Less) → enter facts query v ws ≡ entered_at v ws (Err p)
    sorted_new q e h f = go (dec_lt p (length ws))
      where
        go : Dec (p < length ws) → enter facts query v ws ≡ entered_at v ws (Err p)
        go (yes l) = passed_new ws p h l (subst (λ (k : ℕ). order (text_of facts query v) (text_of facts query (get_or ws k 0)) ≡ Less) e (f (omega arith)))
        go (no l) = passed_end ws p h (omega arith)

pub take_drop : (m p : ℕ) (d : List ℕ) → take m (drop p d) ≡ drop p (take (p + m) d)
take_drop m p d = sym (drop-take p m d)

-- a list with one part more, or one part changed, in place of the first n words
module _ (words : List ℕ) (n : ℕ) (within : n ≤ length words) (p : ℕ) (es : List ℕ) where
  -- there is room for it
  fits : (m : ℕ) → length es ≡ m → m ≤ length words → (Some m ≡ count_in es words) × (es ++ drop m words ≡ in_front es words)
  fits m e h =
      let r : ltb (length words) (length es) ≡ false = le-ltb (length words) (length es) (omega arith) in
      (sym (rw (r, e)), sym (rw (r, e)))

  pub front_changed : (x : ℕ) → p < n → es ≡ take p (take n words) ++ x ∷ drop (suc p) (take n words) → (Some n ≡ count_in es words) × (set words p x ≡ in_front es words)
  front_changed x h e =
      let k : p < length (take n words) = rw (length-take-le n words within) h in
      let f : es ≡ set (take n words) p x = e ∙ sym (set_split (take n words) p x k) in
      let m : length es ≡ n = ap length f ∙ length-set (take n words) p x ∙ length-take-le n words within in
      let g = fits n m within in (
        g.0,
        ap (λ (l : List ℕ). set l p x) (sym (take-append-drop n words)) ∙ set-append_left (take n words) (drop n words) p x k ∙ ap (λ (l : List ℕ). l ++ drop n words) (sym f) ∙ g.1,
      )

  module _ (v : ℕ) (h : p ≤ n) (e : es ≡ take p (take n words) ++ v ∷ drop p (take n words)) where
    longer : length es ≡ n + 1
    longer =
        let a : length (take n words) ≡ n = length-take-le n words within in
        let b : p ≤ length (take n words) = rw a h in
        ap length e ∙ length-append (take p (take n words)) (v ∷ drop p (take n words)) ∙ rw (length-take-le p (take n words) b, length-drop, a) (omega arith)

    pub front_full : n ≡ length words → (None ≡ count_in es words) × (words ≡ in_front es words)
    front_full k =
        let r : ltb (length words) (length es) ≡ true = lt-ltb (length words) (length es) (omega (arith, longer)) in
        (sym (rw r), sym (rw r))

    pub front_longer : n < length words → (Some (n + 1) ≡ count_in es words) × (take p words ++ v ∷ drop p (take n words) ++ drop (n + 1) words ≡ in_front es words)
    front_longer k =
        let g = fits (n + 1) longer (omega arith) in
        (g.0, ap (λ (l : List ℕ). l ++ drop (n + 1) words) (ap (λ (l : List ℕ). l ++ v ∷ drop p (take n words)) (sym (take-take p n words h)) ∙ sym e) ∙ g.1)
