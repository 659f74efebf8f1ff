-- Names entered from the last to the first.
use Prim.Native.Nat.{ℕ, suc, ◌+◌, ◌-◌, ◌≤◌, ◌<◌}
use mathlib.Core.Path.{◌≡◌, sym, ap, ◌∙◌}
use mathlib.Core.Bool.{Bool, true, false, cond}
use mathlib.Core.List.{List, [], ◌∷◌}
use native.Mathlib.Omega.{arith}
use lib.ListN.{length, get_or, take, drop, length-take, drop_of_length-le}
use lib.Seq.{drop-cons}
use Rattle.definition.specs.Text.{Text, same, earlier}
use Rattle.parts.specs.Packed.{text_of}
use Rattle.parts.specs.Entries.{quoted_too, enter, in_front, count_in}
use Rattle.std.specs.Prelude.{Option, Some, None}
use Rattle.parts.proofs.HeldLaws.{held_front, held_take, held_length, no_room}
use Rattle.unions.specs.Union.{sorted}

module _ (facts query : Text) where
  enter_few : (v : ℕ) (ws : List ℕ) → length (enter facts query v ws) ≤ length ws + 1
  unfolding enter
  enter_few v [] = omega arith
  enter_few v (w ∷ ws) = go (same (text_of facts query v) (text_of facts query w)) (earlier (text_of facts query v) (text_of facts query w)) (enter_few v ws)
    where
      go : (a b : Bool) → length (enter facts query v ws) ≤ length ws + 1 → length (cond a (quoted_too v w ∷ ws) (cond b (v ∷ w ∷ ws) (w ∷ enter facts query v ws))) ≤ suc (length ws) + 1
      go true b h = omega arith
      go false true h = omega arith
      go false false h = omega arith

  pub one_more : (v : ℕ) (words : List ℕ) (n : ℕ) → length (enter facts query v (take n words)) ≤ n + 1
  one_more v words n = omega (arith, enter_few v (take n words), length-take n words)

  -- the first n words hold the names from place i on, in order
  abbrev pub Sorting : List ℕ → List ℕ → ℕ → ℕ → Type 0
  Sorting relations words n i = (take n words ≡ sorted facts query (drop i relations)) × (n + i ≤ length relations)

  pub sort_none : (relations words : List ℕ) → Sorting relations words 0 (length relations)
  unfolding sorted
  sort_none relations words = (ap (sorted facts query) (sym (drop_of_length-le relations {i = length relations} (omega arith))), omega arith)

  module _ (relations words : List ℕ) (n i : ℕ) (s : Sorting relations words n i) (some : 0 < i) where
    -- there is room for all
    pub sort_fits : length relations ≤ length words → (es : List ℕ) (r : Option ℕ) → r ≡ None → r ≡ count_in es words → length es ≤ n + 1 → ⊥
    sort_fits room es r e f few = omega (arith, no_room words es (sym e ∙ f), few, s.1)

    abbrev with_one : List ℕ
    with_one = enter facts query (get_or relations (i - 1) 0) (take n words)

    is_sorted : with_one ≡ sorted facts query (drop (i - 1) relations)
    unfolding sorted
    is_sorted = let next : suc (i - 1) ≡ i = omega arith in
        ap (enter facts query (get_or relations (i - 1) 0)) (s.0 ∙ ap (λ (j : ℕ). sorted facts query (drop j relations)) (sym next))
        ∙ ap (sorted facts query) (sym (drop-cons relations (i - 1) 0 (omega (arith, s.1))))

    pub sort_next : (new : List ℕ) → new ≡ in_front with_one words → (r : Option ℕ) (m : ℕ) → r ≡ Some m → r ≡ count_in with_one words
        → Sorting relations new m (i - 1) × (length new ≡ length words)
    sort_next new e r m f g = let h = held_front words new with_one m e (sym f ∙ g) in ((held_take h ∙ is_sorted, omega (arith, h.count, one_more (get_or relations (i - 1) 0) words n, s.1)), held_length h)

  pub sort_all : (relations words : List ℕ) (n i : ℕ) → Sorting relations words n i → i ≤ 0 → (take n words ≡ sorted facts query relations) × (n ≤ length relations)
  sort_all relations words n i s h = let e : i ≡ 0 = omega arith in (s.0 ∙ ap (λ (j : ℕ). sorted facts query (drop j relations)) e, omega (arith, s.1))
