-- The facts' numbers as a set: those of a relation are the numbers of its table's tuples, shifted, so that as many are counted as the table has tuples.
use Prim.Native.Nat.{ℕ, ◌+◌, ◌*◌, ◌^◌, ◌<◌}
use mathlib.Core.Path.{◌≡◌, refl, sym, ap, subst, ◌∙◌}
use mathlib.Core.Bool.{Bool, true, false, cond}
use mathlib.Core.List.{List, [], ◌∷◌, map}
use mathlib.Core.Logic.{inl, ⊎_elim}
use native.Mathlib.Omega.{arith}
use lib.Dec.{T, eqb, eqb→eq, eqb_refl}
use lib.ListN.{length, get_or, replicate, length-map}
use Rattle.definition.specs.Text.{keep, below}
use Rattle.definition.specs.Tables.{Tuple, table, tuple_count}
use Rattle.tuples.specs.Places.{digits}
use Rattle.definition.proofs.InLaws.{In, in_keep, keep_in, in_map, map_in}
use Rattle.numbers.specs.Sets.{Ascending, none, rises, entered_all}
use Rattle.numbers.proofs.SetLaws.{not_in, first_below, rest_ascends, same_members}
use Rattle.numbers.proofs.KeptLaws.{all_ascends, in_all, all_in, kept_told, kept_ascends, in_kept}
use Rattle.counting.specs.Tallies.{relation_of, tallied}
use Rattle.counting.proofs.TallyLaws.{zeros, tallied_at, count_numbers}

-- the numbers of a set that pass a test
part_ascends : (f : ℕ → Bool) (ws : List ℕ) → Ascending ws → Ascending (keep f ws)
unfolding keep
part_ascends f [] a = none
part_ascends f (w ∷ ws) a = go (f w) (part_ascends f ws (rest_ascends a))
  where
    go : (b : Bool) → Ascending (keep f ws) → Ascending (cond b (w ∷ keep f ws) (keep f ws))
    go true ih = rises {w = w} (λ x i. first_below a x (keep_in f ws i).0) ih
    go false ih = ih

-- numbers shifted
abbrev shifted : ℕ → List ℕ → List ℕ
shifted c ws = map (λ i. c + i) ws

shift_ascends : (c : ℕ) (ws : List ℕ) → Ascending ws → Ascending (shifted c ws)
shift_ascends c [] a = none
shift_ascends c (w ∷ ws) a =
    rises {w = c + w} (λ x i. let k = map_in (λ j. c + j) ws i in let l : w < k.0 = first_below a k.0 k.1 in omega (arith, k.2, l)) (shift_ascends c ws (rest_ascends a))

-- ---- a relation's numbers

module _ (u n k : ℕ) (f : Tuple → Bool) (vs : List ℕ)
    (told : (x : ℕ) → In x vs → relation_of x ≡ k → (i : ℕ) × (x ≡ k * 16777216 + i) × (i < u ^ n) × (f (digits u n i) ≡ true))
    (given : (i : ℕ) → i < u ^ n → f (digits u n i) ≡ true → In (k * 16777216 + i) vs × (relation_of (k * 16777216 + i) ≡ k)) where
  abbrev mine : ℕ → Bool
  mine x = eqb (relation_of x) k

  abbrev passes : ℕ → Bool
  passes i = f (digits u n i)

  pub its_numbers : keep mine (entered_all vs []) ≡ shifted (k * 16777216) (keep passes (below (u ^ n)))
  its_numbers =
      same_members (keep mine (entered_all vs [])) (shifted (k * 16777216) (keep passes (below (u ^ n))))
      (part_ascends mine (entered_all vs []) (all_ascends vs [] none)) (shift_ascends (k * 16777216) (keep passes (below (u ^ n))) (kept_ascends passes (u ^ n) 0)) there_too back
    where
      there_too : (x : ℕ) → In x (keep mine (entered_all vs [])) → In x (shifted (k * 16777216) (keep passes (below (u ^ n))))
      there_too x h =
          let p = keep_in mine (entered_all vs []) h in
          let i : In x vs = ⊎_elim (λ j. j) (λ j. absurd (not_in j)) (all_in vs [] x p.0) in
          let t = told x i (eqb→eq (relation_of x) k p.1) in
          subst (λ (y : ℕ). In y (shifted (k * 16777216) (keep passes (below (u ^ n))))) (sym t.1)
          (in_map (λ i. k * 16777216 + i) (in_kept passes (u ^ n) 0 t.0 (omega arith) (omega (arith, t.2)) t.3))

      back : (x : ℕ) → In x (shifted (k * 16777216) (keep passes (below (u ^ n)))) → In x (keep mine (entered_all vs []))
      back x h =
          let s = map_in (λ i. k * 16777216 + i) (keep passes (below (u ^ n))) h in
          let t = kept_told passes (u ^ n) 0 s.0 s.1 in
          let g = given s.0 (omega (arith, t.1)) t.2 in
          subst (λ (y : ℕ). In y (keep mine (entered_all vs []))) (sym s.2)
          (in_keep mine (in_all vs [] (k * 16777216 + s.0) (inl g.0)) (subst (λ (j : ℕ). T (eqb j k)) (sym g.1) (eqb_refl k)))

  -- the count of relation k is the number of tuples of its table
  pub tallied_count : k < 16 → get_or (tallied (entered_all vs []) (replicate 16 0)) k 0 ≡ tuple_count u n (table u n f)
  tallied_count l =
      tallied_at (entered_all vs []) (replicate 16 0) k refl
      ∙ ap (λ (c : ℕ). c + length (keep mine (entered_all vs []))) (zeros 16 k)
      ∙ ap (λ (ws : List ℕ). 0 + length ws) its_numbers
      ∙ ap (λ (m : ℕ). 0 + m) (length-map (keep passes (below (u ^ n))) (λ i. k * 16777216 + i))
      ∙ plain (length (keep passes (below (u ^ n))))
      ∙ sym (count_numbers u n f)
    where
      plain : (m : ℕ) → 0 + m ≡ m
      plain m = omega arith
