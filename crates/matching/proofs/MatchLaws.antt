-- A set of ends that is not empty, and the definition's test.
use mathlib.Core.Path.{◌≡◌, refl, sym, ap, ◌∙◌, subst, subst⁻¹}
use mathlib.Core.Bool.{Bool, true, false, not}
use mathlib.Core.List.{[], ◌∷◌}
use mathlib.Core.Option.{Option, some, none}
use Prim.Native.Nat.{ℕ, suc, ◌+◌, ◌*◌, ◌^◌, ◌<◌}
use native.Mathlib.Omega.{arith}
use lib.Dec.{T, eqb}
use lib.Pow.{pow_pos}
use lib.ListN.{length}
use Rattle.definition.specs.Text.{Text, some_of, below}
use Rattle.definition.specs.Tables.{bit}
use Rattle.definition.specs.Pattern.{Pattern, Reading, read, wrong, branches, phrase, to_end, read_pattern, joined, spans, some_pair, found, matches, is_some, well_formed}
use Rattle.definition.proofs.PatternSpans.{some_out, some_in}
use Rattle.bits.proofs.Laws.{bit_none, word_lt, word_bit}
use Rattle.patterns.proofs.ByteLaws.{eqb_true, eqb_false}
use Rattle.patterns.proofs.EndLaws.{apart}
use Rattle.matching.specs.Images.{ends_of, all, Leads, itself}
use Rattle.matching.proofs.ImageLaws.{ends_out, ends_in, ends_lt, same_set}

module _ (e : Text) where
  pub all_lt : all e < 2 ^ suc (length e)
  unfolding all
  all_lt = word_lt (suc (length e)) 0 (λ j. true)

  all_bit : (i : ℕ) → i < suc (length e) → T (bit (all e) i)
  unfolding all
  all_bit i h = subst⁻¹ T (word_bit (suc (length e)) (λ j. true) i h) tt

  pair_in : (p : Pattern) (i j : ℕ) → i < suc (length e) → j < suc (length e) → T (joined e (spans e p) i j) → T (found p e)
  unfolding found some_pair
  pair_in p i j h l t =
      some_in (λ i. some_of (joined e (spans e p) i) (below (suc (length e)))) (suc (length e)) 0 i (omega arith) (omega arith)
      (some_in (joined e (spans e p) i) (suc (length e)) 0 j (omega arith) (omega arith) t)

  pair_out : (p : Pattern) → T (found p e) → (i : ℕ) × (j : ℕ) × (i < suc (length e)) × (j < suc (length e)) × T (joined e (spans e p) i j)
  unfolding found some_pair
  pair_out p t =
      let r = some_out (λ i. some_of (joined e (spans e p) i) (below (suc (length e)))) (suc (length e)) 0 t in
      let q = some_out (joined e (spans e p) r.0) (suc (length e)) 0 r.2 in
      let h : r.0 < 0 + suc (length e) = r.1 in
      let l : q.0 < 0 + suc (length e) = q.1 in
      (r.0, q.0, omega arith, omega arith, q.2)

  -- an element matches exactly where some part ends
  pub some_end : (p : Pattern) → T (found p e) → ends_of e p (all e) ≡ 0 → ⊥
  some_end p t z =
      let q = pair_out p t in
      let i = q.0 in
      let j = q.1 in
      subst T (bit_none j) (subst (λ w. T (bit w j)) z (ends_in e p (all e) j q.3 (record { from_here = i; low = q.2; held = all_bit i q.2; join = q.4 })))

  pub no_end : (p : Pattern) → (T (found p e) → ⊥) → ends_of e p (all e) ≡ 0
  no_end p n =
      same_set e (ends_of e p (all e)) 0 (ends_lt e p (all e)) (pow_pos (suc (length e)))
      (λ j h t. let r = ends_out e p (all e) j h t in absurd (n (pair_in p r.from_here j r.low h r.join)))
      (λ j h t. absurd (subst T (bit_none j) t))

  found_ends : (p : Pattern) → not (eqb (ends_of e p (all e)) 0) ≡ found p e
  found_ends p = go (found p e) refl
    where
      go : (b : Bool) → found p e ≡ b → not (eqb (ends_of e p (all e)) 0) ≡ b
      go true q = ap not (eqb_false (ends_of e p (all e)) 0 (some_end p (subst⁻¹ T q tt)))
      go false q = ap not (eqb_true (ends_of e p (all e)) 0 (no_end p (λ t. subst T q t)))

  pub no_match : (s : Text) → well_formed s ≡ false → false ≡ matches s e
  unfolding well_formed matches
  no_match s q = go (read_pattern s) refl q
    where
      go : (o : Option Pattern) → read_pattern s ≡ o → is_some o ≡ false → false ≡ matches s e
      go none x y = unfold matches in rw x
      go (some p) x y = apart y

  pub the_match : (s : Text) (n r : ℕ) → well_formed s ≡ true → n ≡ 4 * (length s + 1) → Leads (phrase n branches s) e itself (all e) r → not (eqb r 0) ≡ matches s e
  unfolding well_formed read_pattern
  the_match s n r q k l =
      let z : n ≡ 4 * suc (length s) = omega (arith, k) in
      go (phrase (4 * suc (length s)) branches s) refl (ap (λ m. phrase m branches s) z) q
    where
      go : (o : Reading) → phrase (4 * suc (length s)) branches s ≡ o → phrase n branches s ≡ phrase (4 * suc (length s)) branches s → is_some (to_end o) ≡ true → not (eqb r 0) ≡ matches s e
      go wrong x y w = apart (sym w)
      go (read p []) x y w = ap (λ m. not (eqb m 0)) (l.ends p [] (y ∙ x) all_lt) ∙ found_ends p ∙ sym (unfold matches read_pattern in rw x)
      go (read p (c ∷ cs)) x y w = apart (sym w)
