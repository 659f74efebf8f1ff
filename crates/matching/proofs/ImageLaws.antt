-- The sets of ends of a pattern, by the patterns in it.
use mathlib.Core.Path.{◌≡◌, refl, sym, ap, ◌∙◌, subst, subst⁻¹}
use mathlib.Core.Logic.{◌⊎◌, inl, inr}
use mathlib.Core.Bool.{Bool, true, false, ◌&&◌, ◌||◌, not, cond}
use mathlib.Core.List.{List, [], ◌∷◌}
use Prim.Native.Nat.{ℕ, zero, suc, ◌+◌, ◌*◌, ◌/◌, ◌%◌, ◌^◌, ◌≤◌, ◌<◌}
use lib.Bits.{bit_or, bit_and, or_lt, and_le_r}
use lib.Pow.{pow_pos, pow-add}
use native.Mathlib.Omega.{arith}
use native.Mathlib.Numerals.{add-one}
use lib.Dec.{T, eqb, eqb→eq, eqb_refl}
use lib.ListN.{length, get_or}
use Rattle.definition.specs.Text.{Text, some_of, below}
use Rattle.definition.specs.Tables.{bit, closure}
use Rattle.definition.specs.Pattern.{Pattern, empty, start, end, one, sequence, choice, star, up_to, Range, Lists, in_set, pairs, joined, joined_by_both, joined_by_either, joined_or_equal, spans}
use Rattle.definition.proofs.BoolLaws.{or_cases, or_left, or_right, and_left, and_right, and_both}
use Rattle.definition.proofs.TableLaws.{holds_table}
use Rattle.definition.proofs.Chains.{Chain, link, more}
use Rattle.definition.proofs.ClosureLaws.{closure_chains}
use Rattle.definition.proofs.PatternSpans.{some_out, some_in}
use Rattle.bits.specs.Bits.{with_bit}
use Rattle.bits.proofs.Laws.{bit_of_or, bit_of_and, bit_suc, bit_zero, bit_none, bit_with, with_lt, bits_ext, word_lt, word_bit}
use Rattle.matching.specs.Images.{image, ends_of, grown}
use Rattle.matching.specs.Bytes.{fits, fitting, moved, spot}
use Rattle.matching.proofs.ByteLaws.{held_lists}

eq→eqb : (m n : ℕ) → m ≡ n → T (eqb m n)
eq→eqb m n e = subst (λ k. T (eqb m k)) e (eqb_refl m)

same_test : (a b : Bool) → (T a → T b) → (T b → T a) → a ≡ b
same_test true true f g = refl
same_test true false f g = absurd (f tt)
same_test false true f g = absurd (g tt)
same_test false false f g = refl

pow_two : (n : ℕ) → 2 ^ suc n ≡ 2 ^ n * 2
pow_two n = sym (ap (λ k. 2 ^ k) (add-one n)) ∙ pow-add 2 n 1

module _ (e : Text) where
  in_pairs : (f : ℕ → ℕ → Bool) (i j : ℕ) → i < suc (length e) → j < suc (length e) → joined e (pairs e f) i j ≡ f i j
  unfolding pairs
  in_pairs f i j h l = holds_table (suc (length e)) (i ∷ j ∷ []) (λ t. f (get_or t 0 0) (get_or t 1 0)) (h, (l, tt))

  -- a position of a set, joined with another
  pub record Source (ws : List ℕ) (s j : ℕ) : Type 0 where
    pub from_here : ℕ
    pub low : from_here < suc (length e)
    pub held : T (bit s from_here)
    pub join : T (joined e ws from_here j)

  image_bit : (ws : List ℕ) (s j : ℕ) → j < suc (length e) → bit (image e ws s) j ≡ some_of (λ i. bit s i && joined e ws i j) (below (suc (length e)))
  unfolding image
  image_bit ws s j h = word_bit (suc (length e)) (λ j. some_of (λ i. bit s i && joined e ws i j) (below (suc (length e)))) j h

  pub image_out : (ws : List ℕ) (s j : ℕ) → j < suc (length e) → T (bit (image e ws s) j) → Source ws s j
  image_out ws s j h t =
      let r = some_out (λ i. bit s i && joined e ws i j) (suc (length e)) 0 (subst T (image_bit ws s j h) t) in
      let l : r.0 < 0 + suc (length e) = r.1 in
      record { from_here = r.0; low = omega arith; held = and_left (bit s r.0) (joined e ws r.0 j) r.2; join = and_right (bit s r.0) (joined e ws r.0 j) r.2 }

  pub image_in : (ws : List ℕ) (s j : ℕ) → j < suc (length e) → Source ws s j → T (bit (image e ws s) j)
  image_in ws s j h r =
      let i = r.from_here in
      let l : i < suc (length e) = r.low in
      subst⁻¹ T (image_bit ws s j h) (some_in (λ i. bit s i && joined e ws i j) (suc (length e)) 0 i (omega arith) (omega arith) (and_both (bit s i) (joined e ws i j) r.held r.join))

  pub image_lt : (ws : List ℕ) (s : ℕ) → image e ws s < 2 ^ suc (length e)
  unfolding image
  image_lt ws s = word_lt (suc (length e)) 0 (λ j. some_of (λ i. bit s i && joined e ws i j) (below (suc (length e))))

  -- two sets of positions with the same members
  pub same_set : (a b : ℕ) → a < 2 ^ suc (length e) → b < 2 ^ suc (length e) → ((j : ℕ) → j < suc (length e) → T (bit a j) → T (bit b j)) → ((j : ℕ) → j < suc (length e) → T (bit b j) → T (bit a j)) → a ≡ b
  same_set a b h l f g = bits_ext (suc (length e)) a b h l (λ j k. same_test (bit a j) (bit b j) (f j k) (g j k))

  -- what joins two positions, pattern by pattern
  module _ (i j : ℕ) (h : i < suc (length e)) (l : j < suc (length e)) where
    joined_empty : joined e (spans e empty) i j ≡ eqb i j
    unfolding spans
    joined_empty = in_pairs eqb i j h l

    joined_start : joined e (spans e start) i j ≡ eqb i 0 && eqb j 0
    unfolding spans
    joined_start = in_pairs (λ i j. eqb i 0 && eqb j 0) i j h l

    joined_end : joined e (spans e end) i j ≡ eqb i (length e) && eqb j (length e)
    unfolding spans
    joined_end = in_pairs (λ i j. eqb i (length e) && eqb j (length e)) i j h l

    joined_sequence : (p q : Pattern) → joined e (spans e (sequence p q)) i j ≡ some_of (λ k. joined e (spans e p) i k && joined e (spans e q) k j) (below (suc (length e)))
    unfolding spans joined_by_both
    joined_sequence p q = in_pairs (λ i j. some_of (λ k. joined e (spans e p) i k && joined e (spans e q) k j) (below (suc (length e)))) i j h l

    joined_choice : (p q : Pattern) → joined e (spans e (choice p q)) i j ≡ joined e (spans e p) i j || joined e (spans e q) i j
    unfolding spans joined_by_either
    joined_choice p q = in_pairs (λ i j. joined e (spans e p) i j || joined e (spans e q) i j) i j h l

    joined_star : (p : Pattern) → joined e (spans e (star p)) i j ≡ eqb i j || joined e (closure (suc (length e)) (spans e p)) i j
    unfolding spans joined_or_equal
    joined_star p = in_pairs (λ i j. eqb i j || joined e (closure (suc (length e)) (spans e p)) i j) i j h l

  -- the members of a set of ends
  abbrev From : Pattern → ℕ → ℕ → Type 0
  From p s j = Source (spans e p) s j

  pub ends_out : (p : Pattern) (s j : ℕ) → j < suc (length e) → T (bit (ends_of e p s) j) → From p s j
  unfolding ends_of
  ends_out p s j h t = image_out (spans e p) s j h t

  pub ends_in : (p : Pattern) (s j : ℕ) → j < suc (length e) → From p s j → T (bit (ends_of e p s) j)
  unfolding ends_of
  ends_in p s j h r = image_in (spans e p) s j h r

  pub ends_lt : (p : Pattern) (s : ℕ) → ends_of e p s < 2 ^ suc (length e)
  unfolding ends_of
  ends_lt p s = image_lt (spans e p) s

  -- one after the other
  pub ends_sequence : (p q : Pattern) (s : ℕ) → ends_of e (sequence p q) s ≡ ends_of e q (ends_of e p s)
  ends_sequence p q s = same_set (ends_of e (sequence p q) s) (ends_of e q (ends_of e p s)) (ends_lt (sequence p q) s) (ends_lt q (ends_of e p s)) out back
    where
      out : (j : ℕ) → j < suc (length e) → T (bit (ends_of e (sequence p q) s) j) → T (bit (ends_of e q (ends_of e p s)) j)
      out j h t =
          let r = ends_out (sequence p q) s j h t in
          let i = r.from_here in
          let m = some_out (λ k. joined e (spans e p) i k && joined e (spans e q) k j) (suc (length e)) 0 (subst T (joined_sequence i j r.low h p q) r.join) in
          let k = m.0 in
          let b : k < 0 + suc (length e) = m.1 in
          let l : k < suc (length e) = omega arith in
          ends_in q (ends_of e p s) j h (record {
            from_here = k;
            low = l;
            held = ends_in p s k l (record { from_here = i; low = r.low; held = r.held; join = and_left (joined e (spans e p) i k) (joined e (spans e q) k j) m.2 });
            join = and_right (joined e (spans e p) i k) (joined e (spans e q) k j) m.2;
          })

      back : (j : ℕ) → j < suc (length e) → T (bit (ends_of e q (ends_of e p s)) j) → T (bit (ends_of e (sequence p q) s) j)
      back j h t =
          let r = ends_out q (ends_of e p s) j h t in
          let k = r.from_here in
          let m : From p s k = ends_out p s k r.low r.held in
          let i = m.from_here in
          let b : k < suc (length e) = r.low in
          ends_in (sequence p q) s j h (record {
            from_here = i;
            low = m.low;
            held = m.held;
            join = subst⁻¹ T (joined_sequence i j m.low h p q) (some_in (λ k. joined e (spans e p) i k && joined e (spans e q) k j) (suc (length e)) 0 k (omega arith) (omega arith)
                (and_both (joined e (spans e p) i k) (joined e (spans e q) k j) m.join r.join));
          })

  -- a set and another
  pub set_either : (a b j : ℕ) → T (bit (bit_or a b) j) → T (bit a j) ⊎ T (bit b j)
  set_either a b j t = or_cases (bit a j) (bit b j) (subst T (bit_of_or a b j) t)

  pub set_left : (a b j : ℕ) → T (bit a j) → T (bit (bit_or a b) j)
  set_left a b j t = subst⁻¹ T (bit_of_or a b j) (or_left (bit a j) (bit b j) t)

  pub set_right : (a b j : ℕ) → T (bit b j) → T (bit (bit_or a b) j)
  set_right a b j t = subst⁻¹ T (bit_of_or a b j) (or_right (bit a j) (bit b j) t)

  -- one or the other
  pub ends_choice : (p q : Pattern) (s : ℕ) → ends_of e (choice p q) s ≡ bit_or (ends_of e p s) (ends_of e q s)
  ends_choice p q s =
      same_set (ends_of e (choice p q) s) (bit_or (ends_of e p s) (ends_of e q s)) (ends_lt (choice p q) s) (or_lt (suc (length e)) (ends_of e p s) (ends_of e q s) (ends_lt p s) (ends_lt q s)) out back
    where
      out : (j : ℕ) → j < suc (length e) → T (bit (ends_of e (choice p q) s) j) → T (bit (bit_or (ends_of e p s) (ends_of e q s)) j)
      out j h t = go (or_cases (joined e (spans e p) i j) (joined e (spans e q) i j) (subst T (joined_choice i j r.low h p q) r.join))
        where
          r : From (choice p q) s j
          r = ends_out (choice p q) s j h t

          i : ℕ
          i = r.from_here

          go : T (joined e (spans e p) i j) ⊎ T (joined e (spans e q) i j) → T (bit (bit_or (ends_of e p s) (ends_of e q s)) j)
          go (inl x) = set_left (ends_of e p s) (ends_of e q s) j (ends_in p s j h (record { from_here = r.from_here; low = r.low; held = r.held; join = x }))
          go (inr x) = set_right (ends_of e p s) (ends_of e q s) j (ends_in q s j h (record { from_here = r.from_here; low = r.low; held = r.held; join = x }))

      back : (j : ℕ) → j < suc (length e) → T (bit (bit_or (ends_of e p s) (ends_of e q s)) j) → T (bit (ends_of e (choice p q) s) j)
      back j h t = go (set_either (ends_of e p s) (ends_of e q s) j t)
        where
          give : (r : Pattern) → From r s j → ((i : ℕ) → T (joined e (spans e r) i j) → T (joined e (spans e p) i j || joined e (spans e q) i j)) → T (bit (ends_of e (choice p q) s) j)
          give r m f = ends_in (choice p q) s j h (record { from_here = m.from_here; low = m.low; held = m.held; join = subst⁻¹ T (joined_choice m.from_here j m.low h p q) (f m.from_here m.join) })

          go : T (bit (ends_of e p s) j) ⊎ T (bit (ends_of e q s) j) → T (bit (ends_of e (choice p q) s) j)
          go (inl x) = give p (ends_out p s j h x) (λ i y. or_left (joined e (spans e p) i j) (joined e (spans e q) i j) y)
          go (inr x) = give q (ends_out q s j h x) (λ i y. or_right (joined e (spans e p) i j) (joined e (spans e q) i j) y)

  -- the empty string
  pub ends_empty : (s : ℕ) → s < 2 ^ suc (length e) → ends_of e empty s ≡ s
  ends_empty s b = same_set (ends_of e empty s) s (ends_lt empty s) b out back
    where
      out : (j : ℕ) → j < suc (length e) → T (bit (ends_of e empty s) j) → T (bit s j)
      out j h t =
          let r = ends_out empty s j h t in
          subst (λ k. T (bit s k)) (eqb→eq r.from_here j (subst T (joined_empty r.from_here j r.low h) r.join)) r.held

      back : (j : ℕ) → j < suc (length e) → T (bit s j) → T (bit (ends_of e empty s) j)
      back j h t = ends_in empty s j h (record { from_here = j; low = h; held = t; join = subst⁻¹ T (joined_empty j j h h) (eqb_refl j) })

  -- a set lies in another
  abbrev pub Within : ℕ → ℕ → Type 0
  Within a b = (j : ℕ) → j < suc (length e) → T (bit a j) → T (bit b j)

  -- ends of a larger set
  pub ends_within : (p : Pattern) (a b : ℕ) → Within a b → Within (ends_of e p a) (ends_of e p b)
  ends_within p a b w j h t =
      let r = ends_out p a j h t in
      ends_in p b j h (record { from_here = r.from_here; low = r.low; held = w r.from_here r.low r.held; join = r.join })

  pub ends_or : (p : Pattern) (a b : ℕ) → ends_of e p (bit_or a b) ≡ bit_or (ends_of e p a) (ends_of e p b)
  ends_or p a b = same_set (ends_of e p (bit_or a b)) (bit_or (ends_of e p a) (ends_of e p b)) (ends_lt p (bit_or a b)) (or_lt (suc (length e)) (ends_of e p a) (ends_of e p b) (ends_lt p a) (ends_lt p b)) out back
    where
      out : Within (ends_of e p (bit_or a b)) (bit_or (ends_of e p a) (ends_of e p b))
      out j h t = go (set_either a b r.from_here r.held)
        where
          r : From p (bit_or a b) j
          r = ends_out p (bit_or a b) j h t

          go : T (bit a r.from_here) ⊎ T (bit b r.from_here) → T (bit (bit_or (ends_of e p a) (ends_of e p b)) j)
          go (inl x) = set_left (ends_of e p a) (ends_of e p b) j (ends_in p a j h (record { from_here = r.from_here; low = r.low; held = x; join = r.join }))
          go (inr x) = set_right (ends_of e p a) (ends_of e p b) j (ends_in p b j h (record { from_here = r.from_here; low = r.low; held = x; join = r.join }))

      back : Within (bit_or (ends_of e p a) (ends_of e p b)) (ends_of e p (bit_or a b))
      back j h t = go (set_either (ends_of e p a) (ends_of e p b) j t)
        where
          go : T (bit (ends_of e p a) j) ⊎ T (bit (ends_of e p b) j) → T (bit (ends_of e p (bit_or a b)) j)
          go (inl x) = ends_within p a (bit_or a b) (λ k l. set_left a b k) j h x
          go (inr x) = ends_within p b (bit_or a b) (λ k l. set_right a b k) j h x

  -- any number: by a chain of parts
  pub record Chained (p : Pattern) (s j : ℕ) : Type 0 where
    pub from_here : ℕ
    pub low : from_here < suc (length e)
    pub held : T (bit s from_here)
    pub chain : (from_here ≡ j) ⊎ Chain (joined e (spans e p)) (suc (length e)) from_here j

  star_out : (p : Pattern) (s j : ℕ) → j < suc (length e) → T (bit (ends_of e (star p) s) j) → Chained p s j
  star_out p s j h t = record { from_here = i; low = r.low; held = r.held; chain = go (or_cases (eqb i j) (joined e (closure (suc (length e)) (spans e p)) i j) (subst T (joined_star i j r.low h p) r.join)) }
    where
      r : From (star p) s j
      r = ends_out (star p) s j h t

      i : ℕ
      i = r.from_here

      go : T (eqb i j) ⊎ T (joined e (closure (suc (length e)) (spans e p)) i j) → (i ≡ j) ⊎ Chain (joined e (spans e p)) (suc (length e)) i j
      go (inl x) = inl (eqb→eq i j x)
      go (inr x) = inr ((closure_chains (suc (length e)) (spans e p) i j r.low h).0 x)

  star_in : (p : Pattern) (s j : ℕ) → j < suc (length e) → Chained p s j → T (bit (ends_of e (star p) s) j)
  star_in p s j h r = ends_in (star p) s j h (record { from_here = r.from_here; low = r.low; held = r.held; join = subst⁻¹ T (joined_star r.from_here j r.low h p) (go r.chain) })
    where
      go : (r.from_here ≡ j) ⊎ Chain (joined e (spans e p)) (suc (length e)) r.from_here j → T (eqb r.from_here j || joined e (closure (suc (length e)) (spans e p)) r.from_here j)
      go (inl x) = or_left (eqb r.from_here j) (joined e (closure (suc (length e)) (spans e p)) r.from_here j) (eq→eqb r.from_here j x)
      go (inr x) = or_right (eqb r.from_here j) (joined e (closure (suc (length e)) (spans e p)) r.from_here j) ((closure_chains (suc (length e)) (spans e p) r.from_here j r.low h).1 x)

  -- one turn more reaches nothing else
  pub star_turn : (p : Pattern) (s : ℕ) → Within (ends_of e (star p) (bit_or s (ends_of e p s))) (ends_of e (star p) s)
  star_turn p s j h t = star_in p s j h (go (set_either s (ends_of e p s) r.from_here r.held))
    where
      r : Chained p (bit_or s (ends_of e p s)) j
      r = star_out p (bit_or s (ends_of e p s)) j h t

      on : {i k : ℕ} → T (joined e (spans e p) i k) → k < suc (length e) → (k ≡ j) ⊎ Chain (joined e (spans e p)) (suc (length e)) k j → Chain (joined e (spans e p)) (suc (length e)) i j
      on {i} x l (inl q) = link (subst (λ k. T (joined e (spans e p) i k)) q x)
      on x l (inr c) = more x l c

      go : T (bit s r.from_here) ⊎ T (bit (ends_of e p s) r.from_here) → Chained p s j
      go (inl x) = record { from_here = r.from_here; low = r.low; held = x; chain = r.chain }
      go (inr x) =
          let m = ends_out p s r.from_here r.low x in
          record { from_here = m.from_here; low = m.low; held = m.held; chain = inr (on m.join r.low r.chain) }

  pub grown_within : (p : Pattern) (k s : ℕ) → Within (grown e p k s) (ends_of e (star p) s)
  unfolding grown
  grown_within p zero s j h t = star_in p s j h (record { from_here = j; low = h; held = t; chain = inl refl })
  grown_within p (suc k) s j h t = star_turn p s j h (grown_within p k (bit_or s (ends_of e p s)) j h t)

  pub grown_keeps : (p : Pattern) (k s : ℕ) → Within s (grown e p k s)
  unfolding grown
  grown_keeps p zero s j h t = t
  grown_keeps p (suc k) s j h t = grown_keeps p k (bit_or s (ends_of e p s)) j h (set_left s (ends_of e p s) j t)

  -- a set that a turn does not change holds what chains reach
  chain_stays : (p : Pattern) (s : ℕ) → bit_or s (ends_of e p s) ≡ s → {i j : ℕ} → i < suc (length e) → j < suc (length e) → T (bit s i) → Chain (joined e (spans e p)) (suc (length e)) i j → T (bit s j)
  chain_stays p s q {i} {j} h l t (link x) = subst (λ a. T (bit a j)) q (set_right s (ends_of e p s) j (ends_in p s j l (record { from_here = i; low = h; held = t; join = x })))
  chain_stays p s q {i} {j} h l t (more {b = k} x m c) =
      chain_stays p s q m l (subst (λ a. T (bit a k)) q (set_right s (ends_of e p s) k (ends_in p s k m (record { from_here = i; low = h; held = t; join = x })))) c

  -- "stop as soon as the set no longer changes": then it is the set of ends
  pub ends_star : (p : Pattern) (k s : ℕ) → grown e p k s < 2 ^ suc (length e) → bit_or (grown e p k s) (ends_of e p (grown e p k s)) ≡ grown e p k s → grown e p k s ≡ ends_of e (star p) s
  ends_star p k s b q = same_set (grown e p k s) (ends_of e (star p) s) b (ends_lt (star p) s) (grown_within p k s) back
    where
      back : Within (ends_of e (star p) s) (grown e p k s)
      back j h t = go r.chain
        where
          r : Chained p s j
          r = star_out p s j h t

          start_held : T (bit (grown e p k s) r.from_here)
          start_held = grown_keeps p k s r.from_here r.low r.held

          go : (r.from_here ≡ j) ⊎ Chain (joined e (spans e p)) (suc (length e)) r.from_here j → T (bit (grown e p k s) j)
          go (inl x) = subst (λ i. T (bit (grown e p k s) i)) x start_held
          go (inr c) = chain_stays p (grown e p k s) q r.low h start_held c

  -- and more turns leave it
  pub grown_fixed : (p : Pattern) (k s : ℕ) → bit_or s (ends_of e p s) ≡ s → grown e p k s ≡ s
  unfolding grown
  grown_fixed p zero s q = refl
  grown_fixed p (suc k) s q = ap (grown e p k) q ∙ grown_fixed p k s q

  -- at most k turns from i to j
  pub data Steps (p : Pattern) : ℕ → ℕ → ℕ → Type 0 where
    stay : {k i : ℕ} → Steps p k i i
    turn : {k i m j : ℕ} → T (joined e (spans e p) i m) → m < suc (length e) → Steps p k m j → Steps p (suc k) i j

  widen : {p : Pattern} {k i j : ℕ} → Steps p k i j → Steps p (suc k) i j
  widen stay = stay
  widen (turn x h c) = turn x h (widen c)

  pub record Stepped (p : Pattern) (k s j : ℕ) : Type 0 where
    pub from_here : ℕ
    pub low : from_here < suc (length e)
    pub held : T (bit s from_here)
    pub steps : Steps p k from_here j

  grown_out : (p : Pattern) (k s j : ℕ) → j < suc (length e) → T (bit (grown e p k s) j) → Stepped p k s j
  unfolding grown
  grown_out p zero s j h t = record { from_here = j; low = h; held = t; steps = stay }
  grown_out p (suc k) s j h t = go (grown_out p k (bit_or s (ends_of e p s)) j h t)
    where
      go : Stepped p k (bit_or s (ends_of e p s)) j → Stepped p (suc k) s j
      go r = pick (set_either s (ends_of e p s) r.from_here r.held)
        where
          pick : T (bit s r.from_here) ⊎ T (bit (ends_of e p s) r.from_here) → Stepped p (suc k) s j
          pick (inl x) = record { from_here = r.from_here; low = r.low; held = x; steps = widen r.steps }
          pick (inr x) =
              let m = ends_out p s r.from_here r.low x in
              record { from_here = m.from_here; low = m.low; held = m.held; steps = turn m.join r.low r.steps }

  grown_in : (p : Pattern) (k s : ℕ) {i j : ℕ} → i < suc (length e) → j < suc (length e) → T (bit s i) → Steps p k i j → T (bit (grown e p k s) j)
  unfolding grown
  grown_in p k s {j = j} h l t stay = grown_keeps p k s j l t
  grown_in p k s {i} h l t (turn {k = n} {m = m} x b c) =
      grown_in p n (bit_or s (ends_of e p s)) b l (set_right s (ends_of e p s) m (ends_in p s m b (record { from_here = i; low = h; held = t; join = x }))) c

  joined_steps : (p : Pattern) (k i j : ℕ) → i < suc (length e) → j < suc (length e) → T (joined e (spans e (up_to k p)) i j) → Steps p k i j
  unfolding up_to
  joined_steps p zero i j h l t = subst (Steps p zero i) (eqb→eq i j (subst T (joined_empty i j h l) t)) stay
  joined_steps p (suc k) i j h l t = go (or_cases (joined e (spans e empty) i j) (joined e (spans e (sequence p (up_to k p))) i j) (subst T (joined_choice i j h l empty (sequence p (up_to k p))) t)) (joined_steps p k)
    where
      go : T (joined e (spans e empty) i j) ⊎ T (joined e (spans e (sequence p (up_to k p))) i j)
          → ((i j : ℕ) → i < suc (length e) → j < suc (length e) → T (joined e (spans e (up_to k p)) i j) → Steps p k i j) → Steps p (suc k) i j
      go (inl x) ih = subst (Steps p (suc k) i) (eqb→eq i j (subst T (joined_empty i j h l) x)) stay
      go (inr x) ih =
          let r = some_out (λ m. joined e (spans e p) i m && joined e (spans e (up_to k p)) m j) (suc (length e)) 0 (subst T (joined_sequence i j h l p (up_to k p)) x) in
          let m = r.0 in
          let b : m < 0 + suc (length e) = r.1 in
          let c : m < suc (length e) = omega arith in
          turn (and_left (joined e (spans e p) i m) (joined e (spans e (up_to k p)) m j) r.2) c (ih m j c l (and_right (joined e (spans e p) i m) (joined e (spans e (up_to k p)) m j) r.2))

  steps_joined : (p : Pattern) (k i j : ℕ) → i < suc (length e) → j < suc (length e) → Steps p k i j → T (joined e (spans e (up_to k p)) i j)
  unfolding up_to
  steps_joined p zero i j h l stay = subst⁻¹ T (joined_empty i j h l) (eqb_refl i)
  steps_joined p (suc k) i j h l stay =
      subst⁻¹ T (joined_choice i j h l empty (sequence p (up_to k p))) (or_left (joined e (spans e empty) i j) (joined e (spans e (sequence p (up_to k p))) i j) (subst⁻¹ T (joined_empty i j h l) (eqb_refl i)))
  steps_joined p (suc k) i j h l (turn {m = m} x b c) =
      subst⁻¹ T (joined_choice i j h l empty (sequence p (up_to k p))) (or_right (joined e (spans e empty) i j) (joined e (spans e (sequence p (up_to k p))) i j)
      (subst⁻¹ T (joined_sequence i j h l p (up_to k p)) (some_in (λ m. joined e (spans e p) i m && joined e (spans e (up_to k p)) m j) (suc (length e)) 0 m (omega arith) (omega arith)
      (and_both (joined e (spans e p) i m) (joined e (spans e (up_to k p)) m j) x (steps_joined p k m j b l c)))))

  -- up to k copies: k turns
  pub ends_up_to : (p : Pattern) (k s : ℕ) → grown e p k s < 2 ^ suc (length e) → ends_of e (up_to k p) s ≡ grown e p k s
  ends_up_to p k s b = same_set (ends_of e (up_to k p) s) (grown e p k s) (ends_lt (up_to k p) s) b out back
    where
      out : Within (ends_of e (up_to k p) s) (grown e p k s)
      out j h t = let r = ends_out (up_to k p) s j h t in grown_in p k s r.low h r.held (joined_steps p k r.from_here j r.low h r.join)

      back : Within (grown e p k s) (ends_of e (up_to k p) s)
      back j h t =
          let r = grown_out p k s j h t in
          ends_in (up_to k p) s j h (record { from_here = r.from_here; low = r.low; held = r.held; join = steps_joined p k r.from_here j r.low h r.steps })

  pub grown_lt : (p : Pattern) (k s : ℕ) → s < 2 ^ suc (length e) → grown e p k s < 2 ^ suc (length e)
  unfolding grown
  grown_lt p zero s b = b
  grown_lt p (suc k) s b = grown_lt p k (bit_or s (ends_of e p s)) (or_lt (suc (length e)) s (ends_of e p s) b (ends_lt p s))

  -- a pattern that describes the empty string at one position alone
  at_spot : (p : Pattern) (k s : ℕ) → k < suc (length e) → length e < 64 → ((i j : ℕ) → i < suc (length e) → j < suc (length e) → joined e (spans e p) i j ≡ eqb i k && eqb j k) → ends_of e p s ≡ spot s k
  unfolding spot
  at_spot p k s b w f = go (bit s k) refl
    where
      here : (j : ℕ) → j < suc (length e) → T (bit (ends_of e p s) j) → (j ≡ k) × T (bit s k)
      here j h t =
          let r = ends_out p s j h t in
          let i = r.from_here in
          let q : T (eqb i k && eqb j k) = subst T (f i j r.low h) r.join in
          (eqb→eq j k (and_right (eqb i k) (eqb j k) q), subst (λ m. T (bit s m)) (eqb→eq i k (and_left (eqb i k) (eqb j k) q)) r.held)

      go : (c : Bool) → bit s k ≡ c → ends_of e p s ≡ cond c (with_bit 0 k) 0
      go true q = same_set (ends_of e p s) (with_bit 0 k) (ends_lt p s) (with_lt (suc (length e)) 0 k w (pow_pos (suc (length e))) b) out back
        where
          out : Within (ends_of e p s) (with_bit 0 k)
          out j h t = subst⁻¹ T (bit_with 0 k j (omega arith)) (or_right (bit 0 j) (eqb k j) (eq→eqb k j (sym (here j h t).0)))

          back : Within (with_bit 0 k) (ends_of e p s)
          back j h t =
              let x : T (eqb k j) = subst T (bit_with 0 k j (omega arith) ∙ ap (λ (y : Bool). y || eqb k j) (bit_none j)) t in
              let at : k ≡ j = eqb→eq k j x in
              ends_in p s j h (record { from_here = k; low = b; held = subst⁻¹ T q tt; join = subst⁻¹ T (f k j b h) (and_both (eqb k k) (eqb j k) (eqb_refl k) (eq→eqb j k (sym at))) })
      go false q = same_set (ends_of e p s) 0 (ends_lt p s) (pow_pos (suc (length e))) (λ j h t. absurd (subst T q (here j h t).1)) (λ j h t. absurd (subst T (bit_none j) t))

  pub ends_start : (s : ℕ) → length e < 64 → ends_of e start s ≡ spot s 0
  ends_start s w = at_spot start 0 s (omega arith) w (λ i j h l. joined_start i j h l)

  pub ends_end : (s : ℕ) → length e < 64 → ends_of e end s ≡ spot s (length e)
  ends_end s w = at_spot end (length e) s (omega arith) w (λ i j h l. joined_end i j h l)

  -- one byte
  joined_one : (c : Bool) (rs : List Range) (i j : ℕ) → i < suc (length e) → j < suc (length e) → joined e (spans e (one c rs)) i j ≡ eqb (suc i) j && in_set c rs (get_or e i 0)
  unfolding spans
  joined_one c rs i j h l = in_pairs (λ i j. eqb (suc i) j && in_set c rs (get_or e i 0)) i j h l

  set_held : (c : Bool) {t : Text} {rs : List Range} (x : ℕ) → Lists t rs → in_set c rs x ≡ fits t c x
  unfolding in_set fits
  set_held false x d = sym (held_lists x d)
  set_held true x d = ap not (sym (held_lists x d))

  -- a byte that fits leads from a position of s to the next
  module _ (t : Text) (c : Bool) where
    moved_first : (s : ℕ) → bit (moved e s t c) 0 ≡ false
    unfolding moved
    moved_first s = bit_zero (bit_and s (fitting e t c) * 2) ∙ ap (λ n. eqb n 1) (let z : bit_and s (fitting e t c) * 2 % 2 ≡ 0 = omega arith in z)

    moved_next : (s i : ℕ) → i < length e → bit (moved e s t c) (suc i) ≡ bit s i && fits t c (get_or e i 0)
    unfolding moved
    moved_next s i h =
        bit_suc (bit_and s (fitting e t c) * 2) i ∙ ap (λ n. bit n i) (let z : bit_and s (fitting e t c) * 2 / 2 ≡ bit_and s (fitting e t c) = omega arith in z)
        ∙ bit_of_and s (fitting e t c) i ∙ ap (λ b. bit s i && b) (unfold fitting in word_bit (length e) (λ i. fits t c (get_or e i 0)) i h)

    moved_lt : (s : ℕ) → moved e s t c < 2 ^ suc (length e)
    unfolding moved fitting
    moved_lt s =
        let l : bit_and s (fitting e t c) ≤ fitting e t c = and_le_r s (fitting e t c) in
        let m : fitting e t c < 2 ^ length e = word_lt (length e) 0 (λ i. fits t c (get_or e i 0)) in
        subst (λ n. bit_and s (fitting e t c) * 2 < n) (sym (pow_two (length e))) (omega (arith, l, m))

  pub ends_one : (c : Bool) (t : Text) (rs : List Range) (s : ℕ) → Lists t rs → ends_of e (one c rs) s ≡ moved e s t c
  ends_one c t rs s d = same_set (ends_of e (one c rs) s) (moved e s t c) (ends_lt (one c rs) s) (moved_lt t c s) out back
    where
      out : Within (ends_of e (one c rs) s) (moved e s t c)
      out j h x =
          let r = ends_out (one c rs) s j h x in
          let i = r.from_here in
          let y : T (eqb (suc i) j && in_set c rs (get_or e i 0)) = subst T (joined_one c rs i j r.low h) r.join in
          let q : suc i ≡ j = eqb→eq (suc i) j (and_left (eqb (suc i) j) (in_set c rs (get_or e i 0)) y) in
          let l : i < length e = omega (arith, q, h) in
          subst (λ k. T (bit (moved e s t c) k)) q
          (subst⁻¹ T (moved_next t c s i l) (and_both (bit s i) (fits t c (get_or e i 0)) r.held (subst T (set_held c (get_or e i 0) d) (and_right (eqb (suc i) j) (in_set c rs (get_or e i 0)) y))))

      back : Within (moved e s t c) (ends_of e (one c rs) s)
      back zero h x = absurd (subst T (moved_first t c s) x)
      back (suc i) h x =
          let l : i < length e = omega (arith, h) in
          let y = subst T (moved_next t c s i l) x in
          ends_in (one c rs) s (suc i) h (record {
            from_here = i;
            low = omega arith;
            held = and_left (bit s i) (fits t c (get_or e i 0)) y;
            join = subst⁻¹ T (joined_one c rs i (suc i) (omega arith) h) (and_both (eqb (suc i) (suc i)) (in_set c rs (get_or e i 0)) (eqb_refl (suc i)) (subst⁻¹ T (set_held c (get_or e i 0) d) (and_right (bit s i) (fits t c (get_or e i 0)) y)));
          })
