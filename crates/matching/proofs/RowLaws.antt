-- Loops over rows, and where rows lead.
use mathlib.Core.Path.{◌≡◌, refl, sym, ap, ◌∙◌, subst, subst⁻¹}
use mathlib.Core.Logic.{◌⊎◌, inl, inr}
use mathlib.Core.Bool.{Bool, true, false, ◌||◌, cond}
use mathlib.Core.List.{List}
use Prim.Native.Nat.{ℕ, suc, ◌+◌, ◌^◌, ◌≤◌, ◌<◌}
use native.Mathlib.Numerals.{add-one}
use native.Mathlib.Nat.{lt_trans}
use native.Mathlib.Decide.{dec_lt}
use native.Mathlib.Omega.{arith}
use lib.Bits.{bit_or, or_lt}
use lib.Dec.{T, eqb, eqb→eq, eqb_refl}
use lib.Pow.{pow_pos, pow-lt}
use lib.ListN.{length, get_or, set, length-set}
use lib.Seq.{get_or-set_same, get_or-set_other}
use Rattle.definition.specs.Text.{Text}
use Rattle.definition.specs.Tables.{bit, word}
use Rattle.definition.specs.Pattern.{Pattern, Reading, read, star}
use Rattle.definition.proofs.PatternSpans.{spans_sound}
use Rattle.bits.specs.Bits.{with_bit}
use Rattle.bits.proofs.Laws.{bit_of_or, bit_none, bit_with, with_lt, bits_ext, word_lt, word_ext, word_more}
use Rattle.matching.specs.Images.{ends_of}
use Rattle.matching.specs.Rows.{Each, Turn}
use Rattle.matching.proofs.ImageLaws.{Within, ends_out, ends_in, ends_lt, ends_or, ends_within, same_set, set_either, set_left, set_right}
use Rattle.matching.proofs.TurnLaws.{star_fixed, star_again}

-- P holds of the rows before i, and the others are as they were
pub record Upto (P : ℕ → ℕ → ℕ → Type 0) (i : ℕ) (old new : List ℕ) : Type 0 where
  pub long : length new ≡ length old
  pub done : (j : ℕ) → j < i → j < length old → P j (get_or old j 0) (get_or new j 0)
  pub rest : (j : ℕ) → i ≤ j → get_or new j 0 ≡ get_or old j 0

pub upto_none : (P : ℕ → ℕ → ℕ → Type 0) (old : List ℕ) → Upto P 0 old old
upto_none P old = record { long = refl; done = λ j h l. absurd (omega (arith, h)); rest = λ j h. refl }

pub upto_more : (P : ℕ → ℕ → ℕ → Type 0) (i : ℕ) (old new : List ℕ) (v : ℕ) → Upto P i old new → i < length old → P i (get_or old i 0) v → Upto P (i + 1) old (set new i v)
upto_more P i old new v u h x = record { long = length-set new i v ∙ u.long; done = done; rest = λ j l. get_or-set_other new i j v 0 (λ q. omega (arith, q, l)) ∙ u.rest j (omega arith) }
  where
    done : (j : ℕ) → j < i + 1 → j < length old → P j (get_or old j 0) (get_or (set new i v) j 0)
    done j l m = go (dec_lt j i)
      where
        go : Dec (j < i) → P j (get_or old j 0) (get_or (set new i v) j 0)
        go (yes d) = subst⁻¹ (P j (get_or old j 0)) (get_or-set_other new i j v 0 (λ q. omega (arith, q, d))) (u.done j d m)
        go (no d) =
            let q : i ≡ j = omega (arith, d, l) in
            subst (λ k. P k (get_or old k 0) (get_or (set new i v) k 0)) q (subst⁻¹ (P i (get_or old i 0)) (get_or-set_same new i v 0 (let z : i < length new = omega (arith, h, u.long) in z)) x)

pub upto_all : (P : ℕ → ℕ → ℕ → Type 0) (i : ℕ) (old new : List ℕ) → Upto P i old new → length old ≤ i → Each P old new
upto_all P i old new u h = record { long = u.long; each = λ j l. u.done j (omega arith) l }

-- one position more
pub or_single : (n w k : ℕ) → n ≤ 64 → w < 2 ^ n → k < n → bit_or w (with_bit 0 k) ≡ with_bit w k
or_single n w k b l h =
    bits_ext n (bit_or w (with_bit 0 k)) (with_bit w k) (or_lt n w (with_bit 0 k) l (with_lt n 0 k b (pow_pos n) h)) (with_lt n w k b l h)
    (λ i m. let z : i < 64 = omega arith in bit_of_or w (with_bit 0 k) i ∙ ap (λ x. bit w i || x) (bit_with 0 k i z ∙ ap (λ x. x || eqb k i) (bit_none i)) ∙ sym (bit_with w k i z))

-- the positions of a set before k
pub low : ℕ → ℕ → ℕ
low s k = word k 0 (bit s)

module _ (e : Text) (short : length e < 64) (p : Pattern) (s : ℕ) where
  pub low_none : 0 ≡ ends_of e p (low s 0)
  unfolding low word
  low_none = same_set e 0 (ends_of e p 0) (pow_pos (suc (length e))) (ends_lt e p 0) (λ j h t. absurd (subst T (bit_none j) t))
      (λ j h t. let r = ends_out e p 0 j h t in absurd (subst T (bit_none r.from_here) r.held))

  low_lt : (k : ℕ) → k < suc (length e) → word k 0 (bit s) < 2 ^ suc (length e)
  low_lt k h = let m : 2 ^ k < 2 ^ suc (length e) = pow-lt h in lt_trans (word_lt k 0 (bit s)) m

  low_suc : (k : ℕ) → k < suc (length e) → cond (bit s k) (bit_or (low s k) (with_bit 0 k)) (low s k) ≡ low s (k + 1)
  unfolding low
  low_suc k h =
      ap (λ w. cond (bit s k) w (word k 0 (bit s))) (or_single (suc (length e)) (word k 0 (bit s)) k (omega arith) (low_lt k h) h)
      ∙ word_more k (bit s) (omega arith) ∙ ap (λ n. word n 0 (bit s)) (sym (add-one k))

  pub low_more : (k r x : ℕ) → k < suc (length e) → bit s k ≡ true → r ≡ ends_of e p (low s k) → x ≡ ends_of e p (with_bit 0 k) → bit_or r x ≡ ends_of e p (low s (k + 1))
  low_more k r x h b q y =
      ap (λ w. bit_or w x) q ∙ ap (bit_or (ends_of e p (low s k))) y ∙ sym (ends_or e p (low s k) (with_bit 0 k))
      ∙ ap (ends_of e p) (sym (ap (λ c. cond c (bit_or (low s k) (with_bit 0 k)) (low s k)) b) ∙ low_suc k h)

  pub low_same : (k r : ℕ) → k < suc (length e) → bit s k ≡ false → r ≡ ends_of e p (low s k) → r ≡ ends_of e p (low s (k + 1))
  low_same k r h b q = q ∙ ap (ends_of e p) (sym (ap (λ c. cond c (bit_or (low s k) (with_bit 0 k)) (low s k)) b) ∙ low_suc k h)

  pub low_all : (k r : ℕ) → k ≡ suc (length e) → s < 2 ^ suc (length e) → r ≡ ends_of e p (low s k) → r ≡ ends_of e p s
  unfolding low
  low_all k r q b x = x ∙ ap (ends_of e p) (ap (λ n. word n 0 (bit s)) q ∙ sym (word_ext (suc (length e)) s (bit s) b (λ i h. refl)))

-- one position alone
single_only : (k i : ℕ) → i < 64 → T (bit (with_bit 0 k) i) → k ≡ i
single_only k i h t = eqb→eq k i (subst T (bit_with 0 k i h ∙ ap (λ x. x || eqb k i) (bit_none i)) t)

single_has : (k : ℕ) → k < 64 → T (bit (with_bit 0 k) k)
single_has k h = subst⁻¹ T (bit_with 0 k k h ∙ ap (λ x. x || eqb k k) (bit_none k)) (eqb_refl k)

-- any number of turns from s, where the positions before k were looked at
pub record Passed (e : Text) (p : Pattern) (s k r : ℕ) : Type 0 where
  pub fits : r < 2 ^ suc (length e)
  pub same : ends_of e (star p) r ≡ ends_of e (star p) s
  pub shut : (i : ℕ) → i < k → i < suc (length e) → T (bit r i) → Within e (ends_of e p (with_bit 0 i)) r

module _ (e : Text) (short : length e < 64) (p : Pattern) (s : ℕ) where
  pub pass_none : s < 2 ^ suc (length e) → Passed e p s 0 s
  pass_none b = record { fits = b; same = refl; shut = λ i h l t. absurd (omega (arith, h)) }

  pub pass_same : (k r : ℕ) → bit r k ≡ false → Passed e p s k r → Passed e p s (k + 1) r
  pass_same k r q u = record { fits = u.fits; same = u.same; shut = shut }
    where
      shut : (i : ℕ) → i < k + 1 → i < suc (length e) → T (bit r i) → Within e (ends_of e p (with_bit 0 i)) r
      shut i h l t = go (dec_lt i k)
        where
          go : Dec (i < k) → Within e (ends_of e p (with_bit 0 i)) r
          go (yes d) = u.shut i d l t
          go (no d) = absurd (subst T (ap (bit r) (let z : i ≡ k = omega (arith, d, h) in z) ∙ q) t)

  -- no turn leads back
  forward : (k i : ℕ) → k < suc (length e) → i < suc (length e) → T (bit (ends_of e p (with_bit 0 k)) i) → k ≤ i
  forward k i h l t =
      let r = ends_out e p (with_bit 0 k) i l t in
      let b : r.from_here < suc (length e) = r.low in
      let q : k ≡ r.from_here = single_only k r.from_here (omega arith) r.held in
      let o : r.from_here ≤ i = (spans_sound e p r.from_here i r.low l r.join).order in
      omega (arith, q, o)

  pub pass_more : (k r x : ℕ) → k < suc (length e) → bit r k ≡ true → x ≡ ends_of e p (with_bit 0 k) → Passed e p s k r → Passed e p s (k + 1) (bit_or r x)
  pass_more k r x h q y u = record { fits = or_lt (suc (length e)) r x u.fits (subst⁻¹ (λ w. w < 2 ^ suc (length e)) y (ends_lt e p (with_bit 0 k))); same = kept ∙ u.same; shut = shut }
    where
      held : Within e (with_bit 0 k) r
      held i l t = subst (λ j. T (bit r j)) (single_only k i (omega arith) t) (subst⁻¹ T q tt)

      wider : Within e (bit_or r x) (bit_or r (ends_of e p r))
      wider i l t = go (set_either e r x i t)
        where
          go : T (bit r i) ⊎ T (bit x i) → T (bit (bit_or r (ends_of e p r)) i)
          go (inl z) = set_left e r (ends_of e p r) i z
          go (inr z) = set_right e r (ends_of e p r) i (ends_within e p (with_bit 0 k) r held i l (subst (λ w. T (bit w i)) y z))

      kept : ends_of e (star p) (bit_or r x) ≡ ends_of e (star p) r
      kept =
          same_set e (ends_of e (star p) (bit_or r x)) (ends_of e (star p) r) (ends_lt e (star p) (bit_or r x)) (ends_lt e (star p) r)
          (λ i l t. subst (λ w. T (bit w i)) (star_again e p r) (ends_within e (star p) (bit_or r x) (bit_or r (ends_of e p r)) wider i l t))
          (ends_within e (star p) r (bit_or r x) (λ i l. set_left e r x i))

      shut : (i : ℕ) → i < k + 1 → i < suc (length e) → T (bit (bit_or r x) i) → Within e (ends_of e p (with_bit 0 i)) (bit_or r x)
      shut i m l t = go (dec_lt i k)
        where
          old : i < k → T (bit r i) ⊎ T (bit x i) → Within e (ends_of e p (with_bit 0 i)) (bit_or r x)
          old d (inl z) = λ j n v. set_left e r x j (u.shut i d l z j n v)
          old d (inr z) = let f : k ≤ i = forward k i h l (subst (λ w. T (bit w i)) y z) in absurd (omega (arith, f, d))

          go : Dec (i < k) → Within e (ends_of e p (with_bit 0 i)) (bit_or r x)
          go (yes d) = old d (set_either e r x i t)
          go (no d) = subst (λ n. Within e (ends_of e p (with_bit 0 n)) (bit_or r x)) (let z : k ≡ i = omega (arith, d, m) in z) (λ j n v. set_right e r x j (subst⁻¹ (λ w. T (bit w j)) y v))

  pub pass_all : (k r : ℕ) → k ≡ suc (length e) → Passed e p s k r → r ≡ ends_of e (star p) s
  pass_all k r q u = star_fixed e p r u.fits stays ∙ u.same
    where
      inside : Within e (bit_or r (ends_of e p r)) r
      inside j h t = go (set_either e r (ends_of e p r) j t)
        where
          go : T (bit r j) ⊎ T (bit (ends_of e p r) j) → T (bit r j)
          go (inl z) = z
          go (inr z) =
              let m = ends_out e p r j h z in
              let i = m.from_here in
              let l : i < suc (length e) = m.low in
              u.shut i (let y : i < k = omega (arith, l, q) in y) l m.held j h (ends_in e p (with_bit 0 i) j h (record { from_here = i; low = l; held = single_has i (omega arith); join = m.join }))

      stays : bit_or r (ends_of e p r) ≡ r
      stays =
          same_set e (bit_or r (ends_of e p r)) r (or_lt (suc (length e)) r (ends_of e p r) u.fits (ends_lt e p r)) u.fits inside
          (λ j h t. set_left e r (ends_of e p r) j t)

  -- as the loops go
  pub low_step : (k r x q : ℕ) (on : Bool) → k < suc (length e) → r ≡ ends_of e p (low s k) → x ≡ ends_of e p (with_bit 0 k) → on ≡ bit s k → q ≡ cond on (bit_or r x) r → q ≡ ends_of e p (low s (k + 1))
  low_step k r x q true h u y b z = z ∙ low_more e short p s k r x h (sym b) u y
  low_step k r x q false h u y b z = z ∙ low_same e short p s k r h (sym b) u

  pub pass_step : (k r x q : ℕ) (on : Bool) → k < suc (length e) → x ≡ ends_of e p (with_bit 0 k) → on ≡ bit r k → q ≡ cond on (bit_or r x) r → Passed e p s k r → Passed e p s (k + 1) q
  pass_step k r x q true h y b z u = subst⁻¹ (Passed e p s (k + 1)) z (pass_more k r x h (sym b) y u)
  pass_step k r x q false h y b z u = subst⁻¹ (Passed e p s (k + 1)) z (pass_same k r (sym b) u)

-- the row of one position, and where it leads
pub row_ends : {o : Reading} {e : Text} {table : List ℕ} (t : Turn o e table) (p : Pattern) (ys : Text) (k : ℕ) → o ≡ read p ys → k < suc (length e) → get_or table k 0 ≡ ends_of e p (with_bit 0 k)
row_ends {e = e} t p ys k q h = (t.row k h).ends p ys q (let l : length e < 64 = t.short in with_lt (suc (length e)) 0 k (omega arith) (pow_pos (suc (length e))) h)
