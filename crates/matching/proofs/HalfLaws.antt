-- The elements that match, bit by bit.
use mathlib.Core.Path.{◌≡◌, refl, sym, ap, ◌∙◌, subst⁻¹}
use mathlib.Core.Bool.{Bool, true, false, ◌&&◌, not, cond}
use mathlib.Core.List.{List, []}
use Prim.Native.Nat.{ℕ, ◌+◌, ◌/◌, ◌%◌, ◌≤◌, ◌<◌, min}
use native.Mathlib.Omega.{arith}
use lib.Dec.{T, ltb, eqb, ltb→lt, lt→ltb}
use lib.Pow.{pow_pos}
use lib.ListN.{length, get_or, drop, length-take, length-map, get_or-map}
use Rattle.definition.specs.Text.{Text}
use Rattle.definition.specs.Tables.{word}
use Rattle.definition.specs.Pattern.{matches, well_formed}
use Rattle.bits.proofs.Laws.{bit_none, word_ext}
use Rattle.parts.specs.Packed.{text_of}
use Rattle.parts.specs.Entries.{texts_of}
use Rattle.patterns.proofs.ByteLaws.{eqb_true}
use Rattle.patterns.proofs.EndLaws.{apart}
use Rattle.matching.specs.Halves.{is_match, half_of}
use Rattle.matching.proofs.MatchLaws.{no_match}

-- a part has at most 63 bytes
pub part_short : (facts query : Text) (w : ℕ) (t : Text) → t ≡ text_of facts query w → length t < 64
unfolding text_of
part_short facts query w t q =
    let l : length t ≡ min (w / 8 % 64) (length (drop (w / 512) (cond (eqb (w / 4 % 2) 0) facts query))) = ap length q ∙ length-take (w / 8 % 64) (drop (w / 512) (cond (eqb (w / 4 % 2) 0) facts query)) in
    omega arith

module _ (s facts query : Text) (places : List ℕ) (a k : ℕ) where
  pub no_element : length places ≤ a + k → false ≡ is_match s (texts_of facts query places) a k
  unfolding is_match
  no_element h = go (ltb (a + k) (length (texts_of facts query places))) refl
    where
      go : (b : Bool) → ltb (a + k) (length (texts_of facts query places)) ≡ b → false ≡ b && matches s (get_or (texts_of facts query places) (a + k) [])
      go false q = refl
      go true q =
          let l : a + k < length (texts_of facts query places) = ltb→lt (a + k) (length (texts_of facts query places)) (subst⁻¹ T q tt) in
          let m = length-map places (text_of facts query) in
          absurd (omega (arith, l, m, h))

  pub an_element : (r : Bool) (t : Text) → a + k < length places → t ≡ text_of facts query (get_or places (a + k) 0) → r ≡ matches s t → r ≡ is_match s (texts_of facts query places) a k
  unfolding is_match
  an_element r t h q x = x ∙ ap (matches s) (q ∙ sym at) ∙ sym (go (ltb (a + k) (length (texts_of facts query places))) inside)
    where
      at : get_or (texts_of facts query places) (a + k) [] ≡ text_of facts query (get_or places (a + k) 0)
      at = ap (get_or (texts_of facts query places) (a + k)) no_text ∙ get_or-map (text_of facts query) places (a + k) 0
        where
          no_text : [] ≡ text_of facts query 0
          no_text = unfold text_of in refl

      inside : T (ltb (a + k) (length (texts_of facts query places)))
      inside = let m = length-map places (text_of facts query) in lt→ltb (a + k) (length (texts_of facts query places)) (omega (arith, m, h))

      go : (b : Bool) → T b → b && matches s (get_or (texts_of facts query places) (a + k) []) ≡ matches s (get_or (texts_of facts query places) (a + k) [])
      go true t = refl
      go false t = absurd t

pub unformed : (s u : Text) → eqb (length u) 0 ≡ not (well_formed s) → length u ≡ 0 → well_formed s ≡ false
unformed s u q z = go (well_formed s) (sym (eqb_true (length u) 0 z) ∙ q)
  where
    go : (b : Bool) → true ≡ not b → b ≡ false
    go false x = refl
    go true x = apart x

-- of a malformed pattern there is none
pub no_half : (s : Text) (us : List Text) (a : ℕ) → well_formed s ≡ false → 0 ≡ half_of s us a
unfolding half_of
no_half s us a q = word_ext 32 0 (is_match s us a) (pow_pos 32) (λ i h. bit_none i ∙ none i)
  where
    none : (k : ℕ) → false ≡ is_match s us a k
    none k = unfold is_match in sym (rw (sym (no_match (get_or us (a + k) []) s q)) (go (ltb (a + k) (length us))))
      where
        go : (b : Bool) → b && false ≡ false
        go true = refl
        go false = refl

pub half_end : (s : Text) (us : List Text) (a k r : ℕ) → k ≡ 32 → r ≡ word k 0 (is_match s us a) → r ≡ half_of s us a
unfolding half_of
half_end s us a k r q x = x ∙ ap (λ n. word n 0 (is_match s us a)) q
