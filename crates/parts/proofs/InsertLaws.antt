-- A value put at its place among the first words: it is carried along from there, and left at each word's place for that word.
use Prim.Native.Nat.{ℕ, suc, ◌+◌, ◌-◌, ◌<◌, ◌≤◌}
use mathlib.Core.Path.{◌≡◌, sym, ap, ◌∙◌}
use mathlib.Core.List.{List, [], ◌∷◌, ◌++◌, append_assoc}
use native.Mathlib.Omega.{arith}
use native.Mathlib.Numerals.{add-one}
use lib.ListN.{length, get_or, take, drop, set}
use lib.Seq.{drop-cons, take_all, take_at, take-take, drop-set-lt}
use Rattle.std.proofs.lemmas.List.{drop-take, take_more_set}
use borrow.Rule.Slice.PartMut.{mid_of, put_mid, mid_len, Post-is}

module _ {X : Type 0} where
  -- what is carried stands, as it were, before the words that it has not come to
  pub carried_on : (all ws : List X) (j : ℕ) (c x y z : X) → j < length ws → take j ws ++ c ∷ drop j ws ≡ all → x ≡ c → y ≡ get_or ws j z → take (j + 1) (set ws j x) ++ y ∷ drop (j + 1) (set ws j x) ≡ all
  carried_on all ws j c x y z l h e f =
      let s : drop (j + 1) (set ws j x) ≡ drop (suc j) ws = drop-set-lt (j + 1) ws j x (omega arith) ∙ ap (λ (k : ℕ). drop k ws) (add-one j) in
      rw (s, take_more_set ws j x l, append_assoc (take j ws) (x ∷ []) (y ∷ drop (suc j) ws), f, sym (drop-cons ws j z l), e) h

  module _ (d : List X) (p n : ℕ) (v : X) (h : p ≤ n) (l : n < length d) where
    pub inserted : (ws : List X) (j : ℕ) (c : X) → length ws ≡ length (mid_of p (n + 1 - p) d) → length (mid_of p (n + 1 - p) d) ≤ j → take j ws ++ c ∷ drop j ws ≡ v ∷ mid_of p (n + 1 - p) d
        → put_mid p (n + 1 - p) d ws ≡ take p d ++ v ∷ drop p (take n d) ++ drop (n + 1) d
    inserted ws j c e b i =
        let m : length ws ≡ suc (n - p) = omega (arith, e, mid_len p (n + 1) d (omega (arith, l)), h) in
        let t : take (n - p) (mid_of p (n + 1 - p) d) ≡ drop p (take n d) = take-take (n - p) (n + 1 - p) (drop p d) (omega arith) ∙ sym (drop-take p (n - p) d) ∙ ap (λ (k : ℕ). drop p (take k d)) (omega (arith, h)) in
        let a : ws ++ c ∷ drop j ws ≡ v ∷ mid_of p (n + 1 - p) d = ap (λ (q : List X). q ++ c ∷ drop j ws) (sym (take_all j ws (omega (arith, e, b)))) ∙ i in
        let w : ws ≡ v ∷ drop p (take n d) = sym (take_at ws (c ∷ drop j ws) (suc (n - p)) m) ∙ ap (take (suc (n - p))) a ∙ ap (λ (q : List X). v ∷ q) t in
        rw (w, Post-is p (n + 1) d (omega (arith, h)), append_assoc (take p d) (v ∷ drop p (take n d)) (drop (n + 1) d))
