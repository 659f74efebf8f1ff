-- The ones of words, one word after another; a relation's count anew.
use Prim.Native.Nat.{ℕ, ◌+◌, ◌-◌, ◌*◌, ◌^◌, ◌≤◌, ◌<◌}
use mathlib.Core.Path.{◌≡◌, refl, sym, ap, ◌∙◌}
use mathlib.Core.Bool.{Bool, true, false, ◌&&◌, cond}
use mathlib.Core.List.{List, [], ◌∷◌, map}
use native.Mathlib.Numerals.{add-one}
use native.Mathlib.Omega.{arith}
use lib.Count.{ones}
use lib.Dec.{leb, ltb}
use lib.ListN.{length, get_or, set, take, drop, drop_of_length-le, length-take}
use lib.Seq.{drop-cons}
use borrow.Author.Tests.{le-leb, lt-leb, lt-ltb, le-ltb}
use Rattle.std.specs.Prelude.{sum}
use Rattle.std.proofs.lemmas.List.Sums.{sum_by-cons}
use Rattle.definition.specs.Tables.{table_words}
use Rattle.definition.proofs.CountLaws.{all_ones}
use Rattle.parts.specs.Packed.{tag_of}
use Rattle.tuples.proofs.Turns.{words_le}
use Rattle.counts.specs.Counting.{recounted, counted}

pub sum_ones : (ws : List ℕ) → sum (map ones ws) ≡ all_ones ws
unfolding all_ones
sum_ones [] = refl
sum_ones (w ∷ ws) = sum_by-cons (λ n. n) (ones w) (map ones ws) ∙ ap (λ (k : ℕ). ones w + k) (sum_ones ws)

-- tables of up to 4 columns are short
pub few_words : (u n : ℕ) → u ≤ 255 → n ≤ 4 → table_words u n ≤ 16777216
few_words u n h l = let b : table_words u n ≤ 255 ^ 3 = words_le u 255 n h (omega arith) l in omega (arith, b)

module _ (store : List ℕ) (off u n k : ℕ) (cs : List ℕ) where
  abbrev new : List ℕ
  new = set cs k (all_ones (take (table_words u n) (drop off store)))

  by_tests : (a b c : Bool) → leb n 4 ≡ a → leb (off + table_words u n) (length store) ≡ b → ltb k 16 ≡ c → recounted store off u n k cs ≡ cond (a && b && c) new cs
  unfolding recounted
  by_tests a b c e f g = rw (e, f, g) refl

  pub recount_wide : 4 < n → cs ≡ recounted store off u n k cs
  recount_wide h = sym (by_tests false (leb (off + table_words u n) (length store)) (ltb k 16) (lt-leb n 4 h) refl refl)

  pub recount_past : length store < off + table_words u n → cs ≡ recounted store off u n k cs
  recount_past h = sym (by_tests (leb n 4) false (ltb k 16) refl (lt-leb (off + table_words u n) (length store) h) refl ∙ go (leb n 4))
    where
      go : (a : Bool) → cond (a && false && ltb k 16) new cs ≡ cs
      go true = refl
      go false = refl

  module _ (m : n ≤ 4) (h : off + table_words u n ≤ length store) where
    pub recount_one : k < 16 → recounted store off u n k cs ≡ set cs k (all_ones (take (table_words u n) (drop off store)))
    recount_one l = by_tests true true true (le-leb n 4 m) (le-leb (off + table_words u n) (length store) h) (lt-ltb k 16 l)

    pub recount_none : 16 ≤ k → cs ≡ recounted store off u n k cs
    recount_none l = sym (by_tests true true false (le-leb n 4 m) (le-leb (off + table_words u n) (length store) h) (le-ltb k 16 l))

-- the words of a table, as a part of the store
pub part_short : (store : List ℕ) (off len : ℕ) → len ≤ 16777216 → length (take (off + len - off) (drop off store)) ≤ 16777216
part_short store off len h = let e : off + len - off ≡ len = omega arith in rw (e, length-take) (omega arith)

pub part_counted : (store : List ℕ) (off u n k : ℕ) (cs : List ℕ) → n ≤ 4 → (len : ℕ) → len ≡ table_words u n → off + len ≤ length store → k < 16 → (r : ℕ) → r ≡ all_ones (take (off + len - off) (drop off store))
    → set cs k r ≡ recounted store off u n k cs
part_counted store off u n k cs m len e h l r q =
    let d : off + len - off ≡ table_words u n = omega arith in
    ap (set cs k) (q ∙ ap (λ (j : ℕ). all_ones (take j (drop off store))) d) ∙ sym (recount_one store off u n k cs m (omega arith) l)

-- the relations before i are counted
module _ (store : List ℕ) (u : ℕ) (rs cs₀ : List ℕ) where
  pub record Tallying (off i : ℕ) (cs : List ℕ) : Type 0 where
    pub is : counted store u i off (drop i rs) cs ≡ counted store u 0 0 rs cs₀
    pub small : off ≤ i * 16777216

  pub tallying_start : Tallying 0 0 cs₀
  tallying_start = record { is = refl; small = omega arith }

  module _ (off i : ℕ) (cs : List ℕ) (h : Tallying off i cs) where
    pub tallying_next : i < length rs → u ≤ 255 → (n : ℕ) → n ≡ tag_of (get_or rs i 0) → n ≤ 4 → (cs' : List ℕ) → cs' ≡ recounted store off u n i cs
        → Tallying (off + table_words u n) (i + 1) cs'
    unfolding counted
    tallying_next l v n e m cs' q =
        record {
          is =
              rw (q, e, add-one) (sym (ap (λ (xs : List ℕ). counted store u i off xs cs) (drop-cons rs i 0 l))) ∙ h.is;
          small = omega (arith, h.small, few_words u n v m);
        }

    pub tallying_end : length rs ≤ i → cs ≡ counted store u 0 0 rs cs₀
    unfolding counted
    tallying_end l = sym (ap (λ (xs : List ℕ). counted store u i off xs cs) (drop_of_length-le rs l)) ∙ h.is
