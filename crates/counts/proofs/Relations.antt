-- One relation counted anew in a store of tables: where its table alone is new, the counts are those of the new tables.
use Prim.Native.Nat.{ℕ, zero, suc, ◌+◌, ◌-◌, ◌≤◌, ◌<◌}
use mathlib.Core.Path.{◌≡◌, refl, sym, ap, ◌∙◌}
use mathlib.Core.List.{List, [], ◌∷◌, ◌++◌}
use native.Mathlib.Nat.{le_of_suc-le-suc}
use native.Mathlib.Omega.{arith}
use lib.ListN.{length, get_or, set, take, replicate, length-append}
use lib.Seq.{set-append_left}
use Rattle.definition.specs.Facts.{Relation}
use Rattle.definition.specs.Limits.{document_01}
use Rattle.definition.specs.Tables.{table_words, tuple_count}
use Rattle.definition.specs.Accept.{Accepted, elements, relation_words}
use Rattle.definition.specs.Meaning.{Tables}
use Rattle.definition.specs.Claim.{table_image}
use Rattle.definition.proofs.RunLaws.{Shaped, none, one}
use Rattle.definition.proofs.RelationLaws.{no_relation, shaped_length, shaped_at, words_before}
use Rattle.definition.proofs.CountLaws.{all_ones, ones_count, Made, made_none, made_one, table_counts, counts_of}
use Rattle.tuples.proofs.Images.{image_end, image_part}
use Rattle.counts.specs.Counting.{recounted}
use Rattle.counts.proofs.Ones.{recount_one}

-- the count of a table by its ones
count_at : {u : ℕ} {qs : List Relation} {ts : Tables} → Made u qs ts → (k : ℕ) → k < length qs → all_ones (get_or ts k []) ≡ get_or (table_counts u qs ts) k 0
unfolding table_counts
count_at made_none k h = absurd (omega arith)
count_at {u} (made_one {q} f m) zero h = ones_count u q.arity f
count_at (made_one f m) (suc k) h = count_at m k (le_of_suc-le-suc h)

-- of tables of which one is new
set_counts : {u : ℕ} {qs : List Relation} {ts : Tables} → Shaped u qs ts → (k : ℕ) (t : List ℕ) → k < length qs
    → set (table_counts u qs ts) k (get_or (table_counts u qs (set ts k t)) k 0) ≡ table_counts u qs (set ts k t)
unfolding table_counts
set_counts none k t h = absurd (omega arith)
set_counts (one e s) zero t h = refl
set_counts {u} (one {q} {t = t₀} e s) (suc k) t h = ap (λ (l : List ℕ). tuple_count u q.arity t₀ ∷ l) (set_counts s k t (le_of_suc-le-suc h))

pub length_counts : {u : ℕ} {qs : List Relation} {ts : Tables} → Shaped u qs ts → length (table_counts u qs ts) ≡ length qs
unfolding table_counts
length_counts none = refl
length_counts (one e s) = ap suc (length_counts s)

module _ (w : Accepted) (ts : Tables) (k : ℕ) (t : List ℕ) where
  abbrev u : ℕ
  u = elements w

  abbrev qs : List Relation
  qs = w.relations

  abbrev new : Tables
  new = set ts k t

  pub recount_new : Shaped u qs ts → Shaped u qs new → Made u qs new → k < length qs → k < 16 → (n off : ℕ) → n ≡ (get_or qs k no_relation).arity → n ≤ 4
      → off ≡ relation_words u (take k qs) → (z : List ℕ)
      → recounted (table_image new ++ z) off u n k (counts_of document_01 w ts) ≡ counts_of document_01 w new
  recount_new s s' m h l n off e few o z =
      let b : length (table_image (take k new)) ≡ off = words_before s' k ∙ sym o in
      let j : k < length new = omega (arith, shaped_length s') in
      let g : length (get_or new k []) ≡ table_words u n = shaped_at s' k h ∙ ap (table_words u) (sym e) in
      let i : off + table_words u n ≤ length (table_image new) = image_end new k z j off (table_words u n) b g in
      recount_one (table_image new ++ z) off u n k (counts_of document_01 w ts) few (omega (arith, i, length-append (table_image new) z)) l
      ∙ ap (set (counts_of document_01 w ts) k) (ap all_ones (image_part new k z j off (table_words u n) b g) ∙ count_at m k h)
      ∙ set-append_left (table_counts u qs ts) (replicate (16 - length qs) 0) k (get_or (table_counts u qs new) k 0) (omega (arith, length_counts s))
      ∙ ap (λ (c : List ℕ). c ++ replicate (16 - length qs) 0) (set_counts s k t h)
