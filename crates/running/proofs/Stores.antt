-- The store at a point of the run: the tables, then zeros for closures and a new table.
use Prim.Native.Nat.{ℕ, zero, suc, ◌+◌, ◌-◌, ◌*◌, ◌<◌, ◌≤◌}
use mathlib.Core.Path.{◌≡◌, sym, ap, ◌∙◌}
use mathlib.Core.List.{List, [], ◌∷◌, ◌++◌}
use native.Mathlib.Nat.{le_of_suc-le-suc, not-suc-le-zero}
use native.Mathlib.Omega.{arith}
use lib.ListN.{length, get_or, take, drop, replicate, length-append, length-drop, length-replicate, get_or-replicate, get_or-append}
use lib.Seq.{get_or-append-add}
use Rattle.definition.specs.Facts.{Relation}
use Rattle.definition.specs.Tables.{table_words}
use Rattle.definition.specs.Accept.{Accepted, elements, relation_words, largest_words, scratch_words, words_needed}
use Rattle.definition.specs.Meaning.{Tables}
use Rattle.definition.specs.Claim.{table_image, store_image}
use Rattle.definition.proofs.RelationLaws.{no_relation}

-- a relation's words are among those of all, and no more than the largest's
pub words_inside : (u : ℕ) (rs : List Relation) (i : ℕ) → i < length rs → relation_words u (take i rs) + table_words u (get_or rs i no_relation).arity ≤ relation_words u rs
unfolding relation_words
words_inside u [] i h = absurd (not-suc-le-zero h)
words_inside u (r ∷ rs) zero h = omega arith
words_inside u (r ∷ rs) (suc i) h = omega (arith, words_inside u rs i (le_of_suc-le-suc h))

pub words_largest : (u : ℕ) (rs : List Relation) (i : ℕ) → i < length rs → table_words u (get_or rs i no_relation).arity ≤ largest_words u rs
unfolding largest_words
words_largest u [] i h = absurd (not-suc-le-zero h)
words_largest u (r ∷ rs) zero h = omega arith
words_largest u (r ∷ rs) (suc i) h = omega (arith, words_largest u rs i (le_of_suc-le-suc h))

module _ (w : Accepted) (ts : Tables) (size : length (table_image ts) ≡ relation_words (elements w) w.relations) (store₀ : List ℕ) where
  abbrev base : ℕ
  base = relation_words (elements w) w.relations

  -- behind the tables
  pub behind : (i : ℕ) → get_or (store_image w ts store₀) (base + i) 0 ≡ get_or (replicate (scratch_words w) 0 ++ drop (words_needed w) store₀) i 0
  unfolding store_image
  behind i =
      ap (λ (n : ℕ). get_or (table_image ts ++ (replicate (scratch_words w) 0 ++ drop (words_needed w) store₀)) (n + i) 0) (sym size)
      ∙ get_or-append-add (table_image ts) (replicate (scratch_words w) 0 ++ drop (words_needed w) store₀) i 0

  pub zero_behind : (i : ℕ) → base ≤ i → i < base + scratch_words w → get_or (store_image w ts store₀) i 0 ≡ 0
  zero_behind i h l =
      let q : i ≡ base + (i - base) = omega arith in
      let k : i - base < scratch_words w = omega arith in
      ap (λ (n : ℕ). get_or (store_image w ts store₀) n 0) q
      ∙ behind (i - base)
      ∙ get_or-append (replicate (scratch_words w) 0) (drop (words_needed w) store₀) 0 (i - base) (rw length-replicate k)
      ∙ get_or-replicate (scratch_words w) (i - base) 0 0 k

  pub same_length : words_needed w ≤ length store₀ → length (store_image w ts store₀) ≡ length store₀
  unfolding store_image words_needed
  same_length h = rw (length-append, length-append, length-replicate, length-drop, size) (omega arith)

  pub room : words_needed w ≤ length store₀ → base + 16 * elements w ≤ length (store_image w ts store₀)
  unfolding words_needed scratch_words
  room h = omega (arith, same_length h)
