-- All relations counted in a store of tables: the counts are those of the tables.
use Prim.Native.Nat.{ℕ, suc, ◌+◌, ◌-◌, ◌≤◌, ◌<◌}
use mathlib.Core.Path.{◌≡◌, refl, sym, ap, ap₂, ◌∙◌}
use mathlib.Core.List.{List, [], ◌∷◌, ◌++◌, map, append_assoc}
use native.Mathlib.Omega.{arith}
use lib.ListN.{length, set, take, drop, replicate, length-append}
use lib.Seq.{set_at, take_at, drop_at}
use Rattle.definition.specs.Text.{gather}
use Rattle.definition.specs.Facts.{Relation}
use Rattle.definition.specs.Limits.{document_01}
use Rattle.definition.specs.Tables.{table_words}
use Rattle.definition.specs.Accept.{Accepted, elements, scratch_words, words_needed}
use Rattle.definition.specs.Meaning.{Tables}
use Rattle.definition.specs.Assignment.{loaded}
use Rattle.definition.specs.Run.{start, point}
use Rattle.definition.specs.Claim.{table_image, store_image}
use Rattle.definition.proofs.RunLaws.{Shaped, none, one, point_shaped}
use Rattle.definition.proofs.CountLaws.{all_ones, counts_of, counts_of_ones}
use Rattle.parts.specs.Packed.{tag_of}
use Rattle.counts.specs.Counting.{recounted, counted}
use Rattle.counts.proofs.Ones.{recount_one}

-- the words of relations have their arities
pub data Tagged : List Relation → List ℕ → Type 0 where
  no_tags : Tagged [] []
  tagged : {q : Relation} {qs : List Relation} {r : ℕ} {rs : List ℕ} → tag_of r ≡ q.arity → Tagged qs rs → Tagged (q ∷ qs) (r ∷ rs)

module _ (u : ℕ) (z : List ℕ) where
  -- behind the words pre, which have the tables of the relations counted before
  counted_behind : {qs : List Relation} {rs : List ℕ} {ts : Tables} → Tagged qs rs → Shaped u qs ts → (pre xs : List ℕ) (m : ℕ) → length xs + length qs + m ≡ 16
      → counted (pre ++ (table_image ts ++ z)) u (length xs) (length pre) rs (xs ++ replicate (length qs + m) 0) ≡ xs ++ (map all_ones ts ++ replicate m 0)
  unfolding counted table_image gather
  counted_behind no_tags none pre xs m h = let e : 0 + m ≡ m = omega arith in ap (λ (k : ℕ). xs ++ replicate k 0) e
  counted_behind (tagged {q} {qs} {r} {rs} e g) (one {t} {ts} l s) pre xs m h =
      ap (λ (n : ℕ). counted S u (suc (length xs)) (length pre + table_words u n) rs (recounted S (length pre) u n (length xs) (xs ++ replicate (suc (length qs) + m) 0))) e
      ∙ ap (counted S u (suc (length xs)) (length pre + table_words u q.arity) rs) anew
      ∙ ap₂ (λ (i j : ℕ). counted S u i j rs ((xs ++ (all_ones t ∷ [])) ++ replicate (length qs + m) 0)) one_more words_more
      ∙ ap (λ (x : List ℕ). counted x u (length (xs ++ (all_ones t ∷ []))) (length (pre ++ t)) rs ((xs ++ (all_ones t ∷ [])) ++ replicate (length qs + m) 0)) moved
      ∙ counted_behind g s (pre ++ t) (xs ++ (all_ones t ∷ [])) m (omega (arith, length-append xs (all_ones t ∷ [])))
      ∙ append_assoc xs (all_ones t ∷ []) (map all_ones ts ++ replicate m 0)
    where
      S : List ℕ
      S = pre ++ ((t ++ table_image ts) ++ z)

      moved : S ≡ (pre ++ t) ++ (table_image ts ++ z)
      moved = ap (λ (x : List ℕ). pre ++ x) (append_assoc t (table_image ts) z) ∙ sym (append_assoc pre t (table_image ts ++ z))

      one_more : suc (length xs) ≡ length (xs ++ (all_ones t ∷ []))
      one_more = omega (arith, length-append xs (all_ones t ∷ []))

      words_more : length pre + table_words u q.arity ≡ length (pre ++ t)
      words_more = omega (arith, length-append pre t, l)

      part : take (table_words u q.arity) (drop (length pre) S) ≡ t
      part =
          ap (take (table_words u q.arity)) (drop_at pre ((t ++ table_image ts) ++ z) (length pre) refl ∙ append_assoc t (table_image ts) z)
          ∙ take_at t (table_image ts ++ z) (table_words u q.arity) l

      few : q.arity ≤ 4
      few = let k : tag_of r < 4 = omega arith in omega (arith, e)

      inside : length pre + table_words u q.arity ≤ length S
      inside = omega (arith, l, ap length moved, length-append (pre ++ t) (table_image ts ++ z), length-append pre t)

      anew : recounted S (length pre) u q.arity (length xs) (xs ++ replicate (suc (length qs) + m) 0) ≡ (xs ++ (all_ones t ∷ [])) ++ replicate (length qs + m) 0
      anew =
          recount_one S (length pre) u q.arity (length xs) (xs ++ replicate (suc (length qs) + m) 0) few inside (omega arith)
          ∙ ap₂ (λ (x : List ℕ) (k : ℕ). set (xs ++ replicate k 0) (length xs) (all_ones x)) part zeros
          ∙ set_at xs 0 (replicate (length qs + m) 0) (all_ones t) (length xs) refl
          ∙ sym (append_assoc xs (all_ones t ∷ []) (replicate (length qs + m) 0))
        where
          zeros : suc (length qs) + m ≡ suc (length qs + m)
          zeros = omega arith

tagged_length : {qs : List Relation} {rs : List ℕ} → Tagged qs rs → length rs ≡ length qs
tagged_length no_tags = refl
tagged_length (tagged e g) = ap suc (tagged_length g)

-- after loading
pub counted_loaded : (w : Accepted) (rs store : List ℕ) → Tagged w.relations rs → length rs ≤ 16
    → counted (store_image w (loaded w) store) (elements w) 0 0 rs (replicate 16 0) ≡ counts_of document_01 w (point w 0).tables
unfolding store_image point start
counted_loaded w rs store g h =
    let k : 16 ≡ length w.relations + (16 - length w.relations) = omega (arith, tagged_length g) in
    ap (λ (n : ℕ). counted (store_image w (loaded w) store) (elements w) 0 0 rs (replicate n 0)) k
    ∙ counted_behind (elements w) (replicate (scratch_words w) 0 ++ drop (words_needed w) store) g (point_shaped w 0) [] [] (16 - length w.relations) (omega arith)
    ∙ sym (counts_of_ones document_01 w 0)
