-- The records of relations, one after another.
use Prim.Native.Nat.{ℕ, suc, ◌+◌, ◌-◌, ◌*◌, ◌<◌, ◌≤◌}
use mathlib.Core.Path.{◌≡◌, refl, sym, ap, ap₂, ◌∙◌}
use mathlib.Core.List.{List, [], ◌∷◌, ◌++◌, map, append_assoc}
use native.Mathlib.Numerals.{add-one}
use native.Mathlib.Nat.{add_assoc}
use native.Mathlib.Omega.{arith}
use lib.ListN.{length, get_or, take, drop, set, replicate, length-map}
use lib.Seq.{take-suc, set_at, take_all, length-take-le}
use Rattle.definition.specs.Text.{Text}
use Rattle.definition.specs.Limits.{document_01}
use Rattle.definition.specs.Tables.{table_words}
use Rattle.definition.specs.Facts.{Relation}
use Rattle.definition.specs.Accept.{Accepted, elements}
use Rattle.definition.specs.Assignment.{loaded}
use Rattle.definition.specs.Claim.{table_image}
use Rattle.definition.specs.Calls.{counts, records_from, no_record, records}
use Rattle.definition.specs.declared.Record.{Record}
use Rattle.definition.proofs.RelationLaws.{length_records}
use Rattle.parts.specs.Packed.{tag_of}
use Rattle.facts.specs.Words.{relation_of}
use Rattle.layout.specs.Sizes.{all_words}
use Rattle.layout.specs.Records.{record_of}
use Rattle.layout.proofs.SizeLaws.{few_words, all_next}

module _ (facts query : Text) (u : ℕ) where
  -- the records of some relations, whose tables start at f and whose counts are cs
  abbrev of : ℕ → List ℕ → List ℕ → List Record
  of f cs rs = records_from u f (map (relation_of facts query) rs) cs

  head_drop : (cs : List ℕ) (n : ℕ) → get_or (drop 1 cs) n 0 ≡ get_or cs (suc n) 0
  head_drop [] n = refl
  head_drop (c ∷ cs) n = refl

  records_append : (f : ℕ) (cs rs : List ℕ) (r : ℕ) → of f cs (rs ++ (r ∷ [])) ≡ of f cs rs ++ (record_of (relation_of facts query r) (f + all_words u rs) (get_or cs (length rs) 0) ∷ [])
  unfolding records_from all_words
  records_append f cs [] r = let e : f ≡ f + 0 = omega arith in ap (λ (k : ℕ). record_of (relation_of facts query r) k (get_or cs 0 0) ∷ []) e
  records_append f cs (x ∷ rs) r =
      ap (λ (l : List Record). record_of (relation_of facts query x) f (get_or cs 0 0) ∷ l)
      (records_append (f + table_words u (tag_of x)) (drop 1 cs) rs r
      ∙ ap₂ (λ (k n : ℕ). of (f + table_words u (tag_of x)) (drop 1 cs) rs ++ (record_of (relation_of facts query r) k n ∷ []))
      (add_assoc f (table_words u (tag_of x)) (all_words u rs)) (head_drop cs (length rs)))

  -- the records of the first i relations are made
  pub record Recording (rs cs : List ℕ) (made : List Record) (next i : ℕ) : Type 0 where
    pub is : made ≡ of 0 cs (take i rs) ++ replicate (16 - i) no_record
    pub next_is : next ≡ all_words u (take i rs)
    pub small : next ≤ i * 262144

  pub recording_start : (rs cs : List ℕ) → Recording rs cs (replicate 16 no_record) 0 0
  unfolding records_from all_words
  recording_start rs cs = record { is = refl; next_is = refl; small = omega arith }

  module _ (rs cs : List ℕ) (made : List Record) (next i : ℕ) (h : Recording rs cs made next i) where
    pub recording_next : u ≤ 64 → i < length rs → i < 16
        → Recording rs cs (set made i (record_of (relation_of facts query (get_or rs i 0)) next (get_or cs i 0))) (next + table_words u (tag_of (get_or rs i 0))) (i + 1)
    recording_next v l m =
        let t : length (take i rs) ≡ i = length-take-le i rs (omega arith) in
        let n : length (of 0 cs (take i rs)) ≡ i = length_records u 0 (map (relation_of facts query) (take i rs)) cs ∙ length-map (take i rs) (relation_of facts query) ∙ t in
        let k : 16 - i ≡ suc (16 - (i + 1)) = omega arith in
        let q : 0 + all_words u (take i rs) ≡ next = omega (arith, h.next_is) in
        let g : of 0 cs (take (i + 1) rs) ≡ of 0 cs (take i rs) ++ (new ∷ [])
        = ap (λ (j : ℕ). of 0 cs (take j rs)) (add-one i) ∙ ap (of 0 cs) (take-suc rs i 0 l) ∙ records_append 0 cs (take i rs) (get_or rs i 0)
        ∙ ap₂ (λ (j m : ℕ). of 0 cs (take i rs) ++ (record_of (relation_of facts query (get_or rs i 0)) j (get_or cs m 0) ∷ [])) q t in
        record {
          is =
              ap (λ (l : List Record). set l i new) (h.is ∙ ap (λ (j : ℕ). of 0 cs (take i rs) ++ replicate j no_record) k)
              ∙ set_at (of 0 cs (take i rs)) no_record (replicate (16 - (i + 1)) no_record) new i n
              ∙ sym (ap (λ (l : List Record). l ++ replicate (16 - (i + 1)) no_record) g ∙ append_assoc (of 0 cs (take i rs)) (new ∷ []) (replicate (16 - (i + 1)) no_record));
          next_is = ap (λ (k : ℕ). k + table_words u (tag_of (get_or rs i 0))) h.next_is ∙ sym (all_next u rs i l);
          small = omega (arith, h.small, few_words u (get_or rs i 0) v);
        }
      where
        new : Record
        new = record_of (relation_of facts query (get_or rs i 0)) next (get_or cs i 0)

    pub recording_end : length rs ≤ i → i ≤ length rs → (w : Accepted) → map (relation_of facts query) rs ≡ w.relations → elements w ≡ u
        → cs ≡ counts document_01 w (table_image (loaded w)) → made ≡ records document_01 w
    unfolding records
    recording_end a b w r n e =
        let k : 16 - i ≡ 16 - length w.relations = ap (λ (j : ℕ). 16 - j) (omega (arith, ap length (sym r), length-map rs (relation_of facts query))) in
        h.is
        ∙ ap₂ (λ (l : List Record) (j : ℕ). l ++ replicate j no_record)
        (ap (of 0 cs) (take_all i rs a) ∙ ap₂ (λ (v : ℕ) (l : List Relation). records_from v 0 l cs) (sym n) r ∙ ap (records_from (elements w) 0 w.relations) e) k
