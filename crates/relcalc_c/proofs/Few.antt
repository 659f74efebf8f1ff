-- "At most 16 relations": the check answers as many records, and the run as many counts, as there may be relations.
use Prim.Native.Nat.{ℕ, suc, ◌+◌, ◌-◌, ◌≤◌}
use mathlib.Core.Path.{◌≡◌, refl, ap, ap₂, ◌∙◌}
use mathlib.Core.List.{List, [], ◌∷◌}
use native.Mathlib.Omega.{arith}
use lib.Dec.{ltb}
use lib.ListN.{length, drop, replicate, length-append, length-replicate}
use Rattle.definition.specs.Text.{Text}
use Rattle.definition.specs.Limits.{document_01}
use Rattle.definition.specs.Answer.{Answer, ok, refused, refuse_if, ◌>>=◌, ◌>>◌}
use Rattle.definition.specs.Facts.{Relation}
use Rattle.definition.specs.Tables.{table_words}
use Rattle.definition.specs.Accept.{Accepted, accept, accept_store, elements, words_needed}
use Rattle.definition.specs.Assignment.{loaded}
use Rattle.definition.specs.Claim.{table_image}
use Rattle.definition.specs.Calls.{counts_from, counts, records_from, records, no_record, answer_records, CheckMeets, counts_meet, CountsMeet}
use Rattle.definition.specs.declared.Checked.{Checked}
use Rattle.definition.proofs.AcceptLaws.{bind_ok, then_ok}
use Rattle.definition.proofs.RelationLaws.{length_records}
use Rattle.definition.proofs.RelationCount.{few_relations}

sixteen : (w : Accepted) → length w.relations ≤ 16 → length (records document_01 w) ≡ 16
unfolding records
sixteen w h =
    length-append (records_from (elements w) 0 w.relations (counts document_01 w (table_image (loaded w)))) (replicate (16 - length w.relations) no_record)
    ∙ ap₂ ◌+◌ (length_records (elements w) 0 w.relations (counts document_01 w (table_image (loaded w)))) (length-replicate (16 - length w.relations) no_record)
    ∙ omega arith

pub records_16 : (facts query : Text) (c : Checked) → CheckMeets document_01 facts query c → length c.records ≡ 16
records_16 facts query c h = ap length h.records ∙ go (accept document_01 facts query) refl
  where
    go : (a : Answer Accepted) → accept document_01 facts query ≡ a → length (answer_records document_01 a) ≡ 16
    go (ok w) e = sixteen w (few_relations document_01 facts query w e)
    go (refused r p) e = length-replicate 16 no_record

length_from : (u : ℕ) (rs : List Relation) (ws : List ℕ) → length (counts_from u rs ws) ≡ length rs
unfolding counts_from
length_from u [] ws = refl
length_from u (r ∷ rs) ws = ap suc (length_from u rs (drop (table_words u r.arity) ws))

length_counts : (w : Accepted) (store : List ℕ) → length w.relations ≤ 16 → length (counts document_01 w store) ≡ 16
unfolding counts
length_counts w store h =
    length-append (counts_from (elements w) w.relations store) (replicate (16 - length w.relations) 0)
    ∙ ap₂ ◌+◌ (length_from (elements w) w.relations store) (length-replicate (16 - length w.relations) 0)
    ∙ omega arith

-- texts that are accepted with a store are accepted
with_store : (facts query : Text) (n : ℕ) (w : Accepted) → accept_store document_01 facts query n ≡ ok w → accept document_01 facts query ≡ ok w
unfolding accept_store
with_store facts query n w e =
    let (v, p, q) = bind_ok (accept document_01 facts query) _ w e in
    p ∙ then_ok (refuse_if (ltb n (words_needed v)) 14 (words_needed v)) (ok v) w q

pub counts_16 : (facts query : Text) (store cs store' : List ℕ) → CountsMeet document_01 facts query store cs store' → length cs ≡ 16
counts_16 facts query store cs store' h = go (accept_store document_01 facts query (length store)) refl h.meets
  where
    go : (a : Answer Accepted) → accept_store document_01 facts query (length store) ≡ a → counts_meet document_01 a cs store' → length cs ≡ 16
    go (ok w) e m = ap length m ∙ length_counts w store' (few_relations document_01 facts query w (with_store facts query (length store) w e))
    go (refused r p) e m = ap length m ∙ length-replicate {A = ℕ} 16 0
