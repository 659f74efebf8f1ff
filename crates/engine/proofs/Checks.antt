-- The check's answer, as the definition has it.
use Prim.Native.Nat.{ℕ, suc}
use mathlib.Core.Path.{◌≡◌, refl, sym, ap, ◌∙◌}
use mathlib.Core.Bool.{true}
use mathlib.Core.List.{List, [], ◌∷◌}
use lib.ListN.{length, replicate, length-map}
use Rattle.definition.specs.Text.{Text}
use Rattle.definition.specs.Limits.{document_01}
use Rattle.definition.specs.Answer.{ok, refused, number, place}
use Rattle.definition.specs.Syntax.{end}
use Rattle.definition.specs.Accept.{Accepted, accept, elements}
use Rattle.definition.specs.Assignment.{loaded}
use Rattle.definition.specs.Claim.{table_image}
use Rattle.definition.specs.Calls.{counts_from, counts, records_from, records, no_record, check, CheckMeets}
use Rattle.definition.specs.declared.Refusal.{Refusal}
use Rattle.definition.specs.declared.Record.{Record}
use Rattle.std.specs.Prelude.{Ok, Err}
use Rattle.parts.specs.Packed.{text_of}
use Rattle.facts.specs.Words.{relations_of}
use Rattle.loading.specs.Given.{Known}
use Rattle.layout.specs.Sizes.{LaidOut}

-- texts of no relation and no element
abbrev pub nothing : Accepted
nothing = record { universe = []; relations = []; variables = λ t. true; facts = []; program = end }

no_records : records document_01 nothing ≡ replicate 16 no_record
unfolding records records_from
no_records = refl

pub none_counted : replicate 16 0 ≡ counts document_01 nothing (table_image (loaded nothing))
unfolding counts counts_from
none_counted = refl

module _ (facts query : Text) where
  pub check_refused : (q : Refusal) (rs : List Record) → rs ≡ records document_01 nothing → accept document_01 facts query ≡ refused (number q) (place q)
      → CheckMeets document_01 facts query (record { verdict = Err q; records = rs })
  unfolding check
  check_refused q rs r e = record { verdict = rw e refl; records = rw e (r ∙ no_records) }

  length_relations : (xs : List ℕ) → length (relations_of facts query xs) ≡ length xs
  length_relations [] = refl
  length_relations (x ∷ xs) = ap suc (length_relations xs)

  pub check_accepted : (w : Accepted) (relations firsts : List ℕ) (u scratch words : ℕ) (rs : List Record) → accept document_01 facts query ≡ ok w → relations_of facts query relations ≡ w.relations
      → elements w ≡ u → LaidOut w firsts scratch words → rs ≡ records document_01 w
      → CheckMeets document_01 facts query (record { verdict = Ok (record { universe = u; words = words; relations = length relations }); records = rs })
  unfolding check
  check_accepted w relations firsts u scratch words rs e f size l r =
      record {
        verdict = rw (e, size, l.needed, ← f, length_relations relations) refl;
        records = rw e r;
      }

pub known_size : {facts query : Text} {relations places : List ℕ} {w : Accepted} → Known facts query relations places w → elements w ≡ length places
known_size {facts} {query} {places = places} k = sym (ap length k.universe) ∙ length-map places (text_of facts query)
