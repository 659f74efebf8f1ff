-- The word of an element.
use Rattle.std.specs.Prelude.{if◌then◌else◌}
use Prim.Native.Nat.{ℕ, ◌+◌, ◌/◌, ◌%◌, ◌<◌, ◌≤◌}
use mathlib.Core.Path.{◌≡◌, sym, ap, subst, ◌∙◌}
use mathlib.Core.Bool.{Bool}
use mathlib.Core.List.{List}
use native.Mathlib.Omega.{arith}
use borrow.Author.Tests.{eq-eqb, ne_eqb}
use lib.ListN.{length, get_or, take, drop}
use lib.Seq.{get_or-take, length-take-le}
use Rattle.definition.specs.Text.{Text}
use Rattle.definition.specs.Limits.{document_01}
use Rattle.definition.specs.Answer.{Answer, refused}
use Rattle.definition.specs.Accept.{Accepted, accept, elements}
use Rattle.definition.specs.Calls.{no_part, part_text, answer_part, element}
use Rattle.parts.specs.Packed.{part_of}
use Rattle.universe.proofs.Filling.{filled_count, filled_part, no_element_part}
use Rattle.acceptance.specs.declared.Sizes.{Sizes}
use Rattle.acceptance.specs.Reading.{Sized}
use Rattle.element.specs.Addresses.{address, Begins}
use Rattle.element.proofs.Starts.{part_begins}

-- Parts of the facts and of the query.
module _ (facts query : Text) (w : ℕ) where
  module _ (e : w / 4 % 2 ≡ 0) where
    pub facts_begins : Begins facts query (part_of w) → w / 512 ≤ length facts
    facts_begins h = subst (λ (b : Bool). w / 512 ≤ length (if b then facts else query)) (eq-eqb (w / 4 % 2) 0 e) h

    pub facts_part : part_text facts query (part_of w) ≡ take (w / 8 % 64) (drop (w / 512) facts)
    facts_part = ap (λ (b : Bool). take (w / 8 % 64) (drop (w / 512) (if b then facts else query))) (eq-eqb (w / 4 % 2) 0 e)

    pub facts_address : (f q : ℕ × ℕ) → address f q (part_of w) ≡ (f.0, f.1 + w / 512)
    facts_address f q = ap (λ (b : Bool). let start = if b then f else q in (start.0, start.1 + w / 512)) (eq-eqb (w / 4 % 2) 0 e)

  module _ (e : w / 4 % 2 ≡ 0 → ⊥) where
    pub query_begins : Begins facts query (part_of w) → w / 512 ≤ length query
    query_begins h = subst (λ (b : Bool). w / 512 ≤ length (if b then facts else query)) (ne_eqb (w / 4 % 2) 0 e) h

    pub query_part : part_text facts query (part_of w) ≡ take (w / 8 % 64) (drop (w / 512) query)
    query_part = ap (λ (b : Bool). take (w / 8 % 64) (drop (w / 512) (if b then facts else query))) (ne_eqb (w / 4 % 2) 0 e)

    pub query_address : (f q : ℕ × ℕ) → address f q (part_of w) ≡ (q.0, q.1 + w / 512)
    query_address f q = ap (λ (b : Bool). let start = if b then f else q in (start.0, start.1 + w / 512)) (ne_eqb (w / 4 % 2) 0 e)

-- what the call's word has to be
pub record Right (facts query : Text) (n v : ℕ) : Type 0 where
  pub part : part_of v ≡ element document_01 facts query n
  pub begins : Begins facts query (part_of v)

module _ (facts query : Text) (n : ℕ) where
  nothing_right : no_part ≡ element document_01 facts query n → Right facts query n 4
  nothing_right e = record { part = e; begins = omega arith }

  pub refused_right : (r p : ℕ) → accept document_01 facts query ≡ refused r p → Right facts query n 4
  unfolding element
  refused_right r p e = nothing_right (ap (λ (a : Answer Accepted). answer_part a n) (sym e))

  module _ (tokens words ids known relations places : List ℕ) (s : Sizes) (w : Accepted) (z : Sized facts query tokens words ids known relations places s w) where
    count : elements w ≡ s.elements
    count =
        filled_count facts query (take s.tokens tokens) (take s.words words) (take s.elements places) w z.reading.filled
        ∙ length-take-le s.elements places z.places_inside

    pub few_elements : s.elements ≤ 64
    few_elements = omega (arith, z.reading.few_places, length-take-le s.elements places z.places_inside)

    pub past_right : s.elements ≤ n → Right facts query n 4
    unfolding element
    past_right h = nothing_right (sym (ap (λ (a : Answer Accepted). answer_part a n) z.reading.accepted ∙ no_element_part w n (omega (arith, count))))

    pub inside_right : n < s.elements → Right facts query n (get_or places n 0)
    unfolding element
    inside_right h =
        let r = z.reading in
        let l : n < elements w = omega (arith, count) in
        let ps = take s.elements places in
        let e : get_or ps n 0 ≡ get_or places n 0 = get_or-take s.elements places n 0 h in
        let p = filled_part facts query (take s.tokens tokens) (take s.words words) ps w r.filled r.ts r.parsed r.inside n l in
        let b = part_begins facts query (take s.tokens tokens) (take s.words words) ps w r.filled r.ts r.parsed r.inside n l in
        record {
          part = ap part_of (sym e) ∙ p ∙ sym (ap (λ (a : Answer Accepted). answer_part a n) r.accepted);
          begins = subst (λ (v : ℕ). Begins facts query (part_of v)) e b;
        }
