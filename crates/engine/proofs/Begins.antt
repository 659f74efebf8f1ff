-- What a run of accepted texts begins with.
use Prim.Native.Nat.{ℕ, ◌<◌, ◌≤◌}
use mathlib.Core.Path.{◌≡◌, refl, sym, ap, ap₂, subst, ◌∙◌}
use mathlib.Core.List.{List, [], ◌∷◌}
use native.Mathlib.Omega.{arith}
use lib.ListN.{length, take, replicate, length-map, length-replicate}
use lib.Seq.{get_or-take, length-take-le}
use Rattle.definition.specs.Text.{Text}
use Rattle.definition.specs.Limits.{document_01}
use Rattle.definition.specs.Answer.{refused, number, place}
use Rattle.definition.specs.Facts.{Relation}
use Rattle.definition.specs.Accept.{Accepted, accept, elements, words_needed}
use Rattle.definition.specs.Assignment.{loaded}
use Rattle.definition.specs.Claim.{store_image}
use Rattle.definition.specs.Calls.{RunMeets, CountsMeet}
use Rattle.std.specs.Prelude.{Result, Ok, Err}
use Rattle.definition.specs.declared.Stopped.{Stopped}
use Rattle.definition.specs.declared.RunAnswer.{RunAnswer}
use Rattle.definition.specs.declared.Refusal.{Refusal}
use Rattle.definition.specs.declared.Refusal.TheVariants.{StoreShort}
use Rattle.definition.proofs.CallLaws.{run_short, run_refused, counts_short, counts_refused}
use Rattle.facts.specs.Words.{relation_of, relations_of}
use Rattle.universe.proofs.Filling.{filled_shows, filled_count}
use Rattle.code.specs.Program.{Code}
use Rattle.coding.specs.Pass.{Depths, Made, Passed}
use Rattle.coded.proofs.Coded.{Lowering, coded, code_length}
use Rattle.counts.specs.Counting.{counted}
use Rattle.counts.proofs.All.{Tagged, no_tags, tagged, counted_loaded}
use Rattle.loading.specs.Given.{Ready}
use Rattle.layout.specs.Sizes.{LaidOut}
use Rattle.acceptance.specs.declared.Sizes.{Sizes}
use Rattle.acceptance.specs.Reading.{Reading, Sized}
use Rattle.chain.proofs.Asking.{read_short}
use Rattle.engine.specs.Given.{Given, Fits, Prepared, prepared, refuses}
use Rattle.engine.specs.Begun.{Begun, NotRun, Answered, no_depths}

-- the first words of a longer array are lowered too
made_short : {facts query : Text} {places tokens ids known words low : List ℕ} {u : ℕ} {depths : List ℕ} {s k : ℕ} (n : ℕ) → k < n
    → Made facts query places tokens ids known words low u depths s k → Made facts query places tokens ids known words (take n low) u depths s k
made_short {low = low} n h m = record {
  found = m.found;
  names = m.names;
  few = m.few;
  codes = m.codes;
  coded = m.coded;
  fr = m.fr;
  free = m.free;
  small = m.small;
  lowered = λ i a b. get_or-take n low i 0 (omega arith) ∙ m.lowered i a b;
}

pub passed_short : {facts query : Text} {places tokens ids known words low : List ℕ} {u : ℕ} {d : Depths} → Passed facts query places tokens ids known words low u d
    → Passed facts query places tokens ids known words (take (length words) low) u d
passed_short {words = words} p = record { made = λ k h s f. made_short (length words) h (p.made k h s f) }

module _ (facts query : Text) (tokens words ids known relations places : List ℕ) (w : Accepted) (r : Reading facts query tokens words ids known relations places w) where
  size_is : elements w ≡ length places
  size_is = filled_count facts query tokens words places w r.filled

  -- what the passes leave, with the lowered words
  module _ (u : ℕ) (size : elements w ≡ u) (low : List ℕ) (h : length words ≤ length low) (p : Passed facts query places tokens ids known words low u no_depths) where
    abbrev front : List ℕ
    front = take (length words) low

    lowering : Lowering facts query w tokens ids known relations words places front (length relations) r.kinds r.ts no_depths
    lowering = record {
      accepted = r.accepted;
      read = r.facts_read;
      facts_read = r.read;
      names = r.names;
      inside = r.inside;
      parsed = r.parsed;
      stands = r.stands;
      universe_is = sym r.filled.universe;
      long = length-take-le (length words) low h;
      passed = rw size (passed_short p);
      none_open = refl;
      room = λ i a. let zeros : List ℕ = replicate 2064 0 in let e : length zeros ≡ 2064 = length-replicate {A = ℕ} 2064 0 in omega (arith, e, r.numbers i a);
    }

    pub given_so : Given facts query relations places front w
    given_so =
        let c = coded facts query w tokens ids known relations words places front (length relations) r.kinds r.ts no_depths lowering in
        record {
          known = record { accepted = r.accepted; relations = r.relations_are; universe = sym r.filled.universe };
          size = size_is;
          shows = filled_shows facts query tokens words places w r.filled r.ts r.parsed;
          code =
              subst (Code w query front [] w.program 0)
              (code_length facts query w tokens ids known relations words places front (length relations) r.kinds r.ts no_depths lowering) c;
          few_relations = r.few_relations;
          few_places = r.few_places;
          short = read_short facts r.facts_read r.read;
        }

-- the passes' sizes are small
pub few_sized : (facts query : Text) (tokens words ids known relations places : List ℕ) (s : Sizes) (w : Accepted) → Sized facts query tokens words ids known relations places s w
    → (s.elements ≤ 64) × (s.words ≤ 2048)
few_sized facts query tokens words ids known relations places s w z = (
  omega (arith, length-take-le s.elements places z.places_inside, z.reading.few_places),
  omega (arith, length-take-le s.words words z.words_inside, z.reading.few_words),
)

-- the same of arrays whose first cells the passes filled
pub fits_so : (facts query : Text) (tokens words ids known relations places : List ℕ) (s : Sizes) (w : Accepted) → Sized facts query tokens words ids known relations places s w
    → (u : ℕ) → s.elements ≡ u → (low : List ℕ) → s.words ≤ length low
    → Passed facts query (take s.elements places) (take s.tokens tokens) ids known (take s.words words) low u no_depths → Fits facts query relations places low s w
fits_so facts query tokens words ids known relations places s w z u e low h p =
    let n = length-take-le s.words words z.words_inside in
    let m = length-take-le s.elements places z.places_inside in
    let l : length (take s.words words) ≤ length low = omega (arith, n) in
    let size = size_is facts query (take s.tokens tokens) (take s.words words) ids known (take s.relations relations) (take s.elements places) w z.reading ∙ m ∙ e in
    record {
      given =
          subst (λ (k : ℕ). Given facts query (take s.relations relations) (take s.elements places) (take k low) w) n
          (given_so facts query (take s.tokens tokens) (take s.words words) ids known (take s.relations relations) (take s.elements places) w z.reading u size low l p);
      relations_inside = z.relations_inside;
      places_inside = z.places_inside;
      words_inside = h;
    }

-- what a caller has of the answer
module _ (facts query : Text) (relations places low : List ℕ) where
  pub record Held (s : Sizes) : Type 0 where
    pub w : Accepted
    pub fits : Fits facts query relations places low s w

  pub held : {x : Result Sizes Refusal} → Prepared facts query relations places low x → (s : Sizes) → x ≡ Ok s → Held s
  held (prepared {s = s'} w z) s e = let same : s' ≡ s = cc in record { w = w; fits = subst (λ (v : Sizes). Fits facts query relations places low v w) same z }
  held (refuses {q = q} h) s e = let z : ◌≡◌ {A = ℕ} 0 1 = cc in absurd (omega arith)

  pub not_held : {x : Result Sizes Refusal} → Prepared facts query relations places low x → (q : Refusal) → x ≡ Err q → accept document_01 facts query ≡ refused (number q) (place q)
  not_held (prepared {s = s} w z) q e = let f : ◌≡◌ {A = ℕ} 0 1 = cc in absurd (omega arith)
  not_held (refuses {q = q'} h) q e = let same : q' ≡ q = cc in subst (λ (v : Refusal). accept document_01 facts query ≡ refused (number v) (place v)) same h

-- a run that is refused
not_answered : (facts query : Text) (budget : ℕ) (store : List ℕ) (buffer : Text) (q : Refusal) (r : RunAnswer) → NotRun q r → RunMeets document_01 facts query budget store buffer (Err q) store buffer
    → CountsMeet document_01 facts query store (replicate 16 0) store → Answered facts query budget store buffer r store buffer
not_answered facts query budget store buffer q r n m c = (
  subst (λ (a : Result Stopped Refusal). RunMeets document_01 facts query budget store buffer a store buffer) (sym n.0) m,
  subst (λ (cs : List ℕ). CountsMeet document_01 facts query store cs store) (sym n.1) c,
)

pub refused_so : (facts query : Text) (budget : ℕ) (store : List ℕ) (buffer : Text) (q : Refusal) → accept document_01 facts query ≡ refused (number q) (place q) → (r : RunAnswer) → NotRun q r
    → Answered facts query budget store buffer r store buffer
refused_so facts query budget store buffer q e r n =
    not_answered facts query budget store buffer q r n (run_refused document_01 facts query budget store buffer q e) (counts_refused document_01 facts query store store q e)

-- the words of relations have their arities
tags : (facts query : Text) (rs : List ℕ) → Tagged (relations_of facts query rs) rs
tags facts query [] = no_tags
tags facts query (r ∷ rs) = tagged refl (tags facts query rs)

module _ (facts query : Text) (relations places low : List ℕ) (w : Accepted) (g : Given facts query relations places low w) where
  module _ (firsts : List ℕ) (scratch needed : ℕ) (l : LaidOut w firsts scratch needed) where
    pub too_short : (store : List ℕ) → length store < needed → (buffer : Text) (budget : ℕ) (r : RunAnswer) → NotRun (StoreShort needed) r → Answered facts query budget store buffer r store buffer
    too_short store h buffer budget r n =
        let short : length store < words_needed w = omega (arith, l.needed) in
        not_answered facts query budget store buffer (StoreShort needed) r n
        (subst (λ (k : ℕ). RunMeets document_01 facts query budget store buffer (Err (StoreShort k)) store buffer) (sym l.needed) (run_short document_01 facts query budget store buffer w g.known.accepted short))
        (counts_short document_01 facts query store store w g.known.accepted short)

    pub ready : (u : ℕ) → u ≡ length places → Ready facts query relations places firsts u w
    ready u e = record { known = g.known; size = e ∙ sym g.size; scratch = scratch; laid = l.laid }

    pub begins : (u : ℕ) → u ≡ length places → (sizes store₀ store : List ℕ) → needed ≤ length store₀ → store ≡ store_image w (loaded w) store₀ → sizes ≡ counted store u 0 0 relations (replicate 16 0)
        → Begun facts query low firsts places u scratch sizes store₀ store w
    begins u e sizes store₀ store long i h =
        record {
          accepted = g.known.accepted;
          size = g.size ∙ sym e;
          laid = l.laid;
          shows = g.shows;
          code = g.code;
          long = omega (arith, l.needed);
          image = i;
          few = omega (arith, g.few_relations, length-map relations (relation_of facts query), ap length g.known.relations);
          counted =
              h ∙ ap₂ (λ (x : List ℕ) (v : ℕ). counted x v 0 0 relations (replicate 16 0)) i (e ∙ sym g.size)
              ∙ counted_loaded w relations store₀ (subst (λ (qs : List Relation). Tagged qs relations) g.known.relations (tags facts query relations)) g.few_relations;
        }
