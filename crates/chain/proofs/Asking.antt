-- The rows of the chain call's refusals, and what the search in filled rows answers.
use Prim.Native.Nat.{ℕ, zero, suc, ◌<◌, ◌≤◌}
use mathlib.Core.Path.{◌≡◌, refl, sym, ap, ap₂, subst, ◌∙◌}
use mathlib.Core.Bool.{Bool, true, false, ◌||◌, not}
use mathlib.Core.List.{List, [], ◌∷◌}
use native.Mathlib.Omega.{arith}
use borrow.Author.Tests.{ltb-false, lt-ltb, le-ltb}
use lib.Dec.{eqb, ltb}
use lib.ListN.{length, get_or, take, replicate}
use lib.Seq.{length-take-le}
use Rattle.definition.specs.Text.{Text, some_of}
use Rattle.definition.specs.Limits.{FACT_BYTES, CHAIN_BYTES, document_01}
use Rattle.definition.specs.Answer.{Answer, ok, refused, ◌>>◌, refuse_if}
use Rattle.definition.specs.Facts.{Facts, arities, read_facts, Ascending}
use Rattle.definition.specs.Calls.{Asked, ChainMeets, numbers_of, chain_asked, chain_meets}
use Rattle.std.specs.Prelude.{Result, Err}
use Rattle.definition.specs.declared.Refusal.{Refusal}
use Rattle.definition.specs.declared.Refusal.TheVariants.{NotInFacts, BufferShort}
use Rattle.definition.specs.Meaning.{numbers}
use Rattle.definition.proofs.AcceptLaws.{was_ok, not_refused, facts_universe}
use Rattle.parts.specs.Entries.{position, texts_of}
use Rattle.parts.proofs.HeldLaws.{held_length, held_take}
use Rattle.parts.proofs.PositionLaws.{position_number, position_no_number}
use Rattle.facts.specs.Reading.{all_facts, Meets}
use Rattle.facts.specs.Words.{relations_of}
use Rattle.facts.specs.declared.Counts.{Counts}
use Rattle.std.specs.declared.result.Result.{Result}
use Rattle.std.specs.declared.result.Result.TheVariants.{Ok, Err}
use Rattle.chains.specs.Search.{Searched}
use Rattle.chains.proofs.Search.{search_meets}
use Rattle.chain.specs.Fill.{fill}
use Rattle.chain.specs.Asking.{asked_between, asked, facts_in, AreRead}
use Rattle.chain.proofs.Rows.{rows_filled, length_filled}

-- ---- facts that were read

pub read_short : (facts : Text) (f : Facts) → read_facts document_01 facts ≡ ok f → length facts ≤ FACT_BYTES
unfolding read_facts
read_short facts f e = ltb-false FACT_BYTES (length facts) (not_refused (ltb FACT_BYTES (length facts)) 1 FACT_BYTES (was_ok (refuse_if (ltb FACT_BYTES (length facts)) 1 FACT_BYTES) _ f e))

pub read_ascending : {facts : Text} {rs us : List ℕ} → AreRead facts rs us → Ascending (texts_of facts facts us)
read_ascending {facts} {rs} {us} h = (facts_universe document_01 facts (facts_in facts rs us) h.read).ascending

pub asked_read : (facts r s t : Text) (room : ℕ) (f : Facts) → read_facts document_01 facts ≡ ok f → chain_asked document_01 facts r s t room ≡ asked f r s t room
unfolding chain_asked asked asked_between
asked_read facts r s t room f e = rw e refl

pub asked_refused : (facts r s t : Text) (room row p : ℕ) → read_facts document_01 facts ≡ refused row p → chain_asked document_01 facts r s t room ≡ refused row p
unfolding chain_asked
asked_refused facts r s t room row p e = rw e refl

-- what reading leaves in the lent words
module _ (facts : Text) (rs rs' us us' : List ℕ) (v : Result Counts Refusal) (m : Meets facts facts rs rs' us us' v) where
  module _ (c : Counts) (e : v ≡ Ok c) where
    given : Meets facts facts rs rs' us us' (Ok c)
    given = subst (Meets facts facts rs rs' us us') e m

    pub relations_room : c.relations ≤ length rs'
    relations_room = omega (arith, given.1.room, held_length given.1)

    pub elements_room : c.elements ≤ length us'
    elements_room = omega (arith, given.2.room, held_length given.2)

    pub are_read : length rs ≡ 16 → length us ≡ 64 → AreRead facts (take c.relations rs') (take c.elements us')
    are_read n k = record {
      read = ap₂ (λ (i j : ℕ). read_facts (record { elements = j; relations = i }) facts) (sym n) (sym k) ∙ given.0 ∙ ap₂ (λ (x y : List ℕ). ok (facts_in facts x y)) (sym (held_take given.1)) (sym (held_take given.2));
      few = let l = length-take-le c.elements us' elements_room in omega (arith, given.2.room);
    }

    pub chain_read : length rs ≡ 16 → length us ≡ 64 → (r s t : Text) (buffer : List ℕ) (q : Result ℕ Refusal) (buffer' : List ℕ)
        → chain_meets (asked (facts_in facts (take c.relations rs') (take c.elements us')) r s t (length buffer)) r buffer q buffer'
        → ChainMeets document_01 facts r s t buffer q buffer'
    chain_read n k r s t buffer q buffer' h = record {
      meets = subst (λ (a : Answer Asked). chain_meets a r buffer q buffer') (sym (asked_read facts r s t (length buffer) _ (are_read n k).read)) h;
    }

  pub chain_refused : (q : Refusal) → v ≡ Err q → length rs ≡ 16 → length us ≡ 64 → (r s t : Text) (buffer : List ℕ) → ChainMeets document_01 facts r s t buffer (Err q) buffer
  chain_refused q e n k r s t buffer =
      let d = ap₂ (λ (i j : ℕ). read_facts (record { elements = j; relations = i }) facts) (sym n) (sym k) ∙ (subst (Meets facts facts rs rs' us us') e m).0 in
      record { meets = subst (λ (a : Answer Asked). chain_meets a r buffer (Err q) buffer) (sym (asked_refused facts r s t (length buffer) _ _ d)) (record { answer = refl; stays = refl }) }

-- ---- rows 15 and 16

abbrev ask : Bool → Bool → Bool → Bool → Answer Asked → Answer Asked
ask x y z w q = ◌>>◌ (refuse_if (not x || y || z) 15 0) (◌>>◌ (refuse_if w 16 0) q)

by_tests : (x x' y y' z z' w w' : Bool) (q : Answer Asked) → x ≡ x' → y ≡ y' → z ≡ z' → w ≡ w' → ask x y z w q ≡ ask x' y' z' w' q
by_tests x x' y y' z z' w w' q e d c b = ap (λ (t : Bool). ask t y z w q) e ∙ ap (λ (t : Bool). ask x' t z w q) d ∙ ap (λ (t : Bool). ask x' y' t w q) c ∙ ap (λ (t : Bool). ask x' y' z' t q) b

module _ (f : Facts) (r s t : Text) (room : ℕ) where
  abbrev x : Bool
  x = some_of (eqb 2) (arities r f.relations)

  abbrev y : Bool
  y = eqb (length (numbers_of f s)) 0

  abbrev z : Bool
  z = eqb (length (numbers_of f t)) 0

  abbrev w : Bool
  w = ltb room CHAIN_BYTES

  abbrev q : Answer Asked
  q = asked_between f r (get_or (numbers_of f s) 0 0) (get_or (numbers_of f t) 0 0)

  pub no_name : x ≡ false → asked f r s t room ≡ refused 15 0
  unfolding asked
  no_name e = by_tests x false y y z z w w q e refl refl refl

  pub no_first : x ≡ true → y ≡ true → asked f r s t room ≡ refused 15 0
  unfolding asked
  no_first e d = by_tests x true y true z z w w q e d refl refl

  pub no_second : x ≡ true → y ≡ false → z ≡ true → asked f r s t room ≡ refused 15 0
  unfolding asked
  no_second e d c = by_tests x true y false z true w w q e d c refl

  pub no_room : x ≡ true → y ≡ false → z ≡ false → w ≡ true → asked f r s t room ≡ refused 16 0
  unfolding asked
  no_room e d c b = by_tests x true y false z false w true q e d c b

  pub all_there : x ≡ true → y ≡ false → z ≡ false → w ≡ false → asked f r s t room ≡ q
  unfolding asked
  all_there e d c b = by_tests x true y false z false w false q e d c b

-- ---- the search in filled rows

pub between : (facts : Text) (ws rs₀ : List ℕ) (r : Text) → AreRead facts rs₀ ws → (rows₀ rows : List ℕ) → rows₀ ≡ replicate (length ws) 0 → rows ≡ fill facts ws r rows₀ (all_facts facts)
    → (a b : ℕ) (buffer : List ℕ) (c : Result ℕ Refusal) (buffer' : List ℕ) → Searched rows a b buffer c buffer' → (rs : List ℕ) → chain_meets (asked_between (facts_in facts rs ws) r a b) r buffer c buffer'
unfolding asked_between
between facts ws rs₀ r h rows₀ rows e d a b buffer c buffer' s rs =
    search_meets (facts_in facts rs ws) r rows
    (d ∙ ap (λ (l : List ℕ). fill facts ws r l (all_facts facts)) e ∙ rows_filled facts ws r (relations_of facts facts rs) (read_ascending h) h.few (all_facts facts))
    a b buffer c buffer' s

pub rows_length : (facts : Text) (ws rs₀ : List ℕ) (r : Text) → AreRead facts rs₀ ws → (rows₀ rows : List ℕ) → rows₀ ≡ replicate (length ws) 0 → rows ≡ fill facts ws r rows₀ (all_facts facts) → length rows ≡ length ws
rows_length facts ws rs₀ r h rows₀ rows e d =
    ap length (d ∙ ap (λ (l : List ℕ). fill facts ws r l (all_facts facts)) e) ∙ length_filled facts ws r [] (read_ascending h) h.few (all_facts facts)

-- ---- the code's tests

pub refused_15 : (m : Answer Asked) (r : Text) (buffer : List ℕ) → m ≡ refused 15 0 → chain_meets m r buffer (Err NotInFacts) buffer
refused_15 m r buffer e = subst (λ (k : Answer Asked). chain_meets k r buffer (Err NotInFacts) buffer) (sym e) (record { answer = refl; stays = refl })

pub refused_16 : (m : Answer Asked) (r : Text) (buffer : List ℕ) → m ≡ refused 16 0 → chain_meets m r buffer (Err BufferShort) buffer
refused_16 m r buffer e = subst (λ (k : Answer Asked). chain_meets k r buffer (Err BufferShort) buffer) (sym e) (record { answer = refl; stays = refl })

pub short_room : (room : ℕ) → room < CHAIN_BYTES → ltb room CHAIN_BYTES ≡ true
short_room room h = lt-ltb room CHAIN_BYTES h

pub no_element : (facts t : Text) (ws : List ℕ) (k : ℕ) → k ≡ position facts facts t ws → k ≡ length ws → eqb (length (numbers t (texts_of facts facts ws) 0)) 0 ≡ true
no_element facts t ws k e h = ap (λ (l : List ℕ). eqb (length l) 0) (position_no_number facts facts t ws (omega arith))

pub an_element : (facts t : Text) (ws : List ℕ) → Ascending (texts_of facts facts ws) → (k : ℕ) → k ≡ position facts facts t ws → k ≤ length ws → (k ≡ length ws → ⊥)
    → (eqb (length (numbers t (texts_of facts facts ws) 0)) 0 ≡ false) × (get_or (numbers t (texts_of facts facts ws) 0) 0 0 ≡ k)
an_element facts t ws o k e h n =
    let q = position_number facts facts t ws o (omega arith) in
    (ap (λ (l : List ℕ). eqb (length l) 0) q, ap (λ (l : List ℕ). get_or l 0 0) q ∙ sym e)

pub in_facts : (facts r s t : Text) (rs us : List ℕ) → Ascending (texts_of facts facts us) → (room a b : ℕ) → some_of (eqb 2) (arities r (relations_of facts facts rs)) ≡ true
    → a ≡ position facts facts s us → a ≤ length us → (a ≡ length us → ⊥) → b ≡ position facts facts t us → b ≤ length us → (b ≡ length us → ⊥) → CHAIN_BYTES ≤ room
    → asked (facts_in facts rs us) r s t room ≡ asked_between (facts_in facts rs us) r a b
in_facts facts r s t rs us o room a b x e h n d l m w =
    let p = an_element facts s us o a e h n in
    let q = an_element facts t us o b d l m in
    all_there (facts_in facts rs us) r s t room x p.0 q.0 (le-ltb room CHAIN_BYTES w)
    ∙ ap₂ (asked_between (facts_in facts rs us) r) p.1 q.1

pub take_zeros : (n m : ℕ) → n ≤ m → take {A = ℕ} n (replicate m 0) ≡ replicate n 0
take_zeros zero m h = refl
take_zeros (suc n) zero h = absurd (omega arith)
take_zeros (suc n) (suc m) h = ap (λ (l : List ℕ). 0 ∷ l) (take_zeros n m (omega arith))
