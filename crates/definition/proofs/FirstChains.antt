-- The chain call's promise fixes one answer: a question has one first chain, so two calls for it answer alike, whatever their buffers hold.
use mathlib.Core.Path.{◌≡◌, refl, sym, ap, subst, ◌∙◌}
use mathlib.Core.Logic.{◌⊎◌, inl, inr}
use mathlib.Core.Bool.{Bool, not}
use mathlib.Core.List.{List, ◌++◌}
use Prim.Native.Nat.{ℕ}
use native.Mathlib.Omega.{arith}
use lib.Dec.{T, ltb}
use lib.ListN.{length, take, drop}
use lib.Seq.{take_at}
use Rattle.definition.specs.Text.{Text, same}
use Rattle.definition.specs.Limits.{Limits, CHAIN_BYTES}
use Rattle.definition.specs.Answer.{Answer, ok, refused}
use Rattle.definition.specs.Calls.{FirstChain, Asked, is_pair, chain_asked, chained_answer, ChainFound, chain_meets, ChainMeets}
use Rattle.std.specs.Prelude.{Result}
use Rattle.definition.specs.declared.Refusal.{Refusal}
use Rattle.definition.proofs.BoolLaws.{decide, not_both}
use Rattle.definition.proofs.MeaningLaws.{same_eq, same_refl}
use Rattle.definition.proofs.UniverseLaws.{earlier_trans, earlier_not_same}
use Rattle.definition.proofs.AcceptLaws.{never, ok_injective}

-- ---- one first chain

pub first_alone : (r : ℕ → ℕ → Bool) (a b : ℕ) (c d : List ℕ) → FirstChain r a b c → FirstChain r a b d → d ≡ c
first_alone r a b c d f g = go (decide (same d c))
  where
    long : length d ≡ length c
    long = let h = f.fewest d g.is_chain in let k = g.fewest c f.is_chain in omega arith

    go : T (same d c) ⊎ T (not (same d c)) → d ≡ c
    go (inl t) = same_eq d c t
    go (inr n) =
        let apart : d ≡ c → ⊥ = λ e. not_both (same d c) (subst (λ (x : List ℕ). T (same d x)) e (same_refl d)) n in
        absurd (earlier_not_same c c (earlier_trans c d c (f.earliest d g.is_chain long apart) (g.earliest c f.is_chain (sym long) (λ e. apart (sym e)))) (same_refl c))

-- ---- one answer

-- of the buffer it counts only whether it is too short
asked_alike : (limits : Limits) (facts r s t : Text) (m n : ℕ) → ltb m CHAIN_BYTES ≡ ltb n CHAIN_BYTES → chain_asked limits facts r s t m ≡ chain_asked limits facts r s t n
unfolding chain_asked
asked_alike limits facts r s t m n e = rw e refl

-- the same refusal, or the same numbers at the start of both buffers
pub record Alike (c d : Result ℕ Refusal) (written other : List ℕ) : Type 0 where
  pub answer : chained_answer d ≡ chained_answer c
  pub numbers : (n : ℕ) → chained_answer c ≡ ok n → take n other ≡ take n written

module _ (r : Text) (c d : Result ℕ Refusal) (buffer buffer' lent lent' : List ℕ) where
  one_chain : {k : Asked} (f : ChainFound k r buffer c buffer') (g : ChainFound k r lent d lent') → g.chain ≡ f.chain
  one_chain {k} f g = first_alone (is_pair k.facts r) k.from k.to f.chain g.chain f.right g.right

  alike : (m : Answer Asked) → chain_meets m r buffer c buffer' → chain_meets m r lent d lent' → Alike c d buffer' lent'
  alike (refused row place) f g = record { answer = g.answer ∙ sym f.answer; numbers = λ n e. absurd (never (sym f.answer ∙ e)) }
  alike (ok k) f g =
      let e : g.chain ≡ f.chain = one_chain f g in
      record {
        answer = g.answer ∙ ap (λ (l : List ℕ). ok (length l)) e ∙ sym f.answer;
        numbers = λ n q.
            let m : length f.chain ≡ n = ok_injective (sym f.answer ∙ q) in
            ap (take n) g.written ∙ take_at g.chain _ n (ap length e ∙ m) ∙ e ∙ sym (ap (take n) f.written ∙ take_at f.chain _ n m);
      }

-- two calls for one question, with buffers that are both long enough or both too short, answer alike, whatever the buffers hold
pub answers_alike : (limits : Limits) (facts r s t : Text) (c d : Result ℕ Refusal) (buffer buffer' lent lent' : List ℕ) → ltb (length lent) CHAIN_BYTES ≡ ltb (length buffer) CHAIN_BYTES
    → ChainMeets limits facts r s t buffer c buffer' → ChainMeets limits facts r s t lent d lent' → Alike c d buffer' lent'
answers_alike limits facts r s t c d buffer buffer' lent lent' e f g =
    alike r c d buffer buffer' lent lent' (chain_asked limits facts r s t (length buffer)) f.meets
    (subst (λ (m : Answer Asked). chain_meets m r lent d lent') (asked_alike limits facts r s t (length lent) (length buffer) e) g.meets)

-- and with the same buffer they leave the same bytes
pub answer_alone : (limits : Limits) (facts r s t : Text) (c d : Result ℕ Refusal) (buffer buffer' buffer'' : List ℕ)
    → ChainMeets limits facts r s t buffer c buffer' → ChainMeets limits facts r s t buffer d buffer'' → (chained_answer d ≡ chained_answer c) × (buffer'' ≡ buffer')
answer_alone limits facts r s t c d buffer buffer' buffer'' f g =
    ((answers_alike limits facts r s t c d buffer buffer' buffer buffer'' refl f g).answer, go (chain_asked limits facts r s t (length buffer)) f.meets g.meets)
  where
    go : (m : Answer Asked) → chain_meets m r buffer c buffer' → chain_meets m r buffer d buffer'' → buffer'' ≡ buffer'
    go (refused row place) f g = g.stays ∙ sym f.stays
    go (ok k) f g = g.written ∙ ap (λ (l : List ℕ). l ++ drop (length l) buffer) (one_chain r c d buffer buffer' buffer buffer'' f g) ∙ sym f.written
