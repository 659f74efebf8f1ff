-- A chain has at most one number more than there are elements, so a buffer of 65 bytes has room for every chain of the facts.
use mathlib.Core.Path.{◌≡◌, refl, sym, subst, ◌∙◌}
use mathlib.Core.Bool.{Bool, true, false, ◌||◌, not, cond}
use mathlib.Core.List.{List}
use Prim.Native.Nat.{ℕ, zero, suc, ◌-◌, ◌≤◌, ◌<◌}
use native.Mathlib.Omega.{arith}
use lib.Dec.{T, eqb, ltb}
use lib.ListN.{length, get_or}
use borrow.Author.Tests.{eqb-true, eqb-false, ltb-false}
use Rattle.definition.specs.Text.{Text, some_of}
use Rattle.definition.specs.Limits.{document_01, CHAIN_BYTES}
use Rattle.definition.specs.Answer.{ok, refuse_if}
use Rattle.definition.specs.Facts.{Facts, read_facts, arities}
use Rattle.definition.specs.Calls.{is_pair, IsChain, chain_exists, numbers_of, Asked, chain_asked}
use Rattle.definition.proofs.AcceptLaws.{bind_ok, then_ok, was_ok, not_refused, ok_injective}
use Rattle.definition.proofs.UniverseSize.{facts_few}
use Rattle.definition.proofs.ChainLaws.{pair_below}

-- the pigeonhole: n numbers below u, none twice
pub pigeonhole : (u n : ℕ) (f : ℕ → ℕ) → ((i : ℕ) → i < n → f i < u) → ((i j : ℕ) → i < j → j < n → f i ≡ f j → ⊥) → n ≤ u
pigeonhole zero zero f b o = omega arith
pigeonhole zero (suc n) f b o = absurd (let h = b n (omega arith) in omega arith)
pigeonhole (suc u) zero f b o = omega arith
pigeonhole (suc u) (suc n) f b o = go (eqb (f n) u) refl (λ g b o. pigeonhole u n g b o)
  where
    -- u is put away: the number that is u, if any, makes room for the last
    moved : ℕ → ℕ
    moved i = cond (eqb (f i) u) (f n) (f i)

    moved_below : (f n ≡ u → ⊥) → (i : ℕ) → i < n → moved i < u
    moved_below k i h = at (eqb (f i) u) refl
      where
        at : (t : Bool) → eqb (f i) u ≡ t → cond t (f n) (f i) < u
        at true e = let l = b n (omega arith) in omega arith
        at false e = let l = b i (omega arith) in let m = eqb-false (f i) u e in omega arith

    moved_once : (i j : ℕ) → i < j → j < n → moved i ≡ moved j → ⊥
    moved_once i j h k = at (eqb (f i) u) (eqb (f j) u) refl refl
      where
        at : (t w : Bool) → eqb (f i) u ≡ t → eqb (f j) u ≡ w → cond t (f n) (f i) ≡ cond w (f n) (f j) → ⊥
        at true true d e q = o i j h (omega arith) (eqb-true (f i) u d ∙ sym (eqb-true (f j) u e))
        at true false d e q = o j n k (omega arith) (sym q)
        at false true d e q = o i n (omega arith) (omega arith) q
        at false false d e q = o i j h (omega arith) q

    go : (t : Bool) → eqb (f n) u ≡ t → ((g : ℕ → ℕ) → ((i : ℕ) → i < n → g i < u) → ((i j : ℕ) → i < j → j < n → g i ≡ g j → ⊥) → n ≤ u) → suc n ≤ suc u
    go true e ih = let h = ih f (λ i h. let l = b i (omega arith) in let m : f i ≡ u → ⊥ = (λ d. o i n h (omega arith) (d ∙ sym (eqb-true (f n) u e))) in omega arith) (λ i j h k d. o i j h (omega arith) d) in omega arith
    go false e ih = let h = ih moved (moved_below (eqb-false (f n) u e)) moved_once in omega arith

-- a chain whose pairs begin with numbers below u
pub chain_length : (r : ℕ → ℕ → Bool) (u : ℕ) → ((a b : ℕ) → T (r a b) → a < u) → (a b : ℕ) (c : List ℕ) → IsChain r a b c → length c ≤ suc u
chain_length r u below a b c h =
    let l = pigeonhole u (length c - 1) (λ i. get_or c i 0) (λ i k. below (get_or c i 0) (get_or c (suc i) 0) (h.pairs i (omega arith))) (λ i j k m e. let d = (h.once i j k (omega arith) e).1 in omega arith) in
    omega arith

pub chain_short : (f : Facts) (r : Text) (a b : ℕ) (c : List ℕ) → IsChain (is_pair f r) a b c → length c ≤ suc (length f.universe)
chain_short f r a b c h = chain_length (is_pair f r) (length f.universe) (λ a b t. (pair_below f r a b t).0) a b c h

-- each of its numbers is an element's
pub chain_numbers : (f : Facts) (r : Text) (a b : ℕ) (c : List ℕ) → IsChain (is_pair f r) a b c → (i : ℕ) → i < length c → get_or c i 0 < length f.universe
chain_numbers f r a b c h zero k = (pair_below f r (get_or c 0 0) (get_or c 1 0) (h.pairs 0 (let m = h.two in omega arith))).0
chain_numbers f r a b c h (suc i) k = (pair_below f r (get_or c i 0) (get_or c (suc i) 0) (h.pairs i k)).1

-- "buffer under 65 bytes": where the chain call owes a chain, every chain fits in the buffer's first 65 bytes
pub chain_fits : (facts r s t : Text) (room : ℕ) (k : Asked) (c : List ℕ) → chain_asked document_01 facts r s t room ≡ ok k → IsChain (is_pair k.facts r) k.from k.to c → (length c ≤ CHAIN_BYTES) × (CHAIN_BYTES ≤ room)
unfolding chain_asked
chain_fits facts r s t room k c e h =
    let (f, p, q) = bind_ok (read_facts document_01 facts) _ k e in
    let test-15 = not (some_of (eqb 2) (arities r f.relations)) || eqb (length (numbers_of f s)) 0 || eqb (length (numbers_of f t)) 0 in
    let a = get_or (numbers_of f s) 0 0 in
    let b = get_or (numbers_of f t) 0 0 in
    let q₂ = then_ok (refuse_if test-15 15 0) _ k q in
    let enough : CHAIN_BYTES ≤ room = ltb-false room CHAIN_BYTES (not_refused (ltb room CHAIN_BYTES) 16 0 (was_ok (refuse_if (ltb room CHAIN_BYTES) 16 0) _ k q₂)) in
    let q₃ = then_ok (refuse_if (ltb room CHAIN_BYTES) 16 0) _ k q₂ in
    let q₄ : record { facts = f; from = a; to = b } ≡ k = ok_injective (then_ok (refuse_if (not (chain_exists f r a b)) 17 0) _ k q₃) in
    let few : length k.facts.universe ≤ 64 = subst (λ (j : Asked). length j.facts.universe ≤ 64) q₄ (facts_few document_01 facts f p) in
    let short = chain_short k.facts r k.from k.to c h in
    (omega arith, enough)
