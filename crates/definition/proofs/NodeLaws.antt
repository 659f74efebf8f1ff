-- The nodes of the manual's Warshall program: "Node(x) := Result(x,_) & Result(_,x);". Its loop takes these alone, the definition's every
-- element; an element that is no node adds nothing, so after each element the two hold the same pairs.
use mathlib.Core.Path.{◌≡◌, refl, sym, ap, ap₂, ◌∙◌, subst⁻¹}
use mathlib.Core.Logic.{◌↔◌, ◌⊎◌, inl, inr}
use mathlib.Core.Bool.{Bool, true, false, ◌&&◌, ◌||◌, cond}
use mathlib.Core.List.{List, ◌∷◌}
use Prim.Native.Nat.{ℕ, zero, suc, ◌+◌, ◌<◌, ◌≤◌}
use native.Mathlib.Omega.{arith}
use lib.Dec.{T}
use Rattle.definition.specs.Text.{keep, some_of, from, below}
use Rattle.definition.specs.Tables.{through, through_all}
use Rattle.definition.proofs.BoolLaws.{is_true, contradiction}
use Rattle.definition.proofs.InLaws.{in_some, in_from}
use Rattle.definition.proofs.Chains.{Chain}
use Rattle.definition.proofs.ClosureLaws.{pairs, through_pairs, worked_chains}

module _ (u : ℕ) where
  -- "Node(x) := Result(x,_) & Result(_,x);"
  unfoldable pub is_node : List ℕ → ℕ → Bool
  is_node ws k = some_of (pairs u ws k) (below u) && some_of (λ a. pairs u ws a k) (below u)

  -- no pair goes out of an element, or none into it
  abbrev Idle : List ℕ → ℕ → Type 0
  Idle ws k = ((b : ℕ) → b < u → pairs u ws k b ≡ false) ⊎ ((a : ℕ) → a < u → pairs u ws a k ≡ false)

  -- an element that is no node is idle
  none_below : (p : ℕ → Bool) → some_of p (below u) ≡ false → (a : ℕ) → a < u → p a ≡ false
  none_below p e a h = go (p a) refl
    where
      go : (b : Bool) → p a ≡ b → b ≡ false
      go true q = contradiction (some_of p (below u)) (is_true _ (in_some p (in_from u 0 a (omega arith) (omega arith)) (subst⁻¹ T q tt))) e
      go false q = refl

  idle : (ws : List ℕ) (k : ℕ) → is_node ws k ≡ false → Idle ws k
  unfolding is_node
  idle ws k e = go (some_of (pairs u ws k) (below u)) refl e
    where
      go : (b : Bool) → some_of (pairs u ws k) (below u) ≡ b → b && some_of (λ a. pairs u ws a k) (below u) ≡ false → Idle ws k
      go false q r = inl (none_below (pairs u ws k) q)
      go true q r = inr (none_below (λ a. pairs u ws a k) r)

  nothing_joined : (x y z : Bool) → (y ≡ false) ⊎ (z ≡ false) → x || (y && z) ≡ x
  nothing_joined true y z e = refl
  nothing_joined false y z (inl e) = ap (λ (b : Bool). b && z) e
  nothing_joined false true z (inr e) = e
  nothing_joined false false z (inr e) = refl

  -- it adds nothing
  idle_adds : (k : ℕ) (ws : List ℕ) → Idle ws k → (a b : ℕ) → a < u → b < u → pairs u (through u k ws) a b ≡ pairs u ws a b
  idle_adds k ws i a b p q = through_pairs u k ws a b p q ∙ nothing_joined (pairs u ws a b) (pairs u ws a k) (pairs u ws k b) (go i)
    where
      go : Idle ws k → (pairs u ws a k ≡ false) ⊎ (pairs u ws k b ≡ false)
      go (inl e) = inr (e b q)
      go (inr e) = inl (e a p)

  -- and stays so, whichever node is worked
  idle_stays : (k j : ℕ) (ws : List ℕ) → k < u → j < u → Idle ws j → Idle (through u k ws) j
  idle_stays k j ws h l (inl e) = inl (λ b q. through_pairs u k ws j b l q ∙ nothing_joined (pairs u ws j b) (pairs u ws j k) (pairs u ws k b) (inl (e k h)) ∙ e b q)
  idle_stays k j ws h l (inr e) = inr (λ a p. through_pairs u k ws a j p l ∙ nothing_joined (pairs u ws a j) (pairs u ws a k) (pairs u ws k j) (inr (e k h)) ∙ e a p)

  -- tables that hold the same pairs, one worked through all elements and one through nodes alone
  abbrev pub Same : List ℕ → List ℕ → Type 0
  Same vs ws = (a b : ℕ) → a < u → b < u → pairs u vs a b ≡ pairs u ws a b

  pub same_through : (k : ℕ) (vs ws : List ℕ) → k < u → Same vs ws → Same (through u k vs) (through u k ws)
  same_through k vs ws h s a b p q =
      through_pairs u k vs a b p q ∙ ap₂ ◌||◌ (s a b p q) (ap₂ ◌&&◌ (s a k p h) (s k b h q)) ∙ sym (through_pairs u k ws a b p q)

  skipped : (p : ℕ → Bool) (n k : ℕ) (vs ws : List ℕ) → k + n ≤ u → Same vs ws → ((j : ℕ) → j < u → p j ≡ false → Idle ws j)
      → Same (through_all u (keep p (from n k)) vs) (through_all u (from n k) ws)
  unfolding keep from through_all
  skipped p zero k vs ws h s i = s
  skipped p (suc n) k vs ws h s i = go (p k) refl (λ us e. skipped p n (suc k) us (through u k ws) (omega arith) e (λ j l q. idle_stays k j ws (omega arith) l (i j l q)))
    where
      l : k < u
      l = omega arith

      rest : List ℕ
      rest = keep p (from n (suc k))

      go : (b : Bool) → p k ≡ b
          → ((us : List ℕ) → Same us (through u k ws) → Same (through_all u rest us) (through_all u (from n (suc k)) (through u k ws)))
          → Same (through_all u (cond b (k ∷ rest) rest) vs) (through_all u (from n (suc k)) (through u k ws))
      go true e ih = ih (through u k vs) (same_through k vs ws l s)
      go false e ih = ih vs (λ a b x y. s a b x y ∙ sym (idle_adds k ws (i k l e) a b x y))

  -- elements that are no nodes add nothing: after each element the table holds the pairs that it holds where nodes alone are worked
  pub nodes_alone : (ws : List ℕ) (k : ℕ) → k ≤ u → Same (through_all u (keep (is_node ws) (below k)) ws) (through_all u (below k) ws)
  nodes_alone ws k h = skipped (is_node ws) k 0 ws ws (omega arith) (λ a b p q. refl) (λ j l e. idle ws j e)

  -- so the manual's own loop has after each element exactly the chains through the elements so far
  pub nodes_chains : (ws : List ℕ) (k a b : ℕ) → k ≤ u → a < u → b < u → T (pairs u (through_all u (keep (is_node ws) (below k)) ws) a b) ↔ Chain (pairs u ws) k a b
  nodes_chains ws k a b h p q = rw (nodes_alone ws k h a b p q) (worked_chains u ws k a b h p q)
