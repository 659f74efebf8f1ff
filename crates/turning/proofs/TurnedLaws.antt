-- A part turned is the same part of the texts in the other order.
use Prim.Native.Nat.{ℕ, zero, suc, ◌+◌, ◌-◌, ◌/◌, ◌%◌, ◌<◌}
use mathlib.Core.Path.{◌≡◌, refl, sym, ap, ap₂, ◌∙◌}
use mathlib.Core.Bool.{Bool, true, false, cond}
use mathlib.Core.List.{List, [], ◌∷◌, map}
use native.Mathlib.Omega.{arith}
use borrow.Author.Tests.{eq-eqb, ne_eqb, eqb-true, eqb-false}
use lib.Dec.{eqb}
use lib.ListN.{take}
use Rattle.definition.specs.Text.{Text}
use Rattle.definition.specs.Calls.{part_text}
use Rattle.definition.proofs.ListLaws.{Every, every_head, every_tail}
use Rattle.definition.proofs.JoinReading.{first_relation}
use Rattle.parts.specs.Packed.{text_of}
use Rattle.parts.specs.Entries.{texts_of}
use Rattle.facts.specs.Words.{relations_of}
use Rattle.turning.specs.Turned.{turned}

-- by the number of its text
pub turned_zero : (w : ℕ) → w / 4 % 2 ≡ 0 → w + 4 ≡ turned w
unfolding turned
turned_zero w h = rw (eq-eqb (w / 4 % 2) 0 h)

pub turned_one : (w : ℕ) → (w / 4 % 2 ≡ 0 → ⊥) → w - 4 ≡ turned w
unfolding turned
turned_one w h = rw (ne_eqb (w / 4 % 2) 0 h)

-- the fields of a part turned
pub record Turn (w v : ℕ) : Type 0 where
  pub tag : v % 4 ≡ w % 4
  pub text : v / 4 % 2 ≡ 1 - w / 4 % 2
  pub length : v / 8 % 64 ≡ w / 8 % 64
  pub offset : v / 512 ≡ w / 512

-- a number with the same eights has the same length and offset
by_eights : (w v : ℕ) → v / 8 ≡ w / 8 → v % 4 ≡ w % 4 → v / 4 % 2 ≡ 1 - w / 4 % 2 → Turn w v
by_eights w v e t k =
    let outer : (x : ℕ) → x / 512 ≡ x / 8 / 64 = λ x. omega arith in
    record { tag = t; text = k; length = ap (λ (x : ℕ). x % 64) e; offset = outer v ∙ ap (λ (x : ℕ). x / 64) e ∙ sym (outer w) }

pub turns : (w : ℕ) → Turn w (turned w)
unfolding turned
turns w = go (eqb (w / 4 % 2) 0) refl
  where
    go : (b : Bool) → eqb (w / 4 % 2) 0 ≡ b → Turn w (cond b (w + 4) (w - 4))
    go true e = let h : w / 4 % 2 ≡ 0 = eqb-true (w / 4 % 2) 0 e in by_eights w (w + 4) (omega arith) (omega arith) (omega arith)
    go false e =
        let n : w / 4 % 2 ≡ 0 → ⊥ = eqb-false (w / 4 % 2) 0 e in
        let h : w / 4 % 2 ≡ 1 = omega (arith, n) in
        by_eights w (w - 4) (omega arith) (omega arith) (omega arith)

-- turned twice it is what it was
pub turned_back : (w : ℕ) → turned (turned w) ≡ w
unfolding turned
turned_back w = go (eqb (w / 4 % 2) 0) refl
  where
    go : (b : Bool) → eqb (w / 4 % 2) 0 ≡ b → turned (cond b (w + 4) (w - 4)) ≡ w
    go true e =
        let h : w / 4 % 2 ≡ 0 = eqb-true (w / 4 % 2) 0 e in
        let k : (w + 4) / 4 % 2 ≡ 0 → ⊥ = λ z. omega (arith, z) in
        sym (turned_one (w + 4) k) ∙ omega arith
    go false e =
        let n : w / 4 % 2 ≡ 0 → ⊥ = eqb-false (w / 4 % 2) 0 e in
        let h : w / 4 % 2 ≡ 1 = omega (arith, n) in
        let k : (w - 4) / 4 % 2 ≡ 0 = omega arith in
        sym (turned_zero (w - 4) k) ∙ omega arith

pub all_back : (ws : List ℕ) → map turned (map turned ws) ≡ ws
all_back [] = refl
all_back (w ∷ ws) = ap₂ ◌∷◌ (turned_back w) (all_back ws)

module _ (a b : Text) where
  pub turned_text : (w : ℕ) → text_of b a (turned w) ≡ text_of a b w
  unfolding text_of
  turned_text w =
      let t = turns w in
      ap₂ (λ (n o : ℕ). part_text b a (record { text = turned w / 4 % 2; offset = o; length = n })) t.length t.offset
      ∙ ap (λ (k : ℕ). part_text b a (record { text = k; offset = w / 512; length = w / 8 % 64 })) t.text
      ∙ go (w / 4 % 2) (omega arith)
    where
      go : (k : ℕ) → k < 2 → part_text b a (record { text = 1 - k; offset = w / 512; length = w / 8 % 64 }) ≡ part_text a b (record { text = k; offset = w / 512; length = w / 8 % 64 })
      go zero h = refl
      go (suc zero) h = refl
      go (suc (suc k)) h = absurd (omega arith)

  pub turned_texts : (ws : List ℕ) → texts_of b a (map turned ws) ≡ texts_of a b ws
  turned_texts [] = refl
  turned_texts (w ∷ ws) = ap₂ ◌∷◌ (turned_text w) (turned_texts ws)

  -- relations of the text that is read as text 0 are those of the first, once they are turned
  pub turned_relations : (ws : List ℕ) → Every (λ r. r.text ≡ 0) (relations_of a b ws) → relations_of b a (map turned ws) ≡ map first_relation (relations_of a b ws)
  turned_relations [] h = refl
  turned_relations (w ∷ ws) h =
      let t = turns w in
      let z : w / 4 % 2 ≡ 0 = every_head h in
      let one : turned w / 4 % 2 ≡ 1 = omega (arith, t.text, z) in
      ap₂ ◌∷◌ (rw (turned_text w, t.tag, one, t.offset)) (turned_relations ws (every_tail h))

pub take_turned : (n : ℕ) (ws : List ℕ) → take n (map turned ws) ≡ map turned (take n ws)
take_turned zero ws = refl
take_turned (suc n) [] = refl
take_turned (suc n) (w ∷ ws) = ap (λ l. turned w ∷ l) (take_turned n ws)
