-- The elements of an accepted fact, by their numbers in the universe.
use Prim.Native.Nat.{ℕ, zero, suc, ◌+◌, ◌%◌, ◌<◌, ◌≤◌}
use mathlib.Core.Path.{◌≡◌, refl, sym, ap, subst, ◌∙◌}
use mathlib.Core.List.{List, [], ◌∷◌, map}
use native.Mathlib.Nat.{mod-eq_of_lt}
use native.Mathlib.Omega.{arith}
use native.Mathlib.Decide.{dec_lt}
use lib.Dec.{T}
use lib.ListN.{length, get_or, take, drop}
use Rattle.definition.specs.Text.{Text, same, member, some_of}
use Rattle.definition.specs.Limits.{WORD_BYTES, ARITY}
use Rattle.definition.proofs.BoolLaws.{or_left, or_right}
use Rattle.definition.proofs.MeaningLaws.{same_eq, same_refl}
use Rattle.definition.proofs.AcceptLaws.{has}
use Rattle.tuples.proofs.Loading.{Numbered, none, one}
use Rattle.parts.specs.Packed.{pack, text_of}
use Rattle.parts.specs.Entries.{position, index, texts_of}
use Rattle.parts.proofs.HeldLaws.{length_texts}
use Rattle.parts.proofs.PositionLaws.{position_same, position_none}
use Rattle.facts.specs.declared.Item.{Item}
use Rattle.facts.specs.declared.FactLine.{FactLine}
use Rattle.facts.specs.Lines.{AllWithin, start_of, items_of}
use Rattle.facts.specs.Words.{element_at}
use Rattle.facts.proofs.UseLaws.{facts_text}
use Rattle.loading.specs.Given.{element_number}

-- a text among those of some parts is that of the part found
pub found : (facts query : Text) (v : ℕ) (ws : List ℕ) → T (member (text_of facts query v) (texts_of facts query ws))
    → (index facts query v ws < length ws) × (get_or (texts_of facts query ws) (index facts query v ws) [] ≡ text_of facts query v)
unfolding index
found facts query v ws h = go (dec_lt (position facts query x ws) (length ws))
  where
    x : Text
    x = text_of facts query v

    go : Dec (position facts query x ws < length ws) → (position facts query x ws < length ws) × (get_or (texts_of facts query ws) (position facts query x ws) [] ≡ x)
    go (yes l) = (l, sym (same_eq x (get_or (texts_of facts query ws) (position facts query x ws) []) (position_same facts query x ws l)))
    go (no l) = absurd (subst T (position_none facts query x ws (omega arith)) h)

-- the place of a text that is the item's, in 8 bits
pub number_at : (facts query : Text) (places : List ℕ) (a : ℕ) (x : Item) → x.len ≤ WORD_BYTES → (s : ℕ) → s ≡ start_of x → (t : Text) → t ≡ take x.len (drop (a + s) facts) → (k : ℕ) → k ≡ position facts query t places
    → k % 256 ≡ element_number facts query places a x
unfolding index
number_at facts query places a x short s p t q k r =
    ap (λ (i : ℕ). i % 256)
    (r ∙ ap (λ (y : Text). position facts query y places) (q ∙ ap (λ (i : ℕ). take x.len (drop (a + i) facts)) p ∙ sym (facts_text facts query (a + start_of x) x.len 0 (omega arith) (omega arith))))

-- the numbers of a fact's items, whatever follows them
pub numbers_of : (g : Item → ℕ) (f : FactLine) → f.arity ≤ ARITY → (x y z : ℕ) → (0 < f.arity → x ≡ g f.first) → (1 < f.arity → y ≡ g f.second) → (2 < f.arity → z ≡ g f.third)
    → take f.arity (x ∷ y ∷ z ∷ 0 ∷ []) ≡ map g (items_of f)
numbers_of g f small x y z = go f.arity small
  where
    go : (n : ℕ) → n ≤ 3 → (0 < n → x ≡ g f.first) → (1 < n → y ≡ g f.second) → (2 < n → z ≡ g f.third) → take n (x ∷ y ∷ z ∷ 0 ∷ []) ≡ map g (take n (f.first ∷ f.second ∷ f.third ∷ []))
    go zero h p q r = refl
    go (suc zero) h p q r = rw (p (omega arith))
    go (suc (suc zero)) h p q r = rw (p (omega arith), q (omega arith))
    go (suc (suc (suc zero))) h p q r = rw (p (omega arith), q (omega arith), r (omega arith))
    go (suc (suc (suc (suc n)))) h p q r = absurd (omega arith)

-- items of at most 32 bytes
abbrev pub Short : List Item → Type 0
Short [] = Unit {0}
Short (x ∷ xs) = (x.len ≤ WORD_BYTES) × Short xs

pub short_items : {n : ℕ} (f : FactLine) → AllWithin n f → Short (items_of f)
short_items f h = go f.arity
  where
    go : (k : ℕ) → Short (take k (f.first ∷ f.second ∷ f.third ∷ []))
    go zero = tt
    go (suc zero) = (h.first.len, tt)
    go (suc (suc zero)) = (h.first.len, (h.second.len, tt))
    go (suc (suc (suc k))) = (h.first.len, (h.second.len, (h.third.len, nothing k)))
      where
        nothing : (k : ℕ) → Short (take k [])
        nothing zero = tt
        nothing (suc k) = tt

module _ (facts query : Text) (places : List ℕ) (us : List Text) (known : texts_of facts query places ≡ us) (few : length us ≤ 64) (a : ℕ) where
  -- elements that are in the universe, by their numbers there
  pub numbered : (xs : List Item) → Short xs → ((x : Text) → T (has x (map (element_at facts a) xs)) → T (member x us))
      → Numbered us (map (element_at facts a) xs) (map (element_number facts query places a) xs)
  unfolding has some_of
  numbered [] s h = none
  numbered (x ∷ xs) s h = one (subst (λ (k : ℕ). k < length us) (sym n) inside) (ap (λ (k : ℕ). get_or us k []) n ∙ there) (numbered xs s.1 (λ t m. h t (or_right (same t (element_at facts a x).value) _ m)))
    where
      v : ℕ
      v = pack 0 (a + start_of x) x.len 0

      text : text_of facts query v ≡ (element_at facts a x).value
      text = facts_text facts query (a + start_of x) x.len 0 (omega (arith, s.0)) (omega arith)

      is : T (member (text_of facts query v) (texts_of facts query places))
      is = subst (λ (l : List Text). T (member (text_of facts query v) l)) (sym known)
          (h (text_of facts query v) (or_left (same (text_of facts query v) (element_at facts a x).value) _ (subst (λ (y : Text). T (same y (element_at facts a x).value)) (sym text) (same_refl (element_at facts a x).value))))

      size : length us ≡ length places
      size = ap length (sym known) ∙ length_texts facts query places

      inside : index facts query v places < length us
      inside = omega (arith, size, (found facts query v places is).0)

      n : element_number facts query places a x ≡ index facts query v places
      n = mod-eq_of_lt (omega (arith, inside, few))

      there : get_or us (index facts query v places) [] ≡ (element_at facts a x).value
      there = ap (λ (l : List Text). get_or l (index facts query v places) []) (sym known) ∙ (found facts query v places is).1 ∙ text
