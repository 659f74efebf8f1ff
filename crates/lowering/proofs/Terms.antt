-- The operands of lowered words stand for the terms of the text.
use Prim.Native.Nat.{ℕ, zero, suc, ◌+◌, ◌*◌, ◌-◌, ◌/◌, ◌%◌, ◌<◌, ◌≤◌}
use mathlib.Core.Path.{◌≡◌, refl, sym, ap, ◌∙◌, subst}
use mathlib.Core.Bool.{Bool, true, false, not, ◌&&◌, cond}
use mathlib.Core.List.{List, [], ◌∷◌}
use native.Mathlib.Omega.{arith}
use borrow.Author.Tests.{lt-ltb, le-ltb, ne_eqb}
use lib.Dec.{eqb, ltb}
use lib.ListN.{length, get_or}
use Rattle.definition.specs.Text.{Text, some_of, all_of, from, below}
use Rattle.definition.specs.Token.{Token}
use Rattle.definition.specs.Syntax.{Term, name, string, anything}
use Rattle.definition.specs.Accept.{Accepted, elements}
use Rattle.definition.specs.Meaning.{choices, nowhere}
use Rattle.words.specs.Fields.{word, TERM, ANYTHING, STRING}
use Rattle.words.specs.Raw.{number, leaf, leaves}
use Rattle.words.specs.Tokens.{OwnName, OwnString}
use Rattle.words.proofs.FieldLaws.{kind_word, p_word}
use Rattle.eval.specs.Nodes.{Operand, element, slot, variable, operand, operands}
use Rattle.words.specs.Standing.{Has}
use Rattle.meaning.specs.Lowered.{Stands, Stand}
use Rattle.meaning.specs.Lowered as Lowered
use Rattle.lowering.specs.Lowering.{at, term_byte, operands_at, may_stand, all_stand}
use Rattle.lowering.specs.Agreement.{attribute, variable, ScopedTerm, ScopedTerms, Element, found, missing, Agrees}
use Rattle.lowering.proofs.Words.{term_small}

pub element_byte : (b : ℕ) → b < 64 → operand b ≡ element b
element_byte b h = rw (lt-ltb b 64 h) refl

pub slot_byte : (b : ℕ) → 64 ≤ b → b < 72 → operand b ≡ slot (b - 64)
slot_byte b h k = rw (le-ltb b 64 h, lt-ltb b 72 k) refl

some_element : (u : ℕ) → ltb 0 u ≡ some_of (λ a. true) (below u)
unfolding some_of from
some_element zero = refl
some_element (suc u) = lt-ltb 0 (suc u) (omega arith)

both : (b y : Bool) → cond b y false ≡ b && y
both true y = refl
both false y = refl

-- four operand bytes and what follows them
byte_first : (a y : ℕ) → a < 256 → (a + y * 256) % 256 ≡ a
byte_first a y h = omega arith

byte_rest : (a y : ℕ) → a < 256 → (a + y * 256) / 256 ≡ y
byte_rest a y h = omega arith

module _ (w : Accepted) (ts : List Token) (loops : List Text) (In : Text → Bool) (β : Text → ℕ) (Clear : ℕ → Type 0) (words codes fr : List ℕ) (lo hi : ℕ)
    (G : Agrees w ts loops In β Clear words codes fr lo hi) where
  abbrev byte : ℕ → ℕ
  byte k = term_byte (at codes) (get_or words k 0)

  -- the byte of a name
  name_byte : (k K : ℕ) (t : Token) → K < 256 → (K ≡ ANYTHING → ⊥) → OwnName ts t → β t.text < 256 → get_or codes (number t) 0 ≡ β t.text → get_or words k 0 ≡ word K (number t) 0 0 → byte k ≡ β t.text
  unfolding term_byte
  name_byte k K t hK hn o h c e =
      let m : β t.text % 256 ≡ β t.text = omega arith in
      rw (e, kind_word K (number t) 0 0 hK, ne_eqb K ANYTHING hn, p_word K (number t) 0 0 hK (omega (arith, o.inside, G.few_tokens)), c) m

  pub attribute_byte : (k K : ℕ) (t : Token) → K < 256 → (K ≡ ANYTHING → ⊥) → OwnName ts t → In t.text ≡ true → get_or words k 0 ≡ word K (number t) 0 0 → byte k ≡ β t.text
  attribute_byte k K t hK hn o h e = name_byte k K t hK hn o (omega (arith, (G.slots t.text h).1)) (G.attributes t o h) e

  -- the byte of a string
  string_byte : (k : ℕ) (t : Token) → OwnString ts t → get_or codes (number t) 0 < 256 → get_or words k 0 ≡ word (STRING + TERM) (number t) 0 0 → byte k ≡ get_or codes (number t) 0
  unfolding term_byte
  string_byte k t o h e =
      let m : get_or codes (number t) 0 % 256 ≡ get_or codes (number t) 0 = omega arith in
      rw (e, kind_word (STRING + TERM) (number t) 0 0 (omega arith), p_word (STRING + TERM) (number t) 0 0 (omega arith) (omega (arith, o.inside, G.few_tokens))) m

  any_byte : (k : ℕ) → get_or words k 0 ≡ word ANYTHING 0 0 0 → byte k ≡ 254
  unfolding term_byte
  any_byte k e = rw e refl

  pub leaf_stands : (k : ℕ) (p : Term) → ScopedTerm w ts loops In p → get_or words k 0 ≡ leaf TERM p → Stands w β loops p (operand (byte k))
  leaf_stands k (name t) (o, attribute h) e =
      subst (λ (b : ℕ). Stands w β loops (name t) (operand b)) (sym (attribute_byte k TERM t (omega arith) (λ z. omega arith) o h e)) (Lowered.attribute (G.unbound t.text h))
  leaf_stands k (name t) (o, variable h) e =
      subst (λ (b : ℕ). Stands w β loops (name t) (operand b))
      (sym (name_byte k TERM t (omega arith) (λ z. omega arith) o (omega (arith, (G.depths t.text h).1)) (G.variables t o h) e)) (Lowered.loop_variable h)
  leaf_stands k (string t) o e = go (G.strings t o)
    where
      go : Element w ts loops In t (get_or codes (number t) 0) → Stands w β loops (string t) (operand (byte k))
      go (found n h) =
          let s : get_or codes (number t) 0 < 64 = omega (arith, h, G.few_elements) in
          subst (λ (q : Operand). Stands w β loops (string t) q)
          (sym (ap operand (string_byte k t o (omega arith) e) ∙ element_byte (get_or codes (number t) 0) s)) (Lowered.found n h)
      go (missing n h) =
          let s : get_or codes (number t) 0 < 256 = omega arith in
          subst (λ (b : ℕ). Stands w β loops (string t) (operand b)) (sym (string_byte k t o s e ∙ h)) (Lowered.missing n)
  leaf_stands k anything o e = subst (λ (b : ℕ). Stands w β loops anything (operand b)) (sym (any_byte k e)) Lowered.any

  -- whether a term may stand for an element
  leaf_may : (k : ℕ) (p : Term) → ScopedTerm w ts loops In p → get_or words k 0 ≡ leaf TERM p → may_stand (at codes) (elements w) (get_or words k 0) ≡ some_of (λ a. true) (choices w nowhere p)
  unfolding may_stand choices some_of
  leaf_may k (name t) o e = rw (e, kind_word TERM (number t) 0 0 (omega arith)) refl
  leaf_may k (string t) o e =
      rw (e, kind_word (STRING + TERM) (number t) 0 0 (omega arith), p_word (STRING + TERM) (number t) 0 0 (omega arith) (omega (arith, o.inside, G.few_tokens))) (go (G.strings t o))
    where
      go : Element w ts loops In t (get_or codes (number t) 0) → not (eqb (get_or codes (number t) 0) 255) ≡ some_of (λ a. true) (choices w nowhere (string t))
      go (found n h) = rw (n, ne_eqb (get_or codes (number t) 0) 255 (λ z. omega (arith, h, G.few_elements))) refl
      go (missing n h) = rw (n, h) refl
  leaf_may k anything o e = rw e (some_element (elements w))

  pub terms_may : (ps : List Term) (k : ℕ) → ScopedTerms w ts loops In ps → Has words k (leaves TERM ps)
      → all_stand (at words) (at codes) (elements w) (length ps) k ≡ all_of (λ p. some_of (λ a. true) (choices w nowhere p)) ps
  unfolding all_stand all_of leaves Has ScopedTerms
  terms_may [] k o h = refl
  terms_may (p ∷ ps) k o h = rw (leaf_may k p o.0 h.0, terms_may ps (k + 1) o.1 h.1) (both (some_of (λ a. true) (choices w nowhere p)) _)

  -- the operands of an atom whose terms stand from k on
  abbrev tail : ℕ → ℕ → ℕ
  tail k m = byte (k + 1) + (byte (k + 2) + (byte (k + 3) + m * 256) * 256) * 256

  four : (k m : ℕ) → operands_at (at words) (at codes) k + m * 4294967296 ≡ byte k + tail k m * 256
  unfolding operands_at
  four k m = omega arith

  small : (k : ℕ) → byte k < 256
  small k = term_small (at words) (at codes) (at codes) (at codes) 0 (get_or words k 0)

  pub terms_stand : (ps : List Term) (k m : ℕ) → length ps < 5 → ScopedTerms w ts loops In ps → Has words k (leaves TERM ps)
      → Stand w β loops ps (operands (length ps) (operands_at (at words) (at codes) k + m * 4294967296))
  unfolding operands leaves Has ScopedTerms
  terms_stand [] k m h o i = Lowered.none
  terms_stand (p ∷ []) k m h o i = rw (four k m, byte_first (byte k) (tail k m) (small k)) (Lowered.more (leaf_stands k p o.0 i.0) Lowered.none)
  terms_stand (p ∷ q ∷ []) k m h o i =
      rw (four k m, byte_first (byte k) (tail k m) (small k), byte_rest (byte k) (tail k m) (small k), byte_first (byte (k + 1)) (byte (k + 2) + (byte (k + 3) + m * 256) * 256) (small (k + 1)))
      (Lowered.more (leaf_stands k p o.0 i.0) (Lowered.more (leaf_stands (k + 1) q o.1.0 i.1.0) Lowered.none))
  terms_stand (p ∷ q ∷ r ∷ []) k m h o i =
      let two : k + 1 + 1 ≡ k + 2 = omega arith in
      rw (
        four k m,
        byte_first (byte k) (tail k m) (small k),
        byte_rest (byte k) (tail k m) (small k),
        byte_first (byte (k + 1)) (byte (k + 2) + (byte (k + 3) + m * 256) * 256) (small (k + 1)),
        byte_rest (byte (k + 1)) (byte (k + 2) + (byte (k + 3) + m * 256) * 256) (small (k + 1)),
        byte_first (byte (k + 2)) (byte (k + 3) + m * 256) (small (k + 2)),
      )
      (Lowered.more (leaf_stands k p o.0 i.0) (Lowered.more (leaf_stands (k + 1) q o.1.0 i.1.0) (Lowered.more (leaf_stands (k + 2) r o.1.1.0 (rw two at i.1.1.0)) Lowered.none)))
  terms_stand (p ∷ q ∷ r ∷ s ∷ []) k m h o i =
      let two : k + 1 + 1 ≡ k + 2 = omega arith in
      let three : k + 1 + 1 + 1 ≡ k + 3 = omega arith in
      rw (
        four k m,
        byte_first (byte k) (tail k m) (small k),
        byte_rest (byte k) (tail k m) (small k),
        byte_first (byte (k + 1)) (byte (k + 2) + (byte (k + 3) + m * 256) * 256) (small (k + 1)),
        byte_rest (byte (k + 1)) (byte (k + 2) + (byte (k + 3) + m * 256) * 256) (small (k + 1)),
        byte_first (byte (k + 2)) (byte (k + 3) + m * 256) (small (k + 2)),
        byte_rest (byte (k + 2)) (byte (k + 3) + m * 256) (small (k + 2)),
        byte_first (byte (k + 3)) m (small (k + 3)),
      )
      (Lowered.more (leaf_stands k p o.0 i.0)
      (Lowered.more (leaf_stands (k + 1) q o.1.0 i.1.0) (Lowered.more (leaf_stands (k + 2) r o.1.1.0 (rw two at i.1.1.0)) (Lowered.more (leaf_stands (k + 3) s o.1.1.1.0 (rw three at i.1.1.1.0)) Lowered.none))))
  terms_stand (p ∷ q ∷ r ∷ s ∷ t ∷ ps) k m h o i = absurd (omega arith)
