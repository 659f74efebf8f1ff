-- The columns of a lowered assignment stand for its left-hand terms.
use Prim.Native.Nat.{ℕ, ◌+◌, ◌-◌, ◌%◌, ◌<◌}
use mathlib.Core.Path.{◌≡◌, sym, subst}
use mathlib.Core.Bool.{Bool}
use mathlib.Core.List.{List, [], ◌∷◌}
use native.Mathlib.Omega.{arith}
use lib.ListN.{length, get_or, take}
use Rattle.definition.specs.Text.{Text}
use Rattle.definition.specs.Token.{Token}
use Rattle.definition.specs.Syntax.{Term, name, string, anything}
use Rattle.definition.specs.Accept.{Accepted}
use Rattle.words.specs.Fields.{word, ATTRIBUTE, STRING}
use Rattle.words.specs.Raw.{number, leaf, leaves}
use Rattle.words.specs.Tokens.{OwnString}
use Rattle.words.proofs.FieldLaws.{kind_word, p_word}
use Rattle.words.specs.Standing.{Has}
use Rattle.columns.proofs.Assigned.{Coded, by_name, by_string, AllCoded}
use Rattle.columns.proofs.Assigned as Assigned
use Rattle.lowering.specs.Lowering.{at, term_byte}
use Rattle.lowering.specs.Agreement.{ScopedLeft, ScopedLefts, Element, found, missing, Agrees}
use Rattle.lowering.proofs.Terms.{attribute_byte}

module _ (w : Accepted) (ts : List Token) (loops : List Text) (In : Text → Bool) (β : Text → ℕ) (Clear : ℕ → Type 0) (words codes fr : List ℕ) (lo hi : ℕ)
    (G : Agrees w ts loops In β Clear words codes fr lo hi) where
  abbrev byte : ℕ → ℕ
  byte k = term_byte (at codes) (get_or words k 0)

  abbrev pub slot : Text → ℕ
  slot x = β x - 64

  string_byte : (k : ℕ) (t : Token) → OwnString ts t → get_or codes (number t) 0 < 256 → get_or words k 0 ≡ word (STRING + ATTRIBUTE) (number t) 0 0 → byte k ≡ get_or codes (number t) 0
  unfolding term_byte
  string_byte k t o h e =
      let m : get_or codes (number t) 0 % 256 ≡ get_or codes (number t) 0 = omega arith in
      rw (e, kind_word (STRING + ATTRIBUTE) (number t) 0 0 (omega arith), p_word (STRING + ATTRIBUTE) (number t) 0 0 (omega arith) (omega (arith, o.inside, G.few_tokens))) m

  coded : (k : ℕ) (p : Term) → ScopedLeft w ts loops In p → get_or words k 0 ≡ leaf ATTRIBUTE p → Coded w In slot p (byte k)
  coded k (name t) o e =
      let g = G.slots t.text o.1 in
      let m : (β t.text - 64) % 8 ≡ β t.text - 64 = omega (arith, g.0, g.1) in
      subst (λ (b : ℕ). Coded w In slot (name t) b) (sym (attribute_byte w ts loops In β Clear words codes fr lo hi G k ATTRIBUTE t (omega arith) (λ z. omega arith) o.0 o.1 e)) (by_name o.1 g.0 m)
  coded k (string t) o e = go (G.strings t o.0)
    where
      go : Element w ts loops In t (get_or codes (number t) 0) → Coded w In slot (string t) (byte k)
      go (found n h) =
          let s : get_or codes (number t) 0 < 64 = omega (arith, h, G.few_elements) in
          subst (λ (b : ℕ). Coded w In slot (string t) b) (sym (string_byte k t o.0 (omega arith) e)) (by_string s n)
      go (missing n h) = absurd (o.1 n)
  coded k anything o e = absurd o

  pub left_coded : (ps : List Term) (k : ℕ) → length ps < 5 → ScopedLefts w ts loops In ps → Has words k (leaves ATTRIBUTE ps)
      → AllCoded w In slot ps (take (length ps) (byte k ∷ byte (k + 1) ∷ byte (k + 2) ∷ byte (k + 3) ∷ []))
  unfolding leaves Has ScopedLefts
  left_coded [] k h o i = Assigned.none
  left_coded (p ∷ []) k h o i = Assigned.more (coded k p o.0 i.0) Assigned.none
  left_coded (p ∷ q ∷ []) k h o i = Assigned.more (coded k p o.0 i.0) (Assigned.more (coded (k + 1) q o.1.0 i.1.0) Assigned.none)
  left_coded (p ∷ q ∷ r ∷ []) k h o i =
      let two : k + 1 + 1 ≡ k + 2 = omega arith in
      Assigned.more (coded k p o.0 i.0) (Assigned.more (coded (k + 1) q o.1.0 i.1.0) (Assigned.more (coded (k + 2) r o.1.1.0 (rw two at i.1.1.0)) Assigned.none))
  left_coded (p ∷ q ∷ r ∷ s ∷ []) k h o i =
      let two : k + 1 + 1 ≡ k + 2 = omega arith in
      let three : k + 1 + 1 + 1 ≡ k + 3 = omega arith in
      Assigned.more (coded k p o.0 i.0)
      (Assigned.more (coded (k + 1) q o.1.0 i.1.0) (Assigned.more (coded (k + 2) r o.1.1.0 (rw two at i.1.1.0)) (Assigned.more (coded (k + 3) s o.1.1.1.0 (rw three at i.1.1.1.0)) Assigned.none)))
  left_coded (p ∷ q ∷ r ∷ s ∷ t ∷ ps) k h o i = absurd (omega arith)
