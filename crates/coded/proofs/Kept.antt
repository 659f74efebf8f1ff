-- The tokens that the words of a statement name, and literals: all others are left out, so that a law over a list of tokens speaks of these
-- alone.
use Prim.Native.Nat.{ℕ, zero, suc, ◌+◌, ◌<◌, ◌≤◌}
use mathlib.Core.Path.{◌≡◌, refl, sym, ap, ◌∙◌}
use mathlib.Core.Bool.{Bool, true, false, cond, ◌&&◌}
use mathlib.Core.List.{List, [], ◌∷◌}
use native.Mathlib.Omega.{arith}
use borrow.Author.Tests.{eq-eqb, eqb-true, eqb-false}
use lib.Dec.{eqb}
use lib.ListN.{length, get_or}
use Rattle.definition.specs.Token as Token
use Rattle.definition.specs.Token.{Terminal, Token, token_at}
use Rattle.words.specs.Fields.{kind_of, p_of}
use Rattle.words.specs.Raw.{number}
use Rattle.words.specs.Tokens.{OwnName, OwnString, OwnLiteral}
use Rattle.coding.specs.Pass.{is_named}

-- a word from s on, before e, names the token t
pub record By (words : List ℕ) (s e t : ℕ) : Type 0 where
  pub place : ℕ
  pub from : s ≤ place
  pub to : place < e
  pub kind : is_named (kind_of (get_or words place 0)) ≡ true
  pub named : p_of (get_or words place 0) ≡ t

unfoldable pub named_by : List ℕ → ℕ → ℕ → ℕ → Bool
named_by words zero s t = false
named_by words (suc n) s t = let r = named_by words n (suc s) t in cond (is_named (kind_of (get_or words s 0)) && eqb (p_of (get_or words s 0)) t) true r

pub by_true : (words : List ℕ) (n s t : ℕ) → named_by words n s t ≡ true → By words s (s + n) t
unfolding named_by
by_true words zero s t e = absurd (let z : ◌≡◌ {A = ℕ} 0 1 = cc in omega arith)
by_true words (suc n) s t e = go (is_named (kind_of (get_or words s 0))) (eqb (p_of (get_or words s 0)) t) refl refl e (by_true words n (suc s) t)
  where
    go : (a b : Bool) → is_named (kind_of (get_or words s 0)) ≡ a → eqb (p_of (get_or words s 0)) t ≡ b → cond (a && b) true (named_by words n (suc s) t) ≡ true
        → (named_by words n (suc s) t ≡ true → By words (suc s) (suc s + n) t) → By words s (s + suc n) t
    go true true f g h more = record { place = s; from = omega arith; to = omega arith; kind = f; named = eqb-true _ t g }
    go true false f g h more = let r = more h in record { place = r.place; from = omega (arith, r.from); to = omega (arith, r.to); kind = r.kind; named = r.named }
    go false b f g h more = let r = more h in record { place = r.place; from = omega (arith, r.from); to = omega (arith, r.to); kind = r.kind; named = r.named }

pub true_by : (words : List ℕ) (n s t : ℕ) → By words s (s + n) t → named_by words n s t ≡ true
unfolding named_by
true_by words zero s t b = absurd (omega (arith, b.from, b.to))
true_by words (suc n) s t b = go (eqb s b.place) refl (λ h. true_by words n (suc s) t (record { place = b.place; from = h; to = omega (arith, b.to); kind = b.kind; named = b.named }))
  where
    rest : (x : Bool) → named_by words n (suc s) t ≡ true → cond x true (named_by words n (suc s) t) ≡ true
    rest true h = refl
    rest false h = h

    go : (x : Bool) → eqb s b.place ≡ x → (suc s ≤ b.place → named_by words n (suc s) t ≡ true)
        → cond (is_named (kind_of (get_or words s 0)) && eqb (p_of (get_or words s 0)) t) true (named_by words n (suc s) t) ≡ true
    go true e more = let z : s ≡ b.place = eqb-true s b.place e in rw (z, b.kind, eq-eqb _ t b.named) refl
    go false e more = let z : s ≡ b.place → ⊥ = eqb-false s b.place e in rest (is_named (kind_of (get_or words s 0)) && eqb (p_of (get_or words s 0)) t) (more (omega (arith, b.from, z)))

abbrev none : Token
none = record { terminal = Token.key 0; text = []; at = 0 }

-- what is left of a token that no word names
abbrev left_of : Terminal → Token → Token
left_of (Token.name i) t = none
left_of (Token.string i) t = none
left_of (Token.number o i) t = t
left_of (Token.sign g) t = none
left_of (Token.key k) t = none

abbrev unnamed : Token → Token
unnamed t = left_of t.terminal t

no_name : (c : Terminal) (t : Token) (i : ℕ) → t.terminal ≡ c → (left_of c t).terminal ≡ Token.name i → ⊥
no_name (Token.name j) t i e f = let z : ◌≡◌ {A = ℕ} 0 1 = cc in omega arith
no_name (Token.string j) t i e f = let z : ◌≡◌ {A = ℕ} 0 1 = cc in omega arith
no_name (Token.number o j) t i e f = let z : ◌≡◌ {A = ℕ} 0 1 = cc in omega arith
no_name (Token.sign g) t i e f = let z : ◌≡◌ {A = ℕ} 0 1 = cc in omega arith
no_name (Token.key k) t i e f = let z : ◌≡◌ {A = ℕ} 0 1 = cc in omega arith

no_string : (c : Terminal) (t : Token) (i : ℕ) → t.terminal ≡ c → (left_of c t).terminal ≡ Token.string i → ⊥
no_string (Token.name j) t i e f = let z : ◌≡◌ {A = ℕ} 0 1 = cc in omega arith
no_string (Token.string j) t i e f = let z : ◌≡◌ {A = ℕ} 0 1 = cc in omega arith
no_string (Token.number o j) t i e f = let z : ◌≡◌ {A = ℕ} 0 1 = cc in omega arith
no_string (Token.sign g) t i e f = let z : ◌≡◌ {A = ℕ} 0 1 = cc in omega arith
no_string (Token.key k) t i e f = let z : ◌≡◌ {A = ℕ} 0 1 = cc in omega arith

-- a literal that is left was one
was_number : (c : Terminal) (t : Token) (o : Bool) (i : ℕ) → (left_of c t).terminal ≡ Token.number o i → left_of c t ≡ t
was_number (Token.name j) t o i f = absurd (let z : ◌≡◌ {A = ℕ} 0 1 = cc in omega arith)
was_number (Token.string j) t o i f = absurd (let z : ◌≡◌ {A = ℕ} 0 1 = cc in omega arith)
was_number (Token.number p j) t o i f = refl
was_number (Token.sign g) t o i f = absurd (let z : ◌≡◌ {A = ℕ} 0 1 = cc in omega arith)
was_number (Token.key k) t o i f = absurd (let z : ◌≡◌ {A = ℕ} 0 1 = cc in omega arith)

-- the tokens of a list whose numbers a test takes, and the literals, each at its place
unfoldable pub kept : (ℕ → Bool) → List Token → List Token
kept b [] = []
kept b (t ∷ ts) = cond (b 0) t (unnamed t) ∷ kept (λ i. b (suc i)) ts

pub kept_length : (b : ℕ → Bool) (ts : List Token) → length (kept b ts) ≡ length ts
unfolding kept
kept_length b [] = refl
kept_length b (t ∷ ts) = ap suc (kept_length (λ i. b (suc i)) ts)

kept_at : (b : ℕ → Bool) (ts : List Token) (i : ℕ) → i < length ts → token_at (kept b ts) i ≡ cond (b i) (token_at ts i) (unnamed (token_at ts i))
unfolding kept
kept_at b [] i h = absurd (omega arith)
kept_at b (t ∷ ts) zero h = refl
kept_at b (t ∷ ts) (suc i) h = kept_at (λ j. b (suc j)) ts i (omega arith)

module _ (b : ℕ → Bool) (ts : List Token) where
  pub keep_name : (t : Token) → OwnName ts t → b (number t) ≡ true → OwnName (kept b ts) t
  keep_name t o e = record {
    found = kept_at b ts (number t) o.inside ∙ rw e o.found;
    inside = rw (kept_length b ts) o.inside;
    is_name = o.is_name;
  }

  pub keep_string : (t : Token) → OwnString ts t → b (number t) ≡ true → OwnString (kept b ts) t
  keep_string t o e = record {
    found = kept_at b ts (number t) o.inside ∙ rw e o.found;
    inside = rw (kept_length b ts) o.inside;
    is_string = o.is_string;
  }

  pub keep_literal : (t : Token) → OwnLiteral ts t → OwnLiteral (kept b ts) t
  keep_literal t o = record {
    found = kept_at b ts (number t) o.inside ∙ go (b (number t));
    inside = rw (kept_length b ts) o.inside;
    over = o.over;
    is_number = o.is_number;
  }
    where
      go : (x : Bool) → cond x (token_at ts (number t)) (unnamed (token_at ts (number t))) ≡ t
      go true = o.found
      go false = ap unnamed o.found ∙ ap (λ (c : Terminal). left_of c t) o.is_number

  module _ (t : Token) (inside : number t < length (kept b ts)) (found : token_at (kept b ts) (number t) ≡ t) where
    within : number t < length ts
    within = rw (kept_length b ts) at inside

    at_place : cond (b (number t)) (token_at ts (number t)) (unnamed (token_at ts (number t))) ≡ t
    at_place = sym (kept_at b ts (number t) within) ∙ found

  pub was_name : (t : Token) → OwnName (kept b ts) t → OwnName ts t × (b (number t) ≡ true)
  was_name t o = go (b (number t)) (at_place t o.inside o.found)
    where
      go : (x : Bool) → cond x (token_at ts (number t)) (unnamed (token_at ts (number t))) ≡ t → OwnName ts t × (x ≡ true)
      go true f = (record { found = f; inside = within t o.inside o.found; is_name = o.is_name }, refl)
      go false f = absurd (no_name (token_at ts (number t)).terminal (token_at ts (number t)) (number t) refl (ap (λ (u : Token). u.terminal) f ∙ o.is_name))

  pub was_string : (t : Token) → OwnString (kept b ts) t → OwnString ts t × (b (number t) ≡ true)
  was_string t o = go (b (number t)) (at_place t o.inside o.found)
    where
      go : (x : Bool) → cond x (token_at ts (number t)) (unnamed (token_at ts (number t))) ≡ t → OwnString ts t × (x ≡ true)
      go true f = (record { found = f; inside = within t o.inside o.found; is_string = o.is_string }, refl)
      go false f = absurd (no_string (token_at ts (number t)).terminal (token_at ts (number t)) (number t) refl (ap (λ (u : Token). u.terminal) f ∙ o.is_string))

  pub was_literal : (t : Token) → OwnLiteral (kept b ts) t → OwnLiteral ts t
  was_literal t o = record { found = go (b (number t)) (at_place t o.inside o.found); inside = within t o.inside o.found; over = o.over; is_number = o.is_number }
    where
      go : (x : Bool) → cond x (token_at ts (number t)) (unnamed (token_at ts (number t))) ≡ t → token_at ts (number t) ≡ t
      go true f = f
      go false f = sym (was_number (token_at ts (number t)).terminal (token_at ts (number t)) o.over (number t) (ap (λ (u : Token). u.terminal) f ∙ o.is_number)) ∙ f
