-- What the kind of a token says of what the grammar sees from there on.
use Rattle.std.specs.Prelude.{Ok, Err}
use Rattle.std.specs.Prelude.{if◌then◌else◌}
use mathlib.Core.List.{List, [], ◌∷◌, map}
use mathlib.Core.Bool.{Bool, true, false}
use mathlib.Core.Path.{◌≡◌, refl, ap, sym, ◌∙◌}
use native.Mathlib.Omega.{arith}
use Prim.Native.Nat.{ℕ, zero, suc, ◌+◌, ◌≤◌, ◌<◌}
use lib.Dec.{eqb, ltb}
use lib.ListN.{length, drop, get_or}
use borrow.Author.Tests.{ne_eqb, lt-ltb, le-ltb, ltb-true, ltb-false, eqb-true, eqb-false}
use Rattle.definition.proofs.GrammarReads.{Next, nothing, a_name, a_string, a_number, a_sign, a_key, next}
use Rattle.definition.proofs.GrammarExpressions.{begins_quantity, not_quantity}
use Rattle.definition.specs.Token as Token
use Rattle.definition.specs.Token.{Sign, equal, unequal, less, at_most, greater, at_least, Terminal, name, string, sign, key, Token, terminals, token_at}
use Rattle.terms.specs.declared.ParseError.TheVariants.{NoProgram}
use Rattle.terms.specs.Phrases.{Answer, kind_in, seen, closed, Holds}
use Rattle.terms.specs.Terms.{FirstOfQuantity, a_count, a_literal, a_large_literal, NoQuantity}
use Rattle.words.specs.Raw.{number, sign_number}
use Rattle.lexer.specs.Tokens.{terminal_of, terminals_of, sign_of, kind_of, at_of}

pub kind_past : (ws : List ℕ) (p : ℕ) → length ws ≤ p → kind_in ws p ≡ 64
unfolding kind_in
kind_past [] p h = refl
kind_past (w ∷ ws) zero h = absurd (omega arith)
kind_past (w ∷ ws) (suc p) h = kind_past ws p (omega arith)

pub kind_here : (ws : List ℕ) (p : ℕ) → p < length ws → kind_in ws p ≡ kind_of (get_or ws p 0)
unfolding kind_in
kind_here [] p h = absurd (omega arith)
kind_here (w ∷ ws) zero h = refl
kind_here (w ∷ ws) (suc p) h = kind_here ws p (omega arith)

-- a kind that is one of a token
pub kind_within : (ws : List ℕ) (p : ℕ) → kind_in ws p < 64 → p < length ws
unfolding kind_in
kind_within [] p h = absurd (omega arith)
kind_within (w ∷ ws) zero h = omega arith
kind_within (w ∷ ws) (suc p) h = let i = kind_within ws p h in omega arith

kind_small : (ws : List ℕ) (p : ℕ) → p < length ws → kind_in ws p < 64
kind_small ws p h = omega (arith, kind_here ws p h)

-- the terminals of the kinds
pub key_terminal : (k i : ℕ) → k < 41 → terminal_of k i ≡ key k
unfolding terminal_of
key_terminal k i h = simp (lt-ltb k 41 h)

pub name_terminal : (i : ℕ) → terminal_of 47 i ≡ name i
unfolding terminal_of
name_terminal i = refl

pub string_terminal : (i : ℕ) → terminal_of 48 i ≡ string i
unfolding terminal_of
string_terminal i = refl

pub number_terminal : (i : ℕ) → terminal_of 53 i ≡ Token.number false i
unfolding terminal_of
number_terminal i = refl

pub large_terminal : (i : ℕ) → terminal_of 54 i ≡ Token.number true i
unfolding terminal_of
large_terminal i = refl

-- the keys behind the strings
pub mark_terminal : (k i : ℕ) → 48 < k → (k ≡ 53 → ⊥) → (k ≡ 54 → ⊥) → terminal_of k i ≡ key k
unfolding terminal_of
mark_terminal k i h a b = simp (le-ltb k 41 (omega arith), ne_eqb k 47 (λ e. omega arith), ne_eqb k 48 (λ e. omega arith), ne_eqb k 53 a, ne_eqb k 54 b, lt-ltb 48 k h)

pub sign_terminal : (k i : ℕ) → 41 ≤ k → k ≤ 46 → terminal_of k i ≡ sign (sign_of k)
unfolding terminal_of
sign_terminal k i h a = simp (le-ltb k 41 h, ne_eqb k 47 (λ e. omega arith), ne_eqb k 48 (λ e. omega arith), ne_eqb k 53 (λ e. omega arith), ne_eqb k 54 (λ e. omega arith), le-ltb 48 k (omega arith))

first_from : (ws : List ℕ) (p i : ℕ) → p < length ws → drop p (terminals_of i ws) ≡ terminal_of (kind_in ws p) (p + i) ∷ drop (suc p) (terminals_of i ws)
unfolding kind_in terminals_of
first_from [] p i h = absurd (omega arith)
first_from (w ∷ ws) zero i h = let e : i ≡ 0 + i = omega arith in ap (λ j. terminal_of (kind_of w) j ∷ terminals_of (suc i) ws) e
first_from (w ∷ ws) (suc p) i h = let e : p + suc i ≡ suc p + i = omega arith in first_from ws p (suc i) (omega arith) ∙ ap (λ j. terminal_of (kind_in ws p) j ∷ drop (suc p) (terminals_of (suc i) ws)) e

-- the token at p stands first of what is seen from p on
pub first : (ws : List ℕ) (p : ℕ) → p < length ws → drop p (seen ws) ≡ terminal_of (kind_in ws p) p ∷ drop (p + 1) (seen ws)
first ws p h = let e : suc p ≡ p + 1 = omega arith in let f : p + 0 ≡ p = omega arith in first_from ws p 0 h ∙ ap (λ i. terminal_of (kind_in ws p) i ∷ drop (suc p) (seen ws)) f ∙ ap (λ j. terminal_of (kind_in ws p) p ∷ drop j (seen ws)) e

module _ (ws : List ℕ) (p : ℕ) where
  at_kind : (k : ℕ) → kind_in ws p ≡ k → k < 64 → drop p (seen ws) ≡ terminal_of k p ∷ drop (p + 1) (seen ws)
  at_kind k e h = first ws p (kind_within ws p (omega arith)) ∙ ap (λ j. terminal_of j p ∷ drop (p + 1) (seen ws)) e

  pub key_first : {k : ℕ} → kind_in ws p ≡ k → k < 41 → drop p (seen ws) ≡ key k ∷ drop (p + 1) (seen ws)
  key_first {k} e h = at_kind k e (omega arith) ∙ ap (λ t. t ∷ drop (p + 1) (seen ws)) (key_terminal k p h)

  -- the same, where what follows is named otherwise
  pub key_then : {k : ℕ} (r : ℕ) → p + 1 ≡ r → kind_in ws p ≡ k → k < 41 → drop p (seen ws) ≡ key k ∷ drop r (seen ws)
  key_then {k} r i e h = key_first e h ∙ ap (λ j. key k ∷ drop j (seen ws)) i

  pub name_first : kind_in ws p ≡ 47 → drop p (seen ws) ≡ name p ∷ drop (p + 1) (seen ws)
  name_first e = at_kind 47 e (omega arith) ∙ ap (λ t. t ∷ drop (p + 1) (seen ws)) (name_terminal p)

  pub name_then : (r : ℕ) → p + 1 ≡ r → kind_in ws p ≡ 47 → drop p (seen ws) ≡ name p ∷ drop r (seen ws)
  name_then r i e = name_first e ∙ ap (λ j. name p ∷ drop j (seen ws)) i

  pub string_first : kind_in ws p ≡ 48 → drop p (seen ws) ≡ string p ∷ drop (p + 1) (seen ws)
  string_first e = at_kind 48 e (omega arith) ∙ ap (λ t. t ∷ drop (p + 1) (seen ws)) (string_terminal p)

  pub string_then : (r : ℕ) → p + 1 ≡ r → kind_in ws p ≡ 48 → drop p (seen ws) ≡ string p ∷ drop r (seen ws)
  string_then r i e = string_first e ∙ ap (λ j. string p ∷ drop j (seen ws)) i

  pub mark_first : {k : ℕ} → kind_in ws p ≡ k → 48 < k → k < 53 → drop p (seen ws) ≡ key k ∷ drop (p + 1) (seen ws)
  mark_first {k} e h i = at_kind k e (omega arith) ∙ ap (λ t. t ∷ drop (p + 1) (seen ws)) (mark_terminal k p h (λ j. omega arith) (λ j. omega arith))

  pub number_first : kind_in ws p ≡ 53 → drop p (seen ws) ≡ Token.number false p ∷ drop (p + 1) (seen ws)
  number_first e = at_kind 53 e (omega arith) ∙ ap (λ t. t ∷ drop (p + 1) (seen ws)) (number_terminal p)

  pub large_first : kind_in ws p ≡ 54 → drop p (seen ws) ≡ Token.number true p ∷ drop (p + 1) (seen ws)
  large_first e = at_kind 54 e (omega arith) ∙ ap (λ t. t ∷ drop (p + 1) (seen ws)) (large_terminal p)

  pub sign_first : 41 ≤ kind_in ws p → kind_in ws p ≤ 46 → drop p (seen ws) ≡ sign (sign_of (kind_in ws p)) ∷ drop (p + 1) (seen ws)
  sign_first h i = at_kind (kind_in ws p) refl (omega arith) ∙ ap (λ t. t ∷ drop (p + 1) (seen ws)) (sign_terminal (kind_in ws p) p h i)

-- the number of a sign among the six
pub sign_code : (k : ℕ) → 41 ≤ k → k ≤ 46 → sign_number (sign_of k) + 41 ≡ k
unfolding sign_of
sign_code k h i = by (eqb k 41) refl (eqb k 42) refl (eqb k 43) refl (eqb k 44) refl (eqb k 45) refl
  where
    by : (a : Bool) → eqb k 41 ≡ a → (b : Bool) → eqb k 42 ≡ b → (c : Bool) → eqb k 43 ≡ c → (d : Bool) → eqb k 44 ≡ d → (e : Bool) → eqb k 45 ≡ e
        → sign_number (if a then equal else if b then unequal else if c then less else if d then at_most else if e then greater else at_least) + 41 ≡ k
    by true x b y c z d u e v = sym (eqb-true k 41 x)
    by false x true y c z d u e v = sym (eqb-true k 42 y)
    by false x false y true z d u e v = sym (eqb-true k 43 z)
    by false x false y false z true u e v = sym (eqb-true k 44 u)
    by false x false y false z false u true v = sym (eqb-true k 45 v)
    by false x false y false z false u false v =
        let x' = eqb-false k 41 x in let y' = eqb-false k 42 y in let z' = eqb-false k 43 z in let u' = eqb-false k 44 u in let v' = eqb-false k 45 v in omega arith

pub sign_small : (g : Sign) → sign_number g ≤ 5
sign_small equal = omega arith
sign_small unequal = omega arith
sign_small less = omega arith
sign_small at_most = omega arith
sign_small greater = omega arith
sign_small at_least = omega arith

-- the kind of what stands next
abbrev code : Next → ℕ
code nothing = 64
code a_name = 47
code a_string = 48
code (a_number false) = 53
code (a_number true) = 54
code (a_sign g) = sign_number g + 41
code (a_key k) = k

code_of : (k i : ℕ) (l : List Terminal) → code (next (terminal_of k i ∷ l)) ≡ k
code_of k i l = at (ltb k 41) refl (eqb k 47) refl (eqb k 48) refl (eqb k 53) refl (eqb k 54) refl (ltb 48 k) refl
  where
    is : {t : Terminal} → terminal_of k i ≡ t → code (next (terminal_of k i ∷ l)) ≡ code (next (t ∷ l))
    is e = ap (λ t. code (next (t ∷ l))) e

    at : (a : Bool) → ltb k 41 ≡ a → (b : Bool) → eqb k 47 ≡ b → (c : Bool) → eqb k 48 ≡ c → (d : Bool) → eqb k 53 ≡ d → (e : Bool) → eqb k 54 ≡ e → (f : Bool) → ltb 48 k ≡ f → code (next (terminal_of k i ∷ l)) ≡ k
    at true x b y c z d u e v f w = is (key_terminal k i (ltb-true k 41 x))
    at false x true y c z d u e v f w = let h = eqb-true k 47 y in is (ap (λ j. terminal_of j i) h ∙ name_terminal i) ∙ sym h
    at false x false y true z d u e v f w = let h = eqb-true k 48 z in is (ap (λ j. terminal_of j i) h ∙ string_terminal i) ∙ sym h
    at false x false y false z true u e v f w = let h = eqb-true k 53 u in is (ap (λ j. terminal_of j i) h ∙ number_terminal i) ∙ sym h
    at false x false y false z false u true v f w = let h = eqb-true k 54 v in is (ap (λ j. terminal_of j i) h ∙ large_terminal i) ∙ sym h
    at false x false y false z false u false v true w = is (mark_terminal k i (ltb-true 48 k w) (eqb-false k 53 u) (eqb-false k 54 v))
    at false x false y false z false u false v false w =
        let g = ltb-false k 41 x in let m = eqb-false k 47 y in let n = eqb-false k 48 z in let o = ltb-false 48 k w in
        let h : k ≤ 46 = omega arith in
        is (sign_terminal k i g h) ∙ sign_code k g h

drop_past : (ws : List ℕ) (p i : ℕ) → length ws ≤ p → drop p (terminals_of i ws) ≡ []
unfolding terminals_of
drop_past [] zero i h = refl
drop_past [] (suc p) i h = refl
drop_past (w ∷ ws) zero i h = absurd (omega arith)
drop_past (w ∷ ws) (suc p) i h = drop_past ws p (suc i) (omega arith)

pub next_kind : (ws : List ℕ) (p : ℕ) → code (next (drop p (seen ws))) ≡ kind_in ws p
next_kind ws p = at (ltb p (length ws)) refl
  where
    at : (b : Bool) → ltb p (length ws) ≡ b → code (next (drop p (seen ws))) ≡ kind_in ws p
    at true e = let h = ltb-true p (length ws) e in ap (λ l. code (next l)) (first ws p h) ∙ code_of (kind_in ws p) p (drop (p + 1) (seen ws))
    at false e = let h = ltb-false p (length ws) e in ap (λ l. code (next l)) (drop_past ws p 0 h) ∙ sym (kind_past ws p h)

module _ (ws : List ℕ) (p : ℕ) where
  pub not_key : {k : ℕ} → (kind_in ws p ≡ k → ⊥) → next (drop p (seen ws)) ≡ a_key k → ⊥
  not_key h e = h (sym (next_kind ws p) ∙ ap code e)

  pub not_name : (kind_in ws p ≡ 47 → ⊥) → next (drop p (seen ws)) ≡ a_name → ⊥
  not_name h e = h (sym (next_kind ws p) ∙ ap code e)

  pub not_string : (kind_in ws p ≡ 48 → ⊥) → next (drop p (seen ws)) ≡ a_string → ⊥
  not_string h e = h (sym (next_kind ws p) ∙ ap code e)

  pub not_sign : (41 ≤ kind_in ws p → kind_in ws p ≤ 46 → ⊥) → (g : Sign) → next (drop p (seen ws)) ≡ a_sign g → ⊥
  not_sign h g e = let i : kind_in ws p ≡ sign_number g + 41 = sym (next_kind ws p) ∙ ap code e in h (omega (arith, sign_small g)) (omega (arith, sign_small g))

  not_number : (kind_in ws p ≡ 53 → ⊥) → (kind_in ws p ≡ 54 → ⊥) → (o : Bool) → next (drop p (seen ws)) ≡ a_number o → ⊥
  not_number h i false e = h (sym (next_kind ws p) ∙ ap code e)
  not_number h i true e = i (sym (next_kind ws p) ∙ ap code e)

  -- what begins a quantity, and what does not
  pub begins_one : FirstOfQuantity (kind_in ws p) → begins_quantity (next (drop p (seen ws))) ≡ true
  begins_one (a_count e) = ap (λ l. begins_quantity (next l)) (mark_first ws p e (omega arith) (omega arith))
  begins_one (a_literal e) = ap (λ l. begins_quantity (next l)) (number_first ws p e)
  begins_one (a_large_literal e) = ap (λ l. begins_quantity (next l)) (large_first ws p e)

  pub begins_none : NoQuantity (kind_in ws p) → begins_quantity (next (drop p (seen ws))) ≡ false
  begins_none h = not_quantity (next (drop p (seen ws))) (not_number h.no_literal h.no_large_literal) (not_key h.no_count)

-- the closing token is there or it is not
pub closed_cases : (P : Answer → Type 0) (ws : List ℕ) (k q m : ℕ) → (kind_in ws q ≡ k → P (Ok (q + 1, m))) → ((kind_in ws q ≡ k → ⊥) → P (Err (NoProgram q))) → P (closed ws k (Ok (q, m)))
closed_cases P ws k q m there absent = at (eqb (kind_in ws q) k) refl
  where
    at : (b : Bool) → eqb (kind_in ws q) k ≡ b → P (if b then (Ok (q + 1, m)) else (Err (NoProgram q)))
    at true e = there (eqb-true (kind_in ws q) k e)
    at false e = absent (eqb-false (kind_in ws q) k e)

-- the tokens that the words hold
terminal_at : (ts : List Token) (p : ℕ) (t : Terminal) (l : List Terminal) → drop p (terminals ts) ≡ t ∷ l → (token_at ts p).terminal ≡ t
terminal_at [] zero t l e = absurd (let z : ◌≡◌ {A = ℕ} 0 1 = cc in omega arith)
terminal_at [] (suc p) t l e = absurd (let z : ◌≡◌ {A = ℕ} 0 1 = cc in omega arith)
terminal_at (u ∷ ts) zero t l e = cc
terminal_at (u ∷ ts) (suc p) t l e = terminal_at ts p t l e

module _ {ws : List ℕ} {ts : List Token} (h : Holds ws ts) (p : ℕ) where
  pub name_number : kind_in ws p ≡ 47 → number (token_at ts p) ≡ p
  name_number e = simp (terminal_at ts p (name p) _ (ap (drop p) h.same ∙ name_first ws p e))

  pub string_number : kind_in ws p ≡ 48 → number (token_at ts p) ≡ p
  string_number e = simp (terminal_at ts p (string p) _ (ap (drop p) h.same ∙ string_first ws p e))

  pub literal_number : kind_in ws p ≡ 53 → number (token_at ts p) ≡ p
  literal_number e = simp (terminal_at ts p (Token.number false p) _ (ap (drop p) h.same ∙ number_first ws p e))

  pub place_of : p < length ws → (token_at ts p).at ≡ at_of (get_or ws p 0)
  place_of l = by ts ws p l h.places
    where
      by : (ts : List Token) (ws : List ℕ) (p : ℕ) → p < length ws → map (λ t. t.at) ts ≡ map at_of ws → (token_at ts p).at ≡ at_of (get_or ws p 0)
      by ts [] p l e = absurd (omega arith)
      by [] (w ∷ ws) p l e = absurd (let z : ◌≡◌ {A = ℕ} 0 1 = cc in omega arith)
      by (t ∷ ts) (w ∷ ws) zero l e = cc
      by (t ∷ ts) (w ∷ ws) (suc p) l e = by ts ws p (omega arith) (cc)
