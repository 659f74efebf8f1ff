-- A term at a token: its word, and what the grammar reads there.
use mathlib.Core.Bool.{Bool, true, false}
use mathlib.Core.List.{List, [], ◌∷◌, ◌++◌}
use mathlib.Core.Path.{◌≡◌, refl, ap, sym, ◌∙◌}
use native.Mathlib.Omega.{arith}
use Prim.Native.Nat.{ℕ, ◌+◌, ◌≤◌, ◌<◌}
use lib.Dec.{eqb, ltb}
use lib.ListN.{length, drop}
use borrow.Author.Tests.{eq-eqb, ne_eqb, ltb-true, ltb-false, eqb-true, eqb-false}
use Rattle.definition.proofs.GrammarReads.{Reads, read!, done!, next}
use Rattle.definition.proofs.GrammarExpressions.{term_name_rule, term_string_rule, term_any_rule, begins_term, not_term}
use Rattle.definition.specs.Grammar.{Tree, Term, term_name, term_string, term_any, flat}
use Rattle.definition.specs.Reader.{phrase}
use Rattle.definition.specs.Syntax.{says}
use Rattle.definition.specs.Token.{Token}
use Rattle.terms.proofs.TokenLaws.{kind_past, name_first, string_first, key_first, name_number, string_number, not_name, not_string, not_key}
use Rattle.terms.specs.Phrases.{kind_in, seen, Holds}
use Rattle.terms.specs.Terms.{leaf_of, leaf_in}
use Rattle.words.specs.Fields.{word, TERM}
use Rattle.words.specs.Raw.{leaf}

module _ (t p k : ℕ) where
  pub leaf_name : t ≡ 47 → word k p 0 0 ≡ leaf_of t p k
  unfolding leaf_of
  leaf_name e = simp (eq-eqb t 47 e)

  pub leaf_string : t ≡ 48 → word (40 + k) p 0 0 ≡ leaf_of t p k
  unfolding leaf_of
  leaf_string e = simp (ne_eqb t 47 (λ i. omega arith), eq-eqb t 48 e)

  pub leaf_any : t ≡ 14 → k ≡ 3 → 9 ≡ leaf_of t p k
  unfolding leaf_of
  leaf_any e f = simp (ne_eqb t 47 (λ i. omega arith), ne_eqb t 48 (λ i. omega arith), eq-eqb t 14 e, eq-eqb k 3 f)

  pub leaf_not_any : t ≡ 14 → (k ≡ 3 → ⊥) → 0 ≡ leaf_of t p k
  unfolding leaf_of
  leaf_not_any e f = simp (ne_eqb t 47 (λ i. omega arith), ne_eqb t 48 (λ i. omega arith), eq-eqb t 14 e, ne_eqb k 3 f)

  pub leaf_none : (t ≡ 47 → ⊥) → (t ≡ 48 → ⊥) → (t ≡ 14 → ⊥) → 0 ≡ leaf_of t p k
  unfolding leaf_of
  leaf_none a b c = simp (ne_eqb t 47 a, ne_eqb t 48 b, ne_eqb t 14 c)

-- where there is a term, it is one of three
pub data Leaf (t k : ℕ) : Type 0 where
  a_name_leaf : t ≡ 47 → Leaf t k
  a_string_leaf : t ≡ 48 → Leaf t k
  any_leaf : t ≡ 14 → k ≡ 3 → Leaf t k

pub which_leaf : (t p k : ℕ) → (leaf_of t p k ≡ 0 → ⊥) → Leaf t k
which_leaf t p k h = at (eqb t 47) refl (eqb t 48) refl (eqb t 14) refl (eqb k 3) refl
  where
    at : (a : Bool) → eqb t 47 ≡ a → (b : Bool) → eqb t 48 ≡ b → (c : Bool) → eqb t 14 ≡ c → (d : Bool) → eqb k 3 ≡ d → Leaf t k
    at true x b y c z d u = a_name_leaf (eqb-true t 47 x)
    at false x true y c z d u = a_string_leaf (eqb-true t 48 y)
    at false x false y true z true u = any_leaf (eqb-true t 14 z) (eqb-true k 3 u)
    at false x false y true z false u = absurd (h (sym (leaf_not_any t p k (eqb-true t 14 z) (eqb-false k 3 u))))
    at false x false y false z d u = absurd (h (sym (leaf_none t p k (eqb-false t 47 x) (eqb-false t 48 y) (eqb-false t 14 z))))

pub leaf_positive : (t p k : ℕ) → 0 < k → Leaf t k → leaf_of t p k ≡ 0 → ⊥
leaf_positive t p k h (a_name_leaf e) z = let i = leaf_name t p k e in omega arith
leaf_positive t p k h (a_string_leaf e) z = let i = leaf_string t p k e in omega arith
leaf_positive t p k h (any_leaf e f) z = let i = leaf_any t p k e f in omega arith

pub leaf_within : (ws : List ℕ) (p k : ℕ) → (leaf_in ws p k ≡ 0 → ⊥) → p < length ws
unfolding leaf_of
leaf_within ws p k h = at (ltb p (length ws)) refl
  where
    at : (b : Bool) → ltb p (length ws) ≡ b → p < length ws
    at true e = ltb-true p (length ws) e
    at false e = absurd (h (simp (kind_past ws p (ltb-false p (length ws) e))))

-- a term of an expression
pub record ATerm (ws : List ℕ) (p : ℕ) : Type 0 where
  pub tree : Tree Term
  pub tokens : drop p (seen ws) ≡ flat tree ++ drop (p + 1) (seen ws)
  pub reads : (d : ℕ) → d ≤ 32 → Reads d (phrase Term ∷ []) (drop p (seen ws)) (tree, tt) (drop (p + 1) (seen ws))
  pub said : (ts : List Token) → Holds ws ts → leaf TERM (says ts tree) ≡ leaf_in ws p TERM

said_name : {ws : List ℕ} {ts : List Token} (p k : ℕ) → Holds ws ts → kind_in ws p ≡ 47 → leaf k (says ts (term_name p)) ≡ leaf_in ws p k
unfolding says
said_name {ws} p k i e = ap (λ j. word k j 0 0) (name_number i p e) ∙ leaf_name (kind_in ws p) p k e

said_string : {ws : List ℕ} {ts : List Token} (p k : ℕ) → Holds ws ts → kind_in ws p ≡ 48 → leaf k (says ts (term_string p)) ≡ leaf_in ws p k
unfolding says
said_string {ws} p k i e = ap (λ j. word (40 + k) j 0 0) (string_number i p e) ∙ leaf_string (kind_in ws p) p k e

said_any : (ws : List ℕ) (ts : List Token) (p : ℕ) → kind_in ws p ≡ 14 → leaf TERM (says ts term_any) ≡ leaf_in ws p TERM
unfolding says
said_any ws ts p e = leaf_any (kind_in ws p) p TERM e refl

pub a_term : (ws : List ℕ) (p : ℕ) → (leaf_in ws p TERM ≡ 0 → ⊥) → ATerm ws p
a_term ws p h = at (which_leaf (kind_in ws p) p TERM h)
  where
    at : Leaf (kind_in ws p) TERM → ATerm ws p
    at (a_name_leaf e) = record { tree = term_name p; tokens = name_first ws p e; reads = λ d l. read! term_name_rule l (name_first ws p e) done!; said = λ ts i. said_name p TERM i e }
    at (a_string_leaf e) = record { tree = term_string p; tokens = string_first ws p e; reads = λ d l. read! term_string_rule l (string_first ws p e) done!; said = λ ts i. said_string p TERM i e }
    at (any_leaf e f) = record { tree = term_any; tokens = key_first ws p e (omega arith); reads = λ d l. read! term_any_rule l (key_first ws p e (omega arith)) done!; said = λ ts i. said_any ws ts p e }

-- what begins with it
pub term_begins : (ws : List ℕ) (p : ℕ) → (leaf_in ws p TERM ≡ 0 → ⊥) → begins_term (next (drop p (seen ws))) ≡ true
term_begins ws p h = at (which_leaf (kind_in ws p) p TERM h)
  where
    at : Leaf (kind_in ws p) TERM → begins_term (next (drop p (seen ws))) ≡ true
    at (a_name_leaf e) = ap (λ l. begins_term (next l)) (name_first ws p e)
    at (a_string_leaf e) = ap (λ l. begins_term (next l)) (string_first ws p e)
    at (any_leaf e f) = ap (λ l. begins_term (next l)) (key_first ws p e (omega arith))

-- no term
pub no_term : (ws : List ℕ) (p : ℕ) → leaf_in ws p TERM ≡ 0 → begins_term (next (drop p (seen ws))) ≡ false
no_term ws p h = not_term (next (drop p (seen ws)))
    (not_name ws p (λ e. leaf_positive (kind_in ws p) p TERM (omega arith) (a_name_leaf e) h))
    (not_string ws p (λ e. leaf_positive (kind_in ws p) p TERM (omega arith) (a_string_leaf e) h))
    (not_key ws p (λ e. leaf_positive (kind_in ws p) p TERM (omega arith) (any_leaf e refl) h))
