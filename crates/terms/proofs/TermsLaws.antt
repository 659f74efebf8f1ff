-- The terms of an atom in brackets, as the grammar reads them.
use mathlib.Core.List.{List, [], ◌∷◌}
use mathlib.Core.Path.{◌≡◌, refl, ap, sym, ◌∙◌}
use native.Mathlib.Omega.{arith}
use Prim.Native.Nat.{ℕ, ◌+◌, ◌≤◌}
use lib.ListN.{drop}
use Rattle.definition.proofs.GrammarReads.{Reads, Fails, read!, fail!, as!, as_fails!, ◌▸◌, ◌▹◌, stop!, done!, token!, no_token! }
use Rattle.definition.proofs.GrammarExpressions.{no_term!, terms_rule, no_terms!, more_terms_rule, end_terms! }
use Rattle.definition.specs.Grammar.{Tree, Term, Terms, MoreTerms, terms, no_terms, end_terms, more_terms}
use Rattle.definition.specs.Reader.{phrase, fixed}
use Rattle.definition.specs.Syntax.{says}
use Rattle.definition.specs.Token.{Token, key, RPAREN}
use Rattle.terms.proofs.LeafLaws.{a_term, leaf_none, term_begins, no_term}
use Rattle.terms.proofs.TokenLaws.{key_then, not_key}
use Rattle.terms.specs.Phrases.{kind_in, seen, Holds}
use Rattle.terms.specs.Terms.{leaf_in, Items, last_item, more_items, Broken, no_item, no_comma, later, Brackets, no_items, items}
use Rattle.words.specs.Fields.{TERM}
use Rattle.words.specs.Raw.{leaf, leaves}

-- a term and those after it, up to the bracket at s
pub record Several (ws : List ℕ) (p q : ℕ) (xs : List ℕ) : Type 0 where
  pub first : Tree Term
  pub rest : Tree MoreTerms
  pub at : ℕ
  pub reads : (d : ℕ) → d ≤ 32 → Reads d (phrase Term ∷ phrase MoreTerms ∷ []) (drop p (seen ws)) (first, (rest, tt)) (drop at (seen ws))
  pub closed : drop at (seen ws) ≡ key RPAREN ∷ drop q (seen ws)
  pub said : (ts : List Token) → Holds ws ts → leaf TERM (says ts first) ∷ leaves TERM (says ts rest) ≡ xs

-- the laws of what MoreTerms says, for their use in a where block
said_end : (ts : List Token) → leaves TERM (says ts end_terms) ≡ []
unfolding says leaves
said_end ts = refl

said_more : (ts : List Token) (a : Tree Term) (b : Tree MoreTerms) → leaves TERM (says ts (more_terms a b)) ≡ leaf TERM (says ts a) ∷ leaves TERM (says ts b)
unfolding says leaves
said_more ts a b = refl

said_terms : (ts : List Token) (a : Tree Term) (b : Tree MoreTerms) → leaves TERM (says ts (terms a b)) ≡ leaf TERM (says ts a) ∷ leaves TERM (says ts b)
unfolding says leaves
said_terms ts a b = refl

said_none : (ts : List Token) → leaves TERM (says ts no_terms) ≡ []
unfolding says leaves
said_none ts = refl

items_read : {ws : List ℕ} {p q : ℕ} {xs : List ℕ} → Items ws TERM p q xs → Several ws p q xs
items_read {ws} (last_item {p} h e) = let a = a_term ws p h in record {
  first = a.tree;
  rest = end_terms;
  at = p + 1;
  reads = λ d l. a.reads d l ▸ end_terms! (not_key ws (p + 1) (λ i. omega arith)) ▸ done!;
  closed = key_then ws (p + 1) (p + 2) (omega arith) e (omega arith);
  said = λ ts i. ap (λ w. w ∷ leaves TERM (says ts end_terms)) (a.said ts i) ∙ ap (λ l. leaf_in ws p TERM ∷ l) (said_end ts);
}
items_read {ws} (more_items {p} {q} {xs} h e f) = let a = a_term ws p h in let b = items_read f in record {
  first = a.tree;
  rest = more_terms b.first b.rest;
  at = b.at;
  reads = λ d l. a.reads d l ▸ read! more_terms_rule l (key_then ws (p + 1) (p + 2) (omega arith) e (omega arith)) (b.reads d l) ▸ done!;
  closed = b.closed;
  said = λ ts i. ap (λ w. w ∷ leaves TERM (says ts (more_terms b.first b.rest))) (a.said ts i) ∙ ap (λ l. leaf_in ws p TERM ∷ l) (said_more ts b.first b.rest ∙ b.said ts i);
}

-- the terms of an atom and their closing bracket
pub record ReadTerms (ws : List ℕ) (p q : ℕ) (xs : List ℕ) : Type 0 where
  pub tree : Tree Terms
  pub reads : (d : ℕ) → d ≤ 32 → Reads d (phrase Terms ∷ fixed RPAREN ∷ []) (drop p (seen ws)) (tree, (tt, tt)) (drop q (seen ws))
  pub said : (ts : List Token) → Holds ws ts → leaves TERM (says ts tree) ≡ xs

several_begins : {ws : List ℕ} {p q : ℕ} {xs : List ℕ} → Items ws TERM p q xs → leaf_in ws p TERM ≡ 0 → ⊥
several_begins (last_item h e) = h
several_begins (more_items h e f) = h

pub terms_read : {ws : List ℕ} {p q : ℕ} {xs : List ℕ} → Brackets ws TERM p q xs → ReadTerms ws p q xs
terms_read {ws} (no_items {p} e) = record {
  tree = no_terms;
  reads = λ d l. no_terms! (no_term ws p (sym (leaf_none (kind_in ws p) p TERM (λ i. omega arith) (λ i. omega arith) (λ i. omega arith)))) ▸ token! l (key_then ws p (p + 1) refl e (omega arith)) ▸ done!;
  said = λ ts i. said_none ts;
}
terms_read {ws} (items {p} {q} {xs} f) = let b = items_read f in record {
  tree = terms b.first b.rest;
  reads = λ d l. as! (terms_rule (term_begins ws p (several_begins f))) (b.reads d l) ▸ token! l b.closed ▸ done!;
  said = λ ts i. said_terms ts b.first b.rest ∙ b.said ts i;
}

-- where the terms fail: among them, or at the bracket
pub data Stops (ws : List ℕ) (d p r : ℕ) : Type 0 where
  among : Fails d (phrase Term ∷ phrase MoreTerms ∷ []) (drop p (seen ws)) 10 (drop r (seen ws)) → Stops ws d p r
  after : (a : Tree Term) (b : Tree MoreTerms) → Reads d (phrase Term ∷ phrase MoreTerms ∷ []) (drop p (seen ws)) (a, (b, tt)) (drop r (seen ws)) → Fails d (fixed RPAREN ∷ []) (drop r (seen ws)) 10 (drop r (seen ws)) → Stops ws d p r

items_stop : {ws : List ℕ} {p r : ℕ} (d : ℕ) → d ≤ 32 → Broken ws TERM p r → Stops ws d p r
items_stop {ws} d l (no_item {p} h) = among (stop! (no_term! (no_term ws p h)))
items_stop {ws} d l (no_comma {p} h g i) = let a = a_term ws p h in after a.tree end_terms (a.reads d l ▸ end_terms! (not_key ws (p + 1) i) ▸ done!) (no_token! (not_key ws (p + 1) g))
items_stop {ws} d l (later {p} {q} h e f) = at (items_stop d l f)
  where
    at : Stops ws d (p + 2) q → Stops ws d p q
    at (among g) = among ((a_term ws p h).reads d l ▹ stop! (fail! more_terms_rule l (key_then ws (p + 1) (p + 2) (omega arith) e (omega arith)) g))
    at (after a b g i) = after (a_term ws p h).tree (more_terms a b) ((a_term ws p h).reads d l ▸ read! more_terms_rule l (key_then ws (p + 1) (p + 2) (omega arith) e (omega arith)) g ▸ done!) i

stops_fail : (ws : List ℕ) (d p r : ℕ) → (leaf_in ws p TERM ≡ 0 → ⊥) → Stops ws d p r → Fails d (phrase Terms ∷ fixed RPAREN ∷ []) (drop p (seen ws)) 10 (drop r (seen ws))
stops_fail ws d p r h (among g) = stop! (as_fails! (terms_rule (term_begins ws p h)) g)
stops_fail ws d p r h (after a b g i) = as! (terms_rule (term_begins ws p h)) g ▹ stop! i

pub terms_fail : {ws : List ℕ} {p r : ℕ} (d : ℕ) → d ≤ 32 → (kind_in ws p ≡ RPAREN → ⊥) → Broken ws TERM p r → Fails d (phrase Terms ∷ fixed RPAREN ∷ []) (drop p (seen ws)) 10 (drop r (seen ws))
terms_fail {ws} d l u (no_item {p} h) = no_terms! (no_term ws p h) ▹ stop! (no_token! (not_key ws p u))
terms_fail {ws} d l u (no_comma {p} h g i) = stops_fail ws d p (p + 1) h (items_stop d l (no_comma h g i))
terms_fail {ws} d l u (later {p} {q} h e f) = stops_fail ws d p q h (items_stop d l (later h e f))
