-- The terms of a left side in brackets, as the grammar reads them; and the same terms as those of TRUE.
use mathlib.Core.Bool.{true, false}
use mathlib.Core.List.{List, [], ◌∷◌}
use mathlib.Core.Path.{◌≡◌, refl, ap, sym, ◌∙◌}
use native.Mathlib.Omega.{arith}
use Prim.Native.Nat.{ℕ, suc, ◌+◌, ◌≤◌, ◌<◌}
use lib.ListN.{length, drop}
use Rattle.definition.proofs.GrammarReads.{Reads, Fails, read!, fail!, as!, as_fails!, ◌▸◌, ◌▹◌, stop!, done!, no_token!, next}
use Rattle.definition.proofs.GrammarStatements.{left_name_rule, left_string_rule, names_string, not_names_string, no_left!, lefts_rule, no_lefts!, more_lefts_rule, end_lefts! }
use Rattle.definition.specs.Grammar.{Tree, Left, Lefts, MoreLefts, lefts, no_lefts, end_lefts, more_lefts, left_name, left_string}
use Rattle.definition.specs.Reader.{phrase, fixed}
use Rattle.definition.specs.Syntax.{says}
use Rattle.definition.specs.Token.{Token, key, RPAREN}
use Rattle.terms.proofs.LeafLaws.{leaf_name, leaf_string, leaf_none, leaf_positive, Leaf, a_name_leaf, a_string_leaf, any_leaf, which_leaf}
use Rattle.terms.proofs.TokenLaws.{key_then, not_key, name_first, string_first, name_number, string_number, not_name, not_string}
use Rattle.simple.specs.Statements.{terms_in}
use Rattle.terms.specs.Phrases.{kind_in, seen, Holds}
use Rattle.terms.specs.Terms.{leaf_in, Items, last_item, more_items, Broken, no_item, no_comma, later, Brackets, no_items, items}
use Rattle.words.specs.Fields.{word, ATTRIBUTE, TERM}
use Rattle.words.specs.Raw.{leaf, leaves}

-- a term of a left side
pub record ALeft (ws : List ℕ) (p : ℕ) : Type 0 where
  pub tree : Tree Left
  pub reads : (d : ℕ) → d ≤ 32 → Reads d (phrase Left ∷ []) (drop p (seen ws)) (tree, tt) (drop (p + 1) (seen ws))
  pub said : (ts : List Token) → Holds ws ts → leaf ATTRIBUTE (says ts tree) ≡ leaf_in ws p ATTRIBUTE
  pub again : (ts : List Token) → Holds ws ts → leaf TERM (says ts tree) ≡ leaf_in ws p TERM

name_said : (ws : List ℕ) (ts : List Token) (p k : ℕ) → Holds ws ts → kind_in ws p ≡ 47 → leaf k (says ts (left_name p)) ≡ leaf_in ws p k
unfolding says
name_said ws ts p k i e = ap (λ j. word k j 0 0) (name_number i p e) ∙ leaf_name (kind_in ws p) p k e

string_said : (ws : List ℕ) (ts : List Token) (p k : ℕ) → Holds ws ts → kind_in ws p ≡ 48 → leaf k (says ts (left_string p)) ≡ leaf_in ws p k
unfolding says
string_said ws ts p k i e = ap (λ j. word (40 + k) j 0 0) (string_number i p e) ∙ leaf_string (kind_in ws p) p k e

a_left : (ws : List ℕ) (p : ℕ) → (leaf_in ws p ATTRIBUTE ≡ 0 → ⊥) → ALeft ws p
a_left ws p h = at (which_leaf (kind_in ws p) p ATTRIBUTE h)
  where
    at : Leaf (kind_in ws p) ATTRIBUTE → ALeft ws p
    at (a_name_leaf e) = record { tree = left_name p; reads = λ d l. read! left_name_rule l (name_first ws p e) done!; said = λ ts i. name_said ws ts p ATTRIBUTE i e; again = λ ts i. name_said ws ts p TERM i e }
    at (a_string_leaf e) = record { tree = left_string p; reads = λ d l. read! left_string_rule l (string_first ws p e) done!; said = λ ts i. string_said ws ts p ATTRIBUTE i e; again = λ ts i. string_said ws ts p TERM i e }
    at (any_leaf e f) = absurd (omega arith)

left_begins : (ws : List ℕ) (p : ℕ) → (leaf_in ws p ATTRIBUTE ≡ 0 → ⊥) → names_string (next (drop p (seen ws))) ≡ true
left_begins ws p h = at (which_leaf (kind_in ws p) p ATTRIBUTE h)
  where
    at : Leaf (kind_in ws p) ATTRIBUTE → names_string (next (drop p (seen ws))) ≡ true
    at (a_name_leaf e) = ap (λ l. names_string (next l)) (name_first ws p e)
    at (a_string_leaf e) = ap (λ l. names_string (next l)) (string_first ws p e)
    at (any_leaf e f) = absurd (omega arith)

pub no_left : (ws : List ℕ) (p k : ℕ) → 0 < k → leaf_in ws p k ≡ 0 → names_string (next (drop p (seen ws))) ≡ false
no_left ws p k i h = not_names_string (next (drop p (seen ws)))
    (not_name ws p (λ e. leaf_positive (kind_in ws p) p k i (a_name_leaf e) h))
    (not_string ws p (λ e. leaf_positive (kind_in ws p) p k i (a_string_leaf e) h))

-- a term and those after it, up to the bracket at s
pub record Several (ws : List ℕ) (p q : ℕ) (xs : List ℕ) : Type 0 where
  pub first : Tree Left
  pub rest : Tree MoreLefts
  pub at : ℕ
  pub reads : (d : ℕ) → d ≤ 32 → Reads d (phrase Left ∷ phrase MoreLefts ∷ []) (drop p (seen ws)) (first, (rest, tt)) (drop at (seen ws))
  pub closed : drop at (seen ws) ≡ key RPAREN ∷ drop q (seen ws)
  pub said : (ts : List Token) → Holds ws ts → leaf ATTRIBUTE (says ts first) ∷ leaves ATTRIBUTE (says ts rest) ≡ xs
  pub again : (ts : List Token) → Holds ws ts → leaf TERM (says ts first) ∷ leaves TERM (says ts rest) ≡ terms_in ws p (length xs)

-- the laws of what MoreTerms says, for their use in a where block
said_end : (k : ℕ) (ts : List Token) → leaves k (says ts end_lefts) ≡ []
unfolding says leaves
said_end k ts = refl

said_more : (k : ℕ) (ts : List Token) (a : Tree Left) (b : Tree MoreLefts) → leaves k (says ts (more_lefts a b)) ≡ leaf k (says ts a) ∷ leaves k (says ts b)
unfolding says leaves
said_more k ts a b = refl

said_lefts : (k : ℕ) (ts : List Token) (a : Tree Left) (b : Tree MoreLefts) → leaves k (says ts (lefts a b)) ≡ leaf k (says ts a) ∷ leaves k (says ts b)
unfolding says leaves
said_lefts k ts a b = refl

said_none : (k : ℕ) (ts : List Token) → leaves k (says ts no_lefts) ≡ []
unfolding says leaves
said_none k ts = refl

none_in : (ws : List ℕ) (p : ℕ) → terms_in ws p 0 ≡ []
unfolding terms_in
none_in ws p = refl

one_in : (ws : List ℕ) (p : ℕ) → terms_in ws p 1 ≡ leaf_in ws p TERM ∷ []
unfolding terms_in
one_in ws p = refl

more_in : (ws : List ℕ) (p k : ℕ) → terms_in ws p (suc k) ≡ leaf_in ws p TERM ∷ terms_in ws (p + 2) k
unfolding terms_in
more_in ws p k = refl

items_read : {ws : List ℕ} {p q : ℕ} {xs : List ℕ} → Items ws ATTRIBUTE p q xs → Several ws p q xs
items_read {ws} (last_item {p} h e) = let a = a_left ws p h in record {
  first = a.tree;
  rest = end_lefts;
  at = p + 1;
  reads = λ d l. a.reads d l ▸ end_lefts! (not_key ws (p + 1) (λ i. omega arith)) ▸ done!;
  closed = key_then ws (p + 1) (p + 2) (omega arith) e (omega arith);
  said = λ ts i. ap (λ w. w ∷ leaves ATTRIBUTE (says ts end_lefts)) (a.said ts i) ∙ ap (λ l. leaf_in ws p ATTRIBUTE ∷ l) (said_end ATTRIBUTE ts);
  again = λ ts i. ap (λ w. w ∷ leaves TERM (says ts end_lefts)) (a.again ts i) ∙ ap (λ l. leaf_in ws p TERM ∷ l) (said_end TERM ts) ∙ sym (one_in ws p);
}
items_read {ws} (more_items {p} {q} {xs} h e f) = let a = a_left ws p h in let b = items_read f in record {
  first = a.tree;
  rest = more_lefts b.first b.rest;
  at = b.at;
  reads = λ d l. a.reads d l ▸ read! more_lefts_rule l (key_then ws (p + 1) (p + 2) (omega arith) e (omega arith)) (b.reads d l) ▸ done!;
  closed = b.closed;
  said = λ ts i. ap (λ w. w ∷ leaves ATTRIBUTE (says ts (more_lefts b.first b.rest))) (a.said ts i) ∙ ap (λ l. leaf_in ws p ATTRIBUTE ∷ l) (said_more ATTRIBUTE ts b.first b.rest ∙ b.said ts i);
  again = λ ts i. ap (λ w. w ∷ leaves TERM (says ts (more_lefts b.first b.rest))) (a.again ts i) ∙ ap (λ l. leaf_in ws p TERM ∷ l) (said_more TERM ts b.first b.rest ∙ b.again ts i) ∙ sym (more_in ws p (length xs));
}

-- the terms of a left side, and their closing bracket
pub record ReadLefts (ws : List ℕ) (p q : ℕ) (xs : List ℕ) : Type 0 where
  pub tree : Tree Lefts
  pub at : ℕ
  pub reads : (d : ℕ) → d ≤ 32 → Reads d (phrase Lefts ∷ []) (drop p (seen ws)) (tree, tt) (drop at (seen ws))
  pub closed : drop at (seen ws) ≡ key RPAREN ∷ drop q (seen ws)
  pub said : (ts : List Token) → Holds ws ts → leaves ATTRIBUTE (says ts tree) ≡ xs
  pub again : (ts : List Token) → Holds ws ts → leaves TERM (says ts tree) ≡ terms_in ws p (length xs)

several_begins : {ws : List ℕ} {p q : ℕ} {xs : List ℕ} → Items ws ATTRIBUTE p q xs → leaf_in ws p ATTRIBUTE ≡ 0 → ⊥
several_begins (last_item h e) = h
several_begins (more_items h e f) = h

pub lefts_read : {ws : List ℕ} {p q : ℕ} {xs : List ℕ} → Brackets ws ATTRIBUTE p q xs → ReadLefts ws p q xs
lefts_read {ws} (no_items {p} e) = record {
  tree = no_lefts;
  at = p;
  reads = λ d l. no_lefts! (no_left ws p ATTRIBUTE (omega arith) (sym (leaf_none (kind_in ws p) p ATTRIBUTE (λ i. omega arith) (λ i. omega arith) (λ i. omega arith))));
  closed = key_then ws p (p + 1) refl e (omega arith);
  said = λ ts i. said_none ATTRIBUTE ts;
  again = λ ts i. said_none TERM ts ∙ sym (none_in ws p);
}
lefts_read {ws} (items {p} {q} {xs} f) = let b = items_read f in record {
  tree = lefts b.first b.rest;
  at = b.at;
  reads = λ d l. as! (lefts_rule (left_begins ws p (several_begins f))) (b.reads d l);
  closed = b.closed;
  said = λ ts i. said_lefts ATTRIBUTE ts b.first b.rest ∙ b.said ts i;
  again = λ ts i. said_lefts TERM ts b.first b.rest ∙ b.again ts i;
}

-- where the terms fail: among them, or at the bracket
pub data Stops (ws : List ℕ) (d p r : ℕ) : Type 0 where
  among : Fails d (phrase Left ∷ phrase MoreLefts ∷ []) (drop p (seen ws)) 10 (drop r (seen ws)) → Stops ws d p r
  after : (a : Tree Left) (b : Tree MoreLefts) → Reads d (phrase Left ∷ phrase MoreLefts ∷ []) (drop p (seen ws)) (a, (b, tt)) (drop r (seen ws)) → Fails d (fixed RPAREN ∷ []) (drop r (seen ws)) 10 (drop r (seen ws)) → Stops ws d p r

items_stop : {ws : List ℕ} {p r : ℕ} (d : ℕ) → d ≤ 32 → Broken ws ATTRIBUTE p r → Stops ws d p r
items_stop {ws} d l (no_item {p} h) = among (stop! (no_left! (no_left ws p ATTRIBUTE (omega arith) h)))
items_stop {ws} d l (no_comma {p} h g i) = let a = a_left ws p h in after a.tree end_lefts (a.reads d l ▸ end_lefts! (not_key ws (p + 1) i) ▸ done!) (no_token! (not_key ws (p + 1) g))
items_stop {ws} d l (later {p} {q} h e f) = at (items_stop d l f)
  where
    at : Stops ws d (p + 2) q → Stops ws d p q
    at (among g) = among ((a_left ws p h).reads d l ▹ stop! (fail! more_lefts_rule l (key_then ws (p + 1) (p + 2) (omega arith) e (omega arith)) g))
    at (after a b g i) = after (a_left ws p h).tree (more_lefts a b) ((a_left ws p h).reads d l ▸ read! more_lefts_rule l (key_then ws (p + 1) (p + 2) (omega arith) e (omega arith)) g ▸ done!) i

stops_fail : (ws : List ℕ) (d p r : ℕ) → (leaf_in ws p ATTRIBUTE ≡ 0 → ⊥) → Stops ws d p r → Fails d (phrase Lefts ∷ fixed RPAREN ∷ []) (drop p (seen ws)) 10 (drop r (seen ws))
stops_fail ws d p r h (among g) = stop! (as_fails! (lefts_rule (left_begins ws p h)) g)
stops_fail ws d p r h (after a b g i) = as! (lefts_rule (left_begins ws p h)) g ▹ stop! i

pub lefts_fail : {ws : List ℕ} {p r : ℕ} (d : ℕ) → d ≤ 32 → (kind_in ws p ≡ RPAREN → ⊥) → Broken ws ATTRIBUTE p r → Fails d (phrase Lefts ∷ fixed RPAREN ∷ []) (drop p (seen ws)) 10 (drop r (seen ws))
lefts_fail {ws} d l u (no_item {p} h) = no_lefts! (no_left ws p ATTRIBUTE (omega arith) h) ▹ stop! (no_token! (not_key ws p u))
lefts_fail {ws} d l u (no_comma {p} h g i) = stops_fail ws d p (p + 1) h (items_stop d l (no_comma h g i))
lefts_fail {ws} d l u (later {p} {q} h e f) = stops_fail ws d p q h (items_stop d l (later h e f))
