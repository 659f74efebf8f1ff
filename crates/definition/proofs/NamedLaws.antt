-- The relations of accepted texts: each has a name, no two have the same, and each fact has its relation's arity.
use mathlib.Core.Path.{◌≡◌, refl, sym, ap, subst, ◌∙◌}
use mathlib.Core.Bool.{Bool, true, false, ◌||◌, not, cond}
use mathlib.Core.List.{List, [], ◌∷◌, ◌++◌, map}
use Prim.Native.Nat.{ℕ, suc, ◌+◌}
use native.Mathlib.Omega.{arith}
use lib.Dec.{T, eqb, leb, eqb→eq}
use lib.ListN.{length, get_or, take, drop}
use borrow.Author.Tests.{not-false}
use Rattle.definition.specs.Text.{Text, span, same, member, some_of, gather, is_name}
use Rattle.definition.specs.Limits.{Limits, ARITY}
use Rattle.definition.specs.Token.{Terminal, name, Token, token_at}
use Rattle.definition.specs.Grammar.{Nonterminal, Tree, flat}
use Rattle.definition.specs.Syntax.{Term, Expression, Program, Says, says, size}
use Rattle.definition.specs.Syntax
use Rattle.definition.specs.Answer.{ok, refuse_if}
use Rattle.definition.specs.Facts.{Line, Fact, Relation, Facts, is_inside, elements, fact, arities, add_relation, on_arities, use_relation, last_place, read_facts}
use Rattle.definition.specs.Names.{Role, Use, in_terms, in_expression, in_item, in_program, Kinds, use_name, use_names, nothing, relation, numbered, fact_kinds}
use Rattle.definition.specs.Accept.{Accepted, accept, read_query}
use Rattle.definition.proofs.BoolLaws.{or_eq_false}
use Rattle.definition.proofs.ListLaws.{Every, every_none, every_one, every_both, every_weaken}
use Rattle.definition.proofs.MeaningLaws.{same_itself}
use Rattle.definition.proofs.DistinctLaws.{Distinct, distinct_none, distinct_more}
use Rattle.definition.proofs.AcceptLaws.{ok_injective, bind_ok, then_ok, was_ok, not_refused, fact_relation, facts_hold, parts}
use Rattle.definition.proofs.NameLaws.{new_relation, as_relation, Used, kept, added, used, first_unknown, Numbered, used_numbered, facts_numbered}
use Rattle.definition.proofs.TokenLaws.{Spelled, spelled_name, Tokens, lexed_tokens, spelled_at}
use Rattle.definition.proofs.ElementLaws.{All, head, tail, left, right, IsToken, query_read}

-- A name among relations.
abbrev pub names : List Relation → List Text
names rs = map (λ r. r.name) rs

pub has_arity : (x : Text) (m : ℕ) (ms : List ℕ) (qs : List Relation) → arities x qs ≡ m ∷ ms → T (member x (names qs))
unfolding arities member some_of
has_arity x m ms [] e = let z : ◌≡◌ {A = ℕ} 0 1 = cc in absurd (omega arith)
has_arity x m ms (q ∷ qs) e = go (same x q.name) e (has_arity x m ms qs)
  where
    go : (b : Bool) → cond b (q.arity ∷ []) (arities x qs) ≡ m ∷ ms → (arities x qs ≡ m ∷ ms → T (member x (names qs))) → T (b || member x (names qs))
    go true e ih = tt
    go false e ih = ih e

pub no_arity : (x : Text) (qs : List Relation) → arities x qs ≡ [] → member x (names qs) ≡ false
unfolding arities member some_of
no_arity x [] e = refl
no_arity x (q ∷ qs) e = go (same x q.name) e (no_arity x qs)
  where
    go : (b : Bool) → cond b (q.arity ∷ []) (arities x qs) ≡ [] → (arities x qs ≡ [] → member x (names qs) ≡ false) → b || member x (names qs) ≡ false
    go true e ih = let z : ◌≡◌ {A = ℕ} 0 1 = cc in absurd (omega arith)
    go false e ih = ih e

pub names_more : (rs : List Relation) (q : Relation) → names (rs ++ (q ∷ [])) ≡ names rs ++ (q.name ∷ [])
names_more [] q = refl
names_more (r ∷ rs) q = ap (λ (l : List Text). r.name ∷ l) (names_more rs q)

-- the arity of a name, before and after one more relation
arities_one : (x : Text) (rs : List Relation) (m : ℕ) (ms : List ℕ) → arities x rs ≡ m ∷ ms → arities x rs ≡ m ∷ []
unfolding arities
arities_one x [] m ms e = let z : ◌≡◌ {A = ℕ} 0 1 = cc in absurd (omega arith)
arities_one x (r ∷ rs) m ms e = go (same x r.name) e (arities_one x rs m ms)
  where
    go : (b : Bool) → cond b (r.arity ∷ []) (arities x rs) ≡ m ∷ ms → (arities x rs ≡ m ∷ ms → arities x rs ≡ m ∷ []) → cond b (r.arity ∷ []) (arities x rs) ≡ m ∷ []
    go true e ih = ap (λ (ns : List ℕ). get_or ns 0 0 ∷ []) e
    go false e ih = ih e

arities_more : (x : Text) (rs : List Relation) (q : Relation) (n : ℕ) → arities x rs ≡ n ∷ [] → arities x (rs ++ (q ∷ [])) ≡ n ∷ []
unfolding arities
arities_more x [] q n e = let z : ◌≡◌ {A = ℕ} 0 1 = cc in absurd (omega arith)
arities_more x (r ∷ rs) q n e = go (same x r.name) e (arities_more x rs q n)
  where
    go : (b : Bool) → cond b (r.arity ∷ []) (arities x rs) ≡ n ∷ [] → (arities x rs ≡ n ∷ [] → arities x (rs ++ (q ∷ [])) ≡ n ∷ [])
        → cond b (r.arity ∷ []) (arities x (rs ++ (q ∷ []))) ≡ n ∷ []
    go true e ih = e
    go false e ih = ih e

arities_new : (rs : List Relation) (q : Relation) → member q.name (names rs) ≡ false → arities q.name (rs ++ (q ∷ [])) ≡ q.arity ∷ []
unfolding arities member some_of
arities_new [] q e = rw (same_itself q.name)
arities_new (r ∷ rs) q e = let h = or_eq_false (same q.name r.name) (member q.name (names rs)) e in rw h.0 (arities_new rs q h.1)

-- a fact has its relation's arity
abbrev pub HasArity : List Relation → Fact → Type 0
HasArity rs f = arities f.name rs ≡ length f.elements ∷ []

pub record Named (rs : List Relation) (fs : List Fact) : Type 0 where
  pub named : Every (λ r. T (is_name r.name)) rs
  pub distinct : Distinct (names rs)
  pub fitted : Every (HasArity rs) fs

named_more : (q : Relation) (rs : List Relation) (fs : List Fact) → T (is_name q.name) → member q.name (names rs) ≡ false → Named rs fs → Named (rs ++ (q ∷ [])) fs
named_more q rs fs n new h =
    record {
      named = every_both h.named (every_one n every_none);
      distinct = subst Distinct (sym (names_more rs q)) (distinct_more q.name h.distinct new);
      fitted = every_weaken (λ f a. arities_more f.name rs q (length f.elements) a) h.fitted;
    }

-- what a use of a relation does: it is there with this arity, or is added
pub data RelationUse (q : Relation) (rs : List Relation) : List Relation → Type 0 where
  known_use : arities q.name rs ≡ q.arity ∷ [] → RelationUse q rs rs
  new_use : arities q.name rs ≡ [] → RelationUse q rs (rs ++ (q ∷ []))

pub relation_use : (limits : Limits) (q : Relation) (p : ℕ) (rs qs : List Relation) → use_relation limits q p rs ≡ ok qs → RelationUse q rs qs
unfolding use_relation add_relation
relation_use limits q p rs qs e = go (arities q.name rs) refl e
  where
    go : (ns : List ℕ) → arities q.name rs ≡ ns → on_arities limits ns q p rs ≡ ok qs → RelationUse q rs qs
    go [] d e = subst (RelationUse q rs) (ok_injective (then_ok (refuse_if (leb limits.relations (length rs)) 6 q.at) _ qs e)) (new_use d)
    go (m ∷ ms) d e =
        let another = not (eqb m q.arity) in
        let same_arity = not_refused another 5 p (was_ok (refuse_if another 5 p) _ qs e) in
        let k : m ≡ q.arity = eqb→eq m q.arity (rw (not-false (eqb m q.arity) same_arity) tt) in
        subst (RelationUse q rs) (ok_injective (then_ok (refuse_if another 5 p) _ qs e)) (known_use (arities_one q.name rs m ms d ∙ ap (λ (j : ℕ). j ∷ []) k))

pub relation_used : (limits : Limits) (q : Relation) (p : ℕ) (rs qs : List Relation) (fs : List Fact) → use_relation limits q p rs ≡ ok qs → T (is_name q.name) → Named rs fs
    → Named qs fs × (arities q.name qs ≡ q.arity ∷ [])
relation_used limits q p rs qs fs e n h = go (relation_use limits q p rs qs e)
  where
    go : {qs : List Relation} → RelationUse q rs qs → Named qs fs × (arities q.name qs ≡ q.arity ∷ [])
    go (known_use d) = (h, d)
    go (new_use d) = let m = no_arity q.name rs d in (named_more q rs fs n m h, arities_new rs q m)

pub fact_name : (l : Line) (f : Fact) → fact l ≡ ok f → T (is_name f.name)
unfolding fact
fact_name l f e =
    let n = span is_inside l.bytes in
    let wrong = not (is_name (take n l.bytes)) in
    let d = not-false (is_name (take n l.bytes)) (not_refused wrong 3 l.at (was_ok (refuse_if wrong 3 l.at) _ f e)) in
    let (es, p, s) = bind_ok (elements ARITY (l.at + n) (drop n l.bytes)) _ f (then_ok (refuse_if wrong 3 l.at) _ f e) in
    subst (λ (g : Fact). T (is_name g.name)) (ok_injective s) (rw d tt)

pub facts_named : (limits : Limits) (xs : Text) (f : Facts) → read_facts limits xs ≡ ok f → Named f.relations f.facts
facts_named limits =
    facts_hold limits (λ s. Named s.relations s.facts)
    (λ l f s t p a h.
    let (n, k) = relation_used limits (fact_relation f) (last_place f.at f.elements) s.relations t.relations s.facts a.relations (fact_name l f p) h in
    subst (Named t.relations) a.facts (record { named = n.named; distinct = n.distinct; fitted = every_both n.fitted (every_one k every_none) }))
    (record { named = every_none; distinct = distinct_none; fitted = every_none })

name_at : {query : Text} {ts : List Token} → Tokens query 0 ts → (x : ℕ) → (token_at ts x).terminal ≡ name x → T (is_name (token_at ts x).text)
name_at {query} {ts} each x e = go (subst (λ (c : Terminal). Spelled c (token_at ts x).text) e (spelled_at each x))
  where
    go : {n : ℕ} {w : Text} → Spelled (name n) w → T (is_name w)
    go (spelled_name h) = h

-- The names that a program uses.
abbrev pub NamedUse : Use → Type 0
NamedUse u = T (is_name u.token.text)

abbrev NamedUses : List Use → Type 0
NamedUses us = Every NamedUse us

terms_cons : (p : Role) (t : Term) (ps : List Term) → in_terms p (t ∷ ps) ≡ in_terms p (t ∷ []) ++ in_terms p ps
unfolding in_terms
terms_cons p (Syntax.name t) ps = refl
terms_cons p (Syntax.string t) ps = refl
terms_cons p Syntax.anything ps = refl

module _ (ts : List Token) (named : (x : ℕ) → (token_at ts x).terminal ≡ name x → T (is_name (token_at ts x).text)) where
  abbrev Claim : (n : Nonterminal) → Says n → Type 0
  Claim Nonterminal.Program p = NamedUses (in_program p)
  Claim Nonterminal.MoreStatements f = (i : ℕ) → NamedUses (in_program (f i))
  Claim Nonterminal.Statement f = (i : ℕ) (k : Program) → NamedUses (in_program k) → NamedUses (in_program (f i k))
  Claim Nonterminal.Block f = (i : ℕ) → NamedUses (in_program (f i))
  Claim Nonterminal.Else f = (i : ℕ) → NamedUses (in_program (f i))
  Claim Nonterminal.Lefts ps = (p : Role) → NamedUses (in_terms p ps)
  Claim Nonterminal.MoreLefts ps = (p : Role) → NamedUses (in_terms p ps)
  Claim Nonterminal.Left t = (p : Role) → NamedUses (in_terms p (t ∷ []))
  Claim Nonterminal.MoreItems is = NamedUses (gather in_item is)
  Claim Nonterminal.Item i = NamedUses (in_item i)
  Claim Nonterminal.Word t = (p : Role) → NamedUses (in_terms p (t ∷ []))
  Claim Nonterminal.Terms ps = (p : Role) → NamedUses (in_terms p ps)
  Claim Nonterminal.MoreTerms ps = (p : Role) → NamedUses (in_terms p ps)
  Claim Nonterminal.Term t = (p : Role) → NamedUses (in_terms p (t ∷ []))
  Claim Nonterminal.Expression e = NamedUses (in_expression e)
  Claim Nonterminal.Comparison f = (e : Expression) → NamedUses (in_expression e) → NamedUses (in_expression (f e))
  Claim Nonterminal.Implication e = NamedUses (in_expression e)
  Claim Nonterminal.Consequent f = (e : Expression) → NamedUses (in_expression e) → NamedUses (in_expression (f e))
  Claim Nonterminal.Disjunction e = NamedUses (in_expression e)
  Claim Nonterminal.MoreOr f = (e : Expression) → NamedUses (in_expression e) → NamedUses (in_expression (f e))
  Claim Nonterminal.Conjunction e = NamedUses (in_expression e)
  Claim Nonterminal.MoreAnd f = (e : Expression) → NamedUses (in_expression e) → NamedUses (in_expression (f e))
  Claim Nonterminal.Negation e = NamedUses (in_expression e)
  Claim Nonterminal.Primary e = NamedUses (in_expression e)
  Claim Nonterminal.Quantified f =
      (g : Token → Expression → Expression) → ((x : Token) (e : Expression) → T (is_name x.text) → NamedUses (in_expression e) → NamedUses (in_expression (g x e))) → NamedUses (in_expression (f g))
  Claim Nonterminal.Quantity e = NamedUses (in_expression e)
  Claim Nonterminal.Divisor f = (e : Expression) → NamedUses (in_expression e) → NamedUses (in_expression (f e))
  Claim (Nonterminal.Summand b) e = NamedUses (in_expression e)
  Claim (Nonterminal.MoreSummands k) f = (e : Expression) → NamedUses (in_expression e) → NamedUses (in_expression (f e))

  more : (p : Role) (t : Term) (ps : List Term) → NamedUses (in_terms p (t ∷ [])) → NamedUses (in_terms p ps) → NamedUses (in_terms p (t ∷ ps))
  more p t ps h hs = subst NamedUses (sym (terms_cons p t ps)) (every_both h hs)

  quantified : (x : Token) (e : Expression) → T (is_name x.text) → NamedUses (in_expression e) → NamedUses (in_expression (Syntax.exists x e))
  unfolding in_expression
  quantified x e h hs = every_one h hs

  quantified_all : (x : Token) (e : Expression) → T (is_name x.text) → NamedUses (in_expression e) → NamedUses (in_expression (Syntax.for_all x e))
  unfolding in_expression
  quantified_all x e h hs = every_one h hs

  names_of : {n : Nonterminal} (t : Tree n) → All (IsToken ts) (flat t) → Claim n (says ts t)
  unfolding says in_program in_expression in_item in_terms gather
  names_of (Tree.program a b) h = names_of a (left (flat a) (flat b) h) 0 (says ts b (size a)) (names_of b (right (flat a) (flat b) h) (size a))
  names_of Tree.end_statements h = λ i. every_none
  names_of (Tree.more_statements a b) h = λ i. names_of a (left (flat a) (flat b) h) i (says ts b (i + size a)) (names_of b (right (flat a) (flat b) h) (i + size a))
  names_of (Tree.assignment r u e) h =
      λ i k g.
      every_one (named r (head h)) (every_both (names_of u (left (flat u) _ (tail (tail h))) Role.attribute_only)
      (every_both (names_of e (left (flat e) _ (tail (tail (right (flat u) _ (tail (tail h))))))) g))
  names_of (Tree.assertion r u) h =
      λ i k g.
      every_one (named r (head h)) (every_both (names_of u (left (flat u) _ (tail (tail h))) Role.attribute_only)
      (every_both (names_of u (left (flat u) _ (tail (tail h))) Role.term) g))
  names_of (Tree.conditional e b c) h =
      λ i k g.
      every_both (names_of e (left (flat e) _ (tail h)))
      (every_both (names_of b (left (flat b) (flat c) (right (flat e) _ (tail h))) (suc i + size e))
      (every_both (names_of c (right (flat b) (flat c) (right (flat e) _ (tail h))) (suc i + size e + size b)) g))
  names_of (Tree.while_loop e b) h = λ i k g. every_both (names_of e (left (flat e) _ (tail h))) (every_both (names_of b (right (flat e) (flat b) (tail h)) (suc i + size e)) g)
  names_of (Tree.for_loop v e b) h =
      λ i k g.
      every_one (named v (head (tail h))) (every_both (names_of e (left (flat e) _ (tail (tail (tail h)))))
      (every_one (named v (head (tail h))) (every_both (names_of b (right (flat e) (flat b) (tail (tail (tail h)))) (3 + i + size e)) (every_one (named v (head (tail h))) g))))
  names_of (Tree.nested_block a b) h =
      λ i k g.
      every_both (names_of a (left (flat a) _ (tail h)) (suc i) (says ts b (suc i + size a)) (names_of b (left (flat b) _ (right (flat a) _ (tail h))) (suc i + size a))) g
  names_of (Tree.print_statement a b) h = λ i k g. every_both (every_both (names_of a (left (flat a) _ (tail h))) (names_of b (left (flat b) _ (right (flat a) _ (tail h))))) g
  names_of (Tree.block a b) h =
      λ i. names_of a (left (flat a) _ (tail h)) (suc i) (says ts b (suc i + size a)) (names_of b (left (flat b) _ (right (flat a) _ (tail h))) (suc i + size a))
  names_of Tree.no_else h = λ i. every_none
  names_of (Tree.else_block b) h = λ i. names_of b (tail h) (suc i)
  names_of Tree.no_lefts h = λ p. every_none
  names_of (Tree.lefts a b) h = λ p. more p (says ts a) (says ts b) (names_of a (left (flat a) (flat b) h) p) (names_of b (right (flat a) (flat b) h) p)
  names_of Tree.end_lefts h = λ p. every_none
  names_of (Tree.more_lefts a b) h = λ p. more p (says ts a) (says ts b) (names_of a (left (flat a) (flat b) (tail h)) p) (names_of b (right (flat a) (flat b) (tail h)) p)
  names_of (Tree.left_name x) h = λ p. every_one (named x (head h)) every_none
  names_of (Tree.left_string x) h = λ p. every_none
  names_of Tree.end_items h = every_none
  names_of (Tree.more_items a b) h = every_both (names_of a (left (flat a) (flat b) (tail h))) (names_of b (right (flat a) (flat b) (tail h)))
  names_of (Tree.item_expression e) h = names_of e h
  names_of (Tree.item_labelled w e) h = every_both (names_of w (left (flat w) _ (tail h)) Role.variable_only) (names_of e (tail (right (flat w) _ (tail h))))
  names_of (Tree.item_word w) h = names_of w h Role.variable_only
  names_of Tree.item_endl h = every_none
  names_of (Tree.word_name x) h = λ p. every_one (named x (head h)) every_none
  names_of (Tree.word_string x) h = λ p. every_none
  names_of Tree.no_terms h = λ p. every_none
  names_of (Tree.terms a b) h = λ p. more p (says ts a) (says ts b) (names_of a (left (flat a) (flat b) h) p) (names_of b (right (flat a) (flat b) h) p)
  names_of Tree.end_terms h = λ p. every_none
  names_of (Tree.more_terms a b) h = λ p. more p (says ts a) (says ts b) (names_of a (left (flat a) (flat b) (tail h)) p) (names_of b (right (flat a) (flat b) (tail h)) p)
  names_of (Tree.term_name x) h = λ p. every_one (named x (head h)) every_none
  names_of (Tree.term_string x) h = λ p. every_none
  names_of Tree.term_any h = λ p. every_none
  names_of (Tree.expression a b) h = names_of b (right (flat a) (flat b) h) (says ts a) (names_of a (left (flat a) (flat b) h))
  names_of Tree.no_comparison h = λ e g. g
  names_of (Tree.comparison c a) h = λ e g. every_both g (names_of a (tail h))
  names_of (Tree.implication a b) h = names_of b (right (flat a) (flat b) h) (says ts a) (names_of a (left (flat a) (flat b) h))
  names_of Tree.no_consequent h = λ e g. g
  names_of (Tree.implies a) h = λ e g. every_both g (names_of a (tail h))
  names_of (Tree.iff a) h = λ e g. every_both g (names_of a (tail h))
  names_of (Tree.disjunction a b) h = names_of b (right (flat a) (flat b) h) (says ts a) (names_of a (left (flat a) (flat b) h))
  names_of Tree.end_or h = λ e g. g
  names_of (Tree.more_or a b) h =
      λ e g. names_of b (right (flat a) (flat b) (tail h)) (Syntax.disjunction e (says ts a)) (every_both g (names_of a (left (flat a) (flat b) (tail h))))
  names_of (Tree.conjunction a b) h = names_of b (right (flat a) (flat b) h) (says ts a) (names_of a (left (flat a) (flat b) h))
  names_of Tree.end_and h = λ e g. g
  names_of (Tree.more_and a b) h =
      λ e g. names_of b (right (flat a) (flat b) (tail h)) (Syntax.conjunction e (says ts a)) (every_both g (names_of a (left (flat a) (flat b) (tail h))))
  names_of (Tree.negation a) h = names_of a (tail h)
  names_of (Tree.primary a) h = names_of a h
  names_of (Tree.group e) h = names_of e (left (flat e) _ (tail h))
  names_of (Tree.ex x q) h = every_one (named x (head (tail (tail h)))) (names_of q (left (flat q) _ (tail (tail (tail (tail h))))) Syntax.exists quantified)
  names_of (Tree.fa x q) h = every_one (named x (head (tail (tail h)))) (names_of q (left (flat q) _ (tail (tail (tail (tail h))))) Syntax.for_all quantified_all)
  names_of (Tree.tc e) h = names_of e (left (flat e) _ (tail (tail h)))
  names_of (Tree.tcfast e) h = names_of e (left (flat e) _ (tail (tail h)))
  names_of (Tree.atom x u) h = every_one (named x (head h)) (names_of u (left (flat u) _ (tail (tail h))) Role.term)
  names_of (Tree.true_atom u) h = names_of u (left (flat u) _ (tail (tail h))) Role.term
  names_of (Tree.false_atom u) h = names_of u (left (flat u) _ (tail (tail h))) Role.term
  names_of (Tree.sign_before g a b) h =
      more Role.term (says ts a) (says ts b ∷ []) (names_of a (left (flat a) _ (tail (tail h))) Role.term) (names_of b (left (flat b) _ (tail (right (flat a) _ (tail (tail h))))) Role.term)
  names_of (Tree.sign_between a g b) h =
      more Role.term (says ts a) (says ts b ∷ []) (names_of a (left (flat a) _ h) Role.term) (names_of b (tail (right (flat a) _ h)) Role.term)
  names_of (Tree.pattern_atom s a) h = names_of a (left (flat a) _ (tail (tail (tail h)))) Role.term
  names_of (Tree.one_more_attribute x q) h = λ f g. g (token_at ts x) (says ts q f) (named x (head h)) (names_of q (tail (tail h)) f g)
  names_of (Tree.quantified_body e) h = λ f g. names_of e h
  names_of (Tree.item_quantity q) h = names_of q h
  names_of (Tree.figures a c b) h = every_both (names_of a (left (flat a) _ h)) (names_of b (tail (right (flat a) _ h)))
  names_of (Tree.quantity a m v) h =
      names_of v (right (flat m) _ (right (flat a) _ h)) (says ts m (says ts a)) (names_of m (left (flat m) _ (right (flat a) _ h)) (says ts a) (names_of a (left (flat a) _ h)))
  names_of Tree.no_divisor h = λ e g. g
  names_of (Tree.divisor a m) h = λ e g. every_both g (names_of m (right (flat a) _ (tail h)) (says ts a) (names_of a (left (flat a) _ (tail h))))
  names_of Tree.end_summands h = λ e g. g
  names_of (Tree.more_summands a m) h =
      λ e g. names_of m (right (flat a) _ (tail h)) (Syntax.sum_of e (says ts a)) (every_both g (names_of a (left (flat a) _ (tail h))))
  names_of (Tree.counted e) h = names_of e (left (flat e) _ (tail (tail h)))
  names_of (Tree.literal o x) h = every_none

-- every name that a program uses is a name
pub names_used : (query : Text) (p : Program) → read_query query ≡ ok p → Every NamedUse (in_program p)
names_used query p e =
    let r = query_read query p e in
    subst (λ (q : Program). NamedUses (in_program q)) r.said (names_of r.tokens (name_at (lexed_tokens query r.tokens r.lexes)) r.tree r.numbered)

-- a name of which nothing is known is no relation's
no_number : (i : ℕ) (x : Text) (rs : List Relation) → numbered i rs x ≡ nothing → member x (names rs) ≡ false
unfolding numbered member some_of
no_number i x [] e = refl
no_number i x (r ∷ rs) e = go (same x r.name) e (no_number (suc i) x rs)
  where
    go : (b : Bool) → cond b (relation i r.arity) (numbered (suc i) rs x) ≡ nothing → (numbered (suc i) rs x ≡ nothing → member x (names rs) ≡ false) → b || member x (names rs) ≡ false
    go true e ih = let z : ◌≡◌ {A = ℕ} 0 1 = cc in absurd (omega arith)
    go false e ih = ih e

used_named : {k : Kinds} {p : Role} {t : Token} {l : Kinds} (fs : List Fact) → Used k p t l → T (is_name t.text) → Numbered k → Named k.relations fs → Named l.relations fs
used_named fs (kept v e) n m h = h
used_named {k} {p} {t} fs (added c e) n m h =
    let x = t.text in
    let d : numbered 0 k.relations x ≡ nothing = sym (m.by_place x) ∙ ap as_relation (first_unknown p (k.known x) c e) in
    named_more (new_relation t c) k.relations fs n (no_number 0 x k.relations d) h

names_named : (limits : Limits) (fs : List Fact) {us : List Use} → Every NamedUse us → (k l : Kinds) → use_names limits us k ≡ ok l → Numbered k → Named k.relations fs → Named l.relations fs
unfolding use_names
names_named limits fs every_none k l e m h = subst (λ (n : Kinds). Named n.relations fs) (ok_injective e) h
names_named limits fs (every_one {a = u} n ns) k l e m h =
    let (j, p, q) = bind_ok (use_name limits k u) _ l e in
    let d = used limits k u.role u.token j p in
    names_named limits fs ns j l q (used_numbered d m) (used_named fs d n m h)

pub accepted_named : (limits : Limits) (facts query : Text) (w : Accepted) → accept limits facts query ≡ ok w → Named w.relations w.facts
accepted_named limits facts query w e =
    let h = parts limits facts query w e in
    let f = h.facts_read in
    let n : Named h.kinds.relations f.facts
    = names_named limits f.facts (names_used query w.program h.query_read) (fact_kinds f.relations) h.kinds h.names (facts_numbered f.relations) (facts_named limits facts f h.read) in
    subst (λ (rs : List Relation). Named rs w.facts) h.relations (subst (Named h.kinds.relations) h.same_facts n)
