-- What stands in brackets at a level of its own: groups, closures, counts, quantifiers.
use Rattle.std.specs.Prelude.{Ok, Err}
use mathlib.Core.Bool.{Bool, true, false}
use mathlib.Core.List.{List, [], ◌∷◌, ◌++◌, map, append_assoc, append-nil}
use mathlib.Core.Logic.{◌⊎◌, ⊎_elim}
use mathlib.Core.Path.{◌≡◌, refl, ap, sym, subst, ◌∙◌}
use native.Mathlib.Omega.{arith}
use Prim.Native.Nat.{ℕ, zero, suc, ◌+◌, ◌*◌, ◌-◌, ◌≤◌, ◌<◌}
use lib.Dec.{eqb}
use lib.ListN.{length, drop}
use lib.Seq.{sets}
use borrow.Author.Tests.{eqb-true, eqb-false}
use Rattle.definition.proofs.GrammarReads.{Rule, Stands, Reads, Fails, read!, fail!, deep!, as!, as_fails!, ◌▸◌, ◌▹◌, stop!, done!, closed!, level, token!, no_token!, name!, no_name! }
use Rattle.definition.proofs.GrammarExpressions.{group_rule, ex_rule, fa_rule, tc_rule, tcfast_rule, counted_rule, one_more!, one_more_fails!, body_rule, body_name_rule}
use Rattle.definition.specs.Grammar.{Nonterminal, Tree, Expression, Primary, Quantified, Summand}
use Rattle.definition.specs.Grammar as Grammar
use Rattle.definition.specs.Reader.{Symbol, Forest, phrase, fixed, identifier, level_end}
use Rattle.definition.specs.Syntax as Syntax
use Rattle.definition.specs.Syntax.{says, exists, for_all, closure_of, count_of}
use Rattle.definition.specs.Token.{Token, Terminal, token_at, key, name, LPAREN, RPAREN, COMMA, EX, FA, TC, TCFAST, HASH}
use Rattle.expressions.proofs.OperatorLaws.{one_wrote}
use Rattle.expressions.specs.Operators.{Wrapped, WrapRoom, Names, no_more, one_more, attribute, Bound, Unbound, no_bracket, no_name, no_comma, bound, IsBound, binders, Binds, BindRoom, Quantifier, is_ex, is_fa, Applies, is_tc, is_tcfast, is_hash, Applied}
use Rattle.lexer.specs.Tokens.{NAME}
use Rattle.terms.proofs.AtomLaws.{refused}
use Rattle.terms.proofs.TokenLaws.{kind_within, key_first, key_then, mark_first, name_first, name_then, name_number, not_key, not_name, closed_cases}
use Rattle.terms.proofs.WriteLaws.{wrote_then, wrote_as}
use Rattle.terms.specs.declared.ParseError.{ParseError}
use Rattle.terms.specs.declared.ParseError.TheVariants.{NoProgram, TooMuch}
use Rattle.terms.specs.Phrases.{Answer, row_of, token_of, kind_in, seen, closed, Holds, Wrote, Meaning, Parsed, IsPrimary, IsExpression}
use Rattle.terms.specs.Terms.{Plain}
use Rattle.words.proofs.Sizes.{length_flat}
use Rattle.words.specs.Fields.{word, ATTRIBUTE, EXISTS, FOR_ALL, CLOSURE, COUNT}
use Rattle.words.specs.Raw.{flat, size, number}

-- an expression at level d + 1 and the bracket after it
pub record Inside (ws : List ℕ) (ts : List Token) (p n d : ℕ) (A A' : List ℕ) (q m : ℕ) : Type 0 where
  pub tree : Tree Expression
  pub at : ℕ
  pub reads : Reads (suc d) (phrase Expression ∷ []) (drop p (seen ws)) (tree, tt) (drop at (seen ws))
  pub bracket : drop at (seen ws) ≡ key RPAREN ∷ drop q (seen ws)
  pub wrote : Wrote A n (flat (says ts tree) n) m A'

pub data Unclosed (ws : List ℕ) (d p : ℕ) : ℕ → ℕ → Type 0 where
  body_fails : {row q : ℕ} → Fails (suc d) (phrase Expression ∷ []) (drop p (seen ws)) row (drop q (seen ws)) → Unclosed ws d p row q
  no_close : {q : ℕ} (t : Tree Expression) → Reads (suc d) (phrase Expression ∷ []) (drop p (seen ws)) (t, tt) (drop q (seen ws)) → (kind_in ws q ≡ RPAREN → ⊥) → Unclosed ws d p 10 q

abbrev pub inside : List ℕ → List Token → ℕ → ℕ → ℕ → List ℕ → List ℕ → Answer → Type 0
inside ws ts p n d A A' (Ok (q, m)) = Inside ws ts p n d A A' q m
inside ws ts p n d A A' (Err why) = Unclosed ws d p (row_of why) (token_of why)

-- two tokens more than words
pub record Closed (ws : List ℕ) (p n q m : ℕ) : Type 0 where
  pub more : n < m
  pub paid : m + p + 1 ≤ n + q
  pub within : q ≤ length ws

abbrev pub closed_far : List ℕ → ℕ → ℕ → Answer → Type 0
closed_far ws p n (Ok (q, m)) = Closed ws p n q m
closed_far ws p n (Err why) = token_of why ≤ length ws

pub record InBrackets (ws : List ℕ) (p n d : ℕ) (A A' : List ℕ) (b : Answer) : Type 0 where
  pub bounds : closed_far ws p n b
  pub at : (ts : List Token) → Holds ws ts → inside ws ts p n d A A' b

pub brackets_close : {ws : List ℕ} {p n d : ℕ} {A A' : List ℕ} {a b : Answer} → IsExpression ws p n (d + 1) A A' a → b ≡ closed ws RPAREN a → InBrackets ws p n d A A' b
brackets_close {ws} {p} {n} {d} {A} {A'} {a} {b} h e = subst (InBrackets ws p n d A A') (sym e) (by a (let k : d + 1 ≡ suc d = omega arith in subst (λ d. IsExpression ws p n d A A' a) k h))
  where
    by : (a : Answer) → IsExpression ws p n (suc d) A A' a → InBrackets ws p n d A A' (closed ws RPAREN a)
    by (Ok (q, m)) h = closed_cases (InBrackets ws p n d A A') ws RPAREN q m
        (λ e. let l = kind_within ws q (omega arith) in let o = h.bounds in record {
          bounds = record { more = o.more; paid = omega arith; within = omega arith };
          at = λ ts g. let f = h.at ts g in record { tree = f.tree; at = q; reads = f.reads; bracket = key_first ws q e (omega arith); wrote = f.wrote };
        })
        (λ e. record { bounds = h.bounds.within; at = λ ts g. let f = h.at ts g in no_close f.tree f.reads e })
    by (Err why) h = record { bounds = h.bounds; at = λ ts g. body_fails (h.at ts g) }

-- a group
group_said : (ts : List Token) (t : Tree Expression) → says ts t ≡ says ts (Grammar.group t)
unfolding says
group_said ts t = refl

pub group_reads : {ws : List ℕ} {p n d : ℕ} {A A' : List ℕ} {b : Answer} → d < 32 → kind_in ws p ≡ LPAREN → InBrackets ws (p + 1) n d A A' b → IsPrimary ws p n d A A' b
group_reads {ws} {p} {n} {d} {A} {A'} {b} l e h = by b h
  where
    by : (b : Answer) → InBrackets ws (p + 1) n d A A' b → IsPrimary ws p n d A A' b
    by (Ok (q, m)) h =
        let o = h.bounds in
        record {
          bounds = record { more = o.more; paid = omega arith; within = o.within };
          at = λ ts g. let f = h.at ts g in record {
            tree = Grammar.group f.tree;
            reads = read! group_rule (omega arith) (key_first ws p e (omega arith)) (f.reads ▸ token! (omega arith) f.bracket ▸ closed! ▸ done!);
            wrote = wrote_as (ap (λ e. flat e n) (group_said ts f.tree)) f.wrote;
          };
        }
    by (Err why) h = record { bounds = h.bounds; at = λ ts g. stopped (h.at ts g) }
      where
        stopped : {row q : ℕ} → Unclosed ws d (p + 1) row q → Fails d (phrase Primary ∷ []) (drop p (seen ws)) row (drop q (seen ws))
        stopped (body_fails f) = fail! group_rule (omega arith) (key_first ws p e (omega arith)) (stop! f)
        stopped (no_close {q} t f u) = fail! group_rule (omega arith) (key_first ws p e (omega arith)) (f ▹ stop! (no_token! (not_key ws q u)))

pub group_deep : {ws : List ℕ} {p n d : ℕ} {A B : List ℕ} → 32 ≤ d → kind_in ws p ≡ LPAREN → IsPrimary ws p n d A B (Err (TooMuch p))
group_deep {ws} {p} l e = let i = kind_within ws p (omega arith) in refused (omega arith) (deep! group_rule (omega arith) (key_first ws p e (omega arith)))

-- what stands before an expression in brackets
pub record AppliedLaw (t k : ℕ) (x : Nonterminal) (e : Meaning x) : Type 0 where
  pub low : t < 64
  pub first : (ws : List ℕ) (p : ℕ) → kind_in ws p ≡ t → drop p (seen ws) ≡ key t ∷ drop (p + 1) (seen ws)
  pub tree : Tree Expression → Tree x
  pub takes : Rule (phrase x) (key t) (fixed LPAREN ∷ phrase Expression ∷ fixed RPAREN ∷ level_end ∷ []) (λ fs. tree fs.1.0)
  pub op : Syntax.Expression → Syntax.Expression
  pub said : (ts : List Token) (a : Tree Expression) → op (says ts a) ≡ e ts (tree a)
  pub words : (a : Syntax.Expression) (n : ℕ) → flat (op a) n ≡ flat a n ++ (word k (n + size a - 1) 0 0 ∷ [])

tc_law : AppliedLaw TC CLOSURE Primary (λ ts t. says ts t)
unfolding says flat
tc_law = record { low = omega arith; first = λ ws p e. key_first ws p e (omega arith); tree = Grammar.tc; takes = tc_rule; op = closure_of; said = λ ts a. refl; words = λ a n. refl }

tcfast_law : AppliedLaw TCFAST CLOSURE Primary (λ ts t. says ts t)
unfolding says flat
tcfast_law = record { low = omega arith; first = λ ws p e. key_first ws p e (omega arith); tree = Grammar.tcfast; takes = tcfast_rule; op = closure_of; said = λ ts a. refl; words = λ a n. refl }

hash_law : AppliedLaw HASH COUNT (Summand false) (λ ts t. says ts t)
unfolding says flat
hash_law = record { low = omega arith; first = λ ws p e. mark_first ws p e (omega arith) (omega arith); tree = λ a. Grammar.counted a; takes = counted_rule; op = count_of; said = λ ts a. refl; words = λ a n. refl }

-- what holds of each of them
by_law : {t k : ℕ} (P : (x : Nonterminal) → Meaning x → Type 0) → Applies t k → ((x : Nonterminal) (e : Meaning x) → AppliedLaw t k x e → P x e) → (k ≡ CLOSURE → P Primary (λ ts t. says ts t)) × (k ≡ COUNT → P (Summand false) (λ ts t. says ts t))
by_law P is_tc f = (λ e. f Primary (λ ts t. says ts t) tc_law, λ e. absurd (omega arith))
by_law P is_tcfast f = (λ e. f Primary (λ ts t. says ts t) tcfast_law, λ e. absurd (omega arith))
by_law P is_hash f = (λ e. absurd (omega arith), λ e. f (Summand false) (λ ts t. says ts t) hash_law)

pub applies_small : {t k : ℕ} → Applies t k → (t < 64) × (k < 256)
applies_small is_tc = (omega arith, omega arith)
applies_small is_tcfast = (omega arith, omega arith)
applies_small is_hash = (omega arith, omega arith)

module _ (ws : List ℕ) (p n d k : ℕ) (A : List ℕ) (c : Applies (kind_in ws p) k) where
  pub applied_within : p < length ws
  applied_within = kind_within ws p (applies_small c).0

  -- by one law over both phrases
  both : (B : List ℕ) (r : Answer) → ((x : Nonterminal) (e : Meaning x) → AppliedLaw (kind_in ws p) k x e → Parsed x e ws p n d A B r) → Applied ws p n d k A B r
  both B r f = let h = by_law (λ x e. Parsed x e ws p n d A B r) c f in record { closure = h.0; count = h.1 }

  pub applied_deep : {B : List ℕ} → 32 ≤ d → Applied ws p n d k A B (Err (TooMuch p))
  applied_deep {B} l = let i = applied_within in both B (Err (TooMuch p)) (λ x e w. refused (omega arith) (deep! w.takes (omega arith) (w.first ws p refl)))

  pub applied_open : {B : List ℕ} → d < 32 → (kind_in ws (p + 1) ≡ LPAREN → ⊥) → Applied ws p n d k A B (Err (NoProgram (p + 1)))
  applied_open {B} l u = let i = applied_within in both B (Err (NoProgram (p + 1))) (λ x e w. refused (omega arith) (fail! w.takes (omega arith) (w.first ws p refl) (stop! (no_token! (not_key ws (p + 1) u)))))

  pub applied_reads : {A₁ A₂ : List ℕ} {b r : Answer} → d < 32 → kind_in ws (p + 1) ≡ LPAREN → InBrackets ws (p + 2) n d A A₁ b → Wrapped k A₁ A₂ b r → Applied ws p n d k A A₂ r
  applied_reads {A₁} {A₂} {b} {r} l u h j = both A₂ r (λ x e w. by x e w b h j)
    where
      opened : Reads (suc d) (fixed LPAREN ∷ []) (drop (p + 1) (seen ws)) (tt, tt) (drop (p + 2) (seen ws))
      opened = token! (omega arith) (key_then ws (p + 1) (p + 2) (omega arith) u (omega arith))

      stopped : {x : Nonterminal} {e : Meaning x} {row q : ℕ} → AppliedLaw (kind_in ws p) k x e → Unclosed ws d (p + 2) row q → Fails d (phrase x ∷ []) (drop p (seen ws)) row (drop q (seen ws))
      stopped w (body_fails f) = fail! w.takes (omega arith) (w.first ws p refl) (opened ▹ stop! f)
      stopped w (no_close {q} t f v) = fail! w.takes (omega arith) (w.first ws p refl) (opened ▹ f ▹ stop! (no_token! (not_key ws q v)))

      by : (x : Nonterminal) (e : Meaning x) → AppliedLaw (kind_in ws p) k x e → (b : Answer) → InBrackets ws (p + 2) n d A A₁ b → Wrapped k A₁ A₂ b r → Parsed x e ws p n d A A₂ r
      by x e w (Ok (q, m)) h j =
          let o = h.bounds in
          subst (Parsed x e ws p n d A A₂) (sym j.0) (record {
            bounds = record { more = omega arith; paid = omega arith; within = o.within };
            at = λ ts g. let f = h.at ts g in record {
              tree = w.tree f.tree;
              reads = read! w.takes (omega arith) (w.first ws p refl) (opened ▸ f.reads ▸ token! (omega arith) f.bracket ▸ closed! ▸ done!);
              wrote = subst (Wrote A n (flat (e ts (w.tree f.tree)) n) (m + 1)) (sym j.1) (wrote_as (ap (λ e. flat e n) (w.said ts f.tree)) (one_wrote k w.op w.words (says ts f.tree) f.wrote));
            };
          })
      by x e w (Err why) h j = subst (Parsed x e ws p n d A A₂) (sym j) (record { bounds = h.bounds; at = λ ts g. stopped w (h.at ts g) })

-- the attributes of a quantifier and its body
abbrev nest : List ℕ → Tree Expression → Tree Quantified
nest [] t = Grammar.quantified_body t
nest (v ∷ vs) t = Grammar.one_more_attribute v (nest vs t)

body_stands : (ws : List ℕ) (p : ℕ) → (kind_in ws p ≡ NAME → kind_in ws (p + 1) ≡ COMMA → ⊥) → Stands (phrase Quantified) (phrase Expression ∷ []) (λ fs. Grammar.quantified_body fs.0) (drop p (seen ws))
body_stands ws p h = at (eqb (kind_in ws p) NAME) refl
  where
    at : (c : Bool) → eqb (kind_in ws p) NAME ≡ c → Stands (phrase Quantified) (phrase Expression ∷ []) (λ fs. Grammar.quantified_body fs.0) (drop p (seen ws))
    at true c = let e = eqb-true (kind_in ws p) NAME c in body_name_rule (name_first ws p e) (not_key ws (p + 1) (h e))
    at false c = body_rule (not_name ws p (eqb-false (kind_in ws p) NAME c))

names_read : {ws : List ℕ} {p q d : ℕ} {vs : List ℕ} {t : Tree Expression} {r : List Terminal} → Names ws p q vs → d ≤ 32 → Reads d (phrase Expression ∷ []) (drop q (seen ws)) (t, tt) r → Reads d (phrase Quantified ∷ []) (drop p (seen ws)) (nest vs t, tt) r
names_read {ws} (no_more {p} h) l f = as! (body_stands ws p h) f
names_read {ws} (one_more {p} e g i) l f = one_more! l (name_first ws p e) (key_then ws (p + 1) (p + 2) (omega arith) g (omega arith)) (names_read i l f)

names_fail : {ws : List ℕ} {p q d row : ℕ} {vs : List ℕ} {r : List Terminal} → Names ws p q vs → d ≤ 32 → Fails d (phrase Expression ∷ []) (drop q (seen ws)) row r → Fails d (phrase Quantified ∷ []) (drop p (seen ws)) row r
names_fail {ws} (no_more {p} h) l f = as_fails! (body_stands ws p h) f
names_fail {ws} (one_more {p} e g i) l f = one_more_fails! l (name_first ws p e) (key_then ws (p + 1) (p + 2) (omega arith) g (omega arith)) (names_fail i l f)

-- the first of them
record First (ws : List ℕ) (p q : ℕ) (vs : List ℕ) : Type 0 where
  rest : List ℕ
  is : vs ≡ p ∷ rest
  more : Names ws (p + 2) q rest

first_name : {ws : List ℕ} {p q : ℕ} {vs : List ℕ} → Names ws p q vs → kind_in ws p ≡ NAME → kind_in ws (p + 1) ≡ COMMA → First ws p q vs
first_name (no_more h) e f = absurd (h e f)
first_name (one_more {p} {q} {vs} g h i) e f = record { rest = vs; is = refl; more = i }

-- their words
length_binders : (k j n l : ℕ) → length (binders k j n l) ≡ j
unfolding binders
length_binders k zero n l = refl
length_binders k (suc j) n l = ap suc (length_binders k j n (l + 1))

last_binder : (k j n l : ℕ) → binders k (suc j) n l ≡ binders k j (n + 1) l ++ (word k n (l + j - 1) 0 ∷ [])
unfolding binders
last_binder k zero n l = let e : n + 0 ≡ n = omega arith in let f : l - 1 ≡ l + 0 - 1 = omega arith in ap (λ i. word k i (l - 1) 0 ∷ []) e ∙ ap (λ i. word k n i 0 ∷ []) f
last_binder k (suc j) n l =
    let e : n + suc j ≡ n + 1 + j = omega arith in
    let f : l + 1 + j - 1 ≡ l + suc j - 1 = omega arith in
    ap (λ i. word k i (l - 1) 0 ∷ binders k (suc j) n (l + 1)) e ∙ ap (λ xs. word k (n + 1 + j) (l - 1) 0 ∷ xs) (last_binder k j n (l + 1) ∙ ap (λ i. binders k j (n + 1) (l + 1) ++ (word k n i 0 ∷ [])) f)

pub record QuantifierLaw (t k : ℕ) : Type 0 where
  pub low : t < 41
  pub small : k < 256
  pub tree : ℕ → Tree Quantified → Tree Primary
  pub takes : Rule (phrase Primary) (key t) (fixed LPAREN ∷ identifier ∷ fixed COMMA ∷ phrase Quantified ∷ fixed RPAREN ∷ level_end ∷ []) (λ fs. tree fs.1.0 fs.1.1.1.0)
  pub op : Token → Syntax.Expression → Syntax.Expression
  pub said : (ts : List Token) (x : ℕ) (q : Tree Quantified) → says ts (tree x q) ≡ op (token_at ts x) (says ts q op)
  pub words : (x : Token) (e : Syntax.Expression) (n : ℕ) → flat (op x e) n ≡ word ATTRIBUTE (number x) 0 0 ∷ (flat e (n + 1) ++ (word k n (n + size e) 0 ∷ []))
  pub sizes : (x : Token) (e : Syntax.Expression) → size (op x e) ≡ size e + 2

ex_law : QuantifierLaw EX EXISTS
unfolding says flat size
ex_law = record { low = omega arith; small = omega arith; tree = Grammar.ex; takes = ex_rule; op = exists; said = λ ts x q. refl; words = λ x e n. refl; sizes = λ x e. refl }

fa_law : QuantifierLaw FA FOR_ALL
unfolding says flat size
fa_law = record { low = omega arith; small = omega arith; tree = Grammar.fa; takes = fa_rule; op = for_all; said = λ ts x q. refl; words = λ x e n. refl; sizes = λ x e. refl }

pub quantifier_law : {t k : ℕ} → Quantifier t k → QuantifierLaw t k
quantifier_law is_ex = ex_law
quantifier_law is_fa = fa_law

abbrev over_all : (Token → Syntax.Expression → Syntax.Expression) → List Token → List ℕ → Syntax.Expression → Syntax.Expression
over_all op ts [] e = e
over_all op ts (v ∷ vs) e = op (token_at ts v) (over_all op ts vs e)

nest_said : (op : Token → Syntax.Expression → Syntax.Expression) (ts : List Token) (vs : List ℕ) (t : Tree Expression) → says ts (nest vs t) op ≡ over_all op ts vs (says ts t)
unfolding says
nest_said op ts [] t = refl
nest_said op ts (v ∷ vs) t = ap (op (token_at ts v)) (nest_said op ts vs t)

module _ {t k : ℕ} (q : QuantifierLaw t k) (ts : List Token) where
  over_size : (vs : List ℕ) (e : Syntax.Expression) → size (over_all q.op ts vs e) ≡ size e + 2 * length vs
  over_size [] e = omega arith
  over_size (v ∷ vs) e = q.sizes (token_at ts v) (over_all q.op ts vs e) ∙ (let i = over_size vs e in omega arith)

  names_words : {ws : List ℕ} {p r : ℕ} {vs : List ℕ} → Names ws p r vs → Holds ws ts → (e : Syntax.Expression) (n : ℕ) → flat (over_all q.op ts vs e) n ≡ map attribute vs ++ (flat e (n + length vs) ++ binders k (length vs) n (n + length vs + size e))
  unfolding binders
  names_words (no_more h) g e n = let i : n ≡ n + 0 = omega arith in sym (append-nil (flat e n)) ∙ ap (λ j. flat e j ++ []) i
  names_words (one_more {p} {vs = vs} a b f) g e n =
      let j = length vs in
      let w = word k n (n + size (over_all q.op ts vs e)) 0 in
      let x : n + 1 + length vs ≡ n + suc (length vs) = omega arith in
      let y : n + size (over_all q.op ts vs e) ≡ n + suc (length vs) + size e + length vs - 1 = omega (arith, over_size vs e) in
      q.words (token_at ts p) (over_all q.op ts vs e) n
      ∙ ap (λ v. word ATTRIBUTE v 0 0 ∷ (flat (over_all q.op ts vs e) (n + 1) ++ (w ∷ []))) (name_number g p a)
      ∙ ap (λ xs. attribute p ∷ (xs ++ (w ∷ []))) (names_words f g e (n + 1))
      ∙ ap (λ xs. attribute p ∷ xs) (append_assoc (map attribute vs) _ (w ∷ []) ∙ ap (λ xs. map attribute vs ++ xs) (append_assoc (flat e (n + 1 + length vs)) _ (w ∷ [])))
      ∙ ap (λ i. attribute p ∷ (map attribute vs ++ (flat e i ++ (binders k (length vs) (n + 1) (i + size e) ++ (w ∷ []))))) x
      ∙ ap (λ i. attribute p ∷ (map attribute vs ++ (flat e (n + suc (length vs)) ++ (binders k (length vs) (n + 1) (n + suc (length vs) + size e) ++ (word k n i 0 ∷ []))))) y
      ∙ ap (λ xs. attribute p ∷ (map attribute vs ++ (flat e (n + suc (length vs)) ++ xs))) (sym (last_binder k (length vs) n (n + suc (length vs) + size e)))

length_map : (vs : List ℕ) → length (map attribute vs) ≡ length vs
length_map [] = refl
length_map (v ∷ vs) = ap suc (length_map vs)

-- attributes, body and quantifiers, one after the other
bound_wrote : {t k : ℕ} (q : QuantifierLaw t k) (ts : List Token) {ws : List ℕ} {p r : ℕ} {vs : List ℕ} → Names ws p r vs → Holds ws ts → (e : Syntax.Expression) {n m l : ℕ} {A A₁ A₂ : List ℕ} → Wrote A n (map attribute vs) m A₁ → Wrote A₁ m (flat e m) l A₂ → Wrote A n (flat (over_all q.op ts vs e) n) (l + (m - n)) (sets A₂ l (binders k (m - n) n l))
bound_wrote {k = k} q ts {vs = vs} i g e {n} {m} {l} {A} {A₁} {A₂} f h =
    let x : m ≡ n + length vs = f.many ∙ ap (λ j. n + j) (length_map vs) in
    let y : l ≡ n + length vs + size e = h.many ∙ ap (λ j. m + j) (length_flat e m) ∙ ap (λ j. j + size e) x in
    let z : m - n ≡ length vs = omega arith in
    let last : Wrote A₂ l (binders k (m - n) n l) (l + (m - n)) (sets A₂ l (binders k (m - n) n l)) = record { is = refl; many = ap (λ j. l + j) (sym (length_binders k (m - n) n l)) } in
    wrote_as (append_assoc (map attribute vs) (flat e m) _ ∙ ap (λ j. map attribute vs ++ (flat e j ++ binders k (m - n) n l)) x ∙ ap (λ j. map attribute vs ++ (flat e (n + length vs) ++ binders k j n l)) z ∙ ap (λ j. map attribute vs ++ (flat e (n + length vs) ++ binders k (length vs) n j)) y ∙ sym (names_words q ts i g e n)) (wrote_then (wrote_then f h) last)

pub bound_of : {ws : List ℕ} {p n q m : ℕ} {A A' : List ℕ} {a : Answer} → IsBound ws p n A A' a → a ≡ Ok (q, m) → Bound ws p n A A' q m
bound_of h e = rw e at h.is

module _ (ws : List ℕ) (p n d k : ℕ) (A : List ℕ) (u : Quantifier (kind_in ws p) k) where
  law : QuantifierLaw (kind_in ws p) k
  law = quantifier_law u

  pub quantifier_within : p < length ws
  quantifier_within = kind_within ws p (omega (arith, law.low))

  pub quantifier_deep : {B : List ℕ} → 32 ≤ d → IsPrimary ws p n d A B (Err (TooMuch p))
  quantifier_deep l = let i = quantifier_within in refused (omega arith) (deep! law.takes (omega arith) (key_first ws p refl law.low))

  module _ {A₁ : List ℕ} {a : Answer} (l : d < 32) (h : IsBound ws (p + 1) n A A₁ a) where
    within_33 : suc d ≤ 32
    within_33 = omega arith

    pub quantifier_unbound : {why : ParseError} → a ≡ Err why → {B : List ℕ} → IsPrimary ws p n d A B (Err why)
    quantifier_unbound i =
        let e = subst (bound ws (p + 1) n A A₁) i h.is in
        refused e.1.1 (rw e.0 (fail! law.takes within_33 (key_first ws p refl law.low) (at e.1.0)))
      where
        at : {q : ℕ} → Unbound ws (p + 1) q → Fails d (fixed LPAREN ∷ identifier ∷ fixed COMMA ∷ phrase Quantified ∷ fixed RPAREN ∷ level_end ∷ []) (drop (p + 1) (seen ws)) 10 (drop q (seen ws))
        at (no_bracket e) = stop! (no_token! (not_key ws (p + 1) e))
        at (no_name e f) = token! within_33 (key_first ws (p + 1) e (omega arith)) ▹ stop! (no_name! (not_name ws (p + 1 + 1) f))
        at (no_comma e f g) = token! within_33 (key_first ws (p + 1) e (omega arith)) ▹ name! within_33 (name_then ws (p + 1 + 1) (p + 1 + 2) (omega arith) f) ▹ stop! (no_token! (not_key ws (p + 1 + 2) g))

    module _ {q m : ℕ} (i : a ≡ Ok (q, m)) where
      b : Bound ws (p + 1) n A A₁ q m
      b = bound_of h i

      first : First ws (p + 1 + 1) q b.names
      first = first_name b.more b.name (let e : p + 1 + 1 + 1 ≡ p + 1 + 2 = omega arith in ap (kind_in ws) e ∙ b.comma)

      head_reads : {γ : List Symbol} {fs : Forest γ} {r : List Terminal} → level γ d ≤ 32 → Reads d γ (drop (p + 1 + 3) (seen ws)) fs r → Reads d (fixed LPAREN ∷ identifier ∷ fixed COMMA ∷ γ) (drop (p + 1) (seen ws)) (tt, (p + 1 + 1, (tt, fs))) r
      head_reads o f = token! o (key_first ws (p + 1) b.opened (omega arith)) ▸ name! o (name_then ws (p + 1 + 1) (p + 1 + 2) (omega arith) b.name) ▸ token! o (key_then ws (p + 1 + 2) (p + 1 + 3) (omega arith) b.comma (omega arith)) ▸ f

      head_fails : {γ : List Symbol} {row : ℕ} {r : List Terminal} → level γ d ≤ 32 → Fails d γ (drop (p + 1 + 3) (seen ws)) row r → Fails d (fixed LPAREN ∷ identifier ∷ fixed COMMA ∷ γ) (drop (p + 1) (seen ws)) row r
      head_fails o f = token! o (key_first ws (p + 1) b.opened (omega arith)) ▹ name! o (name_then ws (p + 1 + 1) (p + 1 + 2) (omega arith) b.name) ▹ token! o (key_then ws (p + 1 + 2) (p + 1 + 3) (omega arith) b.comma (omega arith)) ▹ f

      names : Names ws (p + 1 + 3) q first.rest
      names = let e : p + 1 + 1 + 2 ≡ p + 1 + 3 = omega arith in subst (λ j. Names ws j q first.rest) e first.more

      pub quantifier_reads : {A₂ A₃ : List ℕ} {c r : Answer} → InBrackets ws q m d A₁ A₂ c → Binds k n m A₂ A₃ c r → IsPrimary ws p n d A A₃ r
      quantifier_reads {A₂} {A₃} {c} {r} v j = by c v j
        where
          by : (c : Answer) → InBrackets ws q m d A₁ A₂ c → Binds k n m A₂ A₃ c r → IsPrimary ws p n d A A₃ r
          by (Ok (q', l')) v j =
              let o = v.bounds in
              subst (IsPrimary ws p n d A A₃) (sym j.0) (record {
                bounds = record { more = omega (arith, b.some); paid = omega (arith, b.some, b.paid); within = o.within };
                at = λ ts g. let f = v.at ts g in record {
                  tree = law.tree (p + 1 + 1) (nest first.rest f.tree);
                  reads = read! law.takes within_33 (key_first ws p refl law.low) (head_reads within_33 (names_read names within_33 f.reads ▸ token! within_33 f.bracket ▸ closed! ▸ done!));
                  wrote = subst (Wrote A n (flat (says ts (law.tree (p + 1 + 1) (nest first.rest f.tree))) n) (l' + (m - n))) (sym j.1) (wrote_as (ap (λ e. flat e n) (ap (λ vs. over_all law.op ts vs (says ts f.tree)) first.is ∙ ap (law.op (token_at ts (p + 1 + 1))) (sym (nest_said law.op ts first.rest f.tree)) ∙ sym (law.said ts (p + 1 + 1) (nest first.rest f.tree)))) (bound_wrote law ts b.more g (says ts f.tree) b.wrote f.wrote));
                };
              })
          by (Err why) v j = subst (IsPrimary ws p n d A A₃) (sym j) (record { bounds = v.bounds; at = λ ts g. stopped (v.at ts g) })
            where
              stopped : {row q' : ℕ} → Unclosed ws d q row q' → Fails d (phrase Primary ∷ []) (drop p (seen ws)) row (drop q' (seen ws))
              stopped (body_fails f) = fail! law.takes within_33 (key_first ws p refl law.low) (head_fails within_33 (stop! (names_fail names within_33 f)))
              stopped (no_close {q = q'} t f x) = fail! law.takes within_33 (key_first ws p refl law.low) (head_fails within_33 (names_read names within_33 f ▹ stop! (no_token! (not_key ws q' x))))

pub bind_room : {ws : List ℕ} {p n q m d k M : ℕ} {A A₁ A₂ A₃ : List ℕ} {c : Answer} → k < 256 → Bound ws (p + 1) n A A₁ q m → InBrackets ws q m d A₂ A₃ c → n ≤ p → length ws ≤ 2048 → length ws ≤ M → BindRoom M k n m c
bind_room {ws} {p} {n} {q} {m} {d} {k} {M} {c = c} s b v used small room = by c v.bounds
  where
    by : (c : Answer) → closed_far ws q m c → BindRoom M k n m c
    by (Ok (q', l)) o = record { small_kind = s; order = omega (arith, b.some); body = o.more; room = omega (arith, b.some, b.paid, o.paid, o.within); small = omega (arith, b.some, b.paid, o.paid, o.within) }
    by (Err why) o = tt

pub closed_room : {ws : List ℕ} {p n d M : ℕ} {A A' : List ℕ} {b : Answer} (k : ℕ) → InBrackets ws p n d A A' b → k < 256 → n ≤ p → length ws ≤ 2048 → length ws ≤ M → WrapRoom M k b
closed_room {ws} {p} {n} {M = M} {b = b} k v hk hp hl hm = by b v.bounds
  where
    by : (b : Answer) → closed_far ws p n b → WrapRoom M k b
    by (Ok (q, l)) o = record { kind = hk; sign = omega arith; left = omega (arith, o.more); order = omega arith; room = omega (arith, o.paid, o.within); small = omega (arith, o.paid, o.within) }
    by (Err why) o = tt

-- by the kind of the first token
pub ex_here : {t : ℕ} → t ≡ EX → Quantifier t EXISTS
ex_here e = subst (λ t. Quantifier t EXISTS) (sym e) is_ex

pub fa_here : {t : ℕ} → t ≡ FA → Quantifier t FOR_ALL
fa_here e = subst (λ t. Quantifier t FOR_ALL) (sym e) is_fa

pub closure_here : (k t : ℕ) → k ≡ t → 35 ≤ k → k < 37 → Applies t CLOSURE
closure_here k t e a b = at (eqb t TC) refl
  where
    at : (c : Bool) → eqb t TC ≡ c → Applies t CLOSURE
    at true c = subst (λ t. Applies t CLOSURE) (sym (eqb-true t TC c)) is_tc
    at false c = let f = eqb-false t TC c in let g : t ≡ TCFAST = omega arith in subst (λ t. Applies t CLOSURE) (sym g) is_tcfast

pub hash_here : {t : ℕ} → t ≡ HASH → Applies t COUNT
hash_here e = subst (λ t. Applies t COUNT) (sym e) is_hash

pub plain_here : (k t : ℕ) → k ≡ t → (k ≡ LPAREN → ⊥) → (k ≡ EX → ⊥) → (k ≡ FA → ⊥) → (k < 35) ⊎ (37 ≤ k) → Plain t
plain_here k t e a b c d = record {
  group = λ i. a (e ∙ i);
  ex = λ i. b (e ∙ i);
  fa = λ i. c (e ∙ i);
  tc = λ i. ⊎_elim (λ l. omega arith) (λ l. omega arith) d;
  tcfast = λ i. ⊎_elim (λ l. omega arith) (λ l. omega arith) d;
}
