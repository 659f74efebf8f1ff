-- Operands and the signs between them: comparison, -> and <->, | and &, and !.
use Rattle.std.specs.Prelude.{Ok, Err}
use mathlib.Core.List.{List, [], ◌∷◌, ◌++◌, append_assoc}
use mathlib.Core.Path.{◌≡◌, refl, ap, sym, subst, ◌∙◌}
use native.Mathlib.Omega.{arith}
use Prim.Native.Nat.{ℕ, suc, ◌+◌, ◌-◌, ◌≤◌, ◌<◌}
use lib.ListN.{length, drop, set}
use Rattle.definition.proofs.GrammarReads.{Rule, Stands, Reads, Fails, read!, fail!, deep!, as!, as_fails!, ◌▸◌, ◌▹◌, stop!, done!, closed!, next, a_key}
use Rattle.definition.proofs.GrammarExpressions.{expression_rule, implication_rule, disjunction_rule, conjunction_rule, comparison_rule, no_comparison!, implies_rule, iff_rule, no_consequent!, more_or_rule, end_or!, more_and_rule, end_and!, negation_rule, primary_rule}
use Rattle.definition.specs.Grammar.{Nonterminal, Tree, Expression, Comparison, Implication, Consequent, Disjunction, MoreOr, Conjunction, MoreAnd, Negation, Primary, one_less}
use Rattle.definition.specs.Grammar as Grammar
use Rattle.definition.specs.Reader.{phrase}
use Rattle.definition.specs.Syntax as Syntax
use Rattle.definition.specs.Syntax.{says, negation, conjunction, disjunction, implication, equivalence, compare_relations}
use Rattle.definition.specs.Token.{Token, Terminal, sign, key, Sign, AND, OR, NOT, IMPLIES, IFF}
use Rattle.expressions.specs.Operators.{Joined, Wrapped, JoinRoom, WrapRoom, series, IsSeries}
use Rattle.lexer.specs.Tokens.{sign_of}
use Rattle.terms.proofs.AtomLaws.{refused}
use Rattle.terms.proofs.TokenLaws.{kind_within, key_first, sign_first, sign_code, not_key, not_sign, begins_none}
use Rattle.terms.proofs.WriteLaws.{wrote_then, wrote_next, wrote_as}
use Rattle.terms.specs.declared.ParseError.{ParseError}
use Rattle.terms.specs.declared.ParseError.TheVariants.{TooMuch}
use Rattle.terms.specs.Phrases.{Answer, row_of, token_of, kind_in, seen, Holds, Wrote, Meaning, Got, parsed, Paid, far, Parsed, IsNegation, IsPrimary, IsConjunction, IsDisjunction, IsImplication, IsExpression}
use Rattle.terms.specs.Terms.{NoQuantity}
use Rattle.words.proofs.Sizes.{length_flat}
use Rattle.words.specs.Fields.{word, NEGATION, CONJUNCTION, DISJUNCTION, IMPLICATION, EQUIVALENCE, COMPARISON}
use Rattle.words.specs.Raw.{flat, size, over, sign_number}

-- what an answer says, where it is known
pub paid_of : {x : Nonterminal} {e : Meaning x} {ws : List ℕ} {p n d q m : ℕ} {A A' : List ℕ} {a : Answer} → Parsed x e ws p n d A A' a → a ≡ Ok (q, m) → Paid ws p n q m
paid_of {ws = ws} {p} {n} h i = subst (far ws p n) i h.bounds

pub got_of : {x : Nonterminal} {e : Meaning x} {ws : List ℕ} {p n d q m : ℕ} {A A' : List ℕ} {a : Answer} → Parsed x e ws p n d A A' a → a ≡ Ok (q, m) → (ts : List Token) → Holds ws ts → Got x e ws ts p n d A A' q m
got_of {x} {e} {ws} {p} {n} {d} {A = A} {A'} h i ts g = subst (parsed x e ws ts p n d A A') i (h.at ts g)

-- an operator: its word stands over those of its operands
pub record Operator (k s : ℕ) (op : Syntax.Expression → Syntax.Expression → Syntax.Expression) : Type 0 where
  pub words : (a b : Syntax.Expression) (n : ℕ) → flat (op a b) n ≡ flat a n ++ (flat b (n + size a) ++ (over k (n + size a) (n + size a + size b) s ∷ []))

pub both_wrote : {k s : ℕ} {op : Syntax.Expression → Syntax.Expression → Syntax.Expression} → Operator k s op → (a b : Syntax.Expression) {n m l : ℕ} {A A₁ A₂ : List ℕ} → Wrote A n (flat a n) m A₁ → Wrote A₁ m (flat b m) l A₂ → Wrote A n (flat (op a b) n) (l + 1) (set A₂ l (word k (m - 1) (l - 1) s))
both_wrote {k} {s} o a b {n} {m} {l} f g =
    let e : m ≡ n + size a = f.many ∙ ap (λ i. n + i) (length_flat a n) in
    let i : l ≡ n + size a + size b = g.many ∙ ap (λ j. m + j) (length_flat b m) ∙ ap (λ j. j + size b) e in
    wrote_as (append_assoc (flat a n) (flat b m) _ ∙ ap (λ j. flat a n ++ (flat b j ++ (over k j l s ∷ []))) e ∙ ap (λ j. flat a n ++ (flat b (n + size a) ++ (over k (n + size a) j s ∷ []))) i ∙ sym (o.words a b n)) (wrote_next (wrote_then f g) (word k (m - 1) (l - 1) s))

conjunction_operator : Operator CONJUNCTION 0 conjunction
unfolding flat
conjunction_operator = record { words = λ a b n. refl }

disjunction_operator : Operator DISJUNCTION 0 disjunction
unfolding flat
disjunction_operator = record { words = λ a b n. refl }

implication_operator : Operator IMPLICATION 0 implication
unfolding flat
implication_operator = record { words = λ a b n. refl }

equivalence_operator : Operator EQUIVALENCE 0 equivalence
unfolding flat
equivalence_operator = record { words = λ a b n. refl }

comparison_operator : (g : Sign) → Operator COMPARISON (sign_number g) (compare_relations g)
unfolding flat
comparison_operator g = record { words = λ a b n. refl }

-- a phrase x that is an operand y and a tail z, at the tokens l; z is none, or a token and an operand
pub record Tail (x y z : Nonterminal) (ex : Meaning x) (ey : Meaning y) (l : List Terminal) : Type 0 where
  pub ez : List Token → Tree z → Syntax.Expression → Syntax.Expression
  pub make : Tree y → Tree z → Tree x
  pub none : Tree z
  pub stands : Stands (phrase x) (phrase y ∷ phrase z ∷ []) (λ fs. make fs.0 fs.1.0) l
  pub said : (ts : List Token) (a : Tree y) (b : Tree z) → ex ts (make a b) ≡ ez ts b (ey ts a)
  pub said_none : (ts : List Token) (e : Syntax.Expression) → ez ts none e ≡ e

module _ {x y z : Nonterminal} {ex : Meaning x} {ey : Meaning y} {ws : List ℕ} {p : ℕ} (t : Tail x y z ex ey (drop p (seen ws))) {n d : ℕ} {A A₁ : List ℕ} {a : Answer} (h : Parsed y ey ws p n d A A₁ a) where
  pub tail_stops : {why : ParseError} → a ≡ Err why → Parsed x ex ws p n d A A₁ (Err why)
  tail_stops i = record {
    bounds = subst (far ws p n) i h.bounds;
    at = λ ts g. (as_fails! t.stands (stop! (subst (parsed y ey ws ts p n d A A₁) i (h.at ts g))));
  }

  module _ {q m : ℕ} (i : a ≡ Ok (q, m)) where
    pub tail_none : Reads d (phrase z ∷ []) (drop q (seen ws)) (t.none, tt) (drop q (seen ws)) → Parsed x ex ws p n d A A₁ (Ok (q, m))
    tail_none f = record {
      bounds = paid_of h i;
      at = λ ts g. let b = got_of h i ts g in record {
        tree = t.make b.tree t.none;
        reads = as! t.stands (b.reads ▸ f ▸ done!);
        wrote = wrote_as (ap (λ e. flat e n) (sym (t.said ts b.tree t.none ∙ t.said_none ts (ey ts b.tree)))) b.wrote;
      };
    }

    -- one operand behind a token
    pub tail_joins : {w : Nonterminal} {ew : Meaning w} {u : Terminal} {k s : ℕ} {op : Syntax.Expression → Syntax.Expression → Syntax.Expression} (some : Tree w → Tree z) → Rule (phrase z) u (phrase w ∷ []) (λ fs. some fs.0) → ((ts : List Token) (b : Tree w) (e : Syntax.Expression) → t.ez ts (some b) e ≡ op e (ew ts b)) → Operator k s op → d ≤ 32 → q < length ws → drop q (seen ws) ≡ u ∷ drop (q + 1) (seen ws) → {A₂ A₃ : List ℕ} {b r : Answer} → Parsed w ew ws (q + 1) m d A₁ A₂ b → Joined k m s A₂ A₃ b r → Parsed x ex ws p n d A A₃ r
    tail_joins {w} {ew} {u} {k} {s} {op} some rule told o l within e {A₂} {A₃} {b} {r} v j = by b v j
      where
        by : (b : Answer) → Parsed w ew ws (q + 1) m d A₁ A₂ b → Joined k m s A₂ A₃ b r → Parsed x ex ws p n d A A₃ r
        by (Ok (q', l')) v j =
            let c = paid_of h i in
            let c' = v.bounds in
            subst (Parsed x ex ws p n d A A₃) (sym j.0) (record {
              bounds = record { more = omega arith; paid = omega arith; within = c'.within };
              at = λ ts g. let f = got_of h i ts g in let f' = v.at ts g in record {
                tree = t.make f.tree (some f'.tree);
                reads = as! t.stands (f.reads ▸ read! rule l e (f'.reads ▸ done!) ▸ done!);
                wrote = subst (Wrote A n (flat (ex ts (t.make f.tree (some f'.tree))) n) (l' + 1)) (sym j.1) (wrote_as (ap (λ e. flat e n) (sym (t.said ts f.tree (some f'.tree) ∙ told ts f'.tree (ey ts f.tree)))) (both_wrote o (ey ts f.tree) (ew ts f'.tree) f.wrote f'.wrote));
              };
            })
        by (Err why) v j = subst (Parsed x ex ws p n d A A₃) (sym j) (record {
          bounds = v.bounds;
          at = λ ts g. let f = got_of h i ts g in as_fails! t.stands (f.reads ▹ stop! (fail! rule l e (stop! (v.at ts g))));
        })

-- a tail z of operands y, each behind the key c; both may hang on how many operands may still come
pub record Chain (y z : ℕ → Nonterminal) (ey : (k : ℕ) → Meaning (y k)) (ez : (k : ℕ) → List Token → Tree (z k) → Syntax.Expression → Syntax.Expression) (c kind : ℕ) : Type 0 where
  pub first : (ws : List ℕ) (p : ℕ) → kind_in ws p ≡ c → drop p (seen ws) ≡ key c ∷ drop (p + 1) (seen ws)
  pub none : (k : ℕ) → Tree (z k)
  pub more : (k : ℕ) → Tree (y k) → Tree (z (one_less k)) → Tree (z k)
  pub takes : (k : ℕ) → Rule (phrase (z k)) (key c) (phrase (y k) ∷ phrase (z (one_less k)) ∷ []) (λ fs. more k fs.0 fs.1.0)
  pub ends : (k : ℕ) {d : ℕ} {l : List Terminal} → (next l ≡ a_key c → ⊥) → Reads d (phrase (z k) ∷ []) l (none k, tt) l
  pub op : Syntax.Expression → Syntax.Expression → Syntax.Expression
  pub operator : Operator kind 0 op
  pub said_none : (k : ℕ) (ts : List Token) (e : Syntax.Expression) → ez k ts (none k) e ≡ e
  pub told : (k : ℕ) (ts : List Token) (a : Tree (y k)) (b : Tree (z (one_less k))) (e : Syntax.Expression) → ez k ts (more k a b) e ≡ ez (one_less k) ts b (op e (ey k ts a))

-- what the first operand and its tail say
abbrev pub all_said : {y z : ℕ → Nonterminal} (ey : (k : ℕ) → Meaning (y k)) (ez : (k : ℕ) → List Token → Tree (z k) → Syntax.Expression → Syntax.Expression) (s : ℕ) → List Token → Tree (y s) → Tree (z (one_less s)) → Syntax.Expression
all_said ey ez s ts a b = ez (one_less s) ts b (ey s ts a)

-- the operands up to q are read, the first where s might come; now k may: any tail there makes one of the whole
pub record Link {y z : ℕ → Nonterminal} {ey : (k : ℕ) → Meaning (y k)} {ez : (k : ℕ) → List Token → Tree (z k) → Syntax.Expression → Syntax.Expression} {c kind : ℕ} (t : Chain y z ey ez c kind) (s : ℕ) (ws : List ℕ) (ts : List Token) (p n d : ℕ) (A A' : List ℕ) (k q m : ℕ) : Type 0 where
  pub head : Tree (y s)
  pub make : Tree (z k) → Tree (z (one_less s))
  pub sofar : Syntax.Expression
  pub said : (b : Tree (z k)) → ez (one_less s) ts (make b) (ey s ts head) ≡ ez k ts b sofar
  pub reads : (b : Tree (z k)) (r : List Terminal) → Reads d (phrase (z k) ∷ []) (drop q (seen ws)) (b, tt) r → Reads d (phrase (y s) ∷ phrase (z (one_less s)) ∷ []) (drop p (seen ws)) (head, (make b, tt)) r
  pub fails : (row : ℕ) (r : List Terminal) → Fails d (phrase (z k) ∷ []) (drop q (seen ws)) row r → Fails d (phrase (y s) ∷ phrase (z (one_less s)) ∷ []) (drop p (seen ws)) row r
  pub wrote : Wrote A n (flat sofar n) m A'

abbrev pub linked : {y z : ℕ → Nonterminal} {ey : (k : ℕ) → Meaning (y k)} {ez : (k : ℕ) → List Token → Tree (z k) → Syntax.Expression → Syntax.Expression} {c kind : ℕ} → Chain y z ey ez c kind → ℕ → List ℕ → List Token → ℕ → ℕ → ℕ → List ℕ → List ℕ → ℕ → Answer → Type 0
linked t s ws ts p n d A A' k (Ok (q, m)) = Link t s ws ts p n d A A' k q m
linked {y} {z} t s ws ts p n d A A' k (Err why) = Fails d (phrase (y s) ∷ phrase (z (one_less s)) ∷ []) (drop p (seen ws)) (row_of why) (drop (token_of why) (seen ws))

pub record Linked {y z : ℕ → Nonterminal} {ey : (k : ℕ) → Meaning (y k)} {ez : (k : ℕ) → List Token → Tree (z k) → Syntax.Expression → Syntax.Expression} {c kind : ℕ} (t : Chain y z ey ez c kind) (s : ℕ) (ws : List ℕ) (p n d : ℕ) (A A' : List ℕ) (k : ℕ) (a : Answer) : Type 0 where
  pub bounds : far ws p n a
  pub at : (ts : List Token) → Holds ws ts → linked t s ws ts p n d A A' k a
  pub long : length A' ≡ length A

module _ {y z : ℕ → Nonterminal} {ey : (k : ℕ) → Meaning (y k)} {ez : (k : ℕ) → List Token → Tree (z k) → Syntax.Expression → Syntax.Expression} {c kind : ℕ} (t : Chain y z ey ez c kind) (s : ℕ) {ws : List ℕ} {p n d : ℕ} {A A₁ : List ℕ} where
  pub chain_starts : {a : Answer} → Parsed (y s) (ey s) ws p n d A A₁ a → length A₁ ≡ length A → Linked t s ws p n d A A₁ (one_less s) a
  chain_starts {a} h long = record { bounds = h.bounds; long = long; at = λ ts g. by ts a (h.at ts g) }
    where
      by : (ts : List Token) (a : Answer) → parsed (y s) (ey s) ws ts p n d A A₁ a → linked t s ws ts p n d A A₁ (one_less s) a
      by ts (Ok (q, m)) f = record { head = f.tree; make = λ b. b; sofar = ey s ts f.tree; said = λ b. refl; reads = λ b r i. f.reads ▸ i; fails = λ row r i. f.reads ▹ i; wrote = f.wrote }
      by ts (Err why) f = stop! f

  module _ {k : ℕ} {a : Answer} (h : Linked t s ws p n d A A₁ k a) where
    pub chain_stops : {why : ParseError} → a ≡ Err why → IsSeries (y s) (z (one_less s)) (all_said ey ez s) ws p n d A A₁ (Err why)
    chain_stops i = record { bounds = subst (far ws p n) i h.bounds; at = λ ts g. subst (linked t s ws ts p n d A A₁ k) i (h.at ts g) }

    module _ {q m : ℕ} (i : a ≡ Ok (q, m)) where
      pub chain_paid : Paid ws p n q m
      chain_paid = subst (far ws p n) i h.bounds

      pub link : (ts : List Token) → Holds ws ts → Link t s ws ts p n d A A₁ k q m
      link ts g = subst (linked t s ws ts p n d A A₁ k) i (h.at ts g)

      pub chain_ends : (kind_in ws q ≡ c → ⊥) → IsSeries (y s) (z (one_less s)) (all_said ey ez s) ws p n d A A₁ (Ok (q, m))
      chain_ends e = record {
        bounds = chain_paid;
        at = λ ts g. let f = link ts g in record {
          first = f.head;
          rest = f.make (t.none k);
          reads = f.reads (t.none k) (drop q (seen ws)) (t.ends k (not_key ws q e));
          wrote = wrote_as (ap (λ e. flat e n) (sym (f.said (t.none k) ∙ t.said_none k ts f.sofar))) f.wrote;
        };
      }

      pub chain_on : d ≤ 32 → kind_in ws q ≡ c → {A₂ A₃ : List ℕ} {b r : Answer} → Parsed (y k) (ey k) ws (q + 1) m d A₁ A₂ b → Joined kind m 0 A₂ A₃ b r → length A₃ ≡ length A → Linked t s ws p n d A A₃ (one_less k) r
      chain_on l e {A₂} {A₃} {b} {r} v j long = by b v j
        where
          by : (b : Answer) → Parsed (y k) (ey k) ws (q + 1) m d A₁ A₂ b → Joined kind m 0 A₂ A₃ b r → Linked t s ws p n d A A₃ (one_less k) r
          by (Ok (q', l')) v j =
              let o = chain_paid in
              let o' = v.bounds in
              subst (Linked t s ws p n d A A₃ (one_less k)) (sym j.0) (record {
                long = long;
                bounds = record { more = omega arith; paid = omega arith; within = o'.within };
                at = λ ts g. let f = link ts g in let f' = v.at ts g in record {
                  head = f.head;
                  make = λ b. f.make (t.more k f'.tree b);
                  sofar = t.op f.sofar (ey k ts f'.tree);
                  said = λ b. f.said (t.more k f'.tree b) ∙ t.told k ts f'.tree b f.sofar;
                  reads = λ b r u. f.reads (t.more k f'.tree b) r (read! (t.takes k) l (t.first ws q e) (f'.reads ▸ u));
                  fails = λ row r u. f.fails row r (fail! (t.takes k) l (t.first ws q e) (f'.reads ▹ u));
                  wrote = subst (Wrote A n (flat (t.op f.sofar (ey k ts f'.tree)) n) (l' + 1)) (sym j.1) (both_wrote t.operator f.sofar (ey k ts f'.tree) f.wrote f'.wrote);
                };
              })
          by (Err why) v j = subst (Linked t s ws p n d A A₃ (one_less k)) (sym j) (record {
            long = long;
            bounds = v.bounds;
            at = λ ts g. (link ts g).fails (row_of why) (drop (token_of why) (seen ws)) (fail! (t.takes k) l (t.first ws q e) (stop! (v.at ts g)));
          })

-- one phrase that is two
series_whole : {x y z : Nonterminal} {ex : Meaning x} {e : List Token → Tree y → Tree z → Syntax.Expression} (make : Tree y → Tree z → Tree x) → ((l : List Terminal) → Stands (phrase x) (phrase y ∷ phrase z ∷ []) (λ fs. make fs.0 fs.1.0) l) → ((ts : List Token) (a : Tree y) (b : Tree z) → e ts a b ≡ ex ts (make a b)) → {ws : List ℕ} {p n d : ℕ} {A A₁ : List ℕ} {r : Answer} → IsSeries y z e ws p n d A A₁ r → Parsed x ex ws p n d A A₁ r
series_whole {x} {y} {z} {ex} {e} make stands said {ws} {p} {n} {d} {A} {A₁} {r} h = record { bounds = h.bounds; at = λ ts g. by ts r (h.at ts g) }
  where
    by : (ts : List Token) (r : Answer) → series y z e ws ts p n d A A₁ r → parsed x ex ws ts p n d A A₁ r
    by ts (Ok (q, m)) f = record { tree = make f.first f.rest; reads = as! (stands _) f.reads; wrote = wrote_as (ap (λ e. flat e n) (said ts f.first f.rest)) f.wrote }
    by ts (Err why) f = as_fails! (stands _) f

-- the two chains of operands without number
pub or_chain : Chain (λ k. Conjunction) (λ k. MoreOr) (λ k ts t. says ts t) (λ k ts t. says ts t) OR DISJUNCTION
unfolding says
or_chain = record {
  first = λ ws p e. key_first ws p e (omega arith);
  none = λ k. Grammar.end_or;
  more = λ k a b. Grammar.more_or a b;
  takes = λ k. more_or_rule;
  ends = λ k e. end_or! e;
  op = disjunction;
  operator = disjunction_operator;
  said_none = λ k ts e. refl;
  told = λ k ts a b e. refl;
}

pub and_chain : Chain (λ k. Negation) (λ k. MoreAnd) (λ k ts t. says ts t) (λ k ts t. says ts t) AND CONJUNCTION
unfolding says
and_chain = record {
  first = λ ws p e. key_first ws p e (omega arith);
  none = λ k. Grammar.end_and;
  more = λ k a b. Grammar.more_and a b;
  takes = λ k. more_and_rule;
  ends = λ k e. end_and! e;
  op = conjunction;
  operator = conjunction_operator;
  said_none = λ k ts e. refl;
  told = λ k ts a b e. refl;
}

module _ {ws : List ℕ} {p n d : ℕ} {A A₁ : List ℕ} {r : Answer} where
  pub or_whole : IsSeries Conjunction MoreOr (λ ts a b. says ts b (says ts a)) ws p n d A A₁ r → IsDisjunction ws p n d A A₁ r
  unfolding says
  or_whole h = series_whole Grammar.disjunction (λ l. disjunction_rule) (λ ts a b. refl) h

  pub and_whole : IsSeries Negation MoreAnd (λ ts a b. says ts b (says ts a)) ws p n d A A₁ r → IsConjunction ws p n d A A₁ r
  unfolding says
  and_whole h = series_whole Grammar.conjunction (λ l. conjunction_rule) (λ ts a b. refl) h

-- the two tails of one operand: a relation comparison, and -> or <->
unfoldable pub comparison_tail : (ws : List ℕ) (p : ℕ) → NoQuantity (kind_in ws p) → Tail Expression Implication Comparison (λ ts t. says ts t) (λ ts t. says ts t) (drop p (seen ws))
unfolding says
comparison_tail ws p h = record { ez = λ ts t. says ts t; make = Grammar.expression; none = Grammar.no_comparison; stands = expression_rule (begins_none ws p h); said = λ ts a b. refl; said_none = λ ts e. refl }

unfoldable pub consequent_tail : {l : List Terminal} → Tail Implication Disjunction Consequent (λ ts t. says ts t) (λ ts t. says ts t) l
unfolding says
consequent_tail = record { ez = λ ts t. says ts t; make = Grammar.implication; none = Grammar.no_consequent; stands = implication_rule; said = λ ts a b. refl; said_none = λ ts e. refl }

module _ {ws : List ℕ} {p n d q m : ℕ} {A A₁ : List ℕ} {a : Answer} (i : a ≡ Ok (q, m)) where
  pub no_sign_ends : NoQuantity (kind_in ws p) → IsImplication ws p n d A A₁ a → (41 ≤ kind_in ws q → kind_in ws q ≤ 46 → ⊥) → IsExpression ws p n d A A₁ (Ok (q, m))
  unfolding comparison_tail
  no_sign_ends f h e = tail_none (comparison_tail ws p f) h i (no_comparison! (not_sign ws q e))

  pub sign_joins : NoQuantity (kind_in ws p) → IsImplication ws p n d A A₁ a → d ≤ 32 → 41 ≤ kind_in ws q → kind_in ws q ≤ 46 → {A₂ A₃ : List ℕ} {b r : Answer} → IsImplication ws (q + 1) m d A₁ A₂ b → Joined COMPARISON m (kind_in ws q - 41) A₂ A₃ b r → IsExpression ws p n d A A₃ r
  unfolding comparison_tail says
  sign_joins f h l low high {A₂} {A₃} {b} {r} v j =
      let e : sign_number (sign_of (kind_in ws q)) ≡ kind_in ws q - 41 = omega (arith, sign_code (kind_in ws q) low high) in
      tail_joins (comparison_tail ws p f) h i (Grammar.comparison (sign_of (kind_in ws q))) comparison_rule (λ ts b e. refl) (comparison_operator (sign_of (kind_in ws q))) l (kind_within ws q (omega arith)) (sign_first ws q low high) v (subst (λ s. Joined COMPARISON m s A₂ A₃ b r) (sym e) j)

  pub no_arrow_ends : IsDisjunction ws p n d A A₁ a → (kind_in ws q ≡ IMPLIES → ⊥) → (kind_in ws q ≡ IFF → ⊥) → IsImplication ws p n d A A₁ (Ok (q, m))
  unfolding consequent_tail
  no_arrow_ends h e f = tail_none consequent_tail h i (no_consequent! (not_key ws q e) (not_key ws q f))

  pub implies_joins : IsDisjunction ws p n d A A₁ a → d ≤ 32 → kind_in ws q ≡ IMPLIES → {A₂ A₃ : List ℕ} {b r : Answer} → IsDisjunction ws (q + 1) m d A₁ A₂ b → Joined IMPLICATION m 0 A₂ A₃ b r → IsImplication ws p n d A A₃ r
  unfolding consequent_tail says
  implies_joins h l e v j = tail_joins consequent_tail h i Grammar.implies implies_rule (λ ts b e. refl) implication_operator l (kind_within ws q (omega arith)) (key_first ws q e (omega arith)) v j

  pub iff_joins : IsDisjunction ws p n d A A₁ a → d ≤ 32 → kind_in ws q ≡ IFF → {A₂ A₃ : List ℕ} {b r : Answer} → IsDisjunction ws (q + 1) m d A₁ A₂ b → Joined EQUIVALENCE m 0 A₂ A₃ b r → IsImplication ws p n d A A₃ r
  unfolding consequent_tail says
  iff_joins h l e v j = tail_joins consequent_tail h i Grammar.iff iff_rule (λ ts b e. refl) equivalence_operator l (kind_within ws q (omega arith)) (key_first ws q e (omega arith)) v j

-- the word over one operand
pub one_wrote : (k : ℕ) (op : Syntax.Expression → Syntax.Expression) → ((a : Syntax.Expression) (n : ℕ) → flat (op a) n ≡ flat a n ++ (word k (n + size a - 1) 0 0 ∷ [])) → (a : Syntax.Expression) {n m : ℕ} {A A₁ : List ℕ} → Wrote A n (flat a n) m A₁ → Wrote A n (flat (op a) n) (m + 1) (set A₁ m (word k (m - 1) 0 0))
one_wrote k op words a {n} {m} f =
    let e : m ≡ n + size a = f.many ∙ ap (λ i. n + i) (length_flat a n) in
    wrote_as (ap (λ j. flat a n ++ (word k (j - 1) 0 0 ∷ [])) e ∙ sym (words a n)) (wrote_next f (word k (m - 1) 0 0))

negation_wrote : (ts : List Token) (t : Tree Negation) {n m : ℕ} {A A₁ : List ℕ} → Wrote A n (flat (says ts t) n) m A₁ → Wrote A n (flat (says ts (Grammar.negation t)) n) (m + 1) (set A₁ m (word NEGATION (m - 1) 0 0))
unfolding says flat
negation_wrote ts t f = one_wrote NEGATION negation (λ a n. refl) (says ts t) f

primary_said : (ts : List Token) (t : Tree Primary) → says ts t ≡ says ts (Grammar.primary t)
unfolding says
primary_said ts t = refl

-- !
module _ {ws : List ℕ} {p n d : ℕ} {A : List ℕ} where
  pub negation_deep : {B : List ℕ} → p < length ws → 32 ≤ d → kind_in ws p ≡ NOT → IsNegation ws p n d A B (Err (TooMuch p))
  negation_deep i l e = refused (omega arith) (deep! negation_rule (omega arith) (key_first ws p e (omega arith)))

  pub negation_plain : {A₁ : List ℕ} {a : Answer} → (kind_in ws p ≡ NOT → ⊥) → IsPrimary ws p n d A A₁ a → IsNegation ws p n d A A₁ a
  negation_plain {A₁} {a} e h = record { bounds = h.bounds; at = λ ts g. by ts a (h.at ts g) }
    where
      by : (ts : List Token) (a : Answer) → parsed Primary (λ ts t. says ts t) ws ts p n d A A₁ a → parsed Negation (λ ts t. says ts t) ws ts p n d A A₁ a
      by ts (Ok (q, m)) f = record { tree = Grammar.primary f.tree; reads = as! (primary_rule (not_key ws p e)) f.reads; wrote = wrote_as (ap (λ e. flat e n) (primary_said ts f.tree)) f.wrote }
      by ts (Err why) f = as_fails! (primary_rule (not_key ws p e)) f

  pub negation_wraps : {A₁ A₂ : List ℕ} {a r : Answer} → p < length ws → d < 32 → kind_in ws p ≡ NOT → IsNegation ws (p + 1) n (d + 1) A A₁ a → Wrapped NEGATION A₁ A₂ a r → IsNegation ws p n d A A₂ r
  negation_wraps {A₁} {A₂} {a} {r} i l e h j = by a (let k : d + 1 ≡ suc d = omega arith in subst (λ d. IsNegation ws (p + 1) n d A A₁ a) k h) j
    where
      by : (a : Answer) → IsNegation ws (p + 1) n (suc d) A A₁ a → Wrapped NEGATION A₁ A₂ a r → IsNegation ws p n d A A₂ r
      by (Ok (q, m)) h j =
          let o = h.bounds in
          subst (IsNegation ws p n d A A₂) (sym j.0) (record {
            bounds = record { more = omega arith; paid = omega arith; within = o.within };
            at = λ ts g. let f = h.at ts g in record {
              tree = Grammar.negation f.tree;
              reads = read! negation_rule (omega arith) (key_first ws p e (omega arith)) (f.reads ▸ closed! ▸ done!);
              wrote = subst (Wrote A n (flat (says ts (Grammar.negation f.tree)) n) (m + 1)) (sym j.1) (negation_wrote ts f.tree f.wrote);
            };
          })
      by (Err why) h j = subst (IsNegation ws p n d A A₂) (sym j) (record {
        bounds = h.bounds;
        at = λ ts g. fail! negation_rule (omega arith) (key_first ws p e (omega arith)) (stop! (h.at ts g));
      })

-- room for the words
pub far_room : (ws : List ℕ) (p n M k s : ℕ) (b : Answer) → far ws p n b → k < 256 → s < 65536 → 0 < n → n < p → length ws ≤ 2048 → length ws ≤ M → JoinRoom M k n s b
far_room ws p n M k s (Ok (q, l)) o hk hs hn hp hl hm = record { kind = hk; sign = hs; left = hn; order = omega (arith, o.more); room = omega (arith, o.paid, o.within); small = omega (arith, o.paid, o.within) }
far_room ws p n M k s (Err why) o hk hs hn hp hl hm = tt

pub join_room : {x : Nonterminal} {e : Meaning x} {ws : List ℕ} {p n d M : ℕ} {A A' : List ℕ} {b : Answer} (k s : ℕ) → Parsed x e ws p n d A A' b → k < 256 → s < 65536 → 0 < n → n < p → length ws ≤ 2048 → length ws ≤ M → JoinRoom M k n s b
join_room {ws = ws} {p} {n} {M = M} {b = b} k s h hk hs hn hp hl hm = far_room ws p n M k s b h.bounds hk hs hn hp hl hm

pub wrap_room : (ws : List ℕ) (p n M : ℕ) (b : Answer) (k : ℕ) → far ws p n b → k < 256 → n < p → length ws ≤ 2048 → length ws ≤ M → WrapRoom M k b
wrap_room ws p n M (Ok (q, l)) k o hk hp hl hm = record { kind = hk; sign = omega arith; left = omega (arith, o.more); order = omega arith; room = omega (arith, o.paid, o.within); small = omega (arith, o.paid, o.within) }
wrap_room ws p n M (Err why) k o hk hp hl hm = tt

-- what is left to read after an answer
abbrev pub left : List ℕ → Answer → ℕ
left ws (Ok (q, m)) = suc (length ws - q)
left ws (Err why) = 0

pub chain_less : {y : Nonterminal} {ey : Meaning y} {ws : List ℕ} {q m d : ℕ} {A₁ A₂ : List ℕ} {a b : Answer} (k : ℕ) (A₃ : List ℕ) (r : Answer) → a ≡ Ok (q, m) → q < length ws → Parsed y ey ws (q + 1) m d A₁ A₂ b → Joined k m 0 A₂ A₃ b r → left ws r < left ws a
chain_less {y} {ey} {ws} {q} {m} {d} {A₁} {A₂} {a} {b} k A₃ r i l v j = subst (λ a. left ws r < left ws a) (sym i) (by b v j)
  where
    by : (b : Answer) → Parsed y ey ws (q + 1) m d A₁ A₂ b → Joined k m 0 A₂ A₃ b r → left ws r < suc (length ws - q)
    by (Ok (q', l')) v j = let o = v.bounds in subst (λ r. left ws r < suc (length ws - q)) (sym j.0) (omega arith)
    by (Err why) v j = subst (λ r. left ws r < suc (length ws - q)) (sym j) (omega arith)
