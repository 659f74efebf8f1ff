-- Quantities: summands, sums of up to eight, ratios, and the signs between them.
use Rattle.std.specs.Prelude.{Ok, Err}
use mathlib.Core.Bool.{true, false}
use mathlib.Core.List.{List, [], ◌∷◌}
use mathlib.Core.Path.{◌≡◌, refl, ap, sym, subst, ◌∙◌}
use native.Mathlib.Omega.{arith}
use Prim.Native.Nat.{ℕ, zero, suc, ◌+◌, ◌-◌, ◌≤◌, ◌<◌}
use lib.ListN.{length, drop, set}
use Rattle.definition.proofs.GrammarReads.{Reads, Fails, read!, fail!, over!, as!, as_fails!, ◌▸◌, ◌▹◌, stop!, done!, cat, sign!, no_sign! }
use Rattle.definition.proofs.GrammarExpressions.{literal_rule, large_literal_over, ninth_literal_over, ninth_counted_over, no_summand!, more_summands_rule, end_summands!, divisor_rule, no_divisor!, quantity_rule, figures_rule}
use Rattle.definition.specs.Grammar.{Nonterminal, Tree, Summand, MoreSummands, Quantity, Expression, none_left, one_less}
use Rattle.definition.specs.Grammar as Grammar
use Rattle.definition.specs.Reader.{Symbol, phrase, Forest, Reading, read_as, refused_at, map_reading, read}
use Rattle.definition.specs.Syntax as Syntax
use Rattle.definition.specs.Syntax.{says, sum_of, ratio_of, compare_figures}
use Rattle.definition.specs.Token.{Token, Terminal, Sign, PLUS, SLASH}
use Rattle.expressions.proofs.OperatorLaws.{got_of, paid_of, Operator, both_wrote, Chain, Linked, link, chain_on, far_room}
use Rattle.expressions.specs.Operators.{Joined, JoinRoom, IsSummand, Series, series, IsSum, IsNinth, a_ninth, no_ninth}
use Rattle.lexer.specs.Tokens.{sign_of, NUMBER, LARGE_NUMBER}
use Rattle.terms.proofs.AtomLaws.{refused}
use Rattle.terms.proofs.TokenLaws.{kind_within, mark_first, number_first, large_first, literal_number, sign_first, sign_code, not_key, not_sign, begins_one, begins_none}
use Rattle.terms.proofs.WriteLaws.{wrote_one, wrote_as}
use Rattle.terms.specs.declared.ParseError.{ParseError}
use Rattle.terms.specs.declared.ParseError.TheVariants.{NoProgram, Number}
use Rattle.terms.specs.Phrases.{Answer, row_of, token_of, kind_in, seen, Holds, Wrote, parsed, Paid, far, Parsed, IsQuantity, IsExpression}
use Rattle.terms.specs.Terms.{FirstOfQuantity, a_count, a_literal, a_large_literal, NoQuantity}
use Rattle.words.specs.Fields.{word, LITERAL, SUM, RATIO, FIGURES}
use Rattle.words.specs.Raw.{flat, sign_number}

sum_operator : Operator SUM 0 sum_of
unfolding flat
sum_operator = record { words = λ a b n. refl }

ratio_operator : Operator RATIO 0 ratio_of
unfolding flat
ratio_operator = record { words = λ a b n. refl }

pub figures_operator : (g : Sign) → Operator FIGURES (sign_number g) (compare_figures g)
unfolding flat
figures_operator g = record { words = λ a b n. refl }

-- a literal
literal_words : {ws : List ℕ} {ts : List Token} (p n : ℕ) → Holds ws ts → kind_in ws p ≡ NUMBER → word LITERAL p 0 0 ∷ [] ≡ flat (says ts (Grammar.literal {b = false} false p)) n
unfolding says flat
literal_words p n g e = ap (λ i. word LITERAL i 0 0 ∷ []) (sym (literal_number g p e))

module _ (ws : List ℕ) (p n : ℕ) (A : List ℕ) where
  pub literal_reads : {w : ℕ} → kind_in ws p ≡ NUMBER → w ≡ word LITERAL p 0 0 → (d : ℕ) → d ≤ 32 → IsSummand ws p n d A (set A n w) (Ok (p + 1, n + 1))
  literal_reads {w} e x d l =
      let i = kind_within ws p (omega arith) in
      record {
        bounds = record { more = omega arith; paid = omega arith; within = omega arith };
        at = λ ts g. record { tree = Grammar.literal false p; reads = read! literal_rule l (number_first ws p e) done!; wrote = wrote_as (ap (λ v. v ∷ []) x ∙ literal_words p n g e) (wrote_one A n w) };
      }

  pub literal_large : {B : List ℕ} → kind_in ws p ≡ LARGE_NUMBER → (d : ℕ) → d ≤ 32 → IsSummand ws p n d A B (Err (Number p))
  literal_large e d l = let i = kind_within ws p (omega arith) in refused (omega arith) (over! large_literal_over (large_first ws p e))

  pub no_literal_here : {B : List ℕ} → p ≤ length ws → NoQuantity (kind_in ws p) → (d : ℕ) → d ≤ 32 → IsSummand ws p n d A B (Err (NoProgram p))
  no_literal_here h u d l = refused h (no_summand! (begins_none ws p u))

-- summands with + between them
pub sum_chain : Chain (λ k. Summand (none_left k)) MoreSummands (λ k ts t. says ts t) (λ k ts t. says ts t) PLUS SUM
unfolding says
sum_chain = record {
  first = λ ws p e. mark_first ws p e (omega arith) (omega arith);
  none = λ k. Grammar.end_summands;
  more = λ k a b. Grammar.more_summands a b;
  takes = λ k. more_summands_rule;
  ends = λ k e. end_summands! e;
  op = sum_of;
  operator = sum_operator;
  said_none = λ k ts e. refl;
  told = λ k ts a b e. refl;
}

-- one that may come is none too many
one_of : {ws : List ℕ} {p n d : ℕ} {A A₁ : List ℕ} {r : Answer} (k : ℕ) → (k ≡ 0 → ⊥) → IsSummand ws p n d A A₁ r → Parsed (Summand (none_left k)) (λ ts t. says ts t) ws p n d A A₁ r
one_of zero h f = absurd (h refl)
one_of (suc k) h f = f

pub sum_on : {ws : List ℕ} {p n d k q m : ℕ} {A A₁ A₂ A₃ : List ℕ} {a b r : Answer} → Linked sum_chain 8 ws p n d A A₁ k a → a ≡ Ok (q, m) → (k ≡ 0 → ⊥) → d ≤ 32 → kind_in ws q ≡ PLUS → IsSummand ws (q + 1) m d A₁ A₂ b → Joined SUM m 0 A₂ A₃ b r → length A₃ ≡ length A → Linked sum_chain 8 ws p n d A A₃ (k - 1) r
sum_on {ws} {p} {n} {d} {k} {A = A} {A₃ = A₃} {r = r} h i z l e v j long = subst (λ k. Linked sum_chain 8 ws p n d A A₃ k r) (less k) (chain_on sum_chain 8 h i l e (one_of k z v) j long)
  where
    less : (k : ℕ) → one_less k ≡ k - 1
    less zero = refl
    less (suc k) = omega arith

-- one too many
ninth_fails : {ws : List ℕ} {p : ℕ} {d : ℕ} {why : ParseError} → IsNinth ws p (Err why) → Fails d (phrase (Summand true) ∷ []) (drop p (seen ws)) (row_of why) (drop (token_of why) (seen ws))
ninth_fails {ws} {p} (a_ninth (a_count e)) = over! ninth_counted_over (mark_first ws p e (omega arith) (omega arith))
ninth_fails {ws} {p} (a_ninth (a_literal e)) = over! ninth_literal_over (number_first ws p e)
ninth_fails {ws} {p} (a_ninth (a_large_literal e)) = over! ninth_literal_over (large_first ws p e)
ninth_fails {ws} {p} (no_ninth h) = no_summand! (begins_none ws p h)

pub chain_ninth : {ws : List ℕ} {p n d k q m : ℕ} {A A₁ : List ℕ} {a r : Answer} → Linked sum_chain 8 ws p n d A A₁ k a → a ≡ Ok (q, m) → k ≡ 0 → d ≤ 32 → kind_in ws q ≡ PLUS → IsNinth ws (q + 1) r → IsSum ws p n d A A₁ r
chain_ninth {ws} {p} {n} {d} {k} {q} {m} {A} {A₁} {a} {r} h i z l e v = by r v
  where
    none : Linked sum_chain 8 ws p n d A A₁ 0 a
    none = subst (λ k. Linked sum_chain 8 ws p n d A A₁ k a) z h

    stops : (why : ParseError) → token_of why ≤ length ws → IsNinth ws (q + 1) (Err why) → IsSum ws p n d A A₁ (Err why)
    stops why b v = record { bounds = b; at = λ ts g. (link sum_chain 8 none i ts g).fails (row_of why) (drop (token_of why) (seen ws)) (fail! more_summands_rule l (mark_first ws q e (omega arith) (omega arith)) (stop! (ninth_fails v))) }

    by : (r : Answer) → IsNinth ws (q + 1) r → IsSum ws p n d A A₁ r
    by r (a_ninth f) = let b = kind_within ws q (omega arith) in stops (Number (q + 1)) (omega arith) (a_ninth f)
    by r (no_ninth f) = let b = kind_within ws q (omega arith) in stops (NoProgram (q + 1)) (omega arith) (no_ninth f)

-- what a sum says, where it is known
pub sum_paid : {ws : List ℕ} {p n d q m : ℕ} {A A' : List ℕ} {a : Answer} → IsSum ws p n d A A' a → a ≡ Ok (q, m) → Paid ws p n q m
sum_paid {ws} {p} {n} h i = subst (far ws p n) i h.bounds

pub sum_room : {ws : List ℕ} {p n d M : ℕ} {A A' : List ℕ} {b : Answer} (k : ℕ) → IsSum ws p n d A A' b → k < 256 → 0 < n → n < p → length ws ≤ 2048 → length ws ≤ M → JoinRoom M k n 0 b
sum_room {ws} {p} {n} {M = M} {b = b} k h hk hn hp hl hm = far_room ws p n M k 0 b h.bounds hk (omega arith) hn hp hl hm

-- the two phrases of a sum, and then others
after_map : (q s r : List Symbol) (f : Forest s → Forest r) (g : Forest q → Forest s) (o : Reading q) → ◌≡◌ {A = Reading r} (map_reading {s = s} f (map_reading g o)) (map_reading (λ u. f (g u)) o)
after_map q s r f g (read_as fs) = refl
after_map q s r f g (refused_at n l) = refl

both_read : {d : ℕ} {x y z : Nonterminal} {ts r r' : List Terminal} {a : Tree x} {b : Tree y} {c : Tree z} → Reads d (phrase x ∷ phrase y ∷ []) ts (a, (b, tt)) r → Reads d (phrase z ∷ []) r (c, tt) r' → Reads d (phrase x ∷ phrase y ∷ phrase z ∷ []) ts (a, (b, (c, tt))) r'
both_read {x = x} {y} {z} {r' = r'} {a} {b} {c} f g = record { is = λ s h. f.is (phrase z ∷ s) h ∙ ap (map_reading (cat (phrase x ∷ phrase y ∷ []) (phrase z ∷ s) (a, (b, tt)))) (g.is s h) ∙ after_map s (phrase z ∷ s) (phrase x ∷ phrase y ∷ phrase z ∷ s) (cat (phrase x ∷ phrase y ∷ []) (phrase z ∷ s) (a, (b, tt))) (cat (phrase z ∷ []) s (c, tt)) (read r' s) }

then_fails : {d row : ℕ} {x y z : Nonterminal} {ts r r' : List Terminal} {a : Tree x} {b : Tree y} → Reads d (phrase x ∷ phrase y ∷ []) ts (a, (b, tt)) r → Fails d (phrase z ∷ []) r row r' → Fails d (phrase x ∷ phrase y ∷ phrase z ∷ []) ts row r'
then_fails {x = x} {y} {z} {a = a} {b} f g = record { is = λ s h. f.is (phrase z ∷ s) h ∙ ap (map_reading (cat (phrase x ∷ phrase y ∷ []) (phrase z ∷ s) (a, (b, tt)))) (g.is s h) }

both_fail : {d row : ℕ} {x y z : Nonterminal} {ts r : List Terminal} → Fails d (phrase x ∷ phrase y ∷ []) ts row r → Fails d (phrase x ∷ phrase y ∷ phrase z ∷ []) ts row r
both_fail {z = z} f = record { is = λ s h. f.is (phrase z ∷ s) h }

plain_said : (ts : List Token) (a : Tree (Summand false)) (b : Tree (MoreSummands 7)) → says ts b (says ts a) ≡ says ts (Grammar.quantity a b Grammar.no_divisor)
unfolding says
plain_said ts a b = refl

ratio_said : (ts : List Token) (a : Tree (Summand false)) (b : Tree (MoreSummands 7)) (u : Tree (Summand false)) (v : Tree (MoreSummands 7)) → ratio_of (says ts b (says ts a)) (says ts v (says ts u)) ≡ says ts (Grammar.quantity a b (Grammar.divisor u v))
unfolding says
ratio_said ts a b u v = refl

module _ {ws : List ℕ} {p n d : ℕ} {A A₁ : List ℕ} {a : Answer} (h : IsSum ws p n d A A₁ a) where
  summed : {q m : ℕ} → a ≡ Ok (q, m) → (ts : List Token) → Holds ws ts → Series (Summand false) (MoreSummands 7) (λ ts a b. says ts b (says ts a)) ws ts p n d A A₁ q m
  summed i ts g = subst (series (Summand false) (MoreSummands 7) (λ ts a b. says ts b (says ts a)) ws ts p n d A A₁) i (h.at ts g)

  pub quantity_stops : {why : ParseError} → a ≡ Err why → IsQuantity ws p n d A A₁ (Err why)
  quantity_stops i = record {
    bounds = subst (far ws p n) i h.bounds;
    at = λ ts g. (as_fails! quantity_rule (both_fail (subst (series (Summand false) (MoreSummands 7) (λ ts a b. says ts b (says ts a)) ws ts p n d A A₁) i (h.at ts g))));
  }

  module _ {q m : ℕ} (i : a ≡ Ok (q, m)) where
    pub quantity_ends : (kind_in ws q ≡ SLASH → ⊥) → IsQuantity ws p n d A A₁ (Ok (q, m))
    quantity_ends e = record {
      bounds = sum_paid h i;
      at = λ ts g. let f = summed i ts g in record {
        tree = Grammar.quantity f.first f.rest Grammar.no_divisor;
        reads = as! quantity_rule (both_read f.reads (no_divisor! (not_key ws q e)));
        wrote = wrote_as (ap (λ e. flat e n) (plain_said ts f.first f.rest)) f.wrote;
      };
    }

    pub quantity_joins : d ≤ 32 → kind_in ws q ≡ SLASH → {A₂ A₃ : List ℕ} {b r : Answer} → IsSum ws (q + 1) m d A₁ A₂ b → Joined RATIO m 0 A₂ A₃ b r → IsQuantity ws p n d A A₃ r
    quantity_joins l e {A₂} {A₃} {b} {r} v j = by b v j
      where
        by : (b : Answer) → IsSum ws (q + 1) m d A₁ A₂ b → Joined RATIO m 0 A₂ A₃ b r → IsQuantity ws p n d A A₃ r
        by (Ok (q', l')) v j =
            let o = sum_paid h i in
            let o' = v.bounds in
            subst (IsQuantity ws p n d A A₃) (sym j.0) (record {
              bounds = record { more = omega arith; paid = omega arith; within = o'.within };
              at = λ ts g. let f = summed i ts g in let f' = v.at ts g in record {
                tree = Grammar.quantity f.first f.rest (Grammar.divisor f'.first f'.rest);
                reads = as! quantity_rule (both_read f.reads (read! divisor_rule l (mark_first ws q e (omega arith) (omega arith)) f'.reads));
                wrote = subst (Wrote A n (flat (says ts (Grammar.quantity f.first f.rest (Grammar.divisor f'.first f'.rest))) n) (l' + 1)) (sym j.1) (wrote_as (ap (λ e. flat e n) (ratio_said ts f.first f.rest f'.first f'.rest)) (both_wrote ratio_operator (says ts f.rest (says ts f.first)) (says ts f'.rest (says ts f'.first)) f.wrote f'.wrote));
              };
            })
        by (Err why) v j = subst (IsQuantity ws p n d A A₃) (sym j) (record {
          bounds = v.bounds;
          at = λ ts g. as_fails! quantity_rule (then_fails (summed i ts g).reads (fail! divisor_rule l (mark_first ws q e (omega arith) (omega arith)) (v.at ts g)));
        })

-- a sign between two of them
figures_said : (ts : List Token) (a : Tree Quantity) (g : Sign) (b : Tree Quantity) → compare_figures g (says ts a) (says ts b) ≡ says ts (Grammar.figures a g b)
unfolding says
figures_said ts a g b = refl

pub figures_wrote : (ts : List Token) (a b : Tree Quantity) {k n m l : ℕ} {A A₁ A₂ A₃ : List ℕ} → 41 ≤ k → k ≤ 46 → Wrote A n (flat (says ts a) n) m A₁ → Wrote A₁ m (flat (says ts b) m) l A₂ → A₃ ≡ set A₂ l (word FIGURES (m - 1) (l - 1) (k - 41)) → Wrote A n (flat (says ts (Grammar.figures a (sign_of k) b)) n) (l + 1) A₃
figures_wrote ts a b {k} {n} {m} {l} {A} {A₁} {A₂} {A₃} low high f f' j =
    let e : sign_number (sign_of k) ≡ k - 41 = omega (arith, sign_code k low high) in
    subst (Wrote A n (flat (says ts (Grammar.figures a (sign_of k) b)) n) (l + 1)) (ap (λ s. set A₂ l (word FIGURES (m - 1) (l - 1) s)) e ∙ sym j) (wrote_as (ap (λ e. flat e n) (figures_said ts a (sign_of k) b)) (both_wrote (figures_operator (sign_of k)) (says ts a) (says ts b) f f'))

module _ {ws : List ℕ} {p n d : ℕ} {A A₁ : List ℕ} {a : Answer} (u : FirstOfQuantity (kind_in ws p)) (h : IsQuantity ws p n d A A₁ a) where
  pub figures_stop : {why : ParseError} → a ≡ Err why → IsExpression ws p n d A A₁ (Err why)
  figures_stop i = record {
    bounds = subst (far ws p n) i h.bounds;
    at = λ ts g. (as_fails! (figures_rule (begins_one ws p u)) (stop! (subst (parsed Quantity (λ ts t. says ts t) ws ts p n d A A₁) i (h.at ts g))));
  }

  module _ {q m : ℕ} (i : a ≡ Ok (q, m)) where
    pub figures_alone : {B : List ℕ} → (41 ≤ kind_in ws q → kind_in ws q ≤ 46 → ⊥) → IsExpression ws p n d A B (Err (NoProgram q))
    figures_alone e = record {
      bounds = (paid_of h i).within;
      at = λ ts g. as_fails! (figures_rule (begins_one ws p u)) ((got_of h i ts g).reads ▹ stop! (no_sign! (not_sign ws q e)));
    }

    pub figures_join : d ≤ 32 → 41 ≤ kind_in ws q → kind_in ws q ≤ 46 → {A₂ A₃ : List ℕ} {b r : Answer} → IsQuantity ws (q + 1) m d A₁ A₂ b → Joined FIGURES m (kind_in ws q - 41) A₂ A₃ b r → IsExpression ws p n d A A₃ r
    figures_join l low high {A₂} {A₃} {b} {r} v j = by b v j
      where
        by : (b : Answer) → IsQuantity ws (q + 1) m d A₁ A₂ b → Joined FIGURES m (kind_in ws q - 41) A₂ A₃ b r → IsExpression ws p n d A A₃ r
        by (Ok (q', l')) v j =
            let o = paid_of h i in
            let o' = v.bounds in
            subst (IsExpression ws p n d A A₃) (sym j.0) (record {
              bounds = record { more = omega arith; paid = omega arith; within = o'.within };
              at = λ ts g. let f = got_of h i ts g in let f' = v.at ts g in record {
                tree = Grammar.figures f.tree (sign_of (kind_in ws q)) f'.tree;
                reads = as! (figures_rule (begins_one ws p u)) (f.reads ▸ sign! l (sign_first ws q low high) ▸ f'.reads ▸ done!);
                wrote = figures_wrote ts f.tree f'.tree low high f.wrote f'.wrote j.1;
              };
            })
        by (Err why) v j = subst (IsExpression ws p n d A A₃) (sym j) (record {
          bounds = v.bounds;
          at = λ ts g. as_fails! (figures_rule (begins_one ws p u)) ((got_of h i ts g).reads ▹ sign! l (sign_first ws q low high) ▹ stop! (v.at ts g));
        })
