-- IF, WHILE and FOR: their words over a block, and how the grammar reads them.
use Rattle.std.specs.Prelude.{Ok, Err}
use mathlib.Core.List.{List, [], ◌∷◌, ◌++◌, append-nil}
use mathlib.Core.Path.{◌≡◌, refl, ap, sym, subst, ◌∙◌}
use native.Mathlib.Omega.{arith}
use Prim.Native.Nat.{ℕ, suc, ◌+◌, ◌-◌, ◌≤◌, ◌<◌}
use lib.ListN.{drop, set, get_or}
use Rattle.definition.proofs.GrammarReads.{Reads, Fails, read!, fail!, ◌▸◌, ◌▹◌, stop!, done!, token!, no_token!, name!, no_name! }
use Rattle.definition.proofs.GrammarStatements.{conditional_rule, while_rule, for_rule}
use Rattle.definition.specs.Grammar.{Tree, Statement, Block, Else, Expression}
use Rattle.definition.specs.Grammar as Grammar
use Rattle.definition.specs.Reader.{phrase, fixed, identifier}
use Rattle.definition.specs.Syntax as Syntax
use Rattle.definition.specs.Syntax.{says, size, end, test, while, for}
use Rattle.definition.specs.Token.{Token, Terminal, token_at, IF, WHILE, FOR, IN}
use Rattle.expressions.proofs.OperatorLaws.{paid_of, got_of}
use Rattle.lexer.specs.Tokens.{at_of, NAME}
use Rattle.simple.proofs.AssignLaws.{unstated}
use Rattle.simple.specs.Statements.{Span, spans, IsStatement}
use Rattle.statements.proofs.SequenceLaws.{read_size}
use Rattle.statements.specs.Blocks.{IsBlock, IsElse, Headed, no_name, no_in, headed, Tested, Repeated, Ranged}
use Rattle.terms.proofs.TokenLaws.{kind_within, key_first, key_then, name_then, name_number, place_of, not_key, not_name}
use Rattle.terms.proofs.WriteLaws.{wrote_one, wrote_then, wrote_next, wrote_before, wrote_as}
use Rattle.terms.specs.declared.ParseError.{ParseError}
use Rattle.terms.specs.declared.ParseError.TheVariants.{NoProgram}
use Rattle.terms.specs.Phrases.{Answer, kind_in, seen, Wrote, IsExpression}
use Rattle.words.proofs.Sizes.{length_flat, length_program}
use Rattle.words.specs.Fields.{word, BIND, RANGE, NEXT, TEST, JUMP, AGAIN}
use Rattle.words.specs.Raw as Raw
use Rattle.words.specs.Raw.{number, flat, size_program, flat_program}

-- what an answer for a block says, where it is known
pub block_span : {ws : List ℕ} {p n d q m : ℕ} {A A' : List ℕ} {b : Answer} → IsBlock ws p n d A A' b → b ≡ Ok (q, m) → Span ws 0 (p + 2) n q m
block_span {ws} {p} {n} h i = subst (spans ws 0 (p + 2) n) i h.bounds

block_of : {ws : List ℕ} {p n d q m : ℕ} {A A' : List ℕ} {b : Answer} → IsBlock ws p n d A A' b → b ≡ Ok (q, m) → IsBlock ws p n d A A' (Ok (q, m))
block_of {ws} {p} {n} {d} {A = A} {A'} h i = subst (IsBlock ws p n d A A') i h

-- a statement that has, from token s on, an expression and a block: it fails where one of them does
pub record Compound (ws : List ℕ) (p s d : ℕ) : Type 0 where
  pub no_test : {row : ℕ} {r : List Terminal} → Fails d (phrase Expression ∷ []) (drop s (seen ws)) row r → Fails d (phrase Statement ∷ []) (drop p (seen ws)) row r
  pub no_block : {row : ℕ} {r u : List Terminal} {e : Tree Expression} → Reads d (phrase Expression ∷ []) (drop s (seen ws)) (e, tt) u → Fails d (phrase Block ∷ []) u row r → Fails d (phrase Statement ∷ []) (drop p (seen ws)) row r

module _ (ws : List ℕ) (p d : ℕ) (l : d ≤ 32) where
  pub an_if : kind_in ws p ≡ IF → Compound ws p (p + 1) d
  an_if e = record { no_test = λ f. fail! conditional_rule l (key_first ws p e (omega arith)) (stop! f); no_block = λ f g. fail! conditional_rule l (key_first ws p e (omega arith)) (f ▹ stop! g) }

  pub a_while : kind_in ws p ≡ WHILE → Compound ws p (p + 1) d
  a_while e = record { no_test = λ f. fail! while_rule l (key_first ws p e (omega arith)) (stop! f); no_block = λ f g. fail! while_rule l (key_first ws p e (omega arith)) (f ▹ stop! g) }

  variable : kind_in ws (p + 1) ≡ NAME → Reads d (identifier ∷ []) (drop (p + 1) (seen ws)) (p + 1, tt) (drop (p + 2) (seen ws))
  variable e = name! l (name_then ws (p + 1) (p + 2) (omega arith) e)

  its_set : kind_in ws (p + 2) ≡ IN → Reads d (fixed IN ∷ []) (drop (p + 2) (seen ws)) (tt, tt) (drop (p + 3) (seen ws))
  its_set e = token! l (key_then ws (p + 2) (p + 3) (omega arith) e (omega arith))

  pub a_for : kind_in ws p ≡ FOR → kind_in ws (p + 1) ≡ NAME → kind_in ws (p + 2) ≡ IN → Compound ws p (p + 3) d
  a_for e f g = record { no_test = λ h. fail! for_rule l (key_first ws p e (omega arith)) (variable f ▹ its_set g ▹ stop! h); no_block = λ h i. fail! for_rule l (key_first ws p e (omega arith)) (variable f ▹ its_set g ▹ h ▹ stop! i) }

-- the refusals
module _ {ws : List ℕ} {p s n n' d : ℕ} {A A₁ B C : List ℕ} {a : Answer} (t : Compound ws p s d) (h : IsExpression ws s n' d A A₁ a) where
  pub test_refused : {why : ParseError} → a ≡ Err why → IsStatement ws p n d B C (Err why)
  test_refused {why} i = by (subst (IsExpression ws s n' d A A₁) i h)
    where
      by : IsExpression ws s n' d A A₁ (Err why) → IsStatement ws p n d B C (Err why)
      by h = record { bounds = h.bounds; at = λ ts g. t.no_test (h.at ts g) }

  pub block_refused : {q m k : ℕ} {why : ParseError} {A₂ : List ℕ} {b : Answer} → a ≡ Ok (q, m) → IsBlock ws q k d A₁ A₂ b → b ≡ Err why → IsStatement ws p n d B C (Err why)
  block_refused {q} {m} {k} {why} {A₂} i v j = by (subst (IsBlock ws q k d A₁ A₂) j v)
    where
      by : IsBlock ws q k d A₁ A₂ (Err why) → IsStatement ws p n d B C (Err why)
      by v = record { bounds = v.bounds; at = λ ts g. t.no_block (got_of h i ts g).reads (v.at ts g) }

pub for_open : {ws : List ℕ} {p n d k : ℕ} {A A' B : List ℕ} → d ≤ 32 → kind_in ws p ≡ FOR → Headed ws p n A A' k → k < 3 → IsStatement ws p n d A B (Err (NoProgram (p + k)))
for_open {ws} {p} {n} {d} {k} {A} {A'} {B} l e h i = by h i
  where
    by : {k : ℕ} → Headed ws p n A A' k → k < 3 → IsStatement ws p n d A B (Err (NoProgram (p + k)))
    by (no_name f) i = let o = kind_within ws p (omega arith) in unstated (omega arith) (fail! for_rule l (key_first ws p e (omega arith)) (stop! (no_name! (not_name ws (p + 1) f))))
    by (no_in f g) i = let o = kind_within ws (p + 1) (omega arith) in unstated (omega arith) (fail! for_rule l (key_first ws p e (omega arith)) (variable ws p d l f ▹ stop! (no_token! (not_key ws (p + 2) g))))
    by (headed f g j) i = absurd (omega arith)

-- all three tokens are there
pub record Heads (ws : List ℕ) (p n : ℕ) (A A' : List ℕ) : Type 0 where
  pub name : kind_in ws (p + 1) ≡ NAME
  pub in' : kind_in ws (p + 2) ≡ IN
  pub is : A' ≡ set A n (word BIND (p + 1) 0 0)

pub heads : {ws : List ℕ} {p n k : ℕ} {A A' : List ℕ} → Headed ws p n A A' k → 3 ≤ k → Heads ws p n A A'
heads (no_name f) i = absurd (omega arith)
heads (no_in f g) i = absurd (omega arith)
heads (headed f g j) i = record { name = f; in' = g; is = j }

-- the words of the three statements
while_words : (e : Syntax.Expression) (b : Syntax.Program) (i n m l : ℕ) → m ≡ n + Raw.size e → l ≡ m + 1 + size_program b → flat e n ++ (word TEST 0 (l + 1) i ∷ (flat_program b (m + 1) ++ (word AGAIN (m - 1) (m + 1) 0 ∷ []))) ≡ flat_program (while i e b end) n
unfolding flat_program
while_words e b i n m l f g = rw (g, f) refl

for_words : (e : Syntax.Expression) (b : Syntax.Program) (t : Token) (i v n m l : ℕ) → number t ≡ v → m ≡ n + 1 + Raw.size e → l ≡ m + 1 + size_program b → (word BIND v 0 0 ∷ []) ++ (flat e (n + 1) ++ (word RANGE v l i ∷ (flat_program b (m + 1) ++ (word NEXT v (m + 1) 0 ∷ [])))) ≡ flat_program (for i t e b end) n
unfolding flat_program
for_words e b t i v n m l h f g = rw (g, f, sym h) refl

test_words : (e : Syntax.Expression) (a b : Syntax.Program) (i n m l f : ℕ) → m ≡ n + Raw.size e → l ≡ m + 1 + size_program a → f ≡ l + 1 + size_program b → flat e n ++ (word TEST 0 (l + 1) i ∷ (flat_program a (m + 1) ++ (word JUMP 0 f 0 ∷ flat_program b (l + 1)))) ≡ flat_program (test i e a b end) n
unfolding flat_program
test_words e a b i n m l f h j k = rw (k, j, h) (simp append-nil)

while_said : (ts : List Token) (e : Tree Expression) (b : Tree Block) (p n q : ℕ) → q ≡ p + 1 + size e → flat_program (while (token_at ts p).at (says ts e) (says ts b q) end) n ≡ flat_program (says ts (Grammar.while_loop e b) p end) n
unfolding says
while_said ts e b p n q i = let j : q ≡ suc p + size e = omega (arith, i) in ap (λ j. flat_program (while (token_at ts p).at (says ts e) (says ts b j) end) n) j

for_said : (ts : List Token) (e : Tree Expression) (b : Tree Block) (v p n q : ℕ) → q ≡ p + 3 + size e → flat_program (for (token_at ts p).at (token_at ts v) (says ts e) (says ts b q) end) n ≡ flat_program (says ts (Grammar.for_loop v e b) p end) n
unfolding says
for_said ts e b v p n q i = let j : q ≡ 3 + p + size e = omega (arith, i) in ap (λ j. flat_program (for (token_at ts p).at (token_at ts v) (says ts e) (says ts b j) end) n) j

test_said : (ts : List Token) (e : Tree Expression) (b : Tree Block) (c : Tree Else) (p n q r : ℕ) → q ≡ p + 1 + size e → r ≡ q + size b → flat_program (test (token_at ts p).at (says ts e) (says ts b q) (says ts c r) end) n ≡ flat_program (says ts (Grammar.conditional e b c) p end) n
unfolding says
test_said ts e b c p n q r i k = let j : q ≡ suc p + size e = omega (arith, i) in ap (λ r. flat_program (test (token_at ts p).at (says ts e) (says ts b q) (says ts c r) end) n) k ∙ ap (λ j. flat_program (test (token_at ts p).at (says ts e) (says ts b j) (says ts c (j + size b)) end) n) j

expression_end : (e : Syntax.Expression) (n : ℕ) {m : ℕ} {A A' : List ℕ} → Wrote A n (flat e n) m A' → m ≡ n + Raw.size e
expression_end e n f = f.many ∙ ap (λ j. n + j) (length_flat e n)

program_end : (b : Syntax.Program) (n : ℕ) {m : ℕ} {A A' : List ℕ} → Wrote A n (flat_program b n) m A' → m ≡ n + size_program b
program_end b n f = f.many ∙ ap (λ j. n + j) (length_program b n)

module _ {ws : List ℕ} {p n d q m : ℕ} {A A₁ A₂ : List ℕ} {a b : Answer} (l : d ≤ 32) (i : a ≡ Ok (q, m)) where
  pub while_ends : {s k : ℕ} {A₃ : List ℕ} → kind_in ws p ≡ WHILE → IsExpression ws (p + 1) n d A A₁ a → IsBlock ws q (m + 1) d A₁ A₂ b → b ≡ Ok (s, k) → Repeated ws p m k A₂ A₃ → IsStatement ws p n d A A₃ (Ok (s, k + 1))
  while_ends {s} {k} e h v w j =
      let o = paid_of h i in
      let o' = block_span v w in
      let u = kind_within ws p (omega arith) in
      record {
        bounds = record { more = omega (arith, o.more, o'.more); ahead = omega (arith, o.paid, o.more, o'.ahead); paid = omega (arith, o.paid, o'.paid); within = o'.within };
        at = λ ts g. let f = got_of h i ts g in let f' = (block_of v w).at ts g in record {
          tree = Grammar.while_loop f.tree f'.tree;
          reads = read! while_rule l (key_first ws p e (omega arith)) (f.reads ▸ f'.reads ▸ done!);
          wrote = subst (Wrote A n (flat_program (says ts (Grammar.while_loop f.tree f'.tree) p end) n) (k + 1)) (sym j) (wrote_as (while_words (says ts f.tree) (says ts f'.tree q) (at_of (get_or ws p 0)) n m k (expression_end (says ts f.tree) n f.wrote) (program_end (says ts f'.tree q) (m + 1) f'.wrote) ∙ ap (λ x. flat_program (while x (says ts f.tree) (says ts f'.tree q) end) n) (sym (place_of g p u)) ∙ while_said ts f.tree f'.tree p n q (read_size ws (p + 1) q l (omega arith) o.within f.reads)) (wrote_then f.wrote (wrote_before (wrote_next f'.wrote (word AGAIN (m - 1) (m + 1) 0)) (word TEST 0 (k + 1) (at_of (get_or ws p 0))))));
        };
      }

  pub for_ends : {s k : ℕ} {B A₃ : List ℕ} → kind_in ws p ≡ FOR → Heads ws p n B A → IsExpression ws (p + 3) (n + 1) d A A₁ a → IsBlock ws q (m + 1) d A₁ A₂ b → b ≡ Ok (s, k) → Ranged ws p m k A₂ A₃ → IsStatement ws p n d B A₃ (Ok (s, k + 1))
  for_ends {s} {k} {B} e t h v w j =
      let o = paid_of h i in
      let o' = block_span v w in
      let u = kind_within ws p (omega arith) in
      let u' = kind_within ws (p + 2) (omega (arith, t.in')) in
      record {
        bounds = record { more = omega (arith, o.more, o'.more); ahead = omega (arith, o.paid, o.more, o'.ahead); paid = omega (arith, o.paid, o'.paid); within = o'.within };
        at = λ ts g. let f = got_of h i ts g in let f' = (block_of v w).at ts g in record {
          tree = Grammar.for_loop (p + 1) f.tree f'.tree;
          reads = read! for_rule l (key_first ws p e (omega arith)) (variable ws p d l t.name ▸ its_set ws p d l t.in' ▸ f.reads ▸ f'.reads ▸ done!);
          wrote = subst (Wrote B n (flat_program (says ts (Grammar.for_loop (p + 1) f.tree f'.tree) p end) n) (k + 1)) (sym j) (wrote_as (for_words (says ts f.tree) (says ts f'.tree q) (token_at ts (p + 1)) (at_of (get_or ws p 0)) (p + 1) n m k (name_number g (p + 1) t.name) (expression_end (says ts f.tree) (n + 1) f.wrote) (program_end (says ts f'.tree q) (m + 1) f'.wrote) ∙ ap (λ x. flat_program (for x (token_at ts (p + 1)) (says ts f.tree) (says ts f'.tree q) end) n) (sym (place_of g p u)) ∙ for_said ts f.tree f'.tree (p + 1) p n q (read_size ws (p + 3) q l (omega arith) o.within f.reads)) (wrote_then (subst (Wrote B n (word BIND (p + 1) 0 0 ∷ []) (n + 1)) (sym t.is) (wrote_one B n (word BIND (p + 1) 0 0))) (wrote_then f.wrote (wrote_before (wrote_next f'.wrote (word NEXT (p + 1) (m + 1) 0)) (word RANGE (p + 1) k (at_of (get_or ws p 0)))))));
        };
      }

  module _ {s k : ℕ} {A₃ : List ℕ} {c : Answer} (e : kind_in ws p ≡ IF) (h : IsExpression ws (p + 1) n d A A₁ a) (v : IsBlock ws q (m + 1) d A₁ A₂ b) (w : b ≡ Ok (s, k)) (x : IsElse ws s (k + 1) d A₂ A₃ c) where
    pub else_refused : {why : ParseError} {B : List ℕ} → c ≡ Err why → IsStatement ws p n d A B (Err why)
    else_refused {why} {B} y = by (subst (IsElse ws s (k + 1) d A₂ A₃) y x)
      where
        by : IsElse ws s (k + 1) d A₂ A₃ (Err why) → IsStatement ws p n d A B (Err why)
        by x = record { bounds = x.bounds; at = λ ts g. fail! conditional_rule l (key_first ws p e (omega arith)) ((got_of h i ts g).reads ▹ ((block_of v w).at ts g).reads ▹ stop! (x.at ts g)) }

    pub if_ends : {s' k' : ℕ} {A₄ : List ℕ} → c ≡ Ok (s', k') → Tested ws p m k k' A₃ A₄ → IsStatement ws p n d A A₄ (Ok (s', k'))
    if_ends {s'} {k'} {A₄} y j = by (subst (IsElse ws s (k + 1) d A₂ A₃) y x)
      where
        by : IsElse ws s (k + 1) d A₂ A₃ (Ok (s', k')) → IsStatement ws p n d A A₄ (Ok (s', k'))
        by x =
            let o = paid_of h i in
            let o' = block_span v w in
            let o'' = x.bounds in
            let u = kind_within ws p (omega arith) in
            record {
              bounds = record { more = omega (arith, o.more, o'.more, o''.more); ahead = omega (arith, o.paid, o.more, o'.ahead, o''.ahead); paid = omega (arith, o.paid, o'.paid, o''.paid); within = o''.within };
              at = λ ts g. let f = got_of h i ts g in let f' = (block_of v w).at ts g in let f'' = x.at ts g in record {
                tree = Grammar.conditional f.tree f'.tree f''.tree;
                reads = read! conditional_rule l (key_first ws p e (omega arith)) (f.reads ▸ f'.reads ▸ f''.reads ▸ done!);
                wrote = subst (Wrote A n (flat_program (says ts (Grammar.conditional f.tree f'.tree f''.tree) p end) n) k') (sym j) (wrote_as (test_words (says ts f.tree) (says ts f'.tree q) (says ts f''.tree s) (at_of (get_or ws p 0)) n m k k' (expression_end (says ts f.tree) n f.wrote) (program_end (says ts f'.tree q) (m + 1) f'.wrote) (program_end (says ts f''.tree s) (k + 1) f''.wrote) ∙ ap (λ x. flat_program (test x (says ts f.tree) (says ts f'.tree q) (says ts f''.tree s) end) n) (sym (place_of g p u)) ∙ test_said ts f.tree f'.tree f''.tree p n q s (read_size ws (p + 1) q l (omega arith) o.within f.reads) (read_size ws q s l o.within o'.within f'.reads)) (wrote_then f.wrote (wrote_before (wrote_then f'.wrote (wrote_before f''.wrote (word JUMP 0 k' 0))) (word TEST 0 (k + 1) (at_of (get_or ws p 0))))));
              };
            }

pub else_span : {ws : List ℕ} {p n d q m : ℕ} {A A' : List ℕ} {c : Answer} → IsElse ws p n d A A' c → c ≡ Ok (q, m) → Span ws 0 p n q m
else_span {ws} {p} {n} h i = subst (spans ws 0 p n) i h.bounds
