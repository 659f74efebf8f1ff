-- One statement after the other: their words, and how the grammar reads them.
use Rattle.std.specs.Prelude.{Ok, Err}
use mathlib.Core.Bool.{Bool, true, false, not}
use mathlib.Core.List.{List, [], ◌∷◌, ◌++◌, map, append_assoc, append-nil}
use mathlib.Core.Path.{◌≡◌, refl, ap, sym, subst, ◌∙◌}
use native.Mathlib.Omega.{arith}
use Prim.Native.Nat.{ℕ, suc, ◌+◌, ◌-◌, ◌≤◌, ◌<◌}
use lib.ListN.{length, drop}
use Rattle.definition.proofs.BoolLaws.{apart}
use Rattle.definition.proofs.GrammarFlat.{reads_size}
use Rattle.definition.proofs.GrammarReads.{next, Reads, Fails, as!, as_fails!, ◌▸◌, ◌▹◌, stop!, done! }
use Rattle.definition.proofs.GrammarStatements.{begins_statement, not_statement, no_statement!, end_statements!, more_statements_rule}
use Rattle.definition.specs.Grammar.{Nonterminal, Tree, Statement, MoreStatements}
use Rattle.definition.specs.Grammar as Grammar
use Rattle.definition.specs.Reader.{phrase}
use Rattle.definition.specs.Syntax as Syntax
use Rattle.definition.specs.Syntax.{says, size, end, assign, print, test, while, for, block}
use Rattle.definition.specs.Text.{Text}
use Rattle.definition.specs.Token.{Token, Terminal}
use Rattle.expressions.proofs.OperatorLaws.{left}
use Rattle.lexer.proofs.Held.{length_terminals, terminals_held}
use Rattle.lexer.specs.Tokens.{at_of, tokens_of}
use Rattle.simple.proofs.AssignLaws.{unstated}
use Rattle.simple.specs.Statements.{Span, spans, IsStatement}
use Rattle.statements.specs.Blocks.{First, a_name, an_if, a_while, a_for, a_brace, a_print, NotFirst, Begins, IsSequence}
use Rattle.terms.proofs.TokenLaws.{key_first, name_first, not_key, not_name}
use Rattle.terms.proofs.WriteLaws.{wrote_then, wrote_as}
use Rattle.terms.specs.declared.ParseError.{ParseError}
use Rattle.terms.specs.declared.ParseError.TheVariants.{NoProgram}
use Rattle.terms.specs.Phrases.{Answer, row_of, token_of, kind_in, seen, Holds, Wrote}
use Rattle.words.proofs.Sizes.{length_program}
use Rattle.words.specs.Raw as Raw
use Rattle.words.specs.Fields.{ATTRIBUTE}
use Rattle.words.specs.Raw.{leaves, flat, size_items, size_program, flat_program}

-- the tokens of a query, as the words hold them
places_held : (query : Text) (n : ℕ) (ws : List ℕ) → map (λ t. t.at) (tokens_of query n ws) ≡ map at_of ws
unfolding tokens_of
places_held query n [] = refl
places_held query n (w ∷ ws) = ap (λ l. at_of w ∷ l) (places_held query (suc n) ws)

pub tokens_hold : (query : Text) (ws : List ℕ) → Holds ws (tokens_of query 0 ws)
tokens_hold query ws = record { same = terminals_held query 0 ws; places = places_held query 0 ws }

-- how many tokens a phrase has
pub read_size : {x : Nonterminal} {t : Tree x} (ws : List ℕ) (p q : ℕ) {d : ℕ} → d ≤ 32 → p ≤ length ws → q ≤ length ws → Reads d (phrase x ∷ []) (drop p (seen ws)) (t, tt) (drop q (seen ws)) → q ≡ p + size t
read_size ws p q l i j f = reads_size (seen ws) p q l (omega (arith, length_terminals 0 ws)) (omega (arith, length_terminals 0 ws)) f

some_tokens : (t : Tree Statement) → 0 < size t
some_tokens (Grammar.assignment x u e) = omega arith
some_tokens (Grammar.assertion x u) = omega arith
some_tokens (Grammar.conditional e b c) = omega arith
some_tokens (Grammar.while_loop e b) = omega arith
some_tokens (Grammar.for_loop x e b) = omega arith
some_tokens (Grammar.nested_block a b) = omega arith
some_tokens (Grammar.print_statement a b) = omega arith

pub statement_ahead : {ws : List ℕ} {p n d q m : ℕ} {A A' : List ℕ} → d ≤ 32 → p ≤ length ws → IsStatement ws p n d A A' (Ok (q, m)) → p < q
statement_ahead {ws} {p} {q = q} l i h = let f = h.at (tokens_of [] 0 ws) (tokens_hold [] ws) in omega (arith, read_size ws p q l i h.bounds.within f.reads, some_tokens f.tree)

-- the words of a statement, and of what follows it
row_then : (w : ℕ) (xs ys : List ℕ) (v : ℕ) (l : List ℕ) → w ∷ (xs ++ (ys ++ (v ∷ l))) ≡ (w ∷ (xs ++ (ys ++ (v ∷ [])))) ++ l
row_then w xs ys v l = ap (λ k. w ∷ k) (ap (λ k. xs ++ k) (sym (append_assoc ys (v ∷ []) l)) ∙ sym (append_assoc xs (ys ++ (v ∷ [])) l))

round_then : (w : ℕ) (xs : List ℕ) (v : ℕ) (ys : List ℕ) (u : ℕ) (l : List ℕ) → w ∷ (xs ++ (v ∷ (ys ++ (u ∷ l)))) ≡ (w ∷ (xs ++ (v ∷ (ys ++ (u ∷ []))))) ++ l
round_then w xs v ys u l = ap (λ k. w ∷ k) (ap (λ k. xs ++ (v ∷ k)) (sym (append_assoc ys (u ∷ []) l)) ∙ sym (append_assoc xs (v ∷ (ys ++ (u ∷ []))) l))

assign_then : (i : ℕ) (r : Token) (ps : List Syntax.Term) (e : Syntax.Expression) (k : Syntax.Program) (n m : ℕ) → m ≡ n + size_program (assign i r ps e end) → flat_program (assign i r ps e k) n ≡ flat_program (assign i r ps e end) n ++ flat_program k m
unfolding flat_program size_program
assign_then i r ps e k n m h = let j : m ≡ n + 1 + length ps + Raw.size e + 1 = omega (arith, h) in rw j (row_then _ (leaves ATTRIBUTE ps) (flat e (n + 1 + length ps)) _ _)

print_then : (i : ℕ) (is : List Syntax.Item) (k : Syntax.Program) (n m : ℕ) → m ≡ n + size_program (print i is end) → flat_program (print i is k) n ≡ flat_program (print i is end) n ++ flat_program k m
unfolding flat_program size_program
print_then i is k n m h = let j : m ≡ n + size_items is + 1 = omega (arith, h) in rw j (simp append_assoc)

test_then : (i : ℕ) (e : Syntax.Expression) (a b k : Syntax.Program) (n m : ℕ) → m ≡ n + size_program (test i e a b end) → flat_program (test i e a b k) n ≡ flat_program (test i e a b end) n ++ flat_program k m
unfolding flat_program size_program
test_then i e a b k n m h = let j : m ≡ n + Raw.size e + 1 + size_program a + 1 + size_program b = omega (arith, h) in rw j (simp append_assoc)

while_then : (i : ℕ) (e : Syntax.Expression) (a k : Syntax.Program) (n m : ℕ) → m ≡ n + size_program (while i e a end) → flat_program (while i e a k) n ≡ flat_program (while i e a end) n ++ flat_program k m
unfolding flat_program size_program
while_then i e a k n m h = let j : m ≡ n + Raw.size e + 1 + size_program a + 1 = omega (arith, h) in rw j (simp append_assoc)

for_then : (i : ℕ) (v : Token) (e : Syntax.Expression) (a k : Syntax.Program) (n m : ℕ) → m ≡ n + size_program (for i v e a end) → flat_program (for i v e a k) n ≡ flat_program (for i v e a end) n ++ flat_program k m
unfolding flat_program size_program
for_then i v e a k n m h = let j : m ≡ n + 1 + Raw.size e + 1 + size_program a + 1 = omega (arith, h) in rw j (round_then _ (flat e (n + 1)) _ (flat_program a (n + 1 + Raw.size e + 1)) _ _)

block_then : (a k : Syntax.Program) (n m : ℕ) → m ≡ n + size_program (block a end) → flat_program (block a k) n ≡ flat_program (block a end) n ++ flat_program k m
unfolding flat_program size_program
block_then a k n m h = let j : m ≡ n + size_program a = omega (arith, h) in rw j (simp append_assoc)

said_then : (ts : List Token) (t : Tree Statement) (p n m : ℕ) (k : Syntax.Program) → m ≡ n + size_program (says ts t p end) → flat_program (says ts t p k) n ≡ flat_program (says ts t p end) n ++ flat_program k m
unfolding says
said_then ts (Grammar.assignment x u e) p n m k i = assign_then _ _ _ _ k n m i
said_then ts (Grammar.assertion x u) p n m k i = assign_then _ _ _ _ k n m i
said_then ts (Grammar.conditional e b c) p n m k i = test_then _ _ _ _ k n m i
said_then ts (Grammar.while_loop e b) p n m k i = while_then _ _ _ k n m i
said_then ts (Grammar.for_loop x e b) p n m k i = for_then _ _ _ _ k n m i
said_then ts (Grammar.nested_block a b) p n m k i = block_then _ k n m i
said_then ts (Grammar.print_statement a b) p n m k i = print_then _ _ k n m i

wrote_size : (ts : List Token) (t : Tree Statement) (p n : ℕ) {m : ℕ} {A A' : List ℕ} → Wrote A n (flat_program (says ts t p end) n) m A' → m ≡ n + size_program (says ts t p end)
wrote_size ts t p n f = f.many ∙ ap (λ j. n + j) (length_program (says ts t p end) n)

more_said : (ts : List Token) (t : Tree Statement) (b : Tree MoreStatements) (q q' m : ℕ) → q' ≡ q + size t → flat_program (says ts (Grammar.more_statements t b) q) m ≡ flat_program (says ts t q (says ts b q')) m
unfolding says
more_said ts t b q q' m e = ap (λ j. flat_program (says ts t q (says ts b j)) m) (sym e)

none_said : (ts : List Token) (q m : ℕ) → flat_program (says ts Grammar.end_statements q) m ≡ []
unfolding says flat_program
none_said ts q m = refl

-- the tokens that begin a statement, and the others
starts : (ws : List ℕ) (q : ℕ) → First (kind_in ws q) → begins_statement (next (drop q (seen ws))) ≡ true
starts ws q (a_name e) = ap (λ l. begins_statement (next l)) (name_first ws q e)
starts ws q (an_if e) = ap (λ l. begins_statement (next l)) (key_first ws q e (omega arith))
starts ws q (a_while e) = ap (λ l. begins_statement (next l)) (key_first ws q e (omega arith))
starts ws q (a_for e) = ap (λ l. begins_statement (next l)) (key_first ws q e (omega arith))
starts ws q (a_brace e) = ap (λ l. begins_statement (next l)) (key_first ws q e (omega arith))
starts ws q (a_print e) = ap (λ l. begins_statement (next l)) (key_first ws q e (omega arith))

starts_not : (ws : List ℕ) (q : ℕ) → NotFirst (kind_in ws q) → begins_statement (next (drop q (seen ws))) ≡ false
starts_not ws q h = not_statement (next (drop q (seen ws))) (not_name ws q h.no_name) (not_key ws q h.no_if) (not_key ws q h.no_while) (not_key ws q h.no_for) (not_key ws q h.no_brace) (not_key ws q h.no_print)

pub no_statement : {ws : List ℕ} {p n d : ℕ} {A B : List ℕ} → p ≤ length ws → NotFirst (kind_in ws p) → IsStatement ws p n d A B (Err (NoProgram p))
no_statement {ws} {p} l h = unstated l (no_statement! (starts_not ws p h))

-- further statements read by a loop: it has come from the tokens ts to l, and what more statements do at l they do at ts, with the trees
-- read so far in front
pub record Upto (d : ℕ) (ts l : List Terminal) : Type 0 where
  pub put : Tree MoreStatements → Tree MoreStatements
  pub reads : (a : Tree MoreStatements) (r : List Terminal) → Reads d (phrase MoreStatements ∷ []) l (a, tt) r → Reads d (phrase MoreStatements ∷ []) ts (put a, tt) r
  pub fails : (n : ℕ) (r : List Terminal) → Fails d (phrase MoreStatements ∷ []) l n r → Fails d (phrase MoreStatements ∷ []) ts n r

-- the statements up to q are read: what stands there is read behind them
pub record Sofar (ws : List ℕ) (ts : List Token) (p n d : ℕ) (A A' : List ℕ) (q m : ℕ) : Type 0 where
  pub first : Tree Statement
  pub at : ℕ
  pub one : Reads d (phrase Statement ∷ []) (drop p (seen ws)) (first, tt) (drop at (seen ws))
  pub here : at ≡ p + size first
  pub upto : Upto d (drop at (seen ws)) (drop q (seen ws))
  pub words : List ℕ
  pub said : (b : Tree MoreStatements) → flat_program (says ts first p (says ts (upto.put b) at)) n ≡ words ++ flat_program (says ts b q) m
  pub wrote : Wrote A n words m A'

abbrev pub sofar : List ℕ → List Token → ℕ → ℕ → ℕ → List ℕ → List ℕ → Answer → Type 0
sofar ws ts p n d A A' (Ok (q, m)) = Sofar ws ts p n d A A' q m
sofar ws ts p n d A A' (Err why) = Fails d (phrase Statement ∷ phrase MoreStatements ∷ []) (drop p (seen ws)) (row_of why) (drop (token_of why) (seen ws))

pub record IsSofar (ws : List ℕ) (p n d : ℕ) (A A' : List ℕ) (a : Answer) : Type 0 where
  pub bounds : spans ws 0 p n a
  pub at : (ts : List Token) → Holds ws ts → sofar ws ts p n d A A' a
  pub long : length A' ≡ length A

module _ {ws : List ℕ} {p n d : ℕ} {A A₁ : List ℕ} (l : d ≤ 32) where
  pub sequence_starts : {a : Answer} → p ≤ length ws → IsStatement ws p n d A A₁ a → length A₁ ≡ length A → IsSofar ws p n d A A₁ a
  sequence_starts {a} i h long = by a h
    where
      by : (a : Answer) → IsStatement ws p n d A A₁ a → IsSofar ws p n d A A₁ a
      by (Ok (q, m)) h = record {
        bounds = h.bounds;
        long = long;
        at = λ ts g. let f = h.at ts g in record {
          first = f.tree;
          at = q;
          one = f.reads;
          here = read_size ws p q l i h.bounds.within f.reads;
          upto = record { put = λ b. b; reads = λ b r i. i; fails = λ row r i. i };
          words = flat_program (says ts f.tree p end) n;
          said = λ b. said_then ts f.tree p n m (says ts b q) (wrote_size ts f.tree p n f.wrote);
          wrote = f.wrote;
        };
      }
      by (Err why) h = record { bounds = h.bounds; long = long; at = λ ts g. stop! (h.at ts g) }

  module _ {a : Answer} (h : IsSofar ws p n d A A₁ a) where
    pub sequence_stops : {why : ParseError} → a ≡ Err why → IsSequence ws p n d A A₁ (Err why)
    sequence_stops i = record { bounds = subst (spans ws 0 p n) i h.bounds; at = λ ts g. subst (sofar ws ts p n d A A₁) i (h.at ts g) }

    module _ {q m : ℕ} (i : a ≡ Ok (q, m)) where
      pub sequence_span : Span ws 0 p n q m
      sequence_span = subst (spans ws 0 p n) i h.bounds

      got : (ts : List Token) → Holds ws ts → Sofar ws ts p n d A A₁ q m
      got ts g = subst (sofar ws ts p n d A A₁) i (h.at ts g)

      pub sequence_ends : NotFirst (kind_in ws q) → IsSequence ws p n d A A₁ (Ok (q, m))
      sequence_ends e = record {
        bounds = sequence_span;
        at = λ ts g. let f = got ts g in record {
          first = f.first;
          rest = f.upto.put Grammar.end_statements;
          at = f.at;
          one = f.one;
          more = f.upto.reads Grammar.end_statements (drop q (seen ws)) (end_statements! (starts_not ws q e));
          here = f.here;
          wrote = wrote_as (sym (f.said Grammar.end_statements ∙ ap (λ xs. f.words ++ xs) (none_said ts q m) ∙ append-nil f.words)) f.wrote;
        };
      }

      pub sequence_on : First (kind_in ws q) → {A₂ : List ℕ} {b : Answer} → IsStatement ws q m d A₁ A₂ b → length A₂ ≡ length A → IsSofar ws p n d A A₂ b
      sequence_on e {A₂} {b} v long = by b v
        where
          by : (b : Answer) → IsStatement ws q m d A₁ A₂ b → IsSofar ws p n d A A₂ b
          by (Ok (q', m')) v =
              let o = sequence_span in
              let o' = v.bounds in
              record {
                long = long;
                bounds = record { more = omega arith; ahead = omega arith; paid = omega arith; within = o'.within };
                at = λ ts g. let f = got ts g in let c = v.at ts g in record {
                  first = f.first;
                  at = f.at;
                  one = f.one;
                  here = f.here;
                  upto = record {
                    put = λ b. f.upto.put (Grammar.more_statements c.tree b);
                    reads = λ b r i. f.upto.reads (Grammar.more_statements c.tree b) r (as! (more_statements_rule (starts ws q e)) (c.reads ▸ i ▸ done!));
                    fails = λ row r i. f.upto.fails row r (as_fails! (more_statements_rule (starts ws q e)) (c.reads ▹ stop! i));
                  };
                  words = f.words ++ flat_program (says ts c.tree q end) m;
                  said = λ b. f.said (Grammar.more_statements c.tree b) ∙ ap (λ xs. f.words ++ xs) (more_said ts c.tree b q q' m (read_size ws q q' l o.within o'.within c.reads) ∙ said_then ts c.tree q m m' (says ts b q') (wrote_size ts c.tree q m c.wrote)) ∙ sym (append_assoc f.words (flat_program (says ts c.tree q end) m) (flat_program (says ts b q') m'));
                  wrote = wrote_then f.wrote c.wrote;
                };
              }
          by (Err why) v = record {
            long = long;
            bounds = v.bounds;
            at = λ ts g. let f = got ts g in f.one ▹ f.upto.fails (row_of why) (drop (token_of why) (seen ws)) (as_fails! (more_statements_rule (starts ws q e)) (stop! (v.at ts g)));
          }

pub sequence_less : {ws : List ℕ} {q m d : ℕ} {A₁ A₂ : List ℕ} {a b : Answer} → d ≤ 32 → q ≤ length ws → a ≡ Ok (q, m) → IsStatement ws q m d A₁ A₂ b → left ws b < left ws a
sequence_less {ws} {q} {m} {d} {A₁} {A₂} {a} {b} l i e v = subst (λ a. left ws b < left ws a) (sym e) (by b v)
  where
    by : (b : Answer) → IsStatement ws q m d A₁ A₂ b → left ws b < suc (length ws - q)
    by (Ok (q', m')) v = omega (arith, statement_ahead l i v, v.bounds.within)
    by (Err why) v = omega arith

-- the answer of the test whether a statement begins
pub begins_not : {k : ℕ} (b : Bool) → not b ≡ true → Begins k b → NotFirst k
begins_not true e h = absurd (apart (sym e))
begins_not false e h = h

pub begins_so : {k : ℕ} (b : Bool) → not b ≡ false → Begins k b → First k
begins_so true e h = h
begins_so false e h = absurd (apart e)
