-- Items and PRINT: their words, and how the grammar reads them.
use Rattle.std.specs.Prelude.{Ok, Err}
use mathlib.Core.List.{List, [], ◌∷◌, ◌++◌, append_assoc, append-nil}
use mathlib.Core.Path.{◌≡◌, refl, ap, sym, subst, ◌∙◌}
use native.Mathlib.Omega.{arith}
use Prim.Native.Nat.{ℕ, suc, ◌+◌, ◌-◌, ◌≤◌, ◌<◌}
use lib.ListN.{length, drop, set, get_or}
use Rattle.definition.proofs.GrammarReads.{Stands, Reads, Fails, read!, fail!, as!, as_fails!, ◌▸◌, ◌▹◌, stop!, done!, token!, no_token! }
use Rattle.definition.proofs.GrammarStatements.{word_name_rule, word_string_rule, not_names_string, no_word!, labelled_rule, endl_rule, more_items_rule, end_items!, item_name!, item_string!, item_call_rule, item_sign_rule, item_string_rule, item_rule, print_rule}
use Rattle.definition.specs.Grammar.{Nonterminal, Tree, Statement, Item, MoreItems, Word, Expression}
use Rattle.definition.specs.Grammar as Grammar
use Rattle.definition.specs.Reader.{phrase}
use Rattle.definition.specs.Syntax.{says, end}
use Rattle.definition.specs.Token.{Token, Terminal, token_at, LPAREN, LBRACKET, RBRACKET, COMMA, SEMICOLON, PRINT, ENDL}
use Rattle.expressions.proofs.OperatorLaws.{left}
use Rattle.lexer.specs.Tokens.{at_of}
use Rattle.simple.proofs.AssignLaws.{unstated}
use Rattle.simple.proofs.LeftLaws.{no_left}
use Rattle.simple.specs.Statements.{stated, Span, spans, IsStatement, IsItem, ItemRoom, ItemClosed, Plainly, a_call, a_compared_name, a_compared_string, another, Alone, a_name_alone, a_string_alone, Worded, a_name_word, a_string_word}
use Rattle.terms.proofs.LeafLaws.{leaf_name, leaf_string, Leaf, a_name_leaf, a_string_leaf, any_leaf, which_leaf, leaf_within}
use Rattle.terms.proofs.TokenLaws.{kind_within, key_first, key_then, name_first, string_first, sign_first, name_number, string_number, place_of, not_key, not_name, not_string, not_sign, begins_none}
use Rattle.terms.proofs.WriteLaws.{wrote_one, wrote_then, wrote_next, wrote_as}
use Rattle.terms.specs.declared.ParseError.{ParseError}
use Rattle.terms.specs.declared.ParseError.TheVariants.{NoProgram}
use Rattle.terms.specs.Phrases.{Answer, row_of, token_of, kind_in, seen, Holds, Wrote, Meaning, far, Parsed, IsExpression}
use Rattle.terms.specs.Terms.{leaf_in, IsSign}
use Rattle.words.proofs.Sizes.{length_item}
use Rattle.words.specs.Fields as Fields
use Rattle.words.specs.Fields.{word, WORD, ROWS, SAY, LINE_END}
use Rattle.words.specs.Raw.{leaf, leaves, flat, flat_item, flat_items, flat_program}

-- an item that is an expression
pub rows_words : (ts : List Token) (t : Tree Expression) (n : ℕ) → flat (says ts t) n ++ (word ROWS n 0 0 ∷ []) ≡ flat_item (says ts (Grammar.item_expression t)) n
unfolding says flat_item leaves
rows_words ts t n = let e : n ≡ n + 0 = omega arith in ap (λ i. flat (says ts t) i ++ (word ROWS n 0 0 ∷ [])) e

plainly_stands : (ws : List ℕ) (p : ℕ) → Plainly ws p → Stands (phrase Item) (phrase Expression ∷ []) (λ fs. Grammar.item_expression fs.0) (drop p (seen ws))
plainly_stands ws p (a_call e f) = item_call_rule (name_first ws p e) (key_first ws (p + 1) f (omega arith))
plainly_stands ws p (a_compared_name e f) = item_sign_rule (name_first ws p e) (sign_first ws (p + 1) f.low f.high)
plainly_stands ws p (a_compared_string e f) = item_string_rule (string_first ws p e) (sign_first ws (p + 1) f.low f.high)
plainly_stands ws p (another h n) = item_rule (not_names_string _ (not_name ws p h.no_name) (not_string ws p h.no_string)) (begins_none ws p n) (not_key ws p h.no_label) (not_key ws p h.no_endl)

pub item_room : {x : Nonterminal} {e : Meaning x} {ws : List ℕ} {p n d M i s : ℕ} {A A' : List ℕ} {b : Answer} (k : ℕ) → Parsed x e ws p n d A A' b → k < 256 → i < 65536 → s < 65536 → n < p → length ws ≤ M → ItemRoom M k i s b
item_room {ws = ws} {p} {n} {M = M} {i} {s} {b = b} k h hk hi hs hp hm = by b h.bounds
  where
    by : (b : Answer) → far ws p n b → ItemRoom M k i s b
    by (Ok (q, l)) o = (omega (arith, o.paid, o.within), (hk, (hi, hs)))
    by (Err why) o = tt

pub plain_item : {ws : List ℕ} {p n d : ℕ} {A A₁ A₂ : List ℕ} {a r : Answer} → Plainly ws p → IsExpression ws p n d A A₁ a → ItemClosed ROWS n 0 A₁ A₂ a r → IsItem ws p n d A A₂ r
plain_item {ws} {p} {n} {d} {A} {A₁} {A₂} {a} {r} e h j = by a h j
  where
    by : (a : Answer) → IsExpression ws p n d A A₁ a → ItemClosed ROWS n 0 A₁ A₂ a r → IsItem ws p n d A A₂ r
    by (Ok (q, m)) h j =
        let o = h.bounds in
        subst (IsItem ws p n d A A₂) (sym j.0) (record {
          bounds = record { more = omega arith; ahead = omega arith; paid = omega arith; within = o.within };
          at = λ ts g. let f = h.at ts g in record {
            tree = Grammar.item_expression f.tree;
            reads = as! (plainly_stands ws p e) f.reads;
            wrote = subst (Wrote A n (flat_item (says ts (Grammar.item_expression f.tree)) n) (m + 1)) (sym j.1) (wrote_as (rows_words ts f.tree n) (wrote_next f.wrote (word ROWS n 0 0)));
          };
        })
    by (Err why) h j = subst (IsItem ws p n d A A₂) (sym j) (record { bounds = h.bounds; at = λ ts g. as_fails! (plainly_stands ws p e) (h.at ts g) })

-- s alone
name_words : (ws : List ℕ) (ts : List Token) (p n : ℕ) → Holds ws ts → kind_in ws p ≡ 47 → leaf_in ws p WORD ∷ word SAY n 0 0 ∷ [] ≡ flat_item (says ts (Grammar.item_word (Grammar.word_name p))) n
unfolding says flat_item
name_words ws ts p n g e = ap (λ w. w ∷ word SAY n 0 0 ∷ []) (sym (leaf_name (kind_in ws p) p WORD e) ∙ ap (λ j. word WORD j 0 0) (sym (name_number g p e)))

string_words : (ws : List ℕ) (ts : List Token) (p n : ℕ) → Holds ws ts → kind_in ws p ≡ 48 → leaf_in ws p WORD ∷ word SAY n 0 0 ∷ [] ≡ flat_item (says ts (Grammar.item_word (Grammar.word_string p))) n
unfolding says flat_item
string_words ws ts p n g e = ap (λ w. w ∷ word SAY n 0 0 ∷ []) (sym (leaf_string (kind_in ws p) p WORD e) ∙ ap (λ j. word (40 + WORD) j 0 0) (sym (string_number g p e)))

pub say_item : (ws : List ℕ) (p n d : ℕ) (A : List ℕ) {w v : ℕ} → Alone ws p → d ≤ 32 → w ≡ leaf_in ws p WORD → v ≡ word SAY n 0 0 → IsItem ws p n d A (set (set A n w) (n + 1) v) (Ok (p + 1, n + 2))
say_item ws p n d A {w} {v} h l e f = by h
  where
    wrote : Wrote A n (leaf_in ws p WORD ∷ word SAY n 0 0 ∷ []) (n + 2) (set (set A n w) (n + 1) v)
    wrote = let i : n + 1 + 1 ≡ n + 2 = omega arith in subst (λ i. Wrote A n (leaf_in ws p WORD ∷ word SAY n 0 0 ∷ []) i (set (set A n w) (n + 1) v)) i (wrote_as (ap (λ w. w ∷ v ∷ []) e ∙ ap (λ v. leaf_in ws p WORD ∷ v ∷ []) f) (wrote_next (wrote_one A n w) v))

    by : Alone ws p → IsItem ws p n d A (set (set A n w) (n + 1) v) (Ok (p + 1, n + 2))
    by (a_name_alone a b c) = let i = kind_within ws p (omega arith) in record {
      bounds = record { more = omega arith; ahead = omega arith; paid = omega arith; within = omega arith };
      at = λ ts g. record { tree = Grammar.item_word (Grammar.word_name p); reads = item_name! l (name_first ws p a) (not_key ws (p + 1) b) (not_sign ws (p + 1) c); wrote = wrote_as (name_words ws ts p n g a) wrote };
    }
    by (a_string_alone a c) = let i = kind_within ws p (omega arith) in record {
      bounds = record { more = omega arith; ahead = omega arith; paid = omega arith; within = omega arith };
      at = λ ts g. record { tree = Grammar.item_word (Grammar.word_string p); reads = item_string! l (string_first ws p a) (not_sign ws (p + 1) c); wrote = wrote_as (string_words ws ts p n g a) wrote };
    }

-- ENDL
endl_words : (ts : List Token) (n w : ℕ) → w ≡ word LINE_END 0 0 0 → w ∷ [] ≡ flat_item (says ts Grammar.item_endl) n
unfolding says flat_item
endl_words ts n w e = ap (λ w. w ∷ []) e

pub endl_item : (ws : List ℕ) (p n d : ℕ) (A : List ℕ) {w : ℕ} → d ≤ 32 → kind_in ws p ≡ ENDL → w ≡ word LINE_END 0 0 0 → IsItem ws p n d A (set A n w) (Ok (p + 1, n + 1))
endl_item ws p n d A {w} l e f = let i = kind_within ws p (omega arith) in record {
  bounds = record { more = omega arith; ahead = omega arith; paid = omega arith; within = omega arith };
  at = λ ts g. record { tree = Grammar.item_endl; reads = read! endl_rule l (key_first ws p e (omega arith)) done!; wrote = wrote_as (endl_words ts n w f) (wrote_one A n w) };
}

-- `[s]` and an expression
record ALabel (ws : List ℕ) (p : ℕ) : Type 0 where
  tree : Tree Word
  reads : (d : ℕ) → d ≤ 32 → Reads d (phrase Word ∷ []) (drop p (seen ws)) (tree, tt) (drop (p + 1) (seen ws))
  said : (ts : List Token) → Holds ws ts → leaf WORD (says ts tree) ≡ leaf_in ws p WORD

label_name : (ws : List ℕ) (ts : List Token) (p : ℕ) → Holds ws ts → kind_in ws p ≡ 47 → leaf WORD (says ts (Grammar.word_name p)) ≡ leaf_in ws p WORD
unfolding says
label_name ws ts p i e = ap (λ j. word WORD j 0 0) (name_number i p e) ∙ leaf_name (kind_in ws p) p WORD e

label_string : (ws : List ℕ) (ts : List Token) (p : ℕ) → Holds ws ts → kind_in ws p ≡ 48 → leaf WORD (says ts (Grammar.word_string p)) ≡ leaf_in ws p WORD
unfolding says
label_string ws ts p i e = ap (λ j. word (40 + WORD) j 0 0) (string_number i p e) ∙ leaf_string (kind_in ws p) p WORD e

a_label : (ws : List ℕ) (p : ℕ) → (leaf_in ws p WORD ≡ 0 → ⊥) → ALabel ws p
a_label ws p h = at (which_leaf (kind_in ws p) p WORD h)
  where
    at : Leaf (kind_in ws p) WORD → ALabel ws p
    at (a_name_leaf e) = record { tree = Grammar.word_name p; reads = λ d l. read! word_name_rule l (name_first ws p e) done!; said = λ ts i. label_name ws ts p i e }
    at (a_string_leaf e) = record { tree = Grammar.word_string p; reads = λ d l. read! word_string_rule l (string_first ws p e) done!; said = λ ts i. label_string ws ts p i e }
    at (any_leaf e f) = absurd (omega arith)

labelled_words : (ts : List Token) (u : Tree Word) (t : Tree Expression) (n x : ℕ) → leaf WORD (says ts u) ≡ x → (x ∷ flat (says ts t) (n + 1)) ++ (word ROWS n 1 0 ∷ []) ≡ flat_item (says ts (Grammar.item_labelled u t)) n
unfolding says flat_item leaves
labelled_words ts u t n x e = ap (λ x. x ∷ (flat (says ts t) (n + 1) ++ (word ROWS n 1 0 ∷ []))) (sym e)

module _ (ws : List ℕ) (p n d : ℕ) (A : List ℕ) (l : d ≤ 32) (e : kind_in ws p ≡ LBRACKET) where
  pub label_missing : leaf_in ws (p + 1) WORD ≡ 0 → {B : List ℕ} → IsItem ws p n d A B (Err (NoProgram (p + 1)))
  label_missing f = let i = kind_within ws p (omega arith) in unstated (omega arith) (fail! labelled_rule l (key_first ws p e (omega arith)) (stop! (no_word! (no_left ws (p + 1) WORD (omega arith) f))))

  module _ (f : leaf_in ws (p + 1) WORD ≡ 0 → ⊥) where
    label : Reads d (phrase Word ∷ []) (drop (p + 1) (seen ws)) ((a_label ws (p + 1) f).tree, tt) (drop (p + 2) (seen ws))
    label = let i : p + 1 + 1 ≡ p + 2 = omega arith in subst (λ j. Reads d (phrase Word ∷ []) (drop (p + 1) (seen ws)) ((a_label ws (p + 1) f).tree, tt) (drop j (seen ws))) i ((a_label ws (p + 1) f).reads d l)

    pub label_open : (kind_in ws (p + 2) ≡ RBRACKET → ⊥) → {B : List ℕ} → IsItem ws p n d A B (Err (NoProgram (p + 2)))
    label_open h = let i = leaf_within ws (p + 1) WORD f in unstated (omega arith) (fail! labelled_rule l (key_first ws p e (omega arith)) (label ▹ stop! (no_token! (not_key ws (p + 2) h))))

    pub label_item : {w : ℕ} {A₁ A₂ : List ℕ} {a r : Answer} → kind_in ws (p + 2) ≡ RBRACKET → w ≡ leaf_in ws (p + 1) WORD → IsExpression ws (p + 3) (n + 1) d (set A n w) A₁ a → ItemClosed ROWS n 1 A₁ A₂ a r → IsItem ws p n d A A₂ r
    label_item {w} {A₁} {A₂} {a} {r} h i v j = by a v j
      where
        by : (a : Answer) → IsExpression ws (p + 3) (n + 1) d (set A n w) A₁ a → ItemClosed ROWS n 1 A₁ A₂ a r → IsItem ws p n d A A₂ r
        by (Ok (q, m)) v j =
            let o = v.bounds in
            subst (IsItem ws p n d A A₂) (sym j.0) (record {
              bounds = record { more = omega arith; ahead = omega arith; paid = omega arith; within = o.within };
              at = λ ts g. let c = v.at ts g in record {
                tree = Grammar.item_labelled (a_label ws (p + 1) f).tree c.tree;
                reads = read! labelled_rule l (key_first ws p e (omega arith)) (label ▸ token! l (key_then ws (p + 2) (p + 3) (omega arith) h (omega arith)) ▸ c.reads ▸ done!);
                wrote = subst (Wrote A n (flat_item (says ts (Grammar.item_labelled (a_label ws (p + 1) f).tree c.tree)) n) (m + 1)) (sym j.1) (wrote_as (labelled_words ts (a_label ws (p + 1) f).tree c.tree n w ((a_label ws (p + 1) f).said ts g ∙ sym i)) (wrote_next (wrote_then (wrote_one A n w) c.wrote) (word ROWS n 1 0)));
              };
            })
        by (Err why) v j = subst (IsItem ws p n d A A₂) (sym j) (record {
          bounds = v.bounds;
          at = λ ts g. fail! labelled_rule l (key_first ws p e (omega arith)) (label ▹ token! l (key_then ws (p + 2) (p + 3) (omega arith) h (omega arith)) ▹ stop! (v.at ts g));
        })

-- the items of a PRINT
print_words : (ts : List Token) (i : Tree Item) (b : Tree MoreItems) (p n m : ℕ) (xs : List ℕ) → flat_items (says ts i ∷ says ts b) n ≡ xs → m ≡ n + length xs → xs ++ (word Fields.PRINT n 0 (token_at ts p).at ∷ []) ≡ flat_program (says ts (Grammar.print_statement i b) p end) n
unfolding says flat_program
print_words ts i b p n m xs e f = ap (λ l. l ++ (word Fields.PRINT n 0 (token_at ts p).at ∷ [])) (sym e)

item_then : (ts : List Token) (i : Tree Item) (b : Tree MoreItems) (n m : ℕ) → m ≡ n + length (flat_item (says ts i) n) → flat_items (says ts i ∷ says ts b) n ≡ flat_item (says ts i) n ++ flat_items (says ts b) m
unfolding flat_items
item_then ts i b n m e = ap (λ j. flat_item (says ts i) n ++ flat_items (says ts b) j) (ap (λ j. n + j) (sym (length_item (says ts i) n)) ∙ sym e)

more_said : (ts : List Token) (i : Tree Item) (b : Tree MoreItems) → says ts (Grammar.more_items i b) ≡ says ts i ∷ says ts b
unfolding says
more_said ts i b = refl

no_items_said : (ts : List Token) (m : ℕ) → flat_items (says ts Grammar.end_items) m ≡ []
unfolding says flat_items
no_items_said ts m = refl

pub record Printing (ws : List ℕ) (ts : List Token) (p n d : ℕ) (A A' : List ℕ) (q m : ℕ) : Type 0 where
  pub first : Tree Item
  pub at : ℕ
  pub one : Reads d (phrase Item ∷ []) (drop (p + 1) (seen ws)) (first, tt) (drop at (seen ws))
  pub make : Tree MoreItems → Tree MoreItems
  pub reads : (b : Tree MoreItems) (r : List Terminal) → Reads d (phrase MoreItems ∷ []) (drop q (seen ws)) (b, tt) r → Reads d (phrase MoreItems ∷ []) (drop at (seen ws)) (make b, tt) r
  pub fails : (row : ℕ) (r : List Terminal) → Fails d (phrase MoreItems ∷ []) (drop q (seen ws)) row r → Fails d (phrase MoreItems ∷ []) (drop at (seen ws)) row r
  pub sofar : List ℕ
  pub said : (b : Tree MoreItems) → flat_items (says ts first ∷ says ts (make b)) n ≡ sofar ++ flat_items (says ts b) m
  pub wrote : Wrote A n sofar m A'

abbrev pub printing : List ℕ → List Token → ℕ → ℕ → ℕ → List ℕ → List ℕ → Answer → Type 0
printing ws ts p n d A A' (Ok (q, m)) = Printing ws ts p n d A A' q m
printing ws ts p n d A A' (Err why) = Fails d (phrase Statement ∷ []) (drop p (seen ws)) (row_of why) (drop (token_of why) (seen ws))

pub record IsPrinting (ws : List ℕ) (p n d : ℕ) (A A' : List ℕ) (a : Answer) : Type 0 where
  pub bounds : spans ws 1 (p + 1) n a
  pub at : (ts : List Token) → Holds ws ts → printing ws ts p n d A A' a
  pub long : length A' ≡ length A

module _ {ws : List ℕ} {p n d : ℕ} {A A₁ : List ℕ} (l : d ≤ 32) (e : kind_in ws p ≡ PRINT) where
  pub print_starts : {a : Answer} → IsItem ws (p + 1) n d A A₁ a → length A₁ ≡ length A → IsPrinting ws p n d A A₁ a
  print_starts {a} h long = record { bounds = h.bounds; long = long; at = λ ts g. by ts a (h.at ts g) }
    where
      by : (ts : List Token) (a : Answer) → stated Item (λ ts t p n. flat_item (says ts t) n) ws ts (p + 1) n d A A₁ a → printing ws ts p n d A A₁ a
      by ts (Ok (q, m)) f = record {
        first = f.tree;
        at = q;
        one = f.reads;
        make = λ b. b;
        reads = λ b r i. i;
        fails = λ row r i. i;
        sofar = flat_item (says ts f.tree) n;
        said = λ b. item_then ts f.tree b n m f.wrote.many;
        wrote = f.wrote;
      }
      by ts (Err why) f = fail! print_rule l (key_first ws p e (omega arith)) (stop! f)

  module _ {a : Answer} (h : IsPrinting ws p n d A A₁ a) where
    pub print_stops : {why : ParseError} → a ≡ Err why → IsStatement ws p n d A A₁ (Err why)
    print_stops i = record { bounds = subst (spans ws 1 (p + 1) n) i h.bounds; at = λ ts g. subst (printing ws ts p n d A A₁) i (h.at ts g) }

    module _ {q m : ℕ} (i : a ≡ Ok (q, m)) where
      pub print_span : Span ws 1 (p + 1) n q m
      print_span = subst (spans ws 1 (p + 1) n) i h.bounds

      got : (ts : List Token) → Holds ws ts → Printing ws ts p n d A A₁ q m
      got ts g = subst (printing ws ts p n d A A₁) i (h.at ts g)

      pub print_unended : (kind_in ws q ≡ SEMICOLON → ⊥) → (kind_in ws q ≡ COMMA → ⊥) → {B : List ℕ} → IsStatement ws p n d A B (Err (NoProgram q))
      print_unended f c = record {
        bounds = print_span.within;
        at = λ ts g. let b = got ts g in fail! print_rule l (key_first ws p e (omega arith)) (b.one ▹ b.reads Grammar.end_items (drop q (seen ws)) (end_items! (not_key ws q c)) ▹ stop! (no_token! (not_key ws q f)));
      }

      pub print_ends : {w v : ℕ} → kind_in ws q ≡ SEMICOLON → w ≡ word Fields.PRINT n 0 v → v ≡ at_of (get_or ws p 0) → IsStatement ws p n d A (set A₁ m w) (Ok (q + 1, m + 1))
      print_ends {w} {v} f x y =
          let o = print_span in
          let k = kind_within ws q (omega arith) in
          let k' = kind_within ws p (omega arith) in
          record {
            bounds = record { more = omega arith; ahead = omega arith; paid = omega arith; within = omega arith };
            at = λ ts g. let b = got ts g in record {
              tree = Grammar.print_statement b.first (b.make Grammar.end_items);
              reads = read! print_rule l (key_first ws p e (omega arith)) (b.one ▸ b.reads Grammar.end_items (drop q (seen ws)) (end_items! (not_key ws q (λ c. omega arith))) ▸ token! l (key_first ws q f (omega arith)) ▸ done!);
              wrote = wrote_as (ap (λ t. b.sofar ++ (t ∷ [])) (x ∙ ap (word Fields.PRINT n 0) (y ∙ sym (place_of g p k'))) ∙ print_words ts b.first (b.make Grammar.end_items) p n m b.sofar (b.said Grammar.end_items ∙ ap (λ xs. b.sofar ++ xs) (no_items_said ts m) ∙ append-nil b.sofar) b.wrote.many) (wrote_next b.wrote w);
            };
          }

      pub print_on : kind_in ws q ≡ COMMA → {A₂ : List ℕ} {b : Answer} → IsItem ws (q + 1) m d A₁ A₂ b → length A₂ ≡ length A → IsPrinting ws p n d A A₂ b
      print_on f {A₂} {b} v long = by b v
        where
          by : (b : Answer) → IsItem ws (q + 1) m d A₁ A₂ b → IsPrinting ws p n d A A₂ b
          by (Ok (q', m')) v =
              let o = print_span in
              let o' = v.bounds in
              record {
                long = long;
                bounds = record { more = omega arith; ahead = omega arith; paid = omega arith; within = o'.within };
                at = λ ts g. let b = got ts g in let c = v.at ts g in record {
                  first = b.first;
                  at = b.at;
                  one = b.one;
                  make = λ t. b.make (Grammar.more_items c.tree t);
                  reads = λ t r u. b.reads (Grammar.more_items c.tree t) r (read! more_items_rule l (key_first ws q f (omega arith)) (c.reads ▸ u ▸ done!));
                  fails = λ row r u. b.fails row r (fail! more_items_rule l (key_first ws q f (omega arith)) (c.reads ▹ stop! u));
                  sofar = b.sofar ++ flat_item (says ts c.tree) m;
                  said = λ t. b.said (Grammar.more_items c.tree t) ∙ ap (λ is. b.sofar ++ flat_items is m) (more_said ts c.tree t) ∙ ap (λ xs. b.sofar ++ xs) (item_then ts c.tree t m m' c.wrote.many) ∙ sym (append_assoc b.sofar (flat_item (says ts c.tree) m) (flat_items (says ts t) m'));
                  wrote = wrote_then b.wrote c.wrote;
                };
              }
          by (Err why) v = record {
            long = long;
            bounds = v.bounds;
            at = λ ts g. let b = got ts g in fail! print_rule l (key_first ws p e (omega arith)) (b.one ▹ stop! (b.fails (row_of why) (drop (token_of why) (seen ws)) (fail! more_items_rule l (key_first ws q f (omega arith)) (stop! (v.at ts g)))));
          }

pub item_span : {ws : List ℕ} {p n d q m : ℕ} {A A₁ : List ℕ} {a : Answer} → IsItem ws p n d A A₁ a → a ≡ Ok (q, m) → Span ws 1 p n q m
item_span {ws} {p} {n} h i = subst (spans ws 1 p n) i h.bounds

-- by the kind of the first token, and of the second
pub name_call : {ws : List ℕ} {p k : ℕ} → Worded (kind_in ws p) k → k ≡ 47 → kind_in ws (p + 1) ≡ LPAREN → Plainly ws p
name_call {ws} {p} w e f = at refl w e
  where
    at : {t k : ℕ} → t ≡ kind_in ws p → Worded t k → k ≡ 47 → Plainly ws p
    at i a_name_word e = a_call (sym i) f
    at i a_string_word e = absurd (omega arith)

pub word_compared : {ws : List ℕ} {p k : ℕ} → Worded (kind_in ws p) k → IsSign (kind_in ws (p + 1)) → Plainly ws p
word_compared {ws} {p} w f = at refl w
  where
    at : {t k : ℕ} → t ≡ kind_in ws p → Worded t k → Plainly ws p
    at i a_name_word = a_compared_name (sym i) f
    at i a_string_word = a_compared_string (sym i) f

pub word_alone : {ws : List ℕ} {p k : ℕ} → Worded (kind_in ws p) k → (k ≡ 47 → kind_in ws (p + 1) ≡ LPAREN → ⊥) → (41 ≤ kind_in ws (p + 1) → kind_in ws (p + 1) ≤ 46 → ⊥) → Alone ws p
word_alone {ws} {p} w f g = at refl w f
  where
    at : {t k : ℕ} → t ≡ kind_in ws p → Worded t k → (k ≡ 47 → kind_in ws (p + 1) ≡ LPAREN → ⊥) → Alone ws p
    at i a_name_word f = a_name_alone (sym i) (f refl) g
    at i a_string_word f = a_string_alone (sym i) g

pub name_word : {t : ℕ} → t ≡ 47 → Worded t 47
name_word e = subst (λ t. Worded t 47) (sym e) a_name_word

pub string_word : {t : ℕ} → t ≡ 48 → Worded t 48
string_word e = subst (λ t. Worded t 48) (sym e) a_string_word

pub alone_within : {ws : List ℕ} {p : ℕ} → Alone ws p → p < length ws
alone_within {ws} {p} (a_name_alone a b c) = kind_within ws p (omega arith)
alone_within {ws} {p} (a_string_alone a c) = kind_within ws p (omega arith)
