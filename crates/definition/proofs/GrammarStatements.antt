-- The productions of statements, a line each, for code that reads them: GrammarReads says how a return cites them.
--   left sides     left-name-rule left-string-rule no-left!; lefts-rule no-lefts!; more-lefts-rule end-lefts!
--   words          word-name-rule word-string-rule no-word!
--   items          labelled-rule endl-rule; more-items-rule end-items!
--   by the next two tokens: item-name! item-string! (s alone); item-call-rule item-sign-rule item-string-rule, item-rule at any other token (an expression)
--   quantities     item-quantity-rule at a token that begins one, then item-figures-rule at a sign, or item-alone!
--   statements     left-side-rule, with becomes-rule or alone-rule or no-left-end! for what follows `R(t,..)`; conditional-rule while-rule for-rule print-rule, `{..}` by block-rule (statements: BlockLaws); no-statement!
--   blocks, ELSE   block-rule no-block!; else-rule no-else!
--   programs       program-rule; more-statements-rule end-statements!; at the end: top-read (GrammarTop), program-left program-fails (AnswerLaws)
use Prim.Native.Nat.{ℕ, ◌≤◌}
use mathlib.Core.List.{List, [], ◌∷◌}
use mathlib.Core.Bool.{Bool, true, false, ◌||◌}
use mathlib.Core.Path.{◌≡◌, refl, ap, sym, subst, ◌∙◌}
use lib.Dec.{T as IsTrue, eqb, eqb→eq}
use borrow.Author.Tests.{ne_eqb}
use Rattle.definition.proofs.BoolLaws.{apart}
use Rattle.definition.proofs.GrammarComplete.{Halts, on_not}
use Rattle.definition.proofs.GrammarReads.{Begins, begins_halts, begins_as, Takes, keys_alone, not_key, only_key, only_sign, sign_halts, neither, Next, nothing, a_name, a_string, a_number, a_sign, a_key, next, Reads, Fails, Rule, read!, Stands, empty!, none!, unit_eq, like_eq, start_eq, via, goes, on_goes, on_halts, on_one, off_one}
use Rattle.definition.proofs.GrammarExpressions.{rests, after_name_halts, begins_quantity}
use Rattle.definition.specs.Grammar.{row, Program, MoreStatements, Statement, Block, Else, Lefts, MoreLefts, Left, MoreItems, Item, Word, Term, Expression, Quantity}
use Rattle.definition.specs.Grammar.{program, end_statements, more_statements, conditional, while_loop, for_loop, print_statement, block, no_else, else_block, no_lefts, lefts, end_lefts, more_lefts, left_name, left_string, end_items, more_items, item_expression, item_labelled, item_word, item_endl, word_name, word_string}
use Rattle.definition.specs.Reader.{Symbol, phrase, fixed, identifier, any_sign, after_name, after_item_name, after_item_string, after_item_quantity, after_left, level_end, rule, halt, item_name_rest, item_string_rest, item_quantity_alone, item_quantity_rest, on_key, wrap, levels_open, as_item, as_item_name_rest, as_item_string_rest, as_item_quantity, left_becomes, left_alone, item_of, string_item_of, quantity_item_of, statement_of, map_reading, read}
use Rattle.definition.specs.Token.{Terminal, name, string, number, sign, key, Sign, LPAREN, RPAREN, LBRACE, RBRACE, LBRACKET, RBRACKET, COMMA, SEMICOLON, BECOMES, IF, ELSE, WHILE, FOR, IN, PRINT, ENDL, HASH}

-- an identifier or a string: a left-hand term, or s of an item
abbrev pub names_string : Next → Bool
names_string nothing = false
names_string a_name = true
names_string a_string = true
names_string (a_number o) = false
names_string (a_sign g) = false
names_string (a_key k) = false

pub not_names_string : (n : Next) → (n ≡ a_name → ⊥) → (n ≡ a_string → ⊥) → names_string n ≡ false
not_names_string nothing a b = refl
not_names_string a_name a b = absurd (a refl)
not_names_string a_string a b = absurd (b refl)
not_names_string (a_number o) a b = refl
not_names_string (a_sign g) a b = refl
not_names_string (a_key k) a b = refl

neither_halts : (x : Symbol) → ((o : Bool) (i : ℕ) (s : List Symbol) → rule x (number o i) s ≡ halt) → ((g : Sign) (s : List Symbol) → rule x (sign g) s ≡ halt) → ((k : ℕ) (s : List Symbol) → rule x (key k) s ≡ halt) → (ts : List Terminal) → names_string (next ts) ≡ false → Halts x ts
neither_halts x n a b [] h = tt
neither_halts x n a b (name i ∷ l) h = absurd (apart h)
neither_halts x n a b (string i ∷ l) h = absurd (apart h)
neither_halts x n a b (number o i ∷ l) h = λ s. n o i s
neither_halts x n a b (sign g ∷ l) h = λ s. a g s
neither_halts x n a b (key k ∷ l) h = λ s. b k s

-- Left sides.
pub left_name_rule : {x : ℕ} → Rule (phrase Left) (name x) [] (λ fs. left_name x)
left_name_rule = record { is = λ s. refl }

pub left_string_rule : {x : ℕ} → Rule (phrase Left) (string x) [] (λ fs. left_string x)
left_string_rule = record { is = λ s. refl }

left_takes : (ts : List Terminal) → names_string (next ts) ≡ true → Takes (phrase Left) ts
left_takes [] h = apart (sym h)
left_takes (name x ∷ l) h = λ s. goes _ _
left_takes (string x ∷ l) h = λ s. goes _ _
left_takes (number o x ∷ l) h = absurd (apart (sym h))
left_takes (sign g ∷ l) h = absurd (apart (sym h))
left_takes (key k ∷ l) h = absurd (apart (sym h))

pub no_left! : {d : ℕ} {ts : List Terminal} → names_string (next ts) ≡ false → Fails d (phrase Left ∷ []) ts 10 ts
no_left! {ts = ts} h = none! (phrase Left) ts refl (neither_halts (phrase Left) (λ o i s. refl) (λ g s. refl) (λ k s. refl) ts h)

lefts_begin : Begins (phrase Lefts) (phrase Left) (phrase MoreLefts ∷ []) (λ fs. lefts fs.0 fs.1.0)
lefts_begin = record { is = λ t s. refl }

pub no_lefts! : {d : ℕ} {ts : List Terminal} → names_string (next ts) ≡ false → Reads d (phrase Lefts ∷ []) ts (no_lefts, tt) ts
no_lefts! {ts = ts} h = empty! (phrase Lefts) ts refl (begins_halts lefts_begin ts (neither_halts (phrase Left) (λ o i s. refl) (λ g s. refl) (λ k s. refl) ts h))

pub lefts_rule : {ts : List Terminal} → names_string (next ts) ≡ true → Stands (phrase Lefts) (phrase Left ∷ phrase MoreLefts ∷ []) (λ fs. lefts fs.0 fs.1.0) ts
lefts_rule {ts} h = begins_as lefts_begin ts (left_takes ts h)

pub more_lefts_rule : Rule (phrase MoreLefts) (key COMMA) (phrase Left ∷ phrase MoreLefts ∷ []) (λ fs. more_lefts fs.0 fs.1.0)
unfolding on_key
more_lefts_rule = record { is = λ s. refl }

pub end_lefts! : {d : ℕ} {ts : List Terminal} → (next ts ≡ a_key COMMA → ⊥) → Reads d (phrase MoreLefts ∷ []) ts (end_lefts, tt) ts
end_lefts! {ts = ts} h = empty! (phrase MoreLefts) ts refl (only_key (phrase MoreLefts) COMMA (λ i s. refl) (λ i s. refl) (λ o i s. refl) (λ g s. refl) (λ k s e. on_not k COMMA _ _ e) ts h)

-- Items.
pub word_name_rule : {x : ℕ} → Rule (phrase Word) (name x) [] (λ fs. word_name x)
word_name_rule = record { is = λ s. refl }

pub word_string_rule : {x : ℕ} → Rule (phrase Word) (string x) [] (λ fs. word_string x)
word_string_rule = record { is = λ s. refl }

pub no_word! : {d : ℕ} {ts : List Terminal} → names_string (next ts) ≡ false → Fails d (phrase Word ∷ []) ts 10 ts
no_word! {ts = ts} h = none! (phrase Word) ts refl (neither_halts (phrase Word) (λ o i s. refl) (λ g s. refl) (λ k s. refl) ts h)

pub labelled_rule : Rule (phrase Item) (key LBRACKET) (phrase Word ∷ fixed RBRACKET ∷ phrase Expression ∷ []) (λ fs. item_labelled fs.0 fs.1.1.0)
unfolding on_key
labelled_rule = record { is = λ s. refl }

pub endl_rule : Rule (phrase Item) (key ENDL) [] (λ fs. item_endl)
unfolding on_key
endl_rule = record { is = λ s. refl }

pub more_items_rule : Rule (phrase MoreItems) (key COMMA) (phrase Item ∷ phrase MoreItems ∷ []) (λ fs. more_items fs.0 fs.1.0)
unfolding on_key
more_items_rule = record { is = λ s. refl }

pub end_items! : {d : ℕ} {ts : List Terminal} → (next ts ≡ a_key COMMA → ⊥) → Reads d (phrase MoreItems ∷ []) ts (end_items, tt) ts
end_items! {ts = ts} h = empty! (phrase MoreItems) ts refl (only_key (phrase MoreItems) COMMA (λ i s. refl) (λ i s. refl) (λ o i s. refl) (λ g s. refl) (λ k s e. on_not k COMMA _ _ e) ts h)

name_rule : {x : ℕ} → Rule (phrase Item) (name x) (after_item_name ∷ []) (λ fs. item_of x fs.0)
name_rule = record { is = λ s. refl }

string_rule : {x : ℕ} → Rule (phrase Item) (string x) (after_item_string ∷ []) (λ fs. string_item_of x fs.0)
string_rule = record { is = λ s. refl }

-- an identifier that neither ( nor a sign follows, and a string that no sign follows
name_begins : Begins after_item_name after_name (rests []) (λ fs. item_name_rest fs.0 fs.1.0 fs.1.1.0 fs.1.1.1.0 fs.1.1.1.1.0)
name_begins = record { is = λ t s. refl }

string_begins : Begins after_item_string any_sign (phrase Term ∷ rests []) (λ fs. item_string_rest fs.0 fs.1.0 fs.1.1.0 fs.1.1.1.0 fs.1.1.1.1.0 fs.1.1.1.1.1.0)
string_begins = record { is = λ t s. refl }

pub item_name! : {d x : ℕ} {ts l : List Terminal} → d ≤ 32 → ts ≡ name x ∷ l → (next l ≡ a_key LPAREN → ⊥) → ((g : Sign) → next l ≡ a_sign g → ⊥) → Reads d (phrase Item ∷ []) ts (item_word (word_name x), tt) l
item_name! {l = l} k e h i = read! name_rule k e (empty! after_item_name l refl (begins_halts name_begins l (after_name_halts l h i)))

pub item_string! : {d x : ℕ} {ts l : List Terminal} → d ≤ 32 → ts ≡ string x ∷ l → ((g : Sign) → next l ≡ a_sign g → ⊥) → Reads d (phrase Item ∷ []) ts (item_word (word_string x), tt) l
item_string! {l = l} k e h = read! string_rule k e (empty! after_item_string l refl (begins_halts string_begins l (sign_halts l h)))

item_name : (x : ℕ) (l : List Terminal) (s : List Symbol) → read l (after_item_name ∷ s) ≡ map_reading (as_item_name_rest s) (read l (after_name ∷ rests s)) → read (name x ∷ l) (phrase Item ∷ s) ≡ map_reading (as_item s) (read (name x ∷ l) (phrase Expression ∷ s))
unfolding wrap
item_name x l s e = via (after_name ∷ rests s) (after_item_name ∷ s) (phrase Expression ∷ s) (phrase Item ∷ s) (row false (levels_open s)) (name x ∷ l) _ _ (as_item_name_rest s) (as_item s) (λ u. refl) (read l (after_name ∷ rests s)) (read l (after_item_name ∷ s)) e

item_string : (x : ℕ) (l : List Terminal) (s : List Symbol) → read l (after_item_string ∷ s) ≡ map_reading (as_item_string_rest s) (read l (any_sign ∷ phrase Term ∷ rests s)) → read (string x ∷ l) (phrase Item ∷ s) ≡ map_reading (as_item s) (read (string x ∷ l) (phrase Expression ∷ s))
unfolding wrap
item_string x l s e = via (any_sign ∷ phrase Term ∷ rests s) (after_item_string ∷ s) (phrase Expression ∷ s) (phrase Item ∷ s) (row false (levels_open s)) (string x ∷ l) _ _ (as_item_string_rest s) (as_item s) (λ u. refl) (read l (any_sign ∷ phrase Term ∷ rests s)) (read l (after_item_string ∷ s)) e

-- an identifier and ( or a sign, a string and a sign, or any other token: the item is an expression
pub item_call_rule : {x : ℕ} {ts l m : List Terminal} → ts ≡ name x ∷ l → l ≡ key LPAREN ∷ m → Stands (phrase Item) (phrase Expression ∷ []) (λ fs. item_expression fs.0) ts
unfolding on_key
item_call_rule {x} {m = m} e i = subst (Stands (phrase Item) (phrase Expression ∷ []) (λ fs. item_expression fs.0)) (sym (e ∙ ap (λ u. name x ∷ u) i)) (record { is = λ s. item_name x (key LPAREN ∷ m) s (start_eq after_item_name after_name s (rests s) (as_item_name_rest s) (key LPAREN) refl (goes _ _) m) })

pub item_sign_rule : {x : ℕ} {g : Sign} {ts l m : List Terminal} → ts ≡ name x ∷ l → l ≡ sign g ∷ m → Stands (phrase Item) (phrase Expression ∷ []) (λ fs. item_expression fs.0) ts
item_sign_rule {x} {g} {m = m} e i = subst (Stands (phrase Item) (phrase Expression ∷ []) (λ fs. item_expression fs.0)) (sym (e ∙ ap (λ u. name x ∷ u) i)) (record { is = λ s. item_name x (sign g ∷ m) s (start_eq after_item_name after_name s (rests s) (as_item_name_rest s) (sign g) refl (goes _ _) m) })

pub item_string_rule : {x : ℕ} {g : Sign} {ts l m : List Terminal} → ts ≡ string x ∷ l → l ≡ sign g ∷ m → Stands (phrase Item) (phrase Expression ∷ []) (λ fs. item_expression fs.0) ts
item_string_rule {x} {g} {m = m} e i = subst (Stands (phrase Item) (phrase Expression ∷ []) (λ fs. item_expression fs.0)) (sym (e ∙ ap (λ u. string x ∷ u) i)) (record { is = λ s. item_string x (sign g ∷ m) s (start_eq after_item_string any_sign s (phrase Term ∷ rests s) (as_item_string_rest s) (sign g) refl (goes _ _) m) })

pub item_rule : {ts : List Terminal} → names_string (next ts) ≡ false → begins_quantity (next ts) ≡ false → (next ts ≡ a_key LBRACKET → ⊥) → (next ts ≡ a_key ENDL → ⊥) → Stands (phrase Item) (phrase Expression ∷ []) (λ fs. item_expression fs.0) ts
item_rule {ts} h n i j = record { is = λ s. at ts h n i j s }
  where
    at : (ts : List Terminal) → names_string (next ts) ≡ false → begins_quantity (next ts) ≡ false → (next ts ≡ a_key LBRACKET → ⊥) → (next ts ≡ a_key ENDL → ⊥) → (s : List Symbol) → read ts (phrase Item ∷ s) ≡ map_reading (as_item s) (read ts (phrase Expression ∷ s))
    at [] h n i j s = refl
    at (name x ∷ l) h n i j s = absurd (apart h)
    at (string x ∷ l) h n i j s = absurd (apart h)
    at (number o x ∷ l) h n i j s = absurd (apart n)
    at (sign g ∷ l) h n i j s = like_eq (phrase Item) (phrase Expression) s s (as_item s) refl refl (sign g) refl l
    at (key k ∷ l) h n i j s = like_eq (phrase Item) (phrase Expression) s s (as_item s) refl refl (key k) (on_not k LBRACKET _ _ (ne_eqb k LBRACKET (λ e. i (ap a_key e))) ∙ on_not k ENDL _ _ (ne_eqb k ENDL (λ e. j (ap a_key e))) ∙ off_one k HASH _ _ n) l

-- a quantity, by itself or beside a sign
other : (k c : ℕ) → eqb HASH c ≡ false → (eqb k HASH || false) ≡ true → eqb k c ≡ false
other k c d h = at (eqb k HASH) refl h
  where
    at : (u : Bool) → eqb k HASH ≡ u → (u || false) ≡ true → eqb k c ≡ false
    at true e h = ap (λ i. eqb i c) (eqb→eq k HASH (subst IsTrue (sym e) tt)) ∙ d
    at false e h = absurd (apart (sym h))

pub item_quantity_rule : {ts : List Terminal} → begins_quantity (next ts) ≡ true → Stands (phrase Item) (phrase Quantity ∷ after_item_quantity ∷ []) (λ fs. quantity_item_of fs.0 fs.1.0) ts
item_quantity_rule {ts} h = record { is = λ s. at ts h s }
  where
    at : (ts : List Terminal) → begins_quantity (next ts) ≡ true → (s : List Symbol) → read ts (phrase Item ∷ s) ≡ map_reading (as_item_quantity s) (read ts (phrase Quantity ∷ after_item_quantity ∷ s))
    at [] h s = absurd (apart (sym h))
    at (name x ∷ l) h s = absurd (apart (sym h))
    at (string x ∷ l) h s = absurd (apart (sym h))
    at (number o x ∷ l) h s = like_eq (phrase Item) (phrase Quantity) s (after_item_quantity ∷ s) (as_item_quantity s) refl refl (number o x) refl l
    at (sign g ∷ l) h s = absurd (apart (sym h))
    at (key k ∷ l) h s = like_eq (phrase Item) (phrase Quantity) s (after_item_quantity ∷ s) (as_item_quantity s) refl refl (key k) (on_not k LBRACKET _ _ (other k LBRACKET refl h) ∙ on_not k ENDL _ _ (other k ENDL refl h) ∙ on_one k HASH _ _ h) l

pub item_figures_rule : {g : Sign} → Rule after_item_quantity (sign g) (phrase Quantity ∷ []) (λ fs. item_quantity_rest g fs.0)
item_figures_rule = record { is = λ s. refl }

pub item_alone! : {d : ℕ} {ts : List Terminal} → ((g : Sign) → next ts ≡ a_sign g → ⊥) → Reads d (after_item_quantity ∷ []) ts (item_quantity_alone, tt) ts
item_alone! {ts = ts} h = empty! after_item_quantity ts refl (only_sign after_item_quantity (λ i s. refl) (λ i s. refl) (λ o i s. refl) (λ k s. refl) ts h)

-- Statements: `R(t,..)` with what follows it, and those that their first token tells.
pub left_side_rule : {x : ℕ} → Rule (phrase Statement) (name x) (fixed LPAREN ∷ phrase Lefts ∷ fixed RPAREN ∷ after_left ∷ []) (λ fs. statement_of x fs.1.0 fs.1.1.1.0)
left_side_rule = record { is = λ s. refl }

pub becomes_rule : Rule after_left (key BECOMES) (phrase Expression ∷ fixed SEMICOLON ∷ []) (λ fs. left_becomes fs.0)
unfolding on_key
becomes_rule = record { is = λ s. refl }

pub alone_rule : Rule after_left (key SEMICOLON) [] (λ fs. left_alone)
unfolding on_key
alone_rule = record { is = λ s. refl }

pub no_left_end! : {d : ℕ} {ts : List Terminal} → (next ts ≡ a_key BECOMES → ⊥) → (next ts ≡ a_key SEMICOLON → ⊥) → Fails d (after_left ∷ []) ts 10 ts
no_left_end! {ts = ts} h i =
    none! after_left ts refl (keys_alone after_left (λ i s. refl) (λ i s. refl) (λ o i s. refl) (λ g s. refl) ts (λ k e s. on_not k BECOMES _ _ (not_key e h) ∙ on_not k SEMICOLON _ _ (not_key e i)))

pub conditional_rule : Rule (phrase Statement) (key IF) (phrase Expression ∷ phrase Block ∷ phrase Else ∷ []) (λ fs. conditional fs.0 fs.1.0 fs.1.1.0)
unfolding on_key
conditional_rule = record { is = λ s. refl }

pub while_rule : Rule (phrase Statement) (key WHILE) (phrase Expression ∷ phrase Block ∷ []) (λ fs. while_loop fs.0 fs.1.0)
unfolding on_key
while_rule = record { is = λ s. refl }

pub for_rule : Rule (phrase Statement) (key FOR) (identifier ∷ fixed IN ∷ phrase Expression ∷ phrase Block ∷ []) (λ fs. for_loop fs.0 fs.1.1.0 fs.1.1.1.0)
unfolding on_key
for_rule = record { is = λ s. refl }

pub print_rule : Rule (phrase Statement) (key PRINT) (phrase Item ∷ phrase MoreItems ∷ fixed SEMICOLON ∷ []) (λ fs. print_statement fs.0 fs.1.0)
unfolding on_key
print_rule = record { is = λ s. refl }

pub block_rule : Rule (phrase Block) (key LBRACE) (phrase Statement ∷ phrase MoreStatements ∷ fixed RBRACE ∷ level_end ∷ []) (λ fs. block fs.0 fs.1.0)
unfolding on_key
block_rule = record { is = λ s. refl }

pub no_block! : {d : ℕ} {ts : List Terminal} → (next ts ≡ a_key LBRACE → ⊥) → Fails d (phrase Block ∷ []) ts 10 ts
no_block! {ts = ts} h = none! (phrase Block) ts refl (only_key (phrase Block) LBRACE (λ i s. refl) (λ i s. refl) (λ o i s. refl) (λ g s. refl) (λ k s e. on_not k LBRACE _ _ e) ts h)

pub else_rule : Rule (phrase Else) (key ELSE) (phrase Block ∷ []) (λ fs. else_block fs.0)
unfolding on_key
else_rule = record { is = λ s. refl }

pub no_else! : {d : ℕ} {ts : List Terminal} → (next ts ≡ a_key ELSE → ⊥) → Reads d (phrase Else ∷ []) ts (no_else, tt) ts
no_else! {ts = ts} h = empty! (phrase Else) ts refl (only_key (phrase Else) ELSE (λ i s. refl) (λ i s. refl) (λ o i s. refl) (λ g s. refl) (λ k s e. on_not k ELSE _ _ e) ts h)

-- the tokens that begin a statement
abbrev pub begins_statement : Next → Bool
begins_statement nothing = false
begins_statement a_name = true
begins_statement a_string = false
begins_statement (a_number o) = false
begins_statement (a_sign g) = false
begins_statement (a_key k) = eqb k IF || (eqb k WHILE || (eqb k FOR || (eqb k LBRACE || (eqb k PRINT || false))))

pub not_statement : (n : Next) → (n ≡ a_name → ⊥) → (n ≡ a_key IF → ⊥) → (n ≡ a_key WHILE → ⊥) → (n ≡ a_key FOR → ⊥) → (n ≡ a_key LBRACE → ⊥) → (n ≡ a_key PRINT → ⊥) → begins_statement n ≡ false
not_statement nothing x a b c d e = refl
not_statement a_name x a b c d e = absurd (x refl)
not_statement a_string x a b c d e = refl
not_statement (a_number o) x a b c d e = refl
not_statement (a_sign i) x a b c d e = refl
not_statement (a_key k) x a b c d e = neither k IF _ a (neither k WHILE _ b (neither k FOR _ c (neither k LBRACE _ d (neither k PRINT _ e refl))))

statement_halts : (ts : List Terminal) → begins_statement (next ts) ≡ false → Halts (phrase Statement) ts
statement_halts [] h = tt
statement_halts (name x ∷ l) h = absurd (apart h)
statement_halts (string x ∷ l) h = λ s. refl
statement_halts (number o x ∷ l) h = λ s. refl
statement_halts (sign g ∷ l) h = λ s. refl
statement_halts (key k ∷ l) h = λ s. on_halts k IF _ _ (eqb k WHILE || (eqb k FOR || (eqb k LBRACE || (eqb k PRINT || false)))) (on_halts k WHILE _ _ (eqb k FOR || (eqb k LBRACE || (eqb k PRINT || false))) (on_halts k FOR _ _ (eqb k LBRACE || (eqb k PRINT || false)) (on_halts k LBRACE _ _ (eqb k PRINT || false) (on_halts k PRINT _ _ false (λ e. refl))))) h

pub no_statement! : {d : ℕ} {ts : List Terminal} → begins_statement (next ts) ≡ false → Fails d (phrase Statement ∷ []) ts 10 ts
no_statement! {ts = ts} h = none! (phrase Statement) ts refl (statement_halts ts h)

-- One or more statements.
pub program_rule : {ts : List Terminal} → Stands (phrase Program) (phrase Statement ∷ phrase MoreStatements ∷ []) (λ fs. program fs.0 fs.1.0) ts
program_rule {ts} = record { is = λ s. unit_eq (phrase Program) (phrase Statement) s (phrase MoreStatements ∷ s) _ refl refl (λ t. refl) ts }

statement_takes : (ts : List Terminal) → begins_statement (next ts) ≡ true → Takes (phrase Statement) ts
statement_takes [] h = apart (sym h)
statement_takes (name x ∷ l) h = λ s. goes _ _
statement_takes (string x ∷ l) h = absurd (apart (sym h))
statement_takes (number o x ∷ l) h = absurd (apart (sym h))
statement_takes (sign g ∷ l) h = absurd (apart (sym h))
statement_takes (key k ∷ l) h = λ s. on_goes k IF _ _ _ (eqb k WHILE || (eqb k FOR || (eqb k LBRACE || (eqb k PRINT || false)))) (on_goes k WHILE _ _ _ (eqb k FOR || (eqb k LBRACE || (eqb k PRINT || false))) (on_goes k FOR _ _ _ (eqb k LBRACE || (eqb k PRINT || false)) (on_goes k LBRACE _ _ _ (eqb k PRINT || false) (on_goes k PRINT _ _ _ false (λ e. absurd (apart (sym e))))))) h

more_begin : Begins (phrase MoreStatements) (phrase Statement) (phrase MoreStatements ∷ []) (λ fs. more_statements fs.0 fs.1.0)
more_begin = record { is = λ t s. refl }

pub end_statements! : {d : ℕ} {ts : List Terminal} → begins_statement (next ts) ≡ false → Reads d (phrase MoreStatements ∷ []) ts (end_statements, tt) ts
end_statements! {ts = ts} h = empty! (phrase MoreStatements) ts refl (begins_halts more_begin ts (statement_halts ts h))

pub more_statements_rule : {ts : List Terminal} → begins_statement (next ts) ≡ true → Stands (phrase MoreStatements) (phrase Statement ∷ phrase MoreStatements ∷ []) (λ fs. more_statements fs.0 fs.1.0) ts
more_statements_rule {ts} h = begins_as more_begin ts (statement_takes ts h)
