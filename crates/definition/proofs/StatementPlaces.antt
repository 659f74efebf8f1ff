-- A statement's place is that of the token with which it begins, and the number in a name or a string is its own token's.
use mathlib.Core.Path.{◌≡◌, refl, sym, ap, subst, ◌∙◌}
use mathlib.Core.Bool.{Bool, true, false}
use mathlib.Core.Option.{Option, some, none}
use mathlib.Core.List.{List, [], ◌∷◌, ◌++◌, append_assoc, append-nil}
use Prim.Native.Nat.{ℕ, suc, ◌+◌, ◌<◌}
use native.Mathlib.Nat.{add-zero, zero-add}
use native.Mathlib.Omega.{arith}
use lib.ListN.{length, drop, length-append, length-drop, length-map}
use lib.Seq.{drop-append_seam}
use Rattle.definition.specs.Token.{Terminal, name, string, key, Token, token_at, terminals, lexed, tokens, LBRACE, RBRACE, IF, ELSE, WHILE, FOR, IN}
use Rattle.definition.specs.Grammar.{Tree, Statement, MoreStatements, Block, Else, flat}
use Rattle.definition.specs.Grammar
use Rattle.definition.specs.Syntax.{Program, end, assign, print, test, while, for, block, the, says, size, Expression, Term, Item}
use Rattle.definition.specs.Text.{Text}
use Rattle.definition.proofs.BoolLaws.{apart}
use Rattle.definition.proofs.TokenLaws.{Holds, holds_name, holds_string, lexed_tokens, number_at, terminals_drop}

-- a phrase that holds statements, and its tokens
pub data Body : Type 0 where
  a_statement : Tree Statement → Body
  more : Tree MoreStatements → Body
  a_block : Tree Block → Body
  an_else : Tree Else → Body

abbrev pub body_tokens : Body → List Terminal
body_tokens (a_statement t) = flat t
body_tokens (more t) = flat t
body_tokens (a_block t) = flat t
body_tokens (an_else t) = flat t

-- the statement st is a part of it, after the tokens x and before the tokens y: the law part-flat says that they are
pub data Part (st : Tree Statement) : Body → List Terminal → List Terminal → Type 0 where
  itself : Part st (a_statement st) [] []
  more_first : {x y : List Terminal} {a : Tree Statement} {b : Tree MoreStatements} → Part st (a_statement a) x y → Part st (more (Tree.more_statements a b)) x (y ++ flat b)
  more_rest : {x y : List Terminal} {a : Tree Statement} {b : Tree MoreStatements} → Part st (more b) x y → Part st (more (Tree.more_statements a b)) (flat a ++ x) y
  if_block : {x y : List Terminal} {e : Tree Grammar.Expression} {b : Tree Block} {c : Tree Else} → Part st (a_block b) x y → Part st (a_statement (Tree.conditional e b c)) (key IF ∷ (flat e ++ x)) (y ++ flat c)
  if_else : {x y : List Terminal} {e : Tree Grammar.Expression} {b : Tree Block} {c : Tree Else} → Part st (an_else c) x y → Part st (a_statement (Tree.conditional e b c)) (key IF ∷ (flat e ++ (flat b ++ x))) y
  while_block : {x y : List Terminal} {e : Tree Grammar.Expression} {b : Tree Block} → Part st (a_block b) x y → Part st (a_statement (Tree.while_loop e b)) (key WHILE ∷ (flat e ++ x)) y
  for_block : {x y : List Terminal} {v : ℕ} {e : Tree Grammar.Expression} {b : Tree Block} → Part st (a_block b) x y → Part st (a_statement (Tree.for_loop v e b)) (key FOR ∷ name v ∷ key IN ∷ (flat e ++ x)) y
  nested_first : {x y : List Terminal} {a : Tree Statement} {b : Tree MoreStatements} → Part st (a_statement a) x y → Part st (a_statement (Tree.nested_block a b)) (key LBRACE ∷ x) (y ++ (flat b ++ (key RBRACE ∷ [])))
  nested_rest : {x y : List Terminal} {a : Tree Statement} {b : Tree MoreStatements} → Part st (more b) x y → Part st (a_statement (Tree.nested_block a b)) (key LBRACE ∷ (flat a ++ x)) (y ++ (key RBRACE ∷ []))
  block_first : {x y : List Terminal} {a : Tree Statement} {b : Tree MoreStatements} → Part st (a_statement a) x y → Part st (a_block (Tree.block a b)) (key LBRACE ∷ x) (y ++ (flat b ++ (key RBRACE ∷ [])))
  block_rest : {x y : List Terminal} {a : Tree Statement} {b : Tree MoreStatements} → Part st (more b) x y → Part st (a_block (Tree.block a b)) (key LBRACE ∷ (flat a ++ x)) (y ++ (key RBRACE ∷ []))
  else_block : {x y : List Terminal} {b : Tree Block} → Part st (a_block b) x y → Part st (an_else (Tree.else_block b)) (key ELSE ∷ x) y

-- the statement is in a program
pub data InProgram (st : Tree Statement) : Tree Grammar.Program → List Terminal → List Terminal → Type 0 where
  first : {x y : List Terminal} {a : Tree Statement} {b : Tree MoreStatements} → Part st (a_statement a) x y → InProgram st (Tree.program a b) x (y ++ flat b)
  rest : {x y : List Terminal} {a : Tree Statement} {b : Tree MoreStatements} → Part st (more b) x y → InProgram st (Tree.program a b) (flat a ++ x) y

longer : (x s y z : List Terminal) {l : List Terminal} → l ≡ x ++ (s ++ y) → l ++ z ≡ x ++ (s ++ (y ++ z))
longer x s y z e = ap (λ u. u ++ z) e ∙ append_assoc x (s ++ y) z ∙ ap (λ u. x ++ u) (append_assoc s y z)

after : (w x s y : List Terminal) {l : List Terminal} → l ≡ x ++ (s ++ y) → w ++ l ≡ (w ++ x) ++ (s ++ y)
after w x s y e = ap (λ u. w ++ u) e ∙ sym (append_assoc w x (s ++ y))

pub part_flat : {st : Tree Statement} {b : Body} {x y : List Terminal} → Part st b x y → body_tokens b ≡ x ++ (flat st ++ y)
part_flat {st} itself = sym (append-nil (flat st))
part_flat {st} (more_first {x} {y} {a} {b} p) = longer x (flat st) y (flat b) (part_flat p)
part_flat {st} (more_rest {x} {y} {a} {b} p) = after (flat a) x (flat st) y (part_flat p)
part_flat {st} (if_block {x} {y} {e} {b} {c} p) = ap (λ u. key IF ∷ u) (after (flat e) x (flat st) (y ++ flat c) (longer x (flat st) y (flat c) (part_flat p)))
part_flat {st} (if_else {x} {y} {e} {b} {c} p) = ap (λ u. key IF ∷ u) (after (flat e) (flat b ++ x) (flat st) y (after (flat b) x (flat st) y (part_flat p)))
part_flat {st} (while_block {x} {y} {e} {b} p) = ap (λ u. key WHILE ∷ u) (after (flat e) x (flat st) y (part_flat p))
part_flat {st} (for_block {x} {y} {v} {e} {b} p) = ap (λ u. key FOR ∷ name v ∷ key IN ∷ u) (after (flat e) x (flat st) y (part_flat p))
part_flat {st} (nested_first {x} {y} {a} {b} p) = ap (λ u. key LBRACE ∷ u) (longer x (flat st) y (flat b ++ (key RBRACE ∷ [])) (part_flat p))
part_flat {st} (nested_rest {x} {y} {a} {b} p) = ap (λ u. key LBRACE ∷ u) (after (flat a) x (flat st) (y ++ (key RBRACE ∷ [])) (longer x (flat st) y (key RBRACE ∷ []) (part_flat p)))
part_flat {st} (block_first {x} {y} {a} {b} p) = ap (λ u. key LBRACE ∷ u) (longer x (flat st) y (flat b ++ (key RBRACE ∷ [])) (part_flat p))
part_flat {st} (block_rest {x} {y} {a} {b} p) = ap (λ u. key LBRACE ∷ u) (after (flat a) x (flat st) (y ++ (key RBRACE ∷ [])) (longer x (flat st) y (key RBRACE ∷ []) (part_flat p)))
part_flat {st} (else_block {x} {y} {b} p) = ap (λ u. key ELSE ∷ u) (part_flat p)

pub in_flat : {st : Tree Statement} {p : Tree Grammar.Program} {x y : List Terminal} → InProgram st p x y → flat p ≡ x ++ (flat st ++ y)
in_flat {st} (first {x} {y} {a} {b} p) = longer x (flat st) y (flat b) (part_flat p)
in_flat {st} (rest {x} {y} {a} {b} p) = after (flat a) x (flat st) y (part_flat p)

-- q is a program from one of its statements on, or so in one of its blocks
pub data Inside (q : Program) : Program → Type 0 where
  here : Inside q q
  after_assign : {i : ℕ} {r : Token} {us : List Term} {e : Expression} {k : Program} → Inside q k → Inside q (assign i r us e k)
  after_print : {i : ℕ} {is : List Item} {k : Program} → Inside q k → Inside q (print i is k)
  in_test : {i : ℕ} {e : Expression} {a b k : Program} → Inside q a → Inside q (test i e a b k)
  in_test_else : {i : ℕ} {e : Expression} {a b k : Program} → Inside q b → Inside q (test i e a b k)
  after_test : {i : ℕ} {e : Expression} {a b k : Program} → Inside q k → Inside q (test i e a b k)
  in_while : {i : ℕ} {e : Expression} {a k : Program} → Inside q a → Inside q (while i e a k)
  after_while : {i : ℕ} {e : Expression} {a k : Program} → Inside q k → Inside q (while i e a k)
  in_for : {i : ℕ} {v : Token} {e : Expression} {a k : Program} → Inside q a → Inside q (for i v e a k)
  after_for : {i : ℕ} {v : Token} {e : Expression} {a k : Program} → Inside q k → Inside q (for i v e a k)
  in_block : {a k : Program} → Inside q a → Inside q (block a k)
  after_block : {a k : Program} → Inside q k → Inside q (block a k)

module _ (ts : List Token) where
  -- what a phrase says where it begins with token i and k follows
  abbrev pub said : Body → ℕ → Program → Program
  said (a_statement t) i k = says ts t i k
  said (more t) i k = says ts t i
  said (a_block t) i k = says ts t i
  said (an_else t) i k = says ts t i

  -- it says the statement, with its first token's number
  pub record Said (st : Tree Statement) (i : ℕ) (p : Program) : Type 0 where
    pub follows : Program
    pub inside : Inside (says ts st i follows) p

  from : {st : Tree Statement} {i j : ℕ} {p q : Program} → i ≡ j → ((r : Program) → Inside r p → Inside r q) → Said st i p → Said st j q
  from {st} {i} {j} {p} {q} e f h = subst (λ n. Said st n q) e (record { follows = h.follows; inside = f (says ts st i h.follows) h.inside })

  behind : (a : Tree Statement) (i : ℕ) (k q : Program) → Inside q k → Inside q (says ts a i k)
  unfolding says
  behind (Tree.assignment x u e) i k q h = after_assign h
  behind (Tree.assertion x u) i k q h = after_assign h
  behind (Tree.conditional e b c) i k q h = after_test h
  behind (Tree.while_loop e b) i k q h = after_while h
  behind (Tree.for_loop x e b) i k q h = after_for h
  behind (Tree.nested_block a b) i k q h = after_block h
  behind (Tree.print_statement a b) i k q h = after_print h

  pub part_said : {st : Tree Statement} {b : Body} {x y : List Terminal} → Part st b x y → (i : ℕ) (k : Program) → Said st (i + length x) (said b i k)
  unfolding says
  part_said itself i k = from (sym (add-zero i)) (λ r h. h) (record { follows = k; inside = here })
  part_said (more_first {a = a} {b} p) i k = part_said p i (says ts b (i + size a))
  part_said (more_rest {x} {a = a} {b} p) i k = from (omega (arith, length-append (flat a) x)) (λ r h. behind a i (says ts b (i + size a)) r h) (part_said p (i + size a) k)
  part_said (if_block {x} {e = e} {b} {c} p) i k = from (omega (arith, length-append (flat e) x)) (λ r h. in_test h) (part_said p (suc i + size e) k)
  part_said (if_else {x} {e = e} {b} {c} p) i k = from (omega (arith, length-append (flat e) (flat b ++ x), length-append (flat b) x)) (λ r h. in_test_else h) (part_said p (suc i + size e + size b) k)
  part_said (while_block {x} {e = e} {b} p) i k = from (omega (arith, length-append (flat e) x)) (λ r h. in_while h) (part_said p (suc i + size e) k)
  part_said (for_block {x} {v = v} {e} {b} p) i k = from (omega (arith, length-append (flat e) x)) (λ r h. in_for h) (part_said p (3 + i + size e) k)
  part_said (nested_first {x} {a = a} {b} p) i k = from (omega arith) (λ r h. in_block h) (part_said p (suc i) (says ts b (suc i + size a)))
  part_said (nested_rest {x} {a = a} {b} p) i k = from (omega (arith, length-append (flat a) x)) (λ r h. in_block (behind a (suc i) (says ts b (suc i + size a)) r h)) (part_said p (suc i + size a) k)
  part_said (block_first {x} {a = a} {b} p) i k = from (omega arith) (λ r h. h) (part_said p (suc i) (says ts b (suc i + size a)))
  part_said (block_rest {x} {a = a} {b} p) i k = from (omega (arith, length-append (flat a) x)) (λ r h. behind a (suc i) (says ts b (suc i + size a)) r h) (part_said p (suc i + size a) k)
  part_said (else_block {x} {b = b} p) i k = from (omega arith) (λ r h. h) (part_said p (suc i) k)

  -- A statement before which stand the tokens x is said with the number of them.
  pub in_said : {st : Tree Statement} {p : Tree Grammar.Program} {x y : List Terminal} → InProgram st p x y → Said st (length x) (says ts p)
  unfolding says
  in_said (first {x} {a = a} {b} p) = from (zero-add (length x)) (λ r h. h) (part_said p 0 (says ts b (size a)))
  in_said (rest {x} {a = a} {b} p) = from (sym (length-append (flat a) x)) (λ r h. behind a 0 (says ts b (size a)) r h) (part_said p (size a) (says ts b (size a)))

-- the place of the statement with which a program begins; `{..}` takes no step and has none, the statements in it have theirs
abbrev pub first_place : Program → Option ℕ
first_place end = none
first_place (assign i r us e k) = some i
first_place (print i is k) = some i
first_place (test i e a b k) = some i
first_place (while i e a k) = some i
first_place (for i v e a k) = some i
first_place (block a k) = none

abbrev pub is_block : Tree Statement → Bool
is_block (Tree.assignment x u e) = false
is_block (Tree.assertion x u) = false
is_block (Tree.conditional e b c) = false
is_block (Tree.while_loop e b) = false
is_block (Tree.for_loop x e b) = false
is_block (Tree.nested_block a b) = true
is_block (Tree.print_statement a b) = false

pub said_place : (ts : List Token) (st : Tree Statement) (i : ℕ) (k : Program) → is_block st ≡ false → first_place (says ts st i k) ≡ some (the ts i).at
unfolding says
said_place ts (Tree.assignment x u e) i k h = refl
said_place ts (Tree.assertion x u) i k h = refl
said_place ts (Tree.conditional e b c) i k h = refl
said_place ts (Tree.while_loop e b) i k h = refl
said_place ts (Tree.for_loop x e b) i k h = refl
said_place ts (Tree.nested_block a b) i k h = absurd (apart h)
said_place ts (Tree.print_statement a b) i k h = refl

-- In the program of some tokens a statement after the tokens x begins with token number length x, and is said with that number: by
-- said-place its place is that token's.
pub statement_begins : {ts : List Token} {st : Tree Statement} {p : Tree Grammar.Program} {x y : List Terminal} → flat p ≡ terminals ts → InProgram st p x y → (drop (length x) (terminals ts) ≡ flat st ++ y) × Said ts st (length x) (says ts p)
statement_begins {ts} {st} {p} {x} {y} e h = (ap (drop (length x)) (sym e ∙ in_flat h) ∙ drop-append_seam x (flat st ++ y), in_said ts h)

-- The number in a name or a string is its own token's, so `the x` is the token that stands there.
held_name : {n x : ℕ} → Holds n (name x) → x ≡ n
held_name holds_name = refl

held_string : {n x : ℕ} → Holds n (string x) → x ≡ n
held_string holds_string = refl

inside : (ts : List Token) (i : ℕ) (t : Terminal) (l : List Terminal) → drop i (terminals ts) ≡ t ∷ l → i < length ts
inside ts i t l e = omega (arith, ap length e, length-drop i (terminals ts), length-map ts (λ (t : Token). t.terminal))

held : (query : Text) (ts : List Token) (i : ℕ) (t : Terminal) (l : List Terminal) → lexed query ≡ tokens ts → drop i (terminals ts) ≡ t ∷ l → Holds i t
held query ts i t l e d =
    let h = inside ts i t l d in
    subst (Holds i) (heads (sym (terminals_drop ts i h) ∙ d)) (subst (λ n. Holds n (token_at ts i).terminal) (zero-add i) (number_at (lexed_tokens query ts e) i h))
  where
    heads : {a b : Terminal} {l m : List Terminal} → a ∷ l ≡ b ∷ m → a ≡ b
    heads e = cc

pub own_name : (query : Text) (ts : List Token) (i x : ℕ) (l : List Terminal) → lexed query ≡ tokens ts → drop i (terminals ts) ≡ name x ∷ l → x ≡ i
own_name query ts i x l e d = held_name (held query ts i (name x) l e d)

pub own_string : (query : Text) (ts : List Token) (i x : ℕ) (l : List Terminal) → lexed query ≡ tokens ts → drop i (terminals ts) ≡ string x ∷ l → x ≡ i
own_string query ts i x l e d = held_string (held query ts i (string x) l e d)
