-- What is read from tokens is a program of those tokens.
use Prim.Native.Nat.{ℕ, ◌<◌}
use mathlib.Core.Path.{◌≡◌, refl, ap}
use mathlib.Core.Bool.{Bool}
use mathlib.Core.List.{List, [], ◌∷◌, ◌++◌}
use lib.ListN.{length}
use Rattle.definition.specs.Token as Token
use Rattle.definition.specs.Token.{Terminal, Token, token_at}
use Rattle.definition.specs.Grammar.{Nonterminal, Tree}
use Rattle.definition.specs.Grammar as Grammar
use Rattle.definition.specs.Syntax.{Term, Expression, Item, Program, Says, says}
use Rattle.words.specs.Raw.{number, terminal_number}
use Rattle.words.specs.Tokens.{OwnName, OwnString, OwnLiteral, OwnTerm, OwnTerms, OwnExpression, OwnItem, OwnItems, OwnProgram}

module _ (ts : List Token) (places : (i : ℕ) → (token_at ts i).at < 65536) where
  -- an identifier's, a string's and a literal's number is that of its token
  abbrev pub Numbered : Terminal → Type 0
  Numbered (Token.name i) = ((token_at ts i).terminal ≡ Token.name i) × (i < length ts)
  Numbered (Token.string i) = ((token_at ts i).terminal ≡ Token.string i) × (i < length ts)
  Numbered (Token.number o i) = ((token_at ts i).terminal ≡ Token.number o i) × (i < length ts)
  Numbered (Token.sign g) = Unit {0}
  Numbered (Token.key k) = Unit {0}

  unfoldable pub AllNumbered : List Terminal → Type 0
  AllNumbered [] = Unit {0}
  AllNumbered (t ∷ l) = Numbered t × AllNumbered l

  split : (l m : List Terminal) → AllNumbered (l ++ m) → AllNumbered l × AllNumbered m
  unfolding AllNumbered
  split [] m h = (tt, h)
  split (t ∷ l) m h = let r = split l m h.1 in ((h.0, r.0), r.1)

  own_name : (i : ℕ) → Numbered (Token.name i) → OwnName ts (token_at ts i)
  own_name i h = let n : number (token_at ts i) ≡ i = ap terminal_number h.0 in record { found = rw n refl; inside = rw n h.1; is_name = rw n h.0 }

  own_string : (i : ℕ) → Numbered (Token.string i) → OwnString ts (token_at ts i)
  own_string i h = let n : number (token_at ts i) ≡ i = ap terminal_number h.0 in record { found = rw n refl; inside = rw n h.1; is_string = rw n h.0 }

  own_literal : (o : Bool) (i : ℕ) → Numbered (Token.number o i) → OwnLiteral ts (token_at ts i)
  own_literal o i h = let n : number (token_at ts i) ≡ i = ap terminal_number h.0 in record { found = rw n refl; inside = rw n h.1; over = o; is_number = rw n h.0 }

  abbrev Own : Expression → Type 0
  Own e = OwnExpression ts e

  -- what each phrase says is made of those tokens
  abbrev Good : (n : Nonterminal) → Says n → Type 0
  Good Nonterminal.Program p = OwnProgram ts p
  Good Nonterminal.MoreStatements f = (i : ℕ) → OwnProgram ts (f i)
  Good Nonterminal.Statement f = (i : ℕ) (k : Program) → OwnProgram ts k → OwnProgram ts (f i k)
  Good Nonterminal.Block f = (i : ℕ) → OwnProgram ts (f i)
  Good Nonterminal.Else f = (i : ℕ) → OwnProgram ts (f i)
  Good Nonterminal.Lefts ps = OwnTerms ts ps
  Good Nonterminal.MoreLefts ps = OwnTerms ts ps
  Good Nonterminal.Left p = OwnTerm ts p
  Good Nonterminal.MoreItems is = OwnItems ts is
  Good Nonterminal.Item i = OwnItem ts i
  Good Nonterminal.Word p = OwnTerm ts p
  Good Nonterminal.Terms ps = OwnTerms ts ps
  Good Nonterminal.MoreTerms ps = OwnTerms ts ps
  Good Nonterminal.Term p = OwnTerm ts p
  Good Nonterminal.Expression e = Own e
  Good Nonterminal.Comparison f = (e : Expression) → Own e → Own (f e)
  Good Nonterminal.Implication e = Own e
  Good Nonterminal.Consequent f = (e : Expression) → Own e → Own (f e)
  Good Nonterminal.Disjunction e = Own e
  Good Nonterminal.MoreOr f = (e : Expression) → Own e → Own (f e)
  Good Nonterminal.Conjunction e = Own e
  Good Nonterminal.MoreAnd f = (e : Expression) → Own e → Own (f e)
  Good Nonterminal.Negation e = Own e
  Good Nonterminal.Primary e = Own e
  Good Nonterminal.Quantified g = (f : Token → Expression → Expression) → ((x : Token) (e : Expression) → OwnName ts x → Own e → Own (f x e)) → Own (g f)
  Good Nonterminal.Quantity e = Own e
  Good Nonterminal.Divisor f = (e : Expression) → Own e → Own (f e)
  Good (Nonterminal.Summand b) e = Own e
  Good (Nonterminal.MoreSummands k) f = (e : Expression) → Own e → Own (f e)

  pub said : {n : Nonterminal} (t : Tree n) → AllNumbered (Grammar.flat t) → Good n (says ts t)
  unfolding says AllNumbered OwnTerms OwnExpression OwnItem OwnItems OwnProgram
  said (Tree.program a b) h = let s = split (Grammar.flat a) _ h in said a s.0 0 _ (said b s.1 _)
  said Tree.end_statements h = λ i. tt
  said (Tree.more_statements a b) h = let s = split (Grammar.flat a) _ h in λ i. said a s.0 i _ (said b s.1 _)
  said (Tree.assignment r u e) h =
      let s = split (Grammar.flat u) _ h.1.1 in
      let t = split (Grammar.flat e) _ s.1.1.1 in
      λ i k o. (places i, own_name r h.0, said u s.0, said e t.0, o)
  said (Tree.assertion r u) h = let s = split (Grammar.flat u) _ h.1.1 in λ i k o. (places i, own_name r h.0, said u s.0, said u s.0, o)
  said (Tree.conditional e b c) h =
      let s = split (Grammar.flat e) _ h.1 in
      let t = split (Grammar.flat b) _ s.1 in
      λ i k o. (places i, said e s.0, said b t.0 _, said c t.1 _, o)
  said (Tree.while_loop e b) h = let s = split (Grammar.flat e) _ h.1 in λ i k o. (places i, said e s.0, said b s.1 _, o)
  said (Tree.for_loop v e b) h = let s = split (Grammar.flat e) _ h.1.1.1 in λ i k o. (places i, own_name v h.1.0, said e s.0, said b s.1 _, o)
  said (Tree.nested_block a b) h =
      let s = split (Grammar.flat a) _ h.1 in
      let t = split (Grammar.flat b) _ s.1 in
      λ i k o. (said a s.0 _ _ (said b t.0 _), o)
  said (Tree.print_statement a b) h =
      let s = split (Grammar.flat a) _ h.1 in
      let t = split (Grammar.flat b) _ s.1 in
      λ i k o. (places i, (said a s.0, said b t.0), o)
  said (Tree.block a b) h =
      let s = split (Grammar.flat a) _ h.1 in
      let t = split (Grammar.flat b) _ s.1 in
      λ i. said a s.0 _ _ (said b t.0 _)
  said Tree.no_else h = λ i. tt
  said (Tree.else_block b) h = λ i. said b h.1 _
  said Tree.no_lefts h = tt
  said (Tree.lefts a b) h = let s = split (Grammar.flat a) _ h in (said a s.0, said b s.1)
  said Tree.end_lefts h = tt
  said (Tree.more_lefts a b) h = let s = split (Grammar.flat a) _ h.1 in (said a s.0, said b s.1)
  said (Tree.left_name x) h = own_name x h.0
  said (Tree.left_string x) h = own_string x h.0
  said Tree.end_items h = tt
  said (Tree.more_items a b) h = let s = split (Grammar.flat a) _ h.1 in (said a s.0, said b s.1)
  said (Tree.item_expression e) h = (tt, said e h)
  said (Tree.item_labelled w e) h = let s = split (Grammar.flat w) _ h.1 in ((said w s.0, tt), said e s.1.1)
  said (Tree.item_word w) h = (said w h, tt)
  said Tree.item_endl h = tt
  said (Tree.word_name x) h = own_name x h.0
  said (Tree.word_string x) h = own_string x h.0
  said Tree.no_terms h = tt
  said (Tree.terms a b) h = let s = split (Grammar.flat a) _ h in (said a s.0, said b s.1)
  said Tree.end_terms h = tt
  said (Tree.more_terms a b) h = let s = split (Grammar.flat a) _ h.1 in (said a s.0, said b s.1)
  said (Tree.term_name x) h = own_name x h.0
  said (Tree.term_string x) h = own_string x h.0
  said Tree.term_any h = tt
  said (Tree.expression a b) h = let s = split (Grammar.flat a) _ h in said b s.1 _ (said a s.0)
  said Tree.no_comparison h = λ e o. o
  said (Tree.comparison g a) h = λ e o. (o, said a h.1)
  said (Tree.implication a b) h = let s = split (Grammar.flat a) _ h in said b s.1 _ (said a s.0)
  said Tree.no_consequent h = λ e o. o
  said (Tree.implies a) h = λ e o. (o, said a h.1)
  said (Tree.iff a) h = λ e o. (o, said a h.1)
  said (Tree.disjunction a b) h = let s = split (Grammar.flat a) _ h in said b s.1 _ (said a s.0)
  said Tree.end_or h = λ e o. o
  said (Tree.more_or a b) h = let s = split (Grammar.flat a) _ h.1 in λ e o. said b s.1 _ (o, said a s.0)
  said (Tree.conjunction a b) h = let s = split (Grammar.flat a) _ h in said b s.1 _ (said a s.0)
  said Tree.end_and h = λ e o. o
  said (Tree.more_and a b) h = let s = split (Grammar.flat a) _ h.1 in λ e o. said b s.1 _ (o, said a s.0)
  said (Tree.negation a) h = said a h.1
  said (Tree.primary a) h = said a h
  said (Tree.group e) h = let s = split (Grammar.flat e) _ h.1 in said e s.0
  said (Tree.ex x q) h = let s = split (Grammar.flat q) _ h.1.1.1.1 in (own_name x h.1.1.0, said q s.0 _ (λ y e o p. (o, p)))
  said (Tree.fa x q) h = let s = split (Grammar.flat q) _ h.1.1.1.1 in (own_name x h.1.1.0, said q s.0 _ (λ y e o p. (o, p)))
  said (Tree.tc e) h = let s = split (Grammar.flat e) _ h.1.1 in said e s.0
  said (Tree.tcfast e) h = let s = split (Grammar.flat e) _ h.1.1 in said e s.0
  said (Tree.atom r u) h = let s = split (Grammar.flat u) _ h.1.1 in (own_name r h.0, said u s.0)
  said (Tree.true_atom u) h = let s = split (Grammar.flat u) _ h.1.1 in said u s.0
  said (Tree.false_atom u) h = let s = split (Grammar.flat u) _ h.1.1 in said u s.0
  said (Tree.sign_before g a b) h =
      let s = split (Grammar.flat a) _ h.1.1 in
      let t = split (Grammar.flat b) _ s.1.1 in
      (said a s.0, (said b t.0, tt))
  said (Tree.sign_between a g b) h = let s = split (Grammar.flat a) _ h in (said a s.0, (said b s.1.1, tt))
  said (Tree.pattern_atom x a) h = let s = split (Grammar.flat a) _ h.1.1.1 in (own_string x h.1.0, (said a s.0, tt))
  said (Tree.one_more_attribute x q) h = λ f k. k _ _ (own_name x h.0) (said q h.1.1 f k)
  said (Tree.quantified_body e) h = λ f k. said e h
  said (Tree.item_quantity q) h = said q h
  said (Tree.figures a g b) h = let s = split (Grammar.flat a) _ h in (said a s.0, said b s.1.1)
  said (Tree.quantity a m v) h =
      let s = split (Grammar.flat a) _ h in
      let t = split (Grammar.flat m) _ s.1 in
      said v t.1 _ (said m t.0 _ (said a s.0))
  said Tree.no_divisor h = λ e o. o
  said (Tree.divisor a m) h = let s = split (Grammar.flat a) _ h.1 in λ e o. (o, said m s.1 _ (said a s.0))
  said Tree.end_summands h = λ e o. o
  said (Tree.more_summands a m) h = let s = split (Grammar.flat a) _ h.1 in λ e o. said m s.1 _ (o, said a s.0)
  said (Tree.counted e) h = let s = split (Grammar.flat e) _ h.1.1 in said e s.0
  said (Tree.literal o x) h = own_literal o x h.0
