-- The form of a program that is read: a left-hand term, an item and a label are names or strings, and an item has at most one label.
use mathlib.Core.Path.{◌≡◌}
use mathlib.Core.List.{List, [], ◌∷◌}
use Rattle.definition.specs.Text.{Text}
use Rattle.definition.specs.Token.{Token}
use Rattle.definition.specs.Grammar.{Nonterminal, Tree}
use Rattle.definition.specs.Syntax.{Term, name, string, anything, Item, rows, word, line_end, amount, Program, end, assign, print, test, while, for, block, says}
use Rattle.definition.specs.Answer.{ok}
use Rattle.definition.specs.Accept.{read_query}
use Rattle.definition.proofs.NestingLaws.{Steps, read_steps}

-- "A left-hand term is an attribute or string"; "s a string or loop variable"
abbrev pub FormedWord : Term → Type 0
FormedWord (name t) = Unit {0}
FormedWord (string t) = Unit {0}
FormedWord anything = ⊥

unfoldable pub FormedLefts : List Term → Type 0
FormedLefts [] = Unit {0}
FormedLefts (p ∷ ps) = FormedWord p × FormedLefts ps

abbrev pub FormedLabel : List Term → Type 0
FormedLabel [] = Unit {0}
FormedLabel (p ∷ []) = FormedWord p
FormedLabel (p ∷ q ∷ ps) = ⊥

abbrev pub FormedItem : Item → Type 0
FormedItem (rows ps e) = FormedLabel ps
FormedItem (word p) = FormedWord p
FormedItem line_end = Unit {0}
FormedItem (amount e) = Unit {0}

unfoldable pub FormedItems : List Item → Type 0
FormedItems [] = Unit {0}
FormedItems (i ∷ is) = FormedItem i × FormedItems is

unfoldable pub Formed : Program → Type 0
Formed end = Unit {0}
Formed (assign i r ps e q) = FormedLefts ps × Formed q
Formed (print i is q) = FormedItems is × Formed q
Formed (test i e a b q) = Formed a × (Formed b × Formed q)
Formed (while i e a q) = Formed a × Formed q
Formed (for i v e a q) = Formed a × Formed q
Formed (block a q) = Formed a × Formed q

module _ (ts : List Token) where
  formed_left : (t : Tree Nonterminal.Left) → FormedWord (says ts t)
  unfolding says
  formed_left (Tree.left_name x) = tt
  formed_left (Tree.left_string x) = tt

  formed_more_lefts : (t : Tree Nonterminal.MoreLefts) → FormedLefts (says ts t)
  unfolding says FormedLefts
  formed_more_lefts Tree.end_lefts = tt
  formed_more_lefts (Tree.more_lefts a b) = (formed_left a, formed_more_lefts b)

  formed_lefts : (t : Tree Nonterminal.Lefts) → FormedLefts (says ts t)
  unfolding says FormedLefts
  formed_lefts Tree.no_lefts = tt
  formed_lefts (Tree.lefts a b) = (formed_left a, formed_more_lefts b)

  formed_word : (t : Tree Nonterminal.Word) → FormedWord (says ts t)
  unfolding says
  formed_word (Tree.word_name x) = tt
  formed_word (Tree.word_string x) = tt

  formed_item : (t : Tree Nonterminal.Item) → FormedItem (says ts t)
  unfolding says
  formed_item (Tree.item_expression e) = tt
  formed_item (Tree.item_labelled w e) = formed_word w
  formed_item (Tree.item_word w) = formed_word w
  formed_item Tree.item_endl = tt
  formed_item (Tree.item_quantity q) = tt

  formed_items : (t : Tree Nonterminal.MoreItems) → FormedItems (says ts t)
  unfolding says FormedItems
  formed_items Tree.end_items = tt
  formed_items (Tree.more_items a b) = (formed_item a, formed_items b)

  formed_steps : Steps ts (λ d p. Formed p)
  unfolding Formed FormedItems
  formed_steps = record {
    at_end = λ d. tt;
    at_assign = λ d i r u e k h. (formed_lefts u, h);
    at_print = λ d i a b k h. ((formed_item a, formed_items b), h);
    at_test = λ d i e a b k f g h. (f, (g, h));
    at_while = λ d i e a k f h. (f, h);
    at_for = λ d i v e a k low f h. (f, h);
    at_block = λ d a k f h. (f, h);
  }

pub formed : (query : Text) (p : Program) → read_query query ≡ ok p → Formed p
formed query p e = read_steps query p e (λ d p. Formed p) formed_steps
