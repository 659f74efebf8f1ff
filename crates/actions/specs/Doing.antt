-- The actions of statements: a statement's closures are worked out, its expression is evaluated, and the closures' words are zero again.
-- The root of the expression stands just before the statement's own word.
use Rattle.std.specs.Prelude.{ℕ, ◌+◌, ◌-◌, ◌%◌, Bool, ◌&&◌, cond, List, [], ◌∷◌, leb, length, get_or, set, take, replicate}
use Rattle.std.proofs.lemmas.List.Edits.{sets}
use Rattle.definition.specs.Text.{Text}
use Rattle.definition.specs.Tables.{word, table, table_words}
use Rattle.words.specs.Fields.{p_of}
use Rattle.eval.specs.Nodes.{node_at, a_of, b_of, c_of, d_of, n_of}
use Rattle.eval.specs.Meaning.{world, meaning}
use Rattle.closures.specs.Filling.{fill_words}
use Rattle.assignment.specs.New.{new_at}
use Rattle.lines.specs.Lines.{Texts}
use Rattle.prints.specs.Items.{printed}
use Rattle.actions.specs.Parts.{start, clear_words}

-- the columns of an assignment's left-hand side
abbrev pub columns_of : ℕ → List ℕ
columns_of w = a_of w ∷ b_of w ∷ c_of w ∷ d_of w ∷ []

module _ (words firsts : List ℕ) (u : ℕ) where
  -- the store with the closures of the statement at a place, and with their words zero again
  unfoldable pub filled : List ℕ → List ℕ → ℕ → List ℕ
  filled vs s at = fill_words firsts vs u words (at - start words at) (start words at) s

  unfoldable pub cleared : List ℕ → ℕ → List ℕ
  cleared s at = clear_words firsts u words (at - start words at) (start words at) s

  -- the store after an action that changes no table
  unfoldable pub left_by : List ℕ → List ℕ → ℕ → List ℕ
  left_by vs s at = cleared (filled vs s at) at

  -- a test: no attribute is free
  unfoldable pub test_by : List ℕ → List ℕ → ℕ → Bool
  test_by vs s at = meaning (world (filled vs s at) firsts vs u) (node_at words (at - 1)) (replicate 8 0)

  -- a FOR's set: the word's byte from bit 40 on is the slot of the one free attribute
  unfoldable pub range_by : List ℕ → List ℕ → ℕ → ℕ
  range_by vs s at =
      word u 0 (λ v. meaning (world (filled vs s at) firsts vs u) (node_at words (at - 1)) (set (replicate 8 0) (c_of (get_or words at 0) % 8) v))

  -- the bytes of a PRINT
  unfoldable pub print_by : Texts → List ℕ → List ℕ → ℕ → Text
  print_by T vs s at = printed (world (filled vs s at) firsts vs u) words T at

  module _ (scr : ℕ) where
    -- the word at a place gives the relation, the columns and their number; the new table is made from word scr on
    unfoldable pub assign_by_word : ℕ → ℕ → List ℕ → List ℕ → List ℕ
    assign_by_word w at vs s =
        let n = n_of w in
        let off = get_or firsts (p_of w) 0 in
        let len = table_words u n in
        cond (leb n 4)
        (cond (leb (off + len) scr && leb (scr + len) (length s))
        (sets (sets s off (table u n (new_at words (take scr s) firsts vs u (at - 1) (take n (columns_of w)) (replicate 8 0) off))) scr (replicate len 0)) s) s

    unfoldable pub assign_by : List ℕ → List ℕ → ℕ → List ℕ
    assign_by vs s at = cleared (assign_by_word (get_or words at 0) at vs (filled vs s at)) at
