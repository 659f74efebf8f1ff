-- The actions of statements, part by part as the code does them.
use Prim.Native.Nat.{ℕ, ◌-◌, ◌%◌}
use mathlib.Core.Path.{◌≡◌, ap, ap₂, ◌∙◌}
use mathlib.Core.Bool.{Bool}
use mathlib.Core.List.{List}
use lib.ListN.{get_or, set, replicate}
use Rattle.definition.specs.Tables.{word}
use Rattle.eval.specs.Nodes.{node_at, c_of}
use Rattle.eval.specs.Meaning.{world, meaning}
use Rattle.closures.specs.Filling.{fill_words}
use Rattle.lines.specs.Lines.{Texts}
use Rattle.lines.specs.Put.{Printed}
use Rattle.prints.specs.Items.{printed}
use Rattle.actions.specs.Parts.{start, clear_words}
use Rattle.actions.specs.Doing.{filled, cleared, left_by, test_by, range_by, print_by, assign_by_word, assign_by}

module _ (words firsts : List ℕ) (u : ℕ) (vs s : List ℕ) (at lo : ℕ) (e : lo ≡ start words at) where
  clears : (t t' : List ℕ) → t' ≡ clear_words firsts u words (at - lo) lo t → t' ≡ cleared words firsts u t at
  unfolding cleared
  clears t t' h = h ∙ ap (λ l. clear_words firsts u words (at - l) l t) e

  module _ (t : List ℕ) (h : t ≡ fill_words firsts vs u words (at - lo) lo s) where
    fills : t ≡ filled words firsts u vs s at
    unfolding filled
    fills = h ∙ ap (λ l. fill_words firsts vs u words (at - l) l s) e

    -- the store is left with the closures' words zero
    pub leaves : (t' : List ℕ) → t' ≡ clear_words firsts u words (at - lo) lo t → t' ≡ left_by words firsts u vs s at
    unfolding left_by
    leaves t' k = clears t t' k ∙ ap (λ x. cleared words firsts u x at) fills

    module _ (n : ℕ) (i : n ≡ at - 1) where
      pub tests : (r : Bool) → r ≡ meaning (world t firsts vs u) (node_at words n) (replicate 8 0) → r ≡ test_by words firsts u vs s at
      unfolding test_by
      tests r k = k ∙ ap₂ (λ x m. meaning (world x firsts vs u) (node_at words m) (replicate 8 0)) fills i

      pub ranges : (r w : ℕ) → w ≡ get_or words at 0
          → r ≡ word u 0 (λ v. meaning (world t firsts vs u) (node_at words n) (set (replicate 8 0) (c_of w % 8) v)) → r ≡ range_by words firsts u vs s at
      unfolding range_by
      ranges r w j k =
          k ∙ ap₂ (λ x m. word u 0 (λ v. meaning (world x firsts vs u) (node_at words m) (set (replicate 8 0) (c_of w % 8) v))) fills i
          ∙ ap (λ y. word u 0 (λ v. meaning (world (filled words firsts u vs s at) firsts vs u) (node_at words (at - 1)) (set (replicate 8 0) (c_of y % 8) v))) j

    pub prints : (T : Texts) (out : List ℕ) (from r : ℕ) (out' : List ℕ) → Printed out from (printed (world t firsts vs u) words T at) r out'
        → Printed out from (print_by words firsts u T vs s at) r out'
    unfolding print_by
    prints T out from r out' k = rw (← fills) k

    pub assigns : (scr w : ℕ) (t' t'' : List ℕ) → w ≡ get_or words at 0 → t' ≡ assign_by_word words firsts u scr w at vs t
        → t'' ≡ clear_words firsts u words (at - lo) lo t' → t'' ≡ assign_by words firsts u scr vs s at
    unfolding assign_by
    assigns scr w t' t'' j k l =
        clears t' t'' l
        ∙ ap (λ x. cleared words firsts u x at) (k ∙ ap₂ (λ y x. assign_by_word words firsts u scr y at vs x) j fills)
