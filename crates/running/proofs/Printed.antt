-- A PRINT's bytes are what the definition says of its items.
use Prim.Native.Nat.{ℕ}
use mathlib.Core.Path.{refl, ap, subst, ◌∙◌}
use mathlib.Core.List.{List}
use Rattle.definition.specs.Text.{Text}
use Rattle.definition.specs.Syntax.{Item}
use Rattle.definition.specs.Accept.{Accepted, elements}
use Rattle.definition.specs.Run.{point}
use Rattle.definition.proofs.RunLaws.{point_shaped}
use Rattle.words.specs.Raw.{size_items}
use Rattle.eval.specs.Meaning.{world}
use Rattle.meaning.specs.Lowered.{Sequence}
use Rattle.lines.specs.Lines.{Texts}
use Rattle.lines.proofs.LineLaws.{Shows}
use Rattle.prints.specs.Items.{printed}
use Rattle.prints.proofs.Held.{placed, held_items, items_sequence}
use Rattle.prints.proofs.Texts.{printed_text}
use Rattle.actions.specs.Doing.{print_by}
use Rattle.code.specs.Layout.{Laid}
use Rattle.code.specs.Statements.{Whole, PrintCode}
use Rattle.machine.specs.Actions.{Actions, Prints, scope_environment}
use Rattle.machine.specs.Bound.{actions}
use Rattle.running.proofs.Scopes.{open_loops}
use Rattle.running.proofs.Parted.{Part, filled_as, leaves_same}
use Rattle.running.proofs.Worked.{before, after, tabled_at, front_after, worked}

module _ (w : Accepted) (firsts : List ℕ) (scr : ℕ) (laid : Laid w firsts scr) (low : List ℕ) (T : Texts) (shows : Shows w T) (scope : List Text) (s k : ℕ) (whole : Whole low s k) where
  abbrev u : ℕ
  u = elements w

  abbrev A : Actions
  A = actions low firsts u scr (print_by low firsts u T)

  print_part : {is : List Item} (c : PrintCode w T.query low scope s k is) → Part w c.β scope low s (size_items is) k (placed is s 0)
  print_part {is} c =
      record {
        named = c.named;
        whole = whole;
        own = c.own;
        words = subst (λ (n : ℕ). Sequence w c.β scope low n (size_items is) 0 (placed is n 0)) c.first (items_sequence w c.β scope low T.query c.words.items);
      }

  pub prints_so : {is : List Item} → PrintCode w T.query low scope s k is → Prints w A scope k is
  unfolding print_by
  prints_so {is} c =
      record {
        leaves = leaves_same w firsts scr laid low (print_part c) A (λ vs store. refl);
        right = λ n vs store₀ h.
            let ts = (point w n).tables in
            let part = print_part c in
            let S = before w firsts scr laid low part ts (point_shaped w n) vs store₀ h.long in
            let F = after w firsts scr laid low part ts (point_shaped w n) vs store₀ h.long in
            ap (λ (x : List ℕ). printed (world x firsts vs u) low T k) (filled_as w firsts scr laid low part vs S)
            ∙ printed_text w c.β scope vs c.named.naming low ts F firsts
            (tabled_at w firsts scr laid low part ts (point_shaped w n) vs store₀ h.long F (front_after w firsts scr laid low part ts (point_shaped w n) vs store₀ h.long))
            (scope_environment scope vs) (open_loops w c.β scope c.named vs h.inside) T shows is k c.words
            (held_items w c.β scope vs ts F firsts is s 0 (worked w firsts scr laid low part ts (point_shaped w n) vs store₀ h.long).held);
      }
