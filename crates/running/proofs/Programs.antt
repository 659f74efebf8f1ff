-- The lowered words of a whole program do its statements, one after another.
use Prim.Native.Nat.{ℕ, ◌+◌, ◌-◌, ◌<◌}
use mathlib.Core.Path.{◌≡◌, refl, sym, ap, subst, ◌∙◌}
use mathlib.Core.Bool.{Bool, true, false}
use mathlib.Core.List.{List, []}
use native.Mathlib.Nat.{le_refl}
use native.Mathlib.Omega.{arith}
use borrow.Author.Tests.{ltb-true, ltb-false}
use lib.Dec.{ltb}
use lib.ListN.{length, get_or}
use Rattle.definition.specs.Text.{Text}
use Rattle.definition.specs.Token.{Token}
use Rattle.definition.specs.Syntax.{Term, Expression, Program}
use Rattle.definition.specs.Accept.{Accepted, elements}
use Rattle.definition.specs.Run.{point}
use Rattle.definition.proofs.RunLaws.{point_shaped}
use Rattle.words.specs.Fields as Fields
use Rattle.words.specs.Fields.{kind_of}
use Rattle.lines.specs.Lines.{Texts}
use Rattle.lines.proofs.LineLaws.{Shows}
use Rattle.actions.specs.Parts.{is_statement}
use Rattle.actions.specs.Doing.{print_by}
use Rattle.code.specs.Layout.{Laid}
use Rattle.code.specs.Statements.{Whole, AssignCode}
use Rattle.code.specs.Program.{Code, code_end, code_assign, code_print, code_test, code_while, code_for, code_block}
use Rattle.machine.specs.Instructions.{Instr, END, instr}
use Rattle.machine.specs.Actions.{Actions, Assigns}
use Rattle.machine.specs.Placed.{Placed, placed_end, placed_assign, placed_print, placed_test, placed_while, placed_for, placed_block, HoldsProgram}
use Rattle.machine.specs.Bound.{actions}
use Rattle.machine.proofs.Decoding.{Other, instr_end, is_pass}
use Rattle.machine.proofs.Placing.{placed_after}
use Rattle.running.proofs.Tested.{tests_so, ranges_so}
use Rattle.running.proofs.Printed.{prints_so}
use Rattle.running.proofs.Assigning.{assigned_store}

-- a kind of no statement is none of theirs
other_kind : (k : ℕ) → is_statement k ≡ false → Other k
unfolding is_statement
other_kind k h =
    (((((((tt, no Fields.RANGE refl), no Fields.NEXT refl), no Fields.ASSIGN refl), no Fields.TEST refl), no Fields.JUMP refl), no Fields.AGAIN refl), no Fields.PRINT refl)
  where
    no : (a : ℕ) → is_statement a ≡ true → k ≡ a → ⊥
    no a t e = let z : ◌≡◌ {A = Bool} true false = sym t ∙ ap is_statement (sym e) ∙ h in let y : ◌≡◌ {A = ℕ} 0 1 = cc in omega arith

-- a place that tells to do something is inside the words
inside : (low : List ℕ) (k : ℕ) {i : Instr} → instr low k ≡ i → (i ≡ END → ⊥) → k < length low
inside low k e n = go (ltb k (length low)) refl
  where
    go : (b : Bool) → ltb k (length low) ≡ b → k < length low
    go true q = ltb-true k (length low) q
    go false q = absurd (n (sym e ∙ instr_end low k (ltb-false k (length low) q)))

module _ (w : Accepted) (firsts : List ℕ) (scr : ℕ) (laid : Laid w firsts scr) (T : Texts) (shows : Shows w T) (low : List ℕ) where
  abbrev A : Actions
  A = actions low firsts (elements w) scr (print_by low firsts (elements w) T)

  -- the words before a statement's own are passed over
  after_words : {scope : List Text} {p : Program} {s k e : ℕ} → Whole low s k → k < length low → Placed w A low scope p k e → Placed w A low scope p s e
  after_words {scope} {p} {s} {k} {e} whole l r =
      placed_after w A low (k - s) s
      (λ i h. is_pass low (s + i) (omega (arith, whole.order)) (other_kind (kind_of (get_or low (s + i) 0)) (whole.quiet (s + i) (omega arith) (omega arith))))
      (subst (λ (j : ℕ). Placed w A low scope p j e) q r)
    where
      q : k ≡ s + (k - s)
      q = omega (arith, whole.order)

  assigns_so : {scope : List Text} {s k : ℕ} {r : Token} {ps : List Term} {x : Expression} → Whole low s k → AssignCode w T.query low scope s k r ps x → Assigns w A scope k r ps x
  assigns_so {scope} {s} {k} whole c =
      record {
        right = λ n vs store₀ h. assigned_store w firsts scr laid low T.query scope s k whole c (point w n).tables (point_shaped w n) vs store₀ h.long h.inside;
        relation = c.number;
        known = c.known;
        arity = c.count ∙ c.arity;
        few = omega (arith, c.count, c.short);
      }

  pub placed_so : {scope : List Text} {p : Program} {s e : ℕ} → Code w T.query low scope p s e → Placed w A low scope p s e
  placed_so code_end = placed_end
  placed_so (code_assign {k = k} i whole c r) =
      after_words whole (inside low k i (λ q. let z : ◌≡◌ {A = ℕ} 0 1 = cc in omega arith)) (placed_assign i (assigns_so whole c) (placed_so r))
  placed_so (code_print {scope} {s = s} {k = k} i whole c r) =
      after_words whole (inside low k i (λ q. let z : ◌≡◌ {A = ℕ} 0 1 = cc in omega arith)) (placed_print i (prints_so w firsts scr laid low T shows scope s k whole c) (placed_so r))
  placed_so (code_test {scope} {s = s} {k = k} i whole c a j b r) =
      after_words whole (inside low k i (λ q. let z : ◌≡◌ {A = ℕ} 0 1 = cc in omega arith))
      (placed_test i (tests_so w firsts scr laid low (print_by low firsts (elements w) T) T.query scope s k whole c) (placed_so a) j (placed_so b) (placed_so r))
  placed_so (code_while {scope} {s = s} {k = k} i whole c a j r) =
      after_words whole (inside low k i (λ q. let z : ◌≡◌ {A = ℕ} 0 1 = cc in omega arith))
      (placed_while i (tests_so w firsts scr laid low (print_by low firsts (elements w) T) T.query scope s k whole c) (placed_so a) j (placed_so r))
  placed_so (code_for {scope} {s = s} {k = k} d i whole c a j r) =
      after_words whole (inside low k i (λ q. let z : ◌≡◌ {A = ℕ} 0 1 = cc in omega arith))
      (placed_for d i (ranges_so w firsts scr laid low (print_by low firsts (elements w) T) T.query scope s k whole c) (placed_so a) j (placed_so r))
  placed_so (code_block a r) = placed_block (placed_so a) (placed_so r)

  -- so the program is done, and then the words end
  pub holds_program : Code w T.query low [] w.program 0 (length low) → HoldsProgram w A low
  holds_program c = record { last = length low; placed = placed_so c; ends = instr_end low (length low) (le_refl (length low)) }
