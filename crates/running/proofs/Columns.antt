-- The slots of an assignment's attributes stand for the environment of its expression.
use Prim.Native.Nat.{ℕ, ◌-◌, ◌<◌, ◌≤◌}
use mathlib.Core.Path.{◌≡◌, refl, sym, ap, ◌∙◌}
use mathlib.Core.Bool.{Bool, true, false}
use mathlib.Core.List.{List, [], ◌∷◌}
use native.Mathlib.Omega.{arith}
use borrow.Author.Tests.{lt-ltb, le-ltb}
use lib.Dec.{T}
use lib.ListN.{replicate, get_or-replicate}
use Rattle.definition.specs.Text.{Text, member}
use Rattle.definition.specs.Token.{Token}
use Rattle.definition.specs.Syntax.{Term, Expression}
use Rattle.definition.specs.Names.{attributes, free}
use Rattle.definition.specs.Accept.{Accepted, elements}
use Rattle.definition.specs.Meaning.{Environment}
use Rattle.eval.specs.Nodes.{operand}
use Rattle.eval.specs.Nodes as Nodes
use Rattle.eval.specs.Meaning.{choices}
use Rattle.meaning.specs.Ready.{Fits, Loops}
use Rattle.columns.proofs.Assigned.{InSlots, attribute_coded}
use Rattle.code.specs.Statements.{AssignCode}
use Rattle.machine.specs.Actions.{scope_environment}
use Rattle.running.proofs.Scopes.{outside_zero}

-- the operand of an attribute's byte
slot_operand : (b : ℕ) → 64 ≤ b → b < 72 → operand b ≡ Nodes.slot (b - 64)
slot_operand b h l = rw (le-ltb b 64 h, lt-ltb b 72 l) refl

module _ (w : Accepted) (query : Text) (low : List ℕ) (scope : List Text) (s k : ℕ) {r : Token} {ps : List Term} {e : Expression} (c : AssignCode w query low scope s k r ps e) where
  abbrev pub slot : Text → ℕ
  slot x = c.β x - 64

  pub slot_low : (x : Text) → c.In x ≡ true → slot x < 8
  slot_low x h = omega (arith, c.slots x h)

  operand_of : (x : Text) → c.In x ≡ true → operand (c.β x) ≡ Nodes.slot (slot x)
  operand_of x h = slot_operand (c.β x) (c.slots x h).0 (c.slots x h).1

  pub apart : (x y : Text) → c.In x ≡ true → c.In y ≡ true → slot x ≡ slot y → x ≡ y
  apart x y h g q = c.named.naming.apart x y (slot x) (operand_of x h) (operand_of y g ∙ ap Nodes.slot (sym q))

  no_loop : (x : Text) → c.In x ≡ true → T (member x scope) → ⊥
  no_loop x h m = omega (arith, c.slots x h, c.named.depths x m)

  loop_outside : (x : Text) → T (member x scope) → c.In x ≡ false
  loop_outside x m = go (c.In x) refl
    where
      go : (b : Bool) → c.In x ≡ b → b ≡ false
      go true h = absurd (no_loop x h m)
      go false h = refl

  -- at the start each slot is 0, and no attribute stands for an element yet
  pub agree_start : (vs : List ℕ) → InSlots c.In slot (scope_environment scope vs) (scope_environment scope vs) (replicate 8 0)
  agree_start vs =
      record {
        long = refl;
        inside = λ x h. outside_zero x scope vs (no_loop x h) ∙ sym (get_or-replicate 8 (slot x) 0 0 (slot_low x h));
        outside = λ x h. refl;
      }

  -- slots and columns that agree stand for the environment
  pub fits_slots : (vs : List ℕ) → Loops w c.β scope vs (scope_environment scope vs) → (v : Environment) (τ : List ℕ) → InSlots c.In slot (scope_environment scope vs) v τ
      → ((x : Text) → T (member x (attributes w.variables ps)) → v x < elements w) → Fits w c.β scope vs (free w.variables e) v τ
  unfolding choices
  fits_slots vs loops v τ a within =
      record {
        long = a.long;
        value = λ x m.
            let i = attribute_coded w.variables c.columns x (c.covered x m) in
            ap (choices (elements w) vs τ) (operand_of x i) ∙ ap (λ (n : ℕ). n ∷ []) (sym (a.inside x i));
        within = λ x m. within x (c.covered x m);
        variables = record {
          value = λ x m. loops.value x m ∙ sym (a.outside x (loop_outside x m));
          within = λ x m. rw (a.outside x (loop_outside x m)) (loops.within x m);
        };
      }
