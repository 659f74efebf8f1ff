-- For lowering: words that are passed over, and what the names of the open FORs stand for.
use Prim.Native.Nat.{ℕ, zero, suc, ◌+◌, ◌<◌}
use native.Mathlib.Nat.{add-zero, add-suc, suc-add}
use native.Mathlib.Omega.{arith}
use mathlib.Core.Path.{◌≡◌, sym, ap, ◌∙◌}
use mathlib.Core.List.{List}
use Rattle.definition.specs.Text.{Text}
use Rattle.definition.specs.Syntax.{Program}
use Rattle.definition.specs.Accept.{Accepted}
use Rattle.machine.specs.Instructions.{PASS, instr}
use Rattle.machine.specs.Actions.{Actions}
use Rattle.machine.specs.Placed.{Placed, placed_pass}

-- n words of expressions, names and items before a statement's own
pub placed_after : (w : Accepted) (A : Actions) (code : List ℕ) {scope : List Text} {p : Program} {e : ℕ} (n s : ℕ) → ((i : ℕ) → i < n → instr code (s + i) ≡ PASS)
    → Placed w A code scope p (s + n) e → Placed w A code scope p s e
placed_after w A code zero s h r = rw add-zero at r
placed_after w A code (suc n) s h r =
    placed_pass (ap (instr code) (sym (add-zero s)) ∙ h 0 (omega arith))
    (placed_after w A code n (suc s) (λ i l. ap (instr code) (suc-add s i ∙ sym (add-suc s i)) ∙ h (suc i) (omega arith))
    (rw (add-suc s n ∙ sym (suc-add s n)) at r))
