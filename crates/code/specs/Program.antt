-- The lowered words of a whole program: the places are those of the program's words before lowering.
use Rattle.std.specs.Prelude.{ℕ, suc, ◌<◌, ◌≡◌, List, ◌∷◌, length}
use Rattle.definition.specs.Text.{Text}
use Rattle.definition.specs.Token.{Token}
use Rattle.definition.specs.Syntax.{Term, Expression, Item, Program, end, assign, print, test, while, for, block}
use Rattle.definition.specs.Accept.{Accepted}
use Rattle.machine.specs.Instructions.{ASSIGN, PRINT, TEST, AGAIN, RANGE, NEXT, JUMP, instr}
use Rattle.code.specs.Statements.{Whole, TestCode, RangeCode, AssignCode, PrintCode}

module _ (w : Accepted) (query : Text) (low : List ℕ) where
  -- from s on, in the blocks of FORs with the names of the scope, the innermost first, stand the statements' words, up to e
  pub data Code : List Text → Program → ℕ → ℕ → Type 0 where
    code_end : {scope : List Text} {s : ℕ} → Code scope end s s
    code_assign : {scope : List Text} {i : ℕ} {r : Token} {ps : List Term} {x : Expression} {p : Program} {s k e : ℕ}
        → instr low k ≡ ASSIGN → Whole low s k → AssignCode w query low scope s k r ps x → Code scope p (suc k) e → Code scope (assign i r ps x p) s e
    code_print : {scope : List Text} {i : ℕ} {is : List Item} {p : Program} {s k e : ℕ}
        → instr low k ≡ PRINT → Whole low s k → PrintCode w query low scope s k is → Code scope p (suc k) e → Code scope (print i is p) s e
    code_test : {scope : List Text} {i : ℕ} {x : Expression} {a b p : Program} {s k m f e : ℕ}
        → instr low k ≡ TEST (suc m) → Whole low s k → TestCode w query low scope s k x → Code scope a (suc k) m → instr low m ≡ JUMP f → Code scope b (suc m) f
        → Code scope p f e → Code scope (test i x a b p) s e
    code_while : {scope : List Text} {i : ℕ} {x : Expression} {a p : Program} {s k m e : ℕ}
        → instr low k ≡ TEST (suc m) → Whole low s k → TestCode w query low scope s k x → Code scope a (suc k) m → instr low m ≡ AGAIN (suc k)
        → Code scope p (suc m) e → Code scope (while i x a p) s e
    code_for : {scope : List Text} {i : ℕ} {v : Token} {x : Expression} {a p : Program} {s k m e : ℕ}
        → length scope < 32 → instr low k ≡ RANGE (length scope) m → Whole low s k → RangeCode w query low scope s k x
        → Code (v.text ∷ scope) a (suc k) m → instr low m ≡ NEXT (length scope) (suc k) → Code scope p (suc m) e → Code scope (for i v x a p) s e
    code_block : {scope : List Text} {a p : Program} {s m e : ℕ} → Code scope a s m → Code scope p m e → Code scope (block a p) s e
