-- What it means that the words from a place on do the statements of a program: the places are those of the program's flat words.
use Rattle.std.specs.Prelude.{ℕ, suc, ◌<◌, ◌≡◌, List, [], ◌∷◌, length}
use Rattle.definition.specs.Text.{Text}
use Rattle.definition.specs.Token.{Token}
use Rattle.definition.specs.Syntax.{Term, Expression, Item, Program, end, assign, print, test, while, for, block}
use Rattle.definition.specs.Accept.{Accepted}
use Rattle.machine.specs.Instructions.{END, PASS, ASSIGN, PRINT, TEST, AGAIN, RANGE, NEXT, JUMP, instr}
use Rattle.machine.specs.Actions.{Actions, Tests, Ranges, Assigns, Prints}

module _ (w : Accepted) (A : Actions) (code : List ℕ) where
  -- from s on, in the blocks of FORs with the names of the scope, the innermost first, the words do the statements and come to e
  pub data Placed : List Text → Program → ℕ → ℕ → Type 0 where
    placed_end : {scope : List Text} {s : ℕ} → Placed scope end s s
    placed_pass : {scope : List Text} {p : Program} {s e : ℕ} → instr code s ≡ PASS → Placed scope p (suc s) e → Placed scope p s e
    placed_assign : {scope : List Text} {i : ℕ} {r : Token} {ps : List Term} {x : Expression} {p : Program} {s e : ℕ}
        → instr code s ≡ ASSIGN → Assigns w A scope s r ps x → Placed scope p (suc s) e → Placed scope (assign i r ps x p) s e
    placed_print : {scope : List Text} {i : ℕ} {is : List Item} {p : Program} {s e : ℕ}
        → instr code s ≡ PRINT → Prints w A scope s is → Placed scope p (suc s) e → Placed scope (print i is p) s e
    -- a true test goes on just after itself, with the block, which ends in a jump over ELSE's
    placed_test : {scope : List Text} {i : ℕ} {x : Expression} {a b p : Program} {s m f e : ℕ}
        → instr code s ≡ TEST (suc m) → Tests w A scope s x → Placed scope a (suc s) m → instr code m ≡ JUMP f → Placed scope b (suc m) f
        → Placed scope p f e → Placed scope (test i x a b p) s e
    placed_while : {scope : List Text} {i : ℕ} {x : Expression} {a p : Program} {s m e : ℕ}
        → instr code s ≡ TEST (suc m) → Tests w A scope s x → Placed scope a (suc s) m → instr code m ≡ AGAIN (suc s)
        → Placed scope p (suc m) e → Placed scope (while i x a p) s e
    placed_for : {scope : List Text} {i : ℕ} {v : Token} {x : Expression} {a p : Program} {s m e : ℕ}
        → length scope < 32 → instr code s ≡ RANGE (length scope) m → Ranges w A scope s x → Placed (v.text ∷ scope) a (suc s) m
        → instr code m ≡ NEXT (length scope) (suc s) → Placed scope p (suc m) e → Placed scope (for i v x a p) s e
    placed_block : {scope : List Text} {a p : Program} {s m e : ℕ} → Placed scope a s m → Placed scope p m e → Placed scope (block a p) s e

  -- the words do the program of the texts, from the first one on, and then end
  pub record HoldsProgram : Type 0 where
    pub last : ℕ
    pub placed : Placed [] w.program 0 last
    pub ends : instr code last ≡ END
