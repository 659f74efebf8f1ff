-- What a lowered word tells the step loop. A word of an expression, a name or an item is passed over.
use Rattle.std.specs.Prelude.{ℕ, ◌%◌, cond, List, eqb, ltb, length, get_or}
use Rattle.words.specs.Fields as Fields

pub data Instr : Type 0 where
  -- past the last word
  END : Instr
  PASS : Instr
  ASSIGN PRINT : Instr
  -- a test, and where it goes on if false
  TEST : ℕ → Instr
  -- the test just before a block again, and the block, where it goes on if true
  AGAIN : ℕ → Instr
  -- the set of a FOR with so many FORs around it, and the place of its NEXT
  RANGE : ℕ → ℕ → Instr
  -- the next element of such a FOR, and the place of its block
  NEXT : ℕ → ℕ → Instr
  -- a move forward
  JUMP : ℕ → Instr

-- a word of kind k with the numbers p and q, at a place; a jump that does not go forward is passed over
unfoldable pub decode : ℕ → ℕ → ℕ → ℕ → Instr
decode at k p q =
    cond (eqb k Fields.ASSIGN) ASSIGN
    (cond (eqb k Fields.PRINT) PRINT
    (cond (eqb k Fields.TEST) (TEST q)
    (cond (eqb k Fields.AGAIN) (AGAIN q)
    (cond (eqb k Fields.RANGE) (RANGE (p % 32) q)
    (cond (eqb k Fields.NEXT) (NEXT (p % 32) q)
    (cond (eqb k Fields.JUMP) (cond (ltb at q) (JUMP q) PASS) PASS))))))

unfoldable pub instr : List ℕ → ℕ → Instr
instr code at =
    cond (ltb at (length code)) (decode at (Fields.kind_of (get_or code at 0)) (Fields.p_of (get_or code at 0)) (Fields.q_of (get_or code at 0))) END
