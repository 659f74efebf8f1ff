-- One turn of the step loop, as a function of what the machine holds.
use Rattle.std.specs.Prelude.{ℕ, suc, ◌+◌, ◌-◌, ◌<◌, ◌≡◌, Bool, false, cond, List, [], ltb, length, get_or, set}
use Rattle.std.proofs.lemmas.List.Edits.{sets}
use Rattle.definition.specs.Text.{Text}
use Rattle.machine.specs.Instructions.{Instr, END, PASS, ASSIGN, PRINT, TEST, AGAIN, RANGE, NEXT, JUMP, instr}
use Rattle.machine.specs.Actions.{Actions, members}

-- what the machine holds: its place, the bytes written, the store, the buffer; and of the open FORs, by their depth, the sets, the numbers
-- from which on elements are left to take, and the loop variables
pub record Held : Type 0 where
  pub pc : ℕ
  pub used : ℕ
  pub store : List ℕ
  pub buffer : Text
  pub sets : List ℕ
  pub cursors : List ℕ
  pub variables : List ℕ

abbrev pub held : ℕ → ℕ → List ℕ → Text → List ℕ → List ℕ → List ℕ → Held
held pc used store buffer ss cs vs = record { pc = pc; used = used; store = store; buffer = buffer; sets = ss; cursors = cs; variables = vs }

-- what is left of the set of the FOR at depth d
unfoldable pub left_at : ℕ → List ℕ → List ℕ → ℕ → List ℕ
left_at u ss cs d = members (get_or ss d 0) (get_or cs d 0) (u - get_or cs d 0)

-- the least of them, or u
unfoldable pub next_at : ℕ → List ℕ → List ℕ → ℕ → ℕ
next_at u ss cs d = get_or (left_at u ss cs d) 0 u

-- Moves that take no step.
module _ (u : ℕ) (code ss cs : List ℕ) where
  pub data Move : ℕ → ℕ → Type 0 where
    passes : {at : ℕ} → instr code at ≡ PASS → Move at (suc at)
    jumps : {at n : ℕ} → instr code at ≡ JUMP n → Move at n
    leaves : {at d n : ℕ} → instr code at ≡ NEXT d n → left_at u ss cs d ≡ [] → Move at (suc at)

  pub data Moves (from : ℕ) : ℕ → Type 0 where
    here : Moves from from
    on : {m n : ℕ} → Moves from m → Move m n → Moves from n

  -- no such move goes on
  abbrev pub rests : Instr → Type 0
  rests END = Unit {0}
  rests PASS = ⊥
  rests ASSIGN = Unit {0}
  rests PRINT = Unit {0}
  rests (TEST n) = Unit {0}
  rests (AGAIN n) = Unit {0}
  rests (RANGE d n) = Unit {0}
  rests (NEXT d n) = left_at u ss cs d ≡ [] → ⊥
  rests (JUMP n) = ⊥

  -- from a place: it goes on to a later one, or no move goes on and it stays
  pub record Quiet (at n : ℕ) : Type 0 where
    pub stays : n ≡ at → rests (instr code at)
    pub goes : (n ≡ at → ⊥) → (at < n) × Move at n

  pub record Settled (at n : ℕ) : Type 0 where
    pub moves : Moves at n
    pub rest : rests (instr code n)

-- A step.
module _ (A : Actions) (u : ℕ) where
  abbrev pub bytes : Held → Text
  bytes c = A.prints c.variables c.store c.pc

  -- a PRINT whose bytes do not fit
  abbrev pub overflows : Instr → Held → Bool
  overflows END c = false
  overflows PASS c = false
  overflows ASSIGN c = false
  overflows PRINT c = ltb (length c.buffer) (c.used + length (bytes c))
  overflows (TEST n) c = false
  overflows (AGAIN n) c = false
  overflows (RANGE d n) c = false
  overflows (NEXT d n) c = false
  overflows (JUMP n) c = false

  abbrev pub goes : ℕ → Held → Held
  goes n c = held n c.used c.store c.buffer c.sets c.cursors c.variables

  -- after an action at a place that changes no table
  abbrev pub goes_after : ℕ → ℕ → Held → Held
  goes_after at n c = held n c.used (A.leaves c.variables c.store at) c.buffer c.sets c.cursors c.variables

  abbrev pub printed : Held → Held
  printed c =
      held (suc c.pc) (c.used + length (bytes c)) (A.leaves c.variables c.store c.pc) (sets c.buffer c.used (bytes c))
      c.sets c.cursors c.variables

  -- a PRINT that does not fit "writes nothing and is no step"
  abbrev pub turn_by : Instr → Held → Held
  turn_by END c = c
  turn_by PASS c = c
  turn_by ASSIGN c =
      held (suc c.pc) c.used (A.assigns c.variables c.store c.pc) c.buffer c.sets c.cursors c.variables
  turn_by PRINT c = cond (overflows PRINT c) (goes_after c.pc c.pc c) (printed c)
  turn_by (TEST n) c = goes_after c.pc (cond (A.tests c.variables c.store c.pc) (suc c.pc) n) c
  turn_by (AGAIN n) c = goes_after (n - 1) (cond (A.tests c.variables c.store (n - 1)) n (suc c.pc)) c
  turn_by (RANGE d n) c =
      held n c.used (A.leaves c.variables c.store c.pc) c.buffer (set c.sets d (A.ranges c.variables c.store c.pc))
      (set c.cursors d 0) c.variables
  turn_by (NEXT d n) c =
      let a = next_at u c.sets c.cursors d in
      held n c.used c.store c.buffer c.sets (set c.cursors d (suc a)) (set c.variables d a)
  turn_by (JUMP n) c = c

  -- the step at the machine's place
  unfoldable pub turn : List ℕ → Held → Held
  turn code c = turn_by (instr code c.pc) c

  unfoldable pub is_full : List ℕ → Held → Bool
  is_full code c = overflows (instr code c.pc) c
