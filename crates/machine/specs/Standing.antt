-- How what the machine holds stands for a point of the definition's run.
use Rattle.std.specs.Prelude.{ℕ, suc, ◌-◌, ◌≤◌, ◌<◌, ◌≡◌, List, [], ◌∷◌, ◌++◌, map, length, get_or, drop}
use Rattle.definition.specs.Text.{Text}
use Rattle.definition.specs.Token.{Token}
use Rattle.definition.specs.Syntax.{Term, Expression, Item, Program}
use Rattle.definition.specs.Accept.{Accepted, elements, words_needed}
use Rattle.definition.specs.Meaning.{Tables, Environment, nowhere, bind}
use Rattle.definition.specs.Run.{Task, assigning, printing, testing, repeating, ranging, state, each, point}
use Rattle.definition.specs.Claim.{store_image}
use Rattle.definition.specs.declared.Stopped.{Stopped}
use Rattle.definition.proofs.Claims.{Stop}
use Rattle.machine.specs.Instructions.{Instr, END, PASS, ASSIGN, PRINT, TEST, AGAIN, RANGE, NEXT, JUMP, instr}
use Rattle.machine.specs.Actions.{Actions, Tests, Ranges, Assigns, Prints, members, single}
use Rattle.machine.specs.Placed.{Placed}
use Rattle.machine.specs.Turns.{Held}

-- an open FOR: its variable, its set, the number from which on elements are left to take, and the element last taken
pub record Frame : Type 0 where
  pub name : Text
  pub set : ℕ
  pub cursor : ℕ
  pub element : ℕ

-- of open FORs, the innermost first: their names, and what these stand for
abbrev pub scope_of : List Frame → List Text
scope_of [] = []
scope_of (f ∷ fs) = f.name ∷ scope_of fs

unfoldable pub environment : List Frame → Environment
environment [] = nowhere
environment (f ∷ fs) = bind f.name f.element (environment fs)

-- the FORs in whose block a place is: a NEXT is not in its own
abbrev pub around : Instr → List Frame → List Frame
around END fs = fs
around PASS fs = fs
around ASSIGN fs = fs
around PRINT fs = fs
around (TEST n) fs = fs
around (AGAIN n) fs = fs
around (RANGE d n) fs = fs
around (NEXT d n) [] = []
around (NEXT d n) (f ∷ fs) = fs
around (JUMP n) fs = fs

abbrev pub Within : ℕ → List Frame → Type 0
Within u [] = Unit {0}
Within u (f ∷ fs) = (f.element < u) × Within u fs

-- the arrays hold the open FORs, the outermost first
abbrev pub Shown : List ℕ → List ℕ → List ℕ → List Frame → Type 0
Shown ss cs vs [] = Unit {0}
Shown ss cs vs (f ∷ fs) = (get_or ss (length fs) 0 ≡ f.set) × (get_or cs (length fs) 0 ≡ f.cursor) × (get_or vs (length fs) 0 ≡ f.element) × Shown ss cs vs fs

-- what is left of a FOR's set
unfoldable pub left : Accepted → Frame → List ℕ
left w f = members f.set f.cursor (elements w - f.cursor)

-- the arrays have room for 32 open FORs
pub record Sizes (ss cs vs : List ℕ) : Type 0 where
  pub sets : length ss ≡ 32
  pub cursors : length cs ≡ 32
  pub variables : length vs ≡ 32

module _ (w : Accepted) (A : Actions) (code : List ℕ) where
  -- at pc, with the FORs fs open, the tasks k are left: by the instruction at pc
  pub data AtI : Instr → List Frame → ℕ → List Task → Type 0 where
    at_end : {fs : List Frame} {pc : ℕ} → AtI END fs pc []
    at_pass : {fs : List Frame} {pc : ℕ} {k : List Task} → AtI (instr code (suc pc)) fs (suc pc) k → AtI PASS fs pc k
    at_jump : {fs : List Frame} {pc n : ℕ} {k : List Task} → AtI (instr code n) fs n k → AtI (JUMP n) fs pc k
    at_assign : {fs : List Frame} {pc : ℕ} {r : Token} {ps : List Term} {x : Expression} {k : List Task} → Assigns w A (scope_of fs) pc r ps x
        → AtI (instr code (suc pc)) fs (suc pc) k → AtI ASSIGN fs pc (assigning (environment fs) r ps x ∷ k)
    at_print : {fs : List Frame} {pc : ℕ} {is : List Item} {k : List Task} → Prints w A (scope_of fs) pc is
        → AtI (instr code (suc pc)) fs (suc pc) k → AtI PRINT fs pc (printing (environment fs) is ∷ k)
    at_test : {fs : List Frame} {pc l m f : ℕ} {x : Expression} {a b : Program} {k : List Task} → l ≡ suc m → Tests w A (scope_of fs) pc x
        → Placed w A code (scope_of fs) a (suc pc) m → instr code m ≡ JUMP f → Placed w A code (scope_of fs) b (suc m) f
        → AtI (instr code f) fs f k → AtI (TEST l) fs pc (testing (environment fs) x a b ∷ k)
    at_while : {fs : List Frame} {pc l m : ℕ} {x : Expression} {a : Program} {k : List Task} → l ≡ suc m → Tests w A (scope_of fs) pc x
        → Placed w A code (scope_of fs) a (suc pc) m → instr code m ≡ AGAIN (suc pc)
        → AtI (instr code (suc m)) fs (suc m) k → AtI (TEST l) fs pc (repeating (environment fs) x a ∷ k)
    at_again : {fs : List Frame} {pc l s : ℕ} {x : Expression} {a : Program} {k : List Task} → l ≡ suc s → Tests w A (scope_of fs) s x
        → Placed w A code (scope_of fs) a (suc s) pc → AtI (instr code (suc pc)) fs (suc pc) k
        → AtI (AGAIN l) fs pc (repeating (environment fs) x a ∷ k)
    at_range : {fs : List Frame} {pc d m : ℕ} {v : Token} {x : Expression} {a : Program} {k : List Task} → d ≡ length fs → d < 32
        → Ranges w A (scope_of fs) pc x → Placed w A code (v.text ∷ scope_of fs) a (suc pc) m → instr code m ≡ NEXT d (suc pc)
        → AtI (instr code (suc m)) fs (suc m) k → AtI (RANGE d m) fs pc (ranging (environment fs) v x a ∷ k)
    at_next : {fs : List Frame} {f : Frame} {pc d l : ℕ} (v : Token) {a : Program} {k : List Task} → d ≡ length fs → d < 32
        → f.name ≡ v.text → Placed w A code (v.text ∷ scope_of fs) a l pc → AtI (instr code (suc pc)) fs (suc pc) k
        → AtI (NEXT d l) (f ∷ fs) pc (each (map single (left w f)) (environment fs) v a k)

  abbrev pub At : List Frame → ℕ → List Task → Type 0
  At fs pc k = AtI (instr code pc) fs pc k

  -- the machine stands where the run of w is after so many steps, with the store and the buffer as they were before the run
  pub record Run (store₀ : List ℕ) (buffer₀ : Text) (c : Held) (steps : ℕ) : Type 0 where
    pub fs : List Frame
    pub k : List Task
    pub tables : Tables
    pub output : Text
    pub same : point w steps ≡ state tables output steps k
    pub at : At fs c.pc k
    pub shown : Shown c.sets c.cursors c.variables fs
    pub within : Within (elements w) (around (instr code c.pc) fs)
    pub depth : length fs ≤ 32
    pub sizes : Sizes c.sets c.cursors c.variables
    pub long : words_needed w ≤ length store₀
    pub image : c.store ≡ store_image w tables store₀
    pub count : c.used ≡ length output
    pub fits : length output ≤ length buffer₀
    pub bytes : c.buffer ≡ output ++ drop (length output) buffer₀

  -- the machine went on up to a limit: where and why it stopped, and where it stands now
  pub record Gone (store₀ : List ℕ) (buffer₀ : Text) (limit : ℕ) (r : Stopped) (c : Held) : Type 0 where
    pub stop : Stop w limit store₀ buffer₀ r c.store c.buffer
    pub run : Run store₀ buffer₀ c r.steps
