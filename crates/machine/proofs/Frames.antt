-- The open FORs in the arrays: what their names stand for, one more FOR, and the next element of the innermost.
use Prim.Native.Nat.{ℕ, suc, ◌-◌, ◌<◌}
use native.Mathlib.Omega.{arith}
use native.Mathlib.Nat.{eq-or-lt_of_le, le_of_suc-le-suc}
use mathlib.Core.Path.{◌≡◌, refl, ap, ◌∙◌}
use mathlib.Core.Logic.{⊎_elim}
use mathlib.Core.List.{List, [], ◌∷◌}
use lib.ListN.{length, get_or, set}
use lib.Seq.{get_or-set_same, get_or-set_other}
use Rattle.definition.specs.Text.{Text}
use Rattle.definition.specs.Accept.{Accepted, elements}
use Rattle.machine.specs.Instructions.{Instr, END, PASS, ASSIGN, PRINT, TEST, AGAIN, RANGE, NEXT, JUMP}
use Rattle.machine.specs.Actions.{members, scope_environment}
use Rattle.machine.specs.Turns.{left_at}
use Rattle.machine.specs.Standing.{Frame, scope_of, environment, around, Within, Shown, left}

pub length_scope : (fs : List Frame) → length (scope_of fs) ≡ length fs
length_scope [] = refl
length_scope (f ∷ fs) = ap suc (length_scope fs)

-- other arrays that agree where the open FORs stand show them too
shown_other : (ss cs vs ss' cs' vs' : List ℕ) (fs : List Frame) → ((j : ℕ) → j < length fs → get_or ss' j 0 ≡ get_or ss j 0)
    → ((j : ℕ) → j < length fs → get_or cs' j 0 ≡ get_or cs j 0) → ((j : ℕ) → j < length fs → get_or vs' j 0 ≡ get_or vs j 0)
    → Shown ss cs vs fs → Shown ss' cs' vs' fs
shown_other ss cs vs ss' cs' vs' [] f g k h = tt
shown_other ss cs vs ss' cs' vs' (x ∷ fs) f g k h = (
  f (length fs) (omega arith) ∙ h.0,
  g (length fs) (omega arith) ∙ h.1,
  k (length fs) (omega arith) ∙ h.2,
  shown_other ss cs vs ss' cs' vs' fs (λ j l. f j (omega arith)) (λ j l. g j (omega arith)) (λ j l. k j (omega arith)) h.3,
)

-- a FOR opens; its variable is as the array has it until an element is taken
abbrev pub opened : Text → ℕ → List ℕ → List Frame → Frame
opened x s vs fs = record { name = x; set = s; cursor = 0; element = get_or vs (length fs) 0 }

pub shown_open : (ss cs vs : List ℕ) (fs : List Frame) (x : Text) (d s : ℕ) → d ≡ length fs → d < length ss → d < length cs
    → Shown ss cs vs fs → Shown (set ss d s) (set cs d 0) vs (opened x s vs fs ∷ fs)
shown_open ss cs vs fs x d s e l m h = (
  rw (← e) (get_or-set_same ss d s 0 l),
  rw (← e) (get_or-set_same cs d 0 0 m),
  refl,
  shown_other ss cs vs (set ss d s) (set cs d 0) vs fs (λ j k. get_or-set_other ss d j s 0 (omega arith)) (λ j k. get_or-set_other cs d j 0 0 (omega arith)) (λ j k. refl) h,
)

-- the innermost FOR takes an element
abbrev pub taken : Frame → ℕ → Frame
taken f a = record { name = f.name; set = f.set; cursor = suc a; element = a }

pub shown_take : (ss cs vs : List ℕ) (f : Frame) (fs : List Frame) (d a : ℕ) → d ≡ length fs → d < length cs → d < length vs
    → Shown ss cs vs (f ∷ fs) → Shown ss (set cs d (suc a)) (set vs d a) (taken f a ∷ fs)
shown_take ss cs vs f fs d a e l m h = (
  h.0,
  rw (← e) (get_or-set_same cs d (suc a) 0 l),
  rw (← e) (get_or-set_same vs d a 0 m),
  shown_other ss cs vs ss (set cs d (suc a)) (set vs d a) fs (λ j k. refl) (λ j k. get_or-set_other cs d j (suc a) 0 (omega arith)) (λ j k. get_or-set_other vs d j a 0 (omega arith)) h.3,
)

-- what is left of the innermost FOR's set, as the arrays have it
pub shown_left : (w : Accepted) (ss cs vs : List ℕ) (f : Frame) (fs : List Frame) (d : ℕ) → d ≡ length fs → Shown ss cs vs (f ∷ fs)
    → left w f ≡ left_at (elements w) ss cs d
unfolding left left_at
shown_left w ss cs vs f fs d e h = rw (e, h.0, h.1) refl

pub shown_after : (w : Accepted) (ss cs vs : List ℕ) (f : Frame) (fs : List Frame) (d a : ℕ) → d ≡ length fs → Shown ss cs vs (f ∷ fs)
    → members (get_or ss d 0) (suc a) (elements w - suc a) ≡ left w (taken f a)
unfolding left
shown_after w ss cs vs f fs d a e h = rw (e, h.0) refl

-- the names stand for what the array of variables has
pub shown_environment : (ss cs vs : List ℕ) (fs : List Frame) → Shown ss cs vs fs → scope_environment (scope_of fs) vs ≡ environment fs
unfolding scope_environment environment
shown_environment ss cs vs [] h = refl
shown_environment ss cs vs (f ∷ fs) h = rw (length_scope fs, h.2, shown_environment ss cs vs fs h.3) refl

pub shown_inside : (u : ℕ) (ss cs vs : List ℕ) (fs : List Frame) → Shown ss cs vs fs → Within u fs → (d : ℕ) → d < length (scope_of fs) → get_or vs d 0 < u
shown_inside u ss cs vs [] h i d l = absurd (omega arith)
shown_inside u ss cs vs (f ∷ fs) h i d l =
    ⊎_elim (λ e. let q : d ≡ length fs = omega (arith, e, length_scope fs) in rw (q, h.2) i.0) (λ k. shown_inside u ss cs vs fs h.3 i.1 d k) (eq-or-lt_of_le (le_of_suc-le-suc l))

-- a place in the blocks of all open FORs is in those of the FORs around it
pub within_around : (u : ℕ) (i : Instr) (fs : List Frame) → Within u fs → Within u (around i fs)
within_around u END fs h = h
within_around u PASS fs h = h
within_around u ASSIGN fs h = h
within_around u PRINT fs h = h
within_around u (TEST n) fs h = h
within_around u (AGAIN n) fs h = h
within_around u (RANGE d n) fs h = h
within_around u (NEXT d n) [] h = tt
within_around u (NEXT d n) (f ∷ fs) h = h.1
within_around u (JUMP n) fs h = h
