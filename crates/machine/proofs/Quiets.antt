-- Moves that take no step, one by one.
use Prim.Native.Nat.{ℕ, suc, ◌+◌, ◌≤◌, ◌<◌}
use native.Mathlib.Omega.{arith}
use native.Mathlib.Numerals.{add-one}
use mathlib.Core.Path.{◌≡◌, refl, ap, ◌∙◌}
use mathlib.Core.List.{List, [], ◌∷◌}
use lib.ListN.{length, get_or}
use Rattle.machine.specs.Instructions.{Instr, PASS, NEXT, JUMP, instr}
use Rattle.machine.specs.Turns.{left_at, next_at, Move, passes, jumps, leaves, Moves, on, rests, Quiet, Settled}
use Rattle.machine.proofs.Decoding.{instr_end}
use Rattle.machine.proofs.Members.{next_inside}

module _ (u : ℕ) (code ss cs : List ℕ) (at : ℕ) where
  pub stays_at : (i : Instr) → instr code at ≡ i → rests u code ss cs i → Quiet u code ss cs at at
  stays_at i e s = record { stays = λ q. rw e s; goes = λ f. absurd (f refl) }

  goes_to : (n : ℕ) → at < n → Move u code ss cs at n → Quiet u code ss cs at n
  goes_to n l m = record { stays = λ q. absurd (omega arith); goes = λ f. (l, m) }

  pub quiet_pass : instr code at ≡ PASS → Quiet u code ss cs at (at + 1)
  quiet_pass e = rw add-one (goes_to (suc at) (omega arith) (passes e))

  pub quiet_jump : {n : ℕ} → at < n → instr code at ≡ JUMP n → Quiet u code ss cs at n
  quiet_jump {n} l e = goes_to n l (jumps e)

  -- where no element is left, the search gives u
  module _ {d n a : ℕ} (e : instr code at ≡ NEXT d n) (h : a ≡ next_at u ss cs d) where
    pub quiet_stay : a < u → Quiet u code ss cs at at
    unfolding next_at
    quiet_stay l = stays_at (NEXT d n) e (λ z. let q : a ≡ u = h ∙ ap (λ x. get_or x 0 u) z in omega arith)

    pub quiet_leave : u ≤ a → Quiet u code ss cs at (at + 1)
    quiet_leave l = rw add-one (goes_to (suc at) (omega arith) (leaves e none))
      where
        empty : (x : List ℕ) → left_at u ss cs d ≡ x → left_at u ss cs d ≡ []
        empty [] q = q
        empty (y ∷ x) q =
            let k : next_at u ss cs d < u = next_inside u ss cs d (λ z. let j : ◌≡◌ {A = ℕ} 0 1 = cc in absurd (omega arith)) in
            absurd (omega arith)

        none : left_at u ss cs d ≡ []
        none = empty (left_at u ss cs d) refl

module _ (u : ℕ) (code ss cs : List ℕ) {from at : ℕ} (m : Moves u code ss cs from at) where
  pub settled_end : length code ≤ at → Settled u code ss cs from at
  settled_end h = record { moves = m; rest = rw (instr_end code at h) tt }

  module _ {n : ℕ} (q : Quiet u code ss cs at n) where
    pub settled_here : n ≡ at → Settled u code ss cs from at
    settled_here e = record { moves = m; rest = q.stays e }

    pub settled_on : (n ≡ at → ⊥) → Moves u code ss cs from n
    settled_on f = on m (q.goes f).1
