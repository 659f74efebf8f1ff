-- What is left to do where the words of a program begin, and that each instruction is one step of the definition's run.
use Prim.Native.Nat.{ℕ, suc, ◌-◌, ◌<◌}
use native.Mathlib.Omega.{arith}
use native.Mathlib.Nat.{sub-zero}
use mathlib.Core.Path.{◌≡◌, refl, sym, ap, subst, ◌∙◌}
use mathlib.Core.Bool.{Bool, true, false, cond}
use mathlib.Core.List.{List, [], ◌∷◌, ◌++◌, map}
use lib.ListN.{length}
use Rattle.definition.specs.Text.{Text}
use Rattle.definition.specs.Token.{Token}
use Rattle.definition.specs.Syntax.{Term, Expression, Item, Program}
use Rattle.definition.specs.Accept.{Accepted, elements}
use Rattle.definition.specs.Meaning.{Tables, bind, mean, answers}
use Rattle.definition.specs.Assignment.{assign_tables}
use Rattle.definition.specs.Print.{print_text}
use Rattle.definition.specs.Run.{Task, testing, repeating, state, tasks, each, step, next_of}
use Rattle.definition.specs.Claim.{is_print}
use Rattle.machine.specs.Instructions.{END, PASS, ASSIGN, PRINT, TEST, AGAIN, RANGE, NEXT, JUMP, instr}
use Rattle.machine.specs.Actions.{Actions, Tests, Ranges, Assigns, Prints, members, single}
use Rattle.machine.specs.Placed.{Placed, placed_end, placed_pass, placed_assign, placed_print, placed_test, placed_while, placed_for, placed_block}
use Rattle.machine.specs.Standing.{Frame, scope_of, environment, left, AtI, At, at_end, at_pass, at_jump, at_assign, at_print, at_test, at_while, at_again, at_range, at_next}
use Rattle.machine.proofs.Frames.{length_scope, taken}

-- a FOR's set, as it opens
left_opened : (w : Accepted) (x : Text) (s e : ℕ) → left w (record { name = x; set = s; cursor = 0; element = e }) ≡ members s 0 (elements w)
unfolding left
left_opened w x s e = rw sub-zero refl

module _ (w : Accepted) (A : Actions) (code : List ℕ) where
  -- from the first place of a program's words its tasks are left, before what is left at their end
  pub placed_at : {scope : List Text} {p : Program} {s e : ℕ} (fs : List Frame) {k : List Task} → Placed w A code scope p s e → scope ≡ scope_of fs
      → At w A code fs e k → At w A code fs s (tasks p (environment fs) k)
  unfolding tasks
  placed_at fs placed_end h a = a
  placed_at fs (placed_pass i r) h a = rw i (at_pass (placed_at fs r h a))
  placed_at fs (placed_assign i t r) h a = rw i (at_assign (rw h at t) (placed_at fs r h a))
  placed_at fs (placed_print i t r) h a = rw i (at_print (rw h at t) (placed_at fs r h a))
  placed_at fs (placed_test i t p j q r) h a = rw i (at_test refl (rw h at t) (rw h at p) j (rw h at q) (placed_at fs r h a))
  placed_at fs (placed_while i t p j r) h a = rw i (at_while refl (rw h at t) (rw h at p) j (placed_at fs r h a))
  placed_at fs (placed_for l i t p j r) h a = rw i (at_range (ap length h ∙ length_scope fs) l (rw h at t) (rw h at p) j (placed_at fs r h a))
  placed_at fs (placed_block p q) h a = placed_at fs p h (placed_at fs q h a)

  pub sim_end : {fs : List Frame} {pc : ℕ} {k : List Task} → AtI w A code END fs pc k → k ≡ []
  sim_end at_end = refl

  pub sim_pass : {fs : List Frame} {pc : ℕ} {k : List Task} → AtI w A code PASS fs pc k → At w A code fs (suc pc) k
  sim_pass (at_pass a) = a

  pub sim_jump : {fs : List Frame} {pc n : ℕ} {k : List Task} → AtI w A code (JUMP n) fs pc k → At w A code fs n k
  sim_jump (at_jump a) = a

  -- a step from the tasks k, and where the machine then is
  pub record Stepped (fs : List Frame) (pc : ℕ) (k : List Task) (ts : Tables) (o : Text) (s : ℕ) (ts' : Tables) (o' : Text) : Type 0 where
    pub rest : List Task
    pub same : next_of w ts o s k ≡ state ts' o' (suc s) rest
    pub at : At w A code fs pc rest

  pub record Assigned (fs : List Frame) (pc : ℕ) (k : List Task) (ts : Tables) (o : Text) (s : ℕ) : Type 0 where
    pub r : Token
    pub ps : List Term
    pub x : Expression
    pub does : Assigns w A (scope_of fs) pc r ps x
    pub stepped : Stepped fs (suc pc) k ts o s (assign_tables w ts (environment fs) r.text ps x w.relations ts) o

  pub sim_assign : {fs : List Frame} {pc : ℕ} {k : List Task} (ts : Tables) (o : Text) (s : ℕ) → AtI w A code ASSIGN fs pc k → Assigned fs pc k ts o s
  unfolding step
  sim_assign ts o s (at_assign {r} {ps} {x} {k} t a) = record { r = r; ps = ps; x = x; does = t; stepped = record { rest = k; same = refl; at = a } }

  pub record Printed (fs : List Frame) (pc : ℕ) (k : List Task) (ts : Tables) (o : Text) (s : ℕ) : Type 0 where
    pub is : List Item
    pub does : Prints w A (scope_of fs) pc is
    pub prints : is_print k ≡ true
    pub stepped : Stepped fs (suc pc) k ts o s ts (o ++ print_text w ts (environment fs) is)

  pub sim_print : {fs : List Frame} {pc : ℕ} {k : List Task} (ts : Tables) (o : Text) (s : ℕ) → AtI w A code PRINT fs pc k → Printed fs pc k ts o s
  unfolding step
  sim_print ts o s (at_print {is} {k} t a) = record { is = is; does = t; prints = refl; stepped = record { rest = k; same = refl; at = a } }

  -- a test at a place, which goes on at y if true and at n if false
  pub record Tested (fs : List Frame) (at y n : ℕ) (k : List Task) (ts : Tables) (o : Text) (s : ℕ) : Type 0 where
    pub x : Expression
    pub does : Tests w A (scope_of fs) at x
    pub stepped : (b : Bool) → mean w ts (environment fs) x ≡ b → Stepped fs (cond b y n) k ts o s ts o

  pub sim_test : {fs : List Frame} {pc l : ℕ} {k : List Task} (ts : Tables) (o : Text) (s : ℕ) → AtI w A code (TEST l) fs pc k → Tested fs pc (suc pc) l k ts o s
  unfolding step
  sim_test {fs} {pc} ts o s (at_test {l} {x} {a} {b} {k} e t p j q r) = record { x = x; does = t; stepped = on }
    where
      on : (c : Bool) → mean w ts (environment fs) x ≡ c → Stepped fs (cond c (suc pc) l) (testing (environment fs) x a b ∷ k) ts o s ts o
      on true h = record { rest = tasks a (environment fs) k; same = rw h refl; at = placed_at fs p refl (rw j (at_jump r)) }
      on false h = record { rest = tasks b (environment fs) k; same = rw h refl; at = rw e (placed_at fs q refl r) }
  sim_test {fs} {pc} ts o s (at_while {l} {x} {a} {k} e t p j r) = record { x = x; does = t; stepped = on }
    where
      on : (c : Bool) → mean w ts (environment fs) x ≡ c → Stepped fs (cond c (suc pc) l) (repeating (environment fs) x a ∷ k) ts o s ts o
      on true h = record { rest = tasks a (environment fs) (repeating (environment fs) x a ∷ k); same = rw h refl; at = placed_at fs p refl (rw j (at_again refl t p r)) }
      on false h = record { rest = k; same = rw h refl; at = rw e r }

  pub sim_again : {fs : List Frame} {pc l : ℕ} {k : List Task} (ts : Tables) (o : Text) (s : ℕ) → instr code pc ≡ AGAIN l → AtI w A code (AGAIN l) fs pc k
      → Tested fs (l - 1) l (suc pc) k ts o s
  unfolding step
  sim_again {fs} {pc} ts o s i (at_again {l} {s = m} {x} {a} {k} e t p r) =
      let q : l - 1 ≡ m = omega arith in
      record { x = x; does = rw q t; stepped = on }
    where
      on : (c : Bool) → mean w ts (environment fs) x ≡ c → Stepped fs (cond c l (suc pc)) (repeating (environment fs) x a ∷ k) ts o s ts o
      on true h = record { rest = tasks a (environment fs) (repeating (environment fs) x a ∷ k); same = rw h refl; at = rw e (placed_at fs p refl (rw i (at_again e t p r))) }
      on false h = record { rest = k; same = rw h refl; at = r }

  pub record Ranged (fs : List Frame) (pc d m : ℕ) (k : List Task) (ts : Tables) (o : Text) (n : ℕ) : Type 0 where
    pub v : Token
    pub x : Expression
    pub depth : d ≡ length fs
    pub small : d < 32
    pub next : instr code m ≡ NEXT d (suc pc)
    pub does : Ranges w A (scope_of fs) pc x
    pub stepped : (s e : ℕ) → answers w ts (environment fs) x ≡ map single (members s 0 (elements w))
        → Stepped (record { name = v.text; set = s; cursor = 0; element = e } ∷ fs) m k ts o n ts o

  pub sim_range : {fs : List Frame} {pc d m : ℕ} {k : List Task} (ts : Tables) (o : Text) (n : ℕ) → AtI w A code (RANGE d m) fs pc k
      → Ranged fs pc d m k ts o n
  unfolding step
  sim_range {fs} {pc} {d} {m} ts o n (at_range {v} {x} {a} {k} e l t p j r) =
      record {
        v = v;
        x = x;
        depth = e;
        small = l;
        next = j;
        does = t;
        stepped = λ s z h. record {
          rest = each (map single (left w (record { name = v.text; set = s; cursor = 0; element = z }))) (environment fs) v a k;
          same = rw (h, left_opened w v.text s z) refl;
          at = rw j (at_next {f = record { name = v.text; set = s; cursor = 0; element = z }} v e l refl p r);
        };
      }

  -- of a NEXT: the innermost open FOR, and what goes on by whether an element is left
  pub record Nexts (d y : ℕ) (fs₀ : List Frame) (pc : ℕ) (k : List Task) : Type 0 where
    pub fs : List Frame
    pub f : Frame
    pub opens : fs₀ ≡ f ∷ fs
    pub depth : d ≡ length fs
    pub small : d < 32
    pub none : left w f ≡ [] → At w A code fs (suc pc) k
    pub more : (a : ℕ) → left w f ≡ a ∷ left w (taken f a) → (ts : Tables) (o : Text) (s : ℕ) → Stepped (taken f a ∷ fs) y k ts o s ts o

  pub sim_next : {fs₀ : List Frame} {pc d y : ℕ} {k : List Task} → instr code pc ≡ NEXT d y → AtI w A code (NEXT d y) fs₀ pc k → Nexts d y fs₀ pc k
  unfolding step each environment
  sim_next {pc} {y} i (at_next {fs} {f} v {a = p} {k} e l q b r) =
      record {
        fs = fs;
        f = f;
        opens = refl;
        depth = e;
        small = l;
        none = λ z. rw z r;
        more = λ a z ts o s. record {
          rest = tasks p (bind v.text a (environment fs)) (each (map single (left w (taken f a))) (environment fs) v p k);
          same = rw z refl;
          at = subst (λ x. At w A code (taken f a ∷ fs) y (tasks p (bind x a (environment fs)) (each (map single (left w (taken f a))) (environment fs) v p k))) q
              (placed_at (taken f a ∷ fs) b (ap (λ x. x ∷ scope_of fs) (sym q)) (rw i (at_next {f = taken f a} v e l q b r)));
        };
      }
