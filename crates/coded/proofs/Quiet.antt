-- Words that are no statement's own: the start of a part and the depths of loop variables stay over them.
use Prim.Native.Nat.{ℕ, zero, suc, ◌+◌, ◌<◌, ◌≤◌}
use mathlib.Core.Path.{◌≡◌, refl, subst, ◌∙◌}
use mathlib.Core.Bool.{Bool, true, false, cond, ◌||◌}
use mathlib.Core.List.{List}
use native.Mathlib.Omega.{arith}
use borrow.Author.Tests.{eqb-true}
use lib.Dec.{eqb}
use lib.ListN.{length, get_or}
use Rattle.definition.proofs.BoolLaws.{contradiction, or_eq_false}
use Rattle.words.specs.Fields.{kind_of, p_of, q_of, RANGE, NEXT, TRUTH, FALSITY, ASSIGN, TEST, PRINT, JUMP, AGAIN}
use Rattle.words.specs.Standing.{Has}
use Rattle.words.specs.Parts.{ends}
use Rattle.words.proofs.EachKind.{each_at}
use Rattle.words.proofs.StatementParts.{quiet, Quiet}
use Rattle.lowering.specs.Lowering.{at, TokenValues, all_stand, kind_field, lower_at, Filled}
use Rattle.lowering.proofs.Places.{kind_field_at}
use Rattle.actions.specs.Parts.{is_statement, start}
use Rattle.coding.specs.Pass.{Depths, depths_after, depths_at}

-- a word of no statement of its own is none's own word
quiet_statement : (k : ℕ) → quiet k → is_statement k ≡ false
unfolding ends is_statement
quiet_statement k h = go (eqb k ASSIGN) (eqb k TEST) (eqb k PRINT) (eqb k RANGE) (eqb k JUMP) (eqb k AGAIN) (eqb k NEXT) h
  where
    go : (a b c d e f g : Bool) → ◌≡◌ {A = ℕ} (cond a 2 (cond b 2 (cond c 2 (cond d 2 (cond e 1 (cond f 1 (cond g 1 0))))))) 0 → d || (g || (a || (b || (e || (f || c))))) ≡ false
    go true b c d e f g h = absurd (omega arith)
    go false true c d e f g h = absurd (omega arith)
    go false false true d e f g h = absurd (omega arith)
    go false false false true e f g h = absurd (omega arith)
    go false false false false true f g h = absurd (omega arith)
    go false false false false false true g h = absurd (omega arith)
    go false false false false false false true h = absurd (omega arith)
    go false false false false false false false h = refl

pub quiet_words : (words : List ℕ) (ws : List ℕ) (n : ℕ) → Has words n ws → Quiet ws → (i : ℕ) → n ≤ i → i < n + length ws → is_statement (kind_of (get_or words i 0)) ≡ false
quiet_words words ws n x q i l h = quiet_statement (kind_of (get_or words i 0)) (each_at quiet words ws n x q i l h)

-- the start of a part
pub start_after : (words : List ℕ) (k : ℕ) → is_statement (kind_of (get_or words k 0)) ≡ true → start words (suc k) ≡ suc k
unfolding start
start_after words k e = rw e refl

-- the depths
not_loop : (k : ℕ) → is_statement k ≡ false → (eqb k RANGE ≡ false) × (eqb k NEXT ≡ false)
unfolding is_statement
not_loop k e =
    let (a, r) = or_eq_false (eqb k RANGE) (eqb k NEXT || (eqb k ASSIGN || (eqb k TEST || (eqb k JUMP || (eqb k AGAIN || eqb k PRINT))))) e in
    (a, (or_eq_false (eqb k NEXT) (eqb k ASSIGN || (eqb k TEST || (eqb k JUMP || (eqb k AGAIN || eqb k PRINT)))) r).0)

pub depths_other : (ids words : List ℕ) (d : Depths) (n : ℕ) → eqb (kind_of (get_or words n 0)) RANGE ≡ false → eqb (kind_of (get_or words n 0)) NEXT ≡ false → depths_at ids words d (suc n) ≡ depths_at ids words d n
unfolding depths_at depths_after
depths_other ids words d n e f = rw (e, f) refl

pub depths_quiet : (ids words : List ℕ) (d : Depths) (s m : ℕ) → ((i : ℕ) → s ≤ i → i < s + m → is_statement (kind_of (get_or words i 0)) ≡ false) → depths_at ids words d (s + m) ≡ depths_at ids words d s
depths_quiet ids words d s zero q = let z : s + 0 ≡ s = omega arith in rw z refl
depths_quiet ids words d s (suc m) q =
    let z : s + suc m ≡ suc (s + m) = omega arith in
    let (a, b) = not_loop (kind_of (get_or words (s + m) 0)) (q (s + m) (omega arith) (omega arith)) in
    rw z (depths_other ids words d (s + m) a b ∙ depths_quiet ids words d s m (λ i l h. q i l (omega arith)))

-- lowered, they are still no statement's own
pub quiet_low : (words codes tokens fr : List ℕ) (H : TokenValues) (u lo hi : ℕ) (low : List ℕ) → Filled (lower_at (at words) (at codes) (at tokens) (at fr) H u lo) lo hi low low → (i : ℕ) → lo ≤ i → i < hi
    → is_statement (kind_of (get_or words i 0)) ≡ false → is_statement (kind_of (get_or low i 0)) ≡ false
unfolding kind_field is_statement
quiet_low words codes tokens fr H u lo hi low filled i l h e =
    rw (kind_field_at words codes tokens fr H u lo hi low low filled i l h) (go (eqb (kind_of (get_or words i 0)) TRUTH) (all_stand (at words) (at codes) u (q_of (get_or words i 0)) (p_of (get_or words i 0))))
  where
    go : (a b : Bool) → is_statement (cond a (cond b TRUTH FALSITY) (kind_of (get_or words i 0))) ≡ false
    go true true = refl
    go true false = refl
    go false b = e

-- and a statement's own word is one still
pub own_low : (words codes tokens fr : List ℕ) (H : TokenValues) (u lo hi : ℕ) (low : List ℕ) → Filled (lower_at (at words) (at codes) (at tokens) (at fr) H u lo) lo hi low low → (i : ℕ) → lo ≤ i → i < hi
    → is_statement (kind_of (get_or words i 0)) ≡ true → is_statement (kind_of (get_or low i 0)) ≡ true
unfolding kind_field is_statement
own_low words codes tokens fr H u lo hi low filled i l h e =
    rw (kind_field_at words codes tokens fr H u lo hi low low filled i l h) (go (eqb (kind_of (get_or words i 0)) TRUTH) (all_stand (at words) (at codes) u (q_of (get_or words i 0)) (p_of (get_or words i 0))) refl)
  where
    go : (a b : Bool) → eqb (kind_of (get_or words i 0)) TRUTH ≡ a → is_statement (cond a (cond b TRUTH FALSITY) (kind_of (get_or words i 0))) ≡ true
    go true b f = contradiction (is_statement TRUTH) (subst (λ (j : ℕ). is_statement j ≡ true) (eqb-true (kind_of (get_or words i 0)) TRUTH f) e) refl
    go false b f = e
