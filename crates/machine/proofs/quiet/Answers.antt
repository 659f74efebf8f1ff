-- By the kind of the word.
use Prim.Native.Nat.{◌%◌}
use mathlib.Core.Path.{◌≡◌}
use lib.ListN.{get_or}
use native.Mathlib.Omega.{arith}
use Rattle.words.specs.Fields.{p_of}
use Rattle.machine.specs.Turns.{next_at, left_at}
use Rattle.machine.proofs.Decoding.{is_assign, is_print, is_test, is_again, is_range, is_next, is_jump, is_back, is_pass}
use Rattle.machine.proofs.Quiets.{stays_at, quiet_pass, quiet_jump, quiet_stay, quiet_leave}
use Rattle.machine.proofs.quiet.Goals as goal

-- an element is left; what the search finds at a NEXT
pub returns-then-seek-u : goal.returns-then-seek-u
unfolding next_at left_at
returns-then-seek-u c =
    let found : c.seek.result ≡ next_at c.args.u c.args.sets.now c.args.cursors.now (p_of (get_or c.args.words.now c.args.at 0) % 32) = c.seek.ensures.0 in
    quiet_stay _ _ _ _ _ (is_next _ _ (omega arith) c.in-7.is) found c.if-seek-u.true

-- none is left
pub returns-else-seek-u : goal.returns-else-seek-u
unfolding next_at left_at
returns-else-seek-u c =
    let found : c.seek.result ≡ next_at c.args.u c.args.sets.now c.args.cursors.now (p_of (get_or c.args.words.now c.args.at 0) % 32) = c.seek.ensures.0 in
    quiet_leave _ _ _ _ _ (is_next _ _ (omega arith) c.in-7.is) found c.if-seek-u.false

pub returns-in-6 : goal.returns-in-6
returns-in-6 c = stays_at _ _ _ _ _ _ (is_range _ _ (omega arith) c.in-6.is) tt

pub returns-in-33 : goal.returns-in-33
returns-in-33 c = stays_at _ _ _ _ _ _ (is_assign _ _ (omega arith) c.in-33.is) tt

pub returns-in-34 : goal.returns-in-34
returns-in-34 c = stays_at _ _ _ _ _ _ (is_test _ _ (omega arith) c.in-34.is) tt

pub returns-then-at-n : goal.returns-then-at-n
returns-then-at-n c = quiet_jump _ _ _ _ _ c.if-at-n.true (is_jump _ _ (omega arith) c.in-35.is c.if-at-n.true)

pub returns-else-at-n : goal.returns-else-at-n
returns-else-at-n c = quiet_pass _ _ _ _ _ (is_back _ _ (omega arith) c.in-35.is c.if-at-n.false)

pub returns-in-36 : goal.returns-in-36
returns-in-36 c = stays_at _ _ _ _ _ _ (is_again _ _ (omega arith) c.in-36.is) tt

pub returns-in-37 : goal.returns-in-37
returns-in-37 c = stays_at _ _ _ _ _ _ (is_print _ _ (omega arith) c.in-37.is) tt

pub returns-in_default : goal.returns-in_default
returns-in_default c = quiet_pass _ _ _ _ _ (is_pass _ _ (omega arith) c.in_default.in_default-own.rest)
