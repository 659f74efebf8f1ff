use mathlib.Core.Path.{refl}
use native.Mathlib.Omega.{arith}
use Rattle.machine.specs.Instructions.{TEST, AGAIN, RANGE, NEXT}
use Rattle.machine.specs.Bound.{actions}
use Rattle.machine.proofs.Decoding.{is_assign, is_test, is_again, is_range, is_next}
use Rattle.machine.proofs.Acting.{by_assign, by_test, by_again, by_range, by_next, by_rest}
use Rattle.machine.proofs.Recounting.{counts_new, counts_kept, counts_rest}
use Rattle.machine.proofs.step.Goals as goal

pub returns-in-6 : goal.returns-in-6
returns-in-6 c = let a = c.args in
    record { by_index = (λ p used buffer. by_range (actions a.words.now a.firsts.now a.u a.scr p) a.u a.words.now a.pc used a.store.now buffer a.sets.now a.cursors.now a.vars.now _ _ _ _ (is_range _ _ (omega arith) c.in-6.is) c.range_at.ensures.value c.range_at.ensures.store_after); counts_after = counts_kept _ _ _ _ _ _ _ _ (RANGE _ _) (is_range _ _ (omega arith) c.in-6.is) refl }

pub returns-in-7 : goal.returns-in-7
returns-in-7 c = let a = c.args in
    record { by_index = (λ p used buffer. by_next (actions a.words.now a.firsts.now a.u a.scr p) a.u a.words.now a.pc used a.store.now buffer a.sets.now a.cursors.now a.vars.now _ _ _ _ (is_next _ _ (omega arith) c.in-7.is) c.take.ensures.cursors_after c.take.ensures.vars_after); counts_after = counts_kept _ _ _ _ _ _ _ _ (NEXT _ _) (is_next _ _ (omega arith) c.in-7.is) refl }

pub returns-in-33 : goal.returns-in-33
returns-in-33 c = let a = c.args in
    record { by_index = (λ p used buffer. by_assign (actions a.words.now a.firsts.now a.u a.scr p) a.u a.words.now a.pc used a.store.now buffer a.sets.now a.cursors.now a.vars.now _ (is_assign _ _ (omega arith) c.in-33.is) c.assign_at.ensures); counts_after = counts_new _ _ _ _ _ _ _ _ _ (is_assign _ _ (omega arith) c.in-33.is) c.recount_at.ensures }

pub returns-in-34 : goal.returns-in-34
returns-in-34 c = let a = c.args in
    record { by_index = (λ p used buffer. by_test (actions a.words.now a.firsts.now a.u a.scr p) a.u a.words.now a.pc used a.store.now buffer a.sets.now a.cursors.now a.vars.now _ _ _ (is_test _ _ (omega arith) c.in-34.is) c.branch-words.ensures.value c.branch-words.ensures.store_after); counts_after = counts_kept _ _ _ _ _ _ _ _ (TEST _) (is_test _ _ (omega arith) c.in-34.is) refl }

pub returns-in-36 : goal.returns-in-36
returns-in-36 c = let a = c.args in
    record { by_index = (λ p used buffer. by_again (actions a.words.now a.firsts.now a.u a.scr p) a.u a.words.now a.pc used a.store.now buffer a.sets.now a.cursors.now a.vars.now _ _ _ _ (is_again _ _ (omega arith) c.in-36.is) c.previous.ensures c.branch-words-in-36.ensures.value c.branch-words-in-36.ensures.store_after); counts_after = counts_kept _ _ _ _ _ _ _ _ (AGAIN _) (is_again _ _ (omega arith) c.in-36.is) refl }

pub returns-in_default : goal.returns-in_default
returns-in_default c = let a = c.args in
    record { by_index = (λ p used buffer. by_rest (actions a.words.now a.firsts.now a.u a.scr p) a.u a.words.now a.pc used a.store.now buffer a.sets.now a.cursors.now a.vars.now (omega arith) c.in_default.in_default-own.rest c.requires.2); counts_after = counts_rest _ _ _ _ _ _ _ _ (omega arith) c.in_default.in_default-own.rest c.requires.2 }
