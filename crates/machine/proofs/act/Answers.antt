use Prim.Native.Nat.{ℕ}
use mathlib.Core.Path.{refl}
use mathlib.Core.List.{List}
use native.Mathlib.Omega.{arith}
use Rattle.lines.specs.Lines.{Texts, texts}
use Rattle.actions.specs.Doing.{print_by}
use Rattle.machine.specs.Instructions.{PRINT}
use Rattle.machine.specs.Actions.{Actions}
use Rattle.machine.specs.Bound.{actions}
use Rattle.machine.proofs.Decoding.{is_print}
use Rattle.machine.proofs.Acting.{act_step, act_full, act_print}
use Rattle.machine.proofs.Recounting.{counts_kept}
use Rattle.machine.proofs.act.Goals as goal

-- A PRINT by whether it fits, any other step as it is.
abbrev all : List ℕ → List ℕ → ℕ → ℕ → Texts → Actions
all words firsts u scr T = actions words firsts u scr (print_by words firsts u T)

pub returns-then-words-pc-ne37 : goal.returns-then-words-pc-ne37
returns-then-words-pc-ne37 c = let a = c.args in
    record { turned = act_step (all a.words.now a.firsts.now a.u a.scr (texts a.facts.now a.query.now a.places.now)) a.u a.words.now a.pc a.used a.store.now a.out.now a.sets.now a.cursors.now a.vars.now (omega arith) c.if-words-pc-ne37.true _ (c.step-n.ensures.by_index (print_by a.words.now a.firsts.now a.u (texts a.facts.now a.query.now a.places.now)) a.used a.out.now); counts_after = c.step-n.ensures.counts_after }

pub returns-then-out-end : goal.returns-then-out-end
returns-then-out-end c = let a = c.args in
    record { turned = act_full (all a.words.now a.firsts.now a.u a.scr (texts a.facts.now a.query.now a.places.now)) a.u a.words.now a.pc a.used a.store.now a.out.now a.sets.now a.cursors.now a.vars.now (omega arith) c.if-words-pc-ne37.false c.print_at-end.ensures.printed c.print_at-end.ensures.store_after (omega arith); counts_after = counts_kept _ _ _ _ _ _ _ _ PRINT (is_print _ _ (omega arith) c.if-words-pc-ne37.false) refl }

pub returns : goal.returns
returns c = let a = c.args in
    record { turned = act_print (all a.words.now a.firsts.now a.u a.scr (texts a.facts.now a.query.now a.places.now)) a.u a.words.now a.pc a.used a.store.now a.out.now a.sets.now a.cursors.now a.vars.now (omega arith) c.if-words-pc-ne37.false c.print_at-end.ensures.printed c.print_at-end.ensures.store_after (omega arith); counts_after = counts_kept _ _ _ _ _ _ _ _ PRINT (is_print _ _ (omega arith) c.if-words-pc-ne37.false) refl }
