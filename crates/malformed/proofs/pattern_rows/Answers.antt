use mathlib.Core.Path.{sym, ◌∙◌}
use native.Mathlib.Omega.{arith}
use Rattle.std.specs.Prelude.{Ok, Err}
use Rattle.definition.specs.declared.Refusal.TheVariants.{Pattern}
use Rattle.malformed.proofs.Walking.{walked, passed, well_formed_passed, stopped, ended}
use Rattle.malformed.proofs.pattern_rows.Goals as goal
use Rattle.malformed.proofs.pattern_rows.Goals.{then-first_half+else-is_malformed, else-first_half}

pub returns-then-is_malformed : goal.returns-then-is_malformed
returns-then-is_malformed c = let l = c.loop-w in
    walked _ _ _ (Err (Pattern c.place.result)) (stopped _ _ _ l.w-index (omega arith) l.invariant _ c.word_at-t.ensures (sym c.first_half.ensures ∙ c.if-first_half.true) _ c.place.ensures (sym c.is_malformed.ensures ∙ c.if-is_malformed.true))

pub loop-w-preserved : goal.loop-w-preserved
loop-w-preserved c = let l = c.loop-w in
    elim c.if-first_half.branch [
      | then-first_half+else-is_malformed w ↦ well_formed_passed _ _ _ l.w-index (omega arith) l.invariant _ w.word_at-t.ensures (sym c.first_half.ensures ∙ w.if-first_half.true) (sym w.is_malformed.ensures ∙ w.if-is_malformed.false)
      | else-first_half w ↦ passed _ _ _ l.w-index (omega arith) l.invariant (sym c.first_half.ensures ∙ w.if-first_half.false)
    ]

pub returns : goal.returns
returns c = let l = c.loop-w in
    walked _ _ _ (Ok tt) (ended _ _ _ l.w-index (omega arith) l.invariant)
