use mathlib.Core.Path.{refl}
use native.Mathlib.Omega.{arith}
use Rattle.coding.proofs.Passing.{zeros_below}
use Rattle.acceptance.proofs.Answers.{taken, not_taken}
use Rattle.element.proofs.Words.{refused_right, few_elements, past_right, inside_right}
use Rattle.element.proofs.word_of.Goals as goal

pub accept-requires : goal.accept-requires
accept-requires c = record { relations_len = (refl, refl); tokens_len = (refl, refl); ids_len = (refl, (refl, refl)); small = zeros_below 2048 4096 (omega arith) }

pub offset_bounds-places-n : goal.offset_bounds-places-n
offset_bounds-places-n c = let t = taken _ _ _ _ _ _ _ _ c.accept.ensures _ c.in-Ok.is in
    omega (arith, c.if-n-s.true, few_elements _ _ c.args.n _ _ _ _ _ _ _ _ t.sized)

pub bounds-places-n : goal.bounds-places-n
bounds-places-n c = let t = taken _ _ _ _ _ _ _ _ c.accept.ensures _ c.in-Ok.is in
    omega (arith, c.if-n-s.true, few_elements _ _ c.args.n _ _ _ _ _ _ _ _ t.sized)

pub returns-in-Err : goal.returns-in-Err
returns-in-Err c = let r = refused_right _ _ _ _ _ (not_taken _ _ _ _ _ _ _ _ c.accept.ensures _ c.in-Err.is) in record { part = r.part; begins = r.begins }

pub returns-then-n-s : goal.returns-then-n-s
returns-then-n-s c = let t = taken _ _ _ _ _ _ _ _ c.accept.ensures _ c.in-Ok.is in
    let r = inside_right _ _ _ _ _ _ _ _ _ _ _ t.sized c.if-n-s.true in record { part = r.part; begins = r.begins }

pub returns-else-n-s : goal.returns-else-n-s
returns-else-n-s c = let t = taken _ _ _ _ _ _ _ _ c.accept.ensures _ c.in-Ok.is in
    let r = past_right _ _ _ _ _ _ _ _ _ _ _ t.sized c.if-n-s.false in record { part = r.part; begins = r.begins }
