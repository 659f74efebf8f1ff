use native.Mathlib.Omega.{arith}
use lib.ListN.{get_or}
use borrow.Author.Tests.{ltb-true}
use Rattle.texts.proofs.WordTable.{not_reserved}
use Rattle.texts.proofs.is_other.Goals as goal

pub returns-then-w-gt7 : goal.returns-then-w-gt7
returns-then-w-gt7 c = λ e. not_reserved _ (λ h. omega (arith, h.long, h.short, c.if-w-gt7.either))

pub returns-else-w-gt7 : goal.returns-else-w-gt7
returns-else-w-gt7 c = let w = c.args.w.now in
    λ e. not_reserved w (λ h. omega (arith, h.second, ltb-true 90 (get_or w 1 0) e))
