use Rattle.slots.proofs.Arrays.{same_over, same_had, now_over, one_more}
use mathlib.Core.Path.{refl}
use native.Mathlib.Omega.{arith}
use Rattle.slots.proofs.add_name.Goals as goal

pub returns-then-n-gt4 : goal.returns-then-n-gt4
returns-then-n-gt4 c = λ xs h. same_over xs _ c.args.x c.if-n-gt4.true h

pub returns-then-place-gt0 : goal.returns-then-place-gt0
returns-then-place-gt0 c = λ xs h. same_had xs _ _ c.place.result c.if-n-gt4.false c.place.ensures.0 c.if-place-gt0.true h

pub returns-then-n-eq4 : goal.returns-then-n-eq4
returns-then-n-eq4 c = λ xs h. now_over xs c.args.f _ _ c.place.result refl c.if-n-eq4.true c.place.ensures.0 c.if-place-gt0.false h

pub returns : goal.returns
returns c = λ xs h. one_more xs c.args.f _ _ c.place.result (omega arith) c.place.ensures.0 c.if-place-gt0.false refl refl h
