use native.Mathlib.Omega.{arith}
use mathlib.Core.Path.{refl}
use Rattle.parser.specs.Queries.{too_deep, an_excess, no_program}
use Rattle.parser.proofs.refusal.Goals as goal

pub returns-in-NoProgram : goal.returns-in-NoProgram
returns-in-NoProgram c = rw (c.in-NoProgram.is, c.place_at.ensures) (no_program (λ e. omega arith) (λ e. omega arith))

pub returns-in-TooMuch : goal.returns-in-TooMuch
returns-in-TooMuch c = rw (c.in-TooMuch.is, c.place_at-in-TooMuch.ensures) (too_deep refl)

pub returns-in-Number : goal.returns-in-Number
returns-in-Number c = rw (c.in-Number.is, c.place_at-in-Number.ensures) (an_excess refl)
