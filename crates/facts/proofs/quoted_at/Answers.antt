use native.Mathlib.Omega.{arith}
use Rattle.facts.proofs.WordLaws.{quoted_open_at, quoted_long_at, quoted_joined_at, quoted_good_at}
use Rattle.facts.proofs.quoted_at.Goals as goal

pub returns-then-e-l : goal.returns-then-e-l
returns-then-e-l c = record { value = quoted_open_at _ _ _ c.requires.b_in_bounds c.requires.b_value c.run_end-e.ensures.value c.if-e-l.true; within = omega arith }

pub returns-then-e-a-gt32 : goal.returns-then-e-a-gt32
returns-then-e-a-gt32 c = record { value = quoted_long_at _ _ _ c.requires.b_in_bounds c.requires.b_value c.run_end-e.ensures.value c.if-e-a-gt32.true; within = omega arith }

pub returns-then-run_end-e-gt1 : goal.returns-then-run_end-e-gt1
returns-then-run_end-e-gt1 c = record { value = quoted_joined_at _ _ _ c.requires.b_in_bounds c.requires.b_value c.run_end-e.ensures.value _ c.run_end.ensures.value c.if-run_end-e-gt1.true; within = omega arith }

pub returns : goal.returns
returns c = record { value = quoted_good_at _ _ _ c.requires.b_in_bounds c.requires.b_value c.run_end-e.ensures.value _ c.run_end.ensures.value (omega arith) c.if-e-a-gt32.false c.if-run_end-e-gt1.false; within = (record { place = omega arith; end = omega arith; len = c.if-e-a-gt32.false }, omega arith) }
