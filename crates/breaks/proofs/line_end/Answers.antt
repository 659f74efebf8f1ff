use native.Mathlib.Omega.{arith}
use Rattle.breaks.proofs.EndLaws.{end_empty, end_return, end_kept}
use Rattle.breaks.proofs.line_end.Goals as goal

pub returns-then-a-e : goal.returns-then-a-e
returns-then-a-e c = record { value = end_empty c.args.facts.now c.args.a c.args.e c.requires.0 c.requires.1 c.if-a-e.true; within = (c.requires.0, omega arith) }

pub returns-then-facts-e-eq13 : goal.returns-then-facts-e-eq13
returns-then-facts-e-eq13 c = record { value = end_return c.args.facts.now c.args.a c.args.e c.requires.0 c.requires.1 (omega (arith, c.requires.0, c.if-a-e.false)) c.if-facts-e-eq13.true; within = (omega (arith, c.requires.0, c.if-a-e.false), omega arith) }

pub returns : goal.returns
returns c = record { value = end_kept c.args.facts.now c.args.a c.args.e c.requires.0 c.requires.1 (omega (arith, c.requires.0, c.if-a-e.false)) c.if-facts-e-eq13.false; within = (c.requires.0, omega arith) }
