use mathlib.Core.Path.{◌∙◌}
use native.Mathlib.Omega.{arith}
use Rattle.breaks.proofs.EndLaws.{legal_none, legal_other, legal_last, legal_before}
use Rattle.breaks.proofs.legal_at.Goals as goal

pub returns-then-facts-n : goal.returns-then-facts-n
returns-then-facts-n c = legal_none c.args.facts.now c.args.n c.if-facts-n.true

pub returns-then-b-ne13 : goal.returns-then-b-ne13
returns-then-b-ne13 c = c.is_legal.ensures ∙ legal_other c.args.facts.now c.args.n c.if-facts-n.false c.if-b-ne13.true

pub returns-then-n-facts : goal.returns-then-n-facts
returns-then-n-facts c = legal_last c.args.facts.now c.args.n c.if-facts-n.false c.if-b-ne13.false c.if-n-facts.true

pub returns : goal.returns
returns c = legal_before c.args.facts.now c.args.n c.if-facts-n.false c.if-b-ne13.false (omega (arith, c.if-facts-n.false, c.if-n-facts.false))
