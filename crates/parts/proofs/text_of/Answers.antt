use mathlib.Core.Path.{◌∙◌}
use borrow.Author.Tests.{eq-eqb, ne_eqb}
use Rattle.parts.specs.Packed.{text_of}
use Rattle.parts.proofs.text_of.Goals as goal

pub returns-then-w-eq0 : goal.returns-then-w-eq0
unfolding text_of
returns-then-w-eq0 c = c.part.ensures ∙ simp (eq-eqb _ _ c.if-w-eq0.true)

pub returns : goal.returns
unfolding text_of
returns c = c.part-2.ensures ∙ simp (ne_eqb _ _ c.if-w-eq0.false)
