use mathlib.Core.Path.{◌∙◌, refl}
use Rattle.lowering.specs.Lowering.{operands_at}
use Rattle.lowering.proofs.operands_at.Goals as goal

pub returns : goal.returns
unfolding operands_at
returns c = (c.four_bytes.ensures.0 ∙ rw (c.term_byte-d.ensures.0, c.term_byte-c.ensures.0, c.term_byte-b.ensures.0, c.term_byte-a.ensures.0, c.word_at-4.ensures, c.word_at-3.ensures, c.word_at-2.ensures, c.word_at.ensures) refl, c.four_bytes.ensures.1)
