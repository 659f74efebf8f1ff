use mathlib.Core.Path.{refl, ◌∙◌}
use Rattle.lowering.specs.Lowering.{lower_word}
use Rattle.lowering.proofs.lower_word.Goals as goal

pub returns : goal.returns
unfolding lower_word
returns c = c.pack.ensures ∙ rw (c.count_field-n.ensures.0, c.operand_field-o.ensures.0, c.p_field-p.ensures.0, c.kind_field-kind.ensures.0, c.word_at-w.ensures) refl
