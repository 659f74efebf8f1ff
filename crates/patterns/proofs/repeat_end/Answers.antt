use mathlib.Core.Path.{sym, ◌∙◌}
use Rattle.patterns.proofs.ByteLaws.{among_is}
use Rattle.patterns.proofs.EndLaws.{repeat_none, repeat_sign, repeat_plain, repeat_count}
use Rattle.patterns.proofs.repeat_end.Goals as goal

pub returns-then-s-at : goal.returns-then-s-at
returns-then-s-at c = λ p. repeat_none _ _ p c.requires c.if-s-at.true

pub returns-then-contains : goal.returns-then-contains
returns-then-contains c = λ p. repeat_sign _ _ p c.if-s-at.false (sym (c.contains.ensures.value ∙ among_is _ _) ∙ c.if-contains.true)

pub returns-then-b-ne123 : goal.returns-then-b-ne123
returns-then-b-ne123 c = λ p. repeat_plain _ _ p c.if-s-at.false (sym (c.contains.ensures.value ∙ among_is _ _) ∙ c.if-contains.false) c.if-b-ne123.true

pub returns : goal.returns
returns c = λ p. c.count_end.ensures p ∙ repeat_count _ _ p c.if-s-at.false c.if-b-ne123.false
