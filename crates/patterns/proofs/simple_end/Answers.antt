use mathlib.Core.Path.{sym, ◌∙◌}
use mathlib.Core.Bool.{true, false}
use Rattle.patterns.proofs.EndLaws.{simple_none, simple_character, simple_dot, simple_ordinary, simple_trailing, simple_wrong, simple_complement, simple_set}
use Rattle.patterns.proofs.simple_end.Goals as goal

pub returns-then-s-at : goal.returns-then-s-at
returns-then-s-at c = simple_none c.args.s.now c.args.at c.if-s-at.true

pub returns-then-is_character : goal.returns-then-is_character
returns-then-is_character c = simple_character c.args.s.now c.args.at c.if-s-at.false (sym c.is_character.ensures ∙ c.if-is_character.true)

pub returns-then-b-eq46 : goal.returns-then-b-eq46
returns-then-b-eq46 c = simple_dot c.args.s.now c.args.at c.if-s-at.false c.if-b-eq46.true

pub returns-then-at-s : goal.returns-then-at-s
returns-then-at-s c = simple_ordinary c.args.s.now c.args.at c.if-s-at.false c.if-b-eq92.true c.if-at-s.true

pub returns-then-b-eq92 : goal.returns-then-b-eq92
returns-then-b-eq92 c = simple_trailing c.args.s.now c.args.at c.if-s-at.false c.if-b-eq92.true c.if-at-s.false

pub returns-then-b-ne91 : goal.returns-then-b-ne91
returns-then-b-ne91 c = simple_wrong c.args.s.now c.args.at c.if-s-at.false (sym c.is_character.ensures ∙ c.if-is_character.false) c.if-b-eq46.false c.if-b-eq92.false c.if-b-ne91.true

pub returns-then-byte_at-eq94 : goal.returns-then-byte_at-eq94
returns-then-byte_at-eq94 c = c.set_end.ensures true ∙ simple_complement c.args.s.now c.args.at c.if-s-at.false c.if-b-ne91.false (sym c.byte_at.ensures ∙ c.if-byte_at-eq94.true)

pub returns : goal.returns
returns c = c.set_end-2.ensures false ∙ simple_set c.args.s.now c.args.at c.if-s-at.false c.if-b-ne91.false (λ e. c.if-byte_at-eq94.false (c.byte_at.ensures ∙ e))
