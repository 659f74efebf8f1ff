use mathlib.Core.Path.{◌∙◌}
use Rattle.universe.proofs.Entering.{enters_none, enters_or}
use Rattle.universe.proofs.enter_string.Goals as goal

pub returns-then-w-ne42 : goal.returns-then-w-ne42
returns-then-w-ne42 c = enters_none c.args.facts.now c.args.query.now c.args.tokens.now c.args.w c.args.places.now c.args.n c.if-w-ne42.true c.requires

pub returns : goal.returns
returns c = let t = c.token_of-t in
    enters_or c.args.facts.now c.args.query.now c.args.tokens.now c.args.w c.args.places.now c.args.n c.if-w-ne42.false t.result t.ensures _ _ _ _ c.ok_or.ensures.value c.place.ensures
    (c.enter_part.ensures.words ∙ rw c.string_word.ensures) (c.enter_part.ensures.value ∙ rw c.string_word.ensures)
