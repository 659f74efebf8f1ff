use Rattle.coding.proofs.Codes.{string_found, string_none}
use Rattle.coding.proofs.string_code.Goals as goal

pub returns-then-i-places : goal.returns-then-i-places
returns-then-i-places c = string_found _ _ _ _ c.args.t _ _ _ c.word_at.ensures c.token_part.ensures c.index_of-i.ensures.value c.if-i-places.true

pub returns-else-i-places : goal.returns-else-i-places
returns-else-i-places c = string_none _ _ _ _ c.args.t _ _ _ c.word_at.ensures c.token_part.ensures c.index_of-i.ensures.value c.if-i-places.false
