use Rattle.coding.proofs.Codes.{code_string, code_name}
use Rattle.coding.proofs.code_of.Goals as goal

pub returns-then-word_at-eq48 : goal.returns-then-word_at-eq48
returns-then-word_at-eq48 c = code_string _ _ _ _ _ _ _ _ c.args.t _ _ c.word_at.ensures c.if-word_at-eq48.true c.string_code.ensures

pub returns : goal.returns
returns c = code_name _ _ _ _ _ _ _ _ c.args.t _ _ c.word_at.ensures c.if-word_at-eq48.false c.name_code.ensures
