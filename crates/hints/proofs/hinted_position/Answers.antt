use Rattle.parts.proofs.PositionLaws.{position_at}
use Rattle.hints.proofs.hinted_position.Goals as goal

pub returns-then-k-parts : goal.returns-then-k-parts
returns-then-k-parts c = λ a. position_at _ _ _ _ _ a c.if-k-parts.true (c.proposed-k.ensures c.if-k-parts.true)
