use Rattle.turning.proofs.TurnedLaws.{turned_zero, turned_one}
use Rattle.turning.proofs.turn_part.Goals as goal

pub returns-then-w-eq0 : goal.returns-then-w-eq0
returns-then-w-eq0 c = turned_zero _ c.if-w-eq0.true

pub returns-else-w-eq0 : goal.returns-else-w-eq0
returns-else-w-eq0 c = turned_one _ c.if-w-eq0.false
