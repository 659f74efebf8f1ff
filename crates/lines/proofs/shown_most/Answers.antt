use Rattle.lines.proofs.Lengths.{most_quoted, most_bare}
use Rattle.lines.proofs.shown_most.Goals as goal

pub returns-then-w-eq1 : goal.returns-then-w-eq1
returns-then-w-eq1 c = most_quoted c.args.w c.if-w-eq1.true

pub returns-else-w-eq1 : goal.returns-else-w-eq1
returns-else-w-eq1 c = most_bare c.args.w c.if-w-eq1.false
