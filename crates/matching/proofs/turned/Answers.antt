use Rattle.matching.proofs.SetLaws.{any_number, a_number}
use Rattle.matching.proofs.turned.Goals as goal

pub returns-then-further-eq9 : goal.returns-then-further-eq9
returns-then-further-eq9 c = λ o e t. record { first = c.least_turns-first.result; asked = c.least_turns-first.ensures o e t; taken = any_number o c.args.further c.all_turns.result c.if-further-eq9.true (c.all_turns.ensures o e t) }

pub returns : goal.returns
returns c = λ o e t. record { first = c.least_turns-first.result; asked = c.least_turns-first.ensures o e t; taken = a_number o c.args.further c.more_turns.result c.if-further-eq9.false (c.more_turns.ensures o e t) }
