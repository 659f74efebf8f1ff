use Rattle.intern.proofs.Numbering.{first_relation, first_token, first_past}
use Rattle.intern.proofs.may_be_first.Goals as goal

pub returns-then-j-k : goal.returns-then-j-k
returns-then-j-k c = first_relation c.args.k c.args.ids.now c.args.j c.if-j-k.true

pub returns-then-j-k-2 : goal.returns-then-j-k-2
returns-then-j-k-2 c = first_token c.args.k c.args.ids.now c.args.j c.if-j-k.false c.if-j-k-2.true

pub returns : goal.returns
returns c = first_past c.args.k c.args.ids.now c.args.j c.if-j-k.false c.if-j-k-2.false
