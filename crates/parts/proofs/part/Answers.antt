use Rattle.parts.proofs.PackLaws.{no_bytes, few_bytes, all_bytes}
use Rattle.parts.proofs.part.Goals as goal

pub returns-then-len-offset : goal.returns-then-len-offset
returns-then-len-offset c = no_bytes c.args.n c.args.offset c.args.s.now c.if-len-offset.true

pub returns-then-len-offset-2 : goal.returns-then-len-offset-2
returns-then-len-offset-2 c = few_bytes c.args.n c.args.offset c.args.s.now c.if-len-offset-2.true

pub returns : goal.returns
returns c = all_bytes c.args.n c.args.offset c.args.s.now
