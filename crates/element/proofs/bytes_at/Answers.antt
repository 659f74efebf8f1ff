use native.Mathlib.Nat.{add_comm}
use Rattle.parts.proofs.PackLaws.{few_bytes, all_bytes}
use Rattle.element.proofs.bytes_at.Goals as goal

pub returns-then-len-offset : goal.returns-then-len-offset
returns-then-len-offset c = record { text = few_bytes c.args.n c.args.offset c.args.s.now c.if-len-offset.true; place = simp add_comm }

pub returns : goal.returns
returns c = record { text = all_bytes c.args.n c.args.offset c.args.s.now; place = simp add_comm }
