use Rattle.matching.proofs.sign_at.Goals as goal

pub returns : goal.returns
returns c = (simp (c.least.ensures, c.byte_at-b.ensures, c.byte_at-m.ensures), simp (c.further.ensures, c.byte_at-b.ensures, c.byte_at-m.ensures, c.byte_at-n.ensures))
