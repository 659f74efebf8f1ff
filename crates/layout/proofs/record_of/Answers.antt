use Rattle.layout.proofs.record_of.Goals as goal

pub returns : goal.returns
returns c = rw c.text_of.ensures
