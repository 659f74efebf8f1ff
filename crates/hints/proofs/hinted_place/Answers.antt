use Rattle.hints.proofs.Found.{found_at}
use Rattle.hints.proofs.hinted_place.Goals as goal

pub returns-then-k-parts : goal.returns-then-k-parts
returns-then-k-parts c = record { value = found_at _ _ _ _ _ _ c.text_of-t.ensures c.requires c.if-k-parts.true (c.proposed-k.ensures c.if-k-parts.true); within = c.if-k-parts.true }
