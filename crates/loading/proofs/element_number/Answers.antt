use Rattle.loading.proofs.Tuples.{number_at}
use Rattle.loading.proofs.element_number.Goals as goal

pub returns : goal.returns
returns c = λ s. number_at _ _ _ c.args.a c.args.x c.requires.2 _ c.value_start.ensures.0 _ c.part-t.ensures _ (c.hinted_position.ensures s)
