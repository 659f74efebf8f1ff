use mathlib.Core.Path.{ap, ◌∙◌}
use Rattle.definition.specs.Everything.{everything}
use Rattle.parts_test.specs.Counts.{count_of}
use Rattle.parts_test.proofs.enter.Goals as goal

pub enter_hinted-requires : goal.enter_hinted-requires
unfolding everything
enter_hinted-requires c = c.requires

pub returns-then-by_halves : goal.returns-then-by_halves
unfolding everything
returns-then-by_halves c = let f = c.enter_hinted in record { count = c.count.ensures ∙ ap count_of f.ensures.value; words = f.ensures.words }

pub returns : goal.returns
unfolding everything
returns c = let f = c.enter_part in record { count = c.count-2.ensures ∙ ap count_of f.ensures.value; words = f.ensures.words }
