use mathlib.Core.Path.{refl}
use Rattle.closure.proofs.Laws.{narrow_rows}
use Rattle.definition.specs.Everything.{everything}
use Rattle.closure_test.proofs.main.Goals as goal

pub closes-requires : goal.closes-requires
unfolding everything
closes-requires c = record { rows = narrow_rows _ _ tt; rows_value = refl }

pub closes-requires-2 : goal.closes-requires-2
unfolding everything
closes-requires-2 c = record { rows = narrow_rows _ _ tt; rows_value = refl }
