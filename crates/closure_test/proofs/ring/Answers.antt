use mathlib.Core.Path.{refl}
use native.Mathlib.Omega.{arith}
use Rattle.closure.proofs.Laws.{narrow_rows}
use Rattle.definition.specs.Everything.{everything}
use Rattle.closure_test.proofs.ring.Goals as goal

pub works-requires : goal.works-requires
unfolding everything
works-requires c = record { m_in_bounds = (omega arith, narrow_rows _ _ tt); rows_value = refl }

pub works-requires-2 : goal.works-requires-2
unfolding everything
works-requires-2 c = record { m_in_bounds = (omega arith, narrow_rows _ _ tt); rows_value = refl }

pub works-requires-3 : goal.works-requires-3
unfolding everything
works-requires-3 c = record { m_in_bounds = (omega arith, narrow_rows _ _ tt); rows_value = refl }
