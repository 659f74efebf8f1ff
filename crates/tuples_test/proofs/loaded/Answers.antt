use mathlib.Core.Path.{refl}
use native.Mathlib.Omega.{arith}
use Rattle.definition.specs.Tables.{bit, word}
use Rattle.bits.specs.Bits.{with_bit}
use Rattle.tuples.specs.Places.{with_tuple}
use Rattle.tuples_test.proofs.loaded.Goals as goal

pub loads-requires : goal.loads-requires
unfolding bit word with_bit with_tuple
loads-requires c = record { n_bound = (omega arith, omega arith); t_value = refl }

pub loads-requires-2 : goal.loads-requires-2
unfolding bit word with_bit with_tuple
loads-requires-2 c = record { n_bound = (omega arith, omega arith); t_value = refl }

pub loads-requires-3 : goal.loads-requires-3
unfolding bit word with_bit with_tuple
loads-requires-3 c = record { n_bound = (omega arith, omega arith); t_value = refl }
