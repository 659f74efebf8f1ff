use mathlib.Core.Path.{refl}
use native.Mathlib.Omega.{arith}
use Rattle.definition.specs.Everything.{everything}
use Rattle.columns.specs.Columns.{new_tuple}
use Rattle.eval.specs.Nodes.{operands, atom_of, node, decode, node_at}
use Rattle.eval.specs.Meaning.{choices, readings, meaning}
use Rattle.assignment_test.proofs.few.Goals as goal

pub assigns-requires : goal.assigns-requires
unfolding everything new_tuple operands atom_of node decode node_at choices readings meaning
assigns-requires c = record { u_bound = (omega arith, omega arith, refl, omega arith); len_value = refl }

pub assigns-requires-2 : goal.assigns-requires-2
unfolding everything new_tuple operands atom_of node decode node_at choices readings meaning
assigns-requires-2 c = record { u_bound = (omega arith, omega arith, refl, omega arith); len_value = refl }

pub assigns-requires-3 : goal.assigns-requires-3
unfolding everything new_tuple operands atom_of node decode node_at choices readings meaning
assigns-requires-3 c = record { u_bound = (omega arith, omega arith, refl, omega arith); len_value = refl }
