use mathlib.Core.Path.{refl}
use Rattle.definition.specs.Everything.{everything}
use Rattle.parts.specs.Packed.{text_of}
use Rattle.eval.specs.Nodes.{operands, atom_of, node, decode, node_at}
use Rattle.eval.specs.Meaning.{choices, readings, total, tally, meaning}
use Rattle.lines.specs.Lines.{shown_at, line_of}
use Rattle.prints.specs.Items.{said, labels, row_holds, figure_at, rows_at, item_at, printed}
use Rattle.prints_test.proofs.prints_amounts.Goals as goal

pub prints-requires : goal.prints-requires
unfolding everything operands atom_of node decode node_at choices readings total tally meaning text_of shown_at line_of said labels row_holds figure_at rows_at item_at printed
prints-requires c = record { end = refl; bytes = refl }

pub prints-requires-2 : goal.prints-requires-2
unfolding everything operands atom_of node decode node_at choices readings total tally meaning text_of shown_at line_of said labels row_holds figure_at rows_at item_at printed
prints-requires-2 c = record { end = refl; bytes = refl }
