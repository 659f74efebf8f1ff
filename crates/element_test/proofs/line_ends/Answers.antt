use borrow.Author.Rules.{rules}
use mathlib.Core.Path.{refl}
use Rattle.definition.specs.Everything.{everything}
use Rattle.element_test.proofs.line_ends.Goals as goal

pub in_facts-requires : goal.in_facts-requires
unfolding everything
in_facts-requires c = record { place = refl; bytes = refl; inside = search rules }
