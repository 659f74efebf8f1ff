use borrow.Author.Rules.{rules}
use mathlib.Core.Path.{refl}
use Rattle.definition.specs.Everything.{everything}
use Rattle.element_test.proofs.left_hand_strings.Goals as goal

pub in_query-requires : goal.in_query-requires
unfolding everything
in_query-requires c = record { place = refl; bytes = refl; inside = search rules }

pub in_query-requires-2 : goal.in_query-requires-2
unfolding everything
in_query-requires-2 c = record { place = refl; bytes = refl; inside = search rules }
