use borrow.Author.Rules.{rules}
use mathlib.Core.Path.{refl}
use Rattle.definition.specs.Everything.{everything}
use Rattle.element_test.proofs.first_places.Goals as goal

pub in_facts-requires : goal.in_facts-requires
unfolding everything
in_facts-requires c = record { place = refl; bytes = refl; inside = search rules }

pub in_facts-requires-2 : goal.in_facts-requires-2
unfolding everything
in_facts-requires-2 c = record { place = refl; bytes = refl; inside = search rules }

pub in_facts-requires-3 : goal.in_facts-requires-3
unfolding everything
in_facts-requires-3 c = record { place = refl; bytes = refl; inside = search rules }

pub in_facts-requires-4 : goal.in_facts-requires-4
unfolding everything
in_facts-requires-4 c = record { place = refl; bytes = refl; inside = search rules }

pub in_query-requires : goal.in_query-requires
unfolding everything
in_query-requires c = record { place = refl; bytes = refl; inside = search rules }

pub in_query-requires-2 : goal.in_query-requires-2
unfolding everything
in_query-requires-2 c = record { place = refl; bytes = refl; inside = search rules }
