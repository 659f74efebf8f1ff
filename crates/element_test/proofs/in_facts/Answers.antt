use Rattle.element_test.proofs.Places.{part_is, value_is, address_is, text_is}
use Rattle.element_test.proofs.in_facts.Goals as goal

pub expect-requires : goal.expect-requires
expect-requires c = c.same.ensures.1 (value_is c.requires c.element-part.ensures.text)

pub is_part-requires : goal.is_part-requires
is_part-requires c = let e = c.element-part.ensures in record { n_in_bounds = c.requires.inside; part_value = part_is c.requires e.text; ref_ptr_value = address_is c.requires c.args.facts.ref_ptr c.args.query.ref_ptr e.place }

pub has_text-requires : goal.has_text-requires
has_text-requires c = text_is c.requires
