use native.Mathlib.Nat.{add-sub_cancel_left}
use mathlib.Core.Path.{◌∙◌}
use Rattle.element_test.proofs.is_part.Goals as goal

pub expect-requires : goal.expect-requires
expect-requires c = c.same.ensures.1 (c.requires.part_value ∙ simp add-sub_cancel_left)
