-- How two texts stand to each other in byte order.
use Rattle.std.specs.Prelude.{if◌then◌else◌}
use Rattle.std.specs.declared.cmp.Ordering.{Ordering}
use Rattle.std.specs.declared.cmp.Ordering.TheVariants.{Less, Equal, Greater}
use Rattle.definition.specs.Text.{Text, same, earlier}

unfoldable pub order : Text → Text → Ordering
order s t = if same s t then Equal else if earlier s t then Less else Greater
