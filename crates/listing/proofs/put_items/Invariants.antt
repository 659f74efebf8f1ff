use mathlib.Core.Bool.{true}
use lib.ListN.{take}
use Rattle.definition.specs.Text.{gather}
use Rattle.lines.specs.Put.{Put}
use Rattle.listing.specs.Listed.{item_text}
use Rattle.listing.proofs.put_items.Given as goal

abbrev pub invariant-loop-w : goal.invariant-loop-w
invariant-loop-w l = Put true l.initial.out l.at (gather (item_text l.item) (take l.w-index l.w-items)) l.p l.out
