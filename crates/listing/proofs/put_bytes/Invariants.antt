use mathlib.Core.Bool.{true}
use lib.ListN.{take}
use Rattle.definition.specs.Text.{gather}
use Rattle.lines.specs.Put.{Put}
use Rattle.listing.specs.Listed.{byte_text}
use Rattle.listing.proofs.put_bytes.Given as goal

abbrev pub invariant-loop-x : goal.invariant-loop-x
invariant-loop-x l = Put true l.initial.out l.at (gather byte_text (take l.x-index l.buffer)) l.p l.out
