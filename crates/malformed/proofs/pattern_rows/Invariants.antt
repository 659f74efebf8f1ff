use mathlib.Core.Path.{◌≡◌}
use lib.ListN.{drop}
use Rattle.malformed.specs.Walk.{word_rows}
use Rattle.malformed.proofs.pattern_rows.Given as goal

abbrev pub invariant-loop-w : goal.invariant-loop-w
invariant-loop-w l = word_rows l.query l.tokens l.words ≡ word_rows l.query l.tokens (drop l.w-index l.words)
