use Rattle.texts.proofs.WordTable.{Unlisted}
use Rattle.texts.proofs.reserved_word.Given as goal

abbrev pub invariant-loop-k : goal.invariant-loop-k
invariant-loop-k l = Unlisted l.w l.k
