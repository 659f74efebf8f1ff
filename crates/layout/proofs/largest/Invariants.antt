use Rattle.layout.proofs.SizeLaws.{Seeking}
use Rattle.layout.proofs.largest.Given as goal

abbrev pub invariant-loop-w : goal.invariant-loop-w
invariant-loop-w l = Seeking l.u l.relations l.most l.w-index
