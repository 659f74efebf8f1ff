use Rattle.turning.proofs.Turning.{Turning}
use Rattle.turning.proofs.turn.Given as goal

abbrev pub invariant-loop-w : goal.invariant-loop-w
invariant-loop-w l = Turning l.initial.words l.words l.w-index
