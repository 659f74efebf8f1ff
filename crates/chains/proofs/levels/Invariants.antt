use Rattle.chains.proofs.Loops.{Filling}
use Rattle.chains.proofs.levels.Given as goal

abbrev pub invariant-loop-level : goal.invariant-loop-level
invariant-loop-level l = Filling l.rows l.b l.level-index l.near l.w
