use native.Mathlib.Omega.{arith}
use Rattle.matching.proofs.SetLaws.{more_none, more_fixed, more_again}
use Rattle.matching.proofs.+more_turns.Goals as goal

pub returns-then-k-eq0 : goal.returns-then-k-eq0
returns-then-k-eq0 t c = λ o e u. more_none o c.args.k c.if-k-eq0.true

pub returns-then-next-set : goal.returns-then-next-set
returns-then-next-set t c = λ o e u. more_fixed o c.args.k c.image.result c.if-next-set.true (c.image.ensures o e u)

pub overflow_sub-k : goal.overflow_sub-k
overflow_sub-k t c = omega (arith, c.if-k-eq0.false)

pub more_turns-requires : goal.more_turns-requires
more_turns-requires t c = (omega (arith, c.if-k-eq0.false), tt)

pub returns : goal.returns
returns t c = λ o e u. more_again o c.args.k c.image.result c.more_turns.result c.if-k-eq0.false (c.image.ensures o e u) (c.more_turns.ensures o e u)
