use native.Mathlib.Omega.{arith}
use Rattle.matching.proofs.SetLaws.{least_none, least_fixed, least_again}
use Rattle.matching.proofs.+least_turns.Goals as goal

pub returns-then-k-eq0 : goal.returns-then-k-eq0
returns-then-k-eq0 t c = λ o e u. least_none o c.args.k c.if-k-eq0.true

pub returns-then-next-set : goal.returns-then-next-set
returns-then-next-set t c = λ o e u. least_fixed o c.args.k c.image-next.result c.if-next-set.true (c.image-next.ensures o e u)

pub overflow_sub-k : goal.overflow_sub-k
overflow_sub-k t c = omega (arith, c.if-k-eq0.false)

pub least_turns-requires : goal.least_turns-requires
least_turns-requires t c = (omega (arith, c.if-k-eq0.false), tt)

pub returns : goal.returns
returns t c = λ o e u. least_again o c.args.k c.image-next.result c.least_turns.result c.if-k-eq0.false (c.image-next.ensures o e u) (c.least_turns.ensures o e u)
