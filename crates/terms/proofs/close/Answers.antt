use native.Mathlib.Omega.{arith}
use mathlib.Core.Path.{refl, sym, ◌∙◌}
use borrow.Author.Tests.{eq-eqb, ne_eqb}
use Rattle.terms.proofs.TokenLaws.{kind_within}
use Rattle.terms.proofs.close.Goals as goal

pub overflow_add-result : goal.overflow_add-result
overflow_add-result c = let l = kind_within c.args.tokens.now c.in_ok-q.q (omega (arith, c.kind_at.ensures)) in omega arith
