use mathlib.Core.Path.{sym}
use native.Mathlib.Omega.{arith}
use Rattle.terms.proofs.TokenLaws.{kind_past, kind_here}
use Rattle.terms.proofs.kind_at.Goals as goal

pub returns-then-p-tokens : goal.returns-then-p-tokens
returns-then-p-tokens c = sym (kind_past c.args.tokens.now c.args.p (omega arith))

pub returns : goal.returns
returns c = sym (kind_here c.args.tokens.now c.args.p (omega arith))
