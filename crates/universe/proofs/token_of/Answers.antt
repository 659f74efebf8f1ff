use mathlib.Core.Path.{sym}
use lib.ListN.{get_or-eq_default}
use Rattle.universe.proofs.token_of.Goals as goal

pub returns-else-t-tokens : goal.returns-else-t-tokens
returns-else-t-tokens c = sym (get_or-eq_default c.args.tokens.now 0 c.if-t-tokens.false)
