use native.Mathlib.Omega.{arith}
use Rattle.parser.proofs.QueryLaws.{places, tokens_read, tokens_refused}
use Rattle.parser.proofs.read_tokens.Goals as goal

pub parse-requires : goal.parse-requires
parse-requires c = (c.requires.few, (omega (arith, c.requires.few, c.requires.room), places _ c.requires))

pub returns-in-Ok : goal.returns-in-Ok
returns-in-Ok c = tokens_read _ c.requires c.parse.ensures c.in-Ok.is

pub returns-in-Err : goal.returns-in-Err
returns-in-Err c = tokens_refused _ c.requires c.parse.ensures c.in-Err.is c.refusal.ensures
