use Rattle.std.proofs.lemmas.Result.{err_from_is_err_and}
use Rattle.statements.proofs.ProgramLaws.{program_refused, program_ends, program_longer}
use Rattle.statements.proofs.parse.Goals as goal

pub returns-in_err-q : goal.returns-in_err-q
returns-in_err-q c = let p = err_from_is_err_and c.from_residual.result c.from_residual.ensures.1 in rw (p.1, p.2) (program_refused c.sequence.ensures c.in_err-q.was)

pub returns-then-q-tokens : goal.returns-then-q-tokens
returns-then-q-tokens c = program_ends c.sequence.ensures c.in_ok-q.was c.if-q-tokens.true

pub returns : goal.returns
returns c = program_longer c.sequence.ensures c.in_ok-q.was c.if-q-tokens.false
