use native.Mathlib.Omega.{arith}
use Rattle.chains.proofs.Search.{search_found, search_none}
use Rattle.chains.proofs.find_chain.Goals as goal

pub returns-then-d-lt64 : goal.returns-then-d-lt64
returns-then-d-lt64 c = let a = c.args in
    search_found a.rows.now a.a a.b (omega arith) (omega arith) (omega arith) _ c.levels.ensures
    _ _ c.row_at.ensures c.first_met-d.ensures a.buffer.now (omega arith) _ c.walk.ensures

pub returns : goal.returns
returns c = let a = c.args in
    search_none a.rows.now a.a a.b (omega arith) (omega arith) (omega arith) _ c.levels.ensures
    _ _ c.row_at.ensures c.first_met-d.ensures a.buffer.now (omega arith)
