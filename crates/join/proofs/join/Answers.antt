use mathlib.Core.Path.{refl}
use Rattle.definition.specs.Limits.{document_01}
use Rattle.definition.proofs.JoinCalls.{first_refused}
use Rattle.join.proofs.Stages.{first_read}
use Rattle.join.proofs.join.Goals as goal

pub join_second-requires : goal.join_second-requires
join_second-requires c =
    let a = c.args in
    let m = c.in-Ok.ensures in
    first_read a.first.now a.second.now _ _ _ _ c.in-Ok.c refl refl m

pub returns-in-Err : goal.returns-in-Err
returns-in-Err c =
    let a = c.args in
    first_refused document_01 a.first.now a.second.now a.output.now c.in-Err.q c.in-Err.ensures.0
