use mathlib.Core.Path.{sym}
use lib.Seq.{length-take-le}
use Rattle.definition.specs.Limits.{document_01}
use Rattle.definition.proofs.JoinCalls.{second_refused}
use Rattle.join.specs.United.{one}
use Rattle.join.proofs.Stages.{ready, second_fails, relations_there, elements_there, united}
use Rattle.join.proofs.join_second.Goals as goal

pub read_second-requires : goal.read_second-requires
read_second-requires c = let a = c.args in
    let t = c.turn in
    let t₂ = c.turn-2 in
    ready a.first.now a.second.now a.relations.now a.universe.now a.c c.requires _ _ t.ensures t₂.ensures

pub slice_bounds-write_union-end : goal.slice_bounds-write_union-end
slice_bounds-write_union-end c =
    let a = c.args in
    let t = c.turn in
    let t₂ = c.turn-2 in
    relations_there a.first.now a.second.now a.relations.now a.universe.now a.c c.requires _ _ t.ensures t₂.ensures _ _ c.in-Ok.d c.in-Ok.ensures

pub slice_bounds-write_union-end-in-Ok : goal.slice_bounds-write_union-end-in-Ok
slice_bounds-write_union-end-in-Ok c =
    let a = c.args in
    let t = c.turn in
    let t₂ = c.turn-2 in
    sym (length-take-le _ _ (relations_there a.first.now a.second.now a.relations.now a.universe.now a.c c.requires _ _ t.ensures t₂.ensures _ _ c.in-Ok.d c.in-Ok.ensures))

pub slice_bounds-write_union-end-in-Ok-2 : goal.slice_bounds-write_union-end-in-Ok-2
slice_bounds-write_union-end-in-Ok-2 c =
    let a = c.args in
    let t = c.turn in
    let t₂ = c.turn-2 in
    elements_there a.first.now a.second.now a.relations.now a.universe.now a.c c.requires _ _ t.ensures t₂.ensures _ _ c.in-Ok.d c.in-Ok.ensures

pub slice_bounds-write_union-end-in-Ok-3 : goal.slice_bounds-write_union-end-in-Ok-3
slice_bounds-write_union-end-in-Ok-3 c =
    let a = c.args in
    let t = c.turn in
    let t₂ = c.turn-2 in
    sym (length-take-le _ _ (elements_there a.first.now a.second.now a.relations.now a.universe.now a.c c.requires _ _ t.ensures t₂.ensures _ _ c.in-Ok.d c.in-Ok.ensures))

pub write_union-requires : goal.write_union-requires
write_union-requires c =
    let a = c.args in
    let t = c.turn in
    let t₂ = c.turn-2 in
    united a.first.now a.second.now a.relations.now a.universe.now a.c c.requires _ _ t.ensures t₂.ensures _ _ c.in-Ok.d c.in-Ok.ensures

pub returns-in-Err : goal.returns-in-Err
returns-in-Err c =
    let a = c.args in
    let t = c.turn in
    let t₂ = c.turn-2 in
    second_refused document_01 a.first.now a.second.now a.output.now (one a.first.now a.second.now) c.requires.read c.in-Err.q (second_fails a.first.now a.second.now a.relations.now a.universe.now a.c c.requires _ _ t.ensures t₂.ensures c.read_second.new.relations c.read_second.new.universe c.in-Err.q c.in-Err.ensures)
