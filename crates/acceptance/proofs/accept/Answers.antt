use mathlib.Core.Path.{◌≡◌}
use native.Mathlib.Omega.{arith}
use lib.ListN.{length, take}
use lib.Seq.{length-take-le}
use Rattle.std.proofs.lemmas.Result.{err_from_is_err_and}
use Rattle.facts.proofs.FactLaws.{room_left, no_room_left}
use Rattle.acceptance.proofs.Accepting.{facts_in, facts_wrong, query_right, query_in, query_wrong, with_room, patterns_wrong, patterns_right, names_wrong, names_right, rows_wrong, rows_right, strings_full, strings_in}
use Rattle.acceptance.proofs.accept.Goals as goal

pub returns-in_err-c : goal.returns-in_err-c
returns-in_err-c c =
    let p = err_from_is_err_and c.from_residual.result c.from_residual.ensures.1 in
    rw (p.1, p.2) (facts_wrong c.args.facts.now c.args.query.now c.args.relations.now c.read_facts.new.relations c.args.places.now c.read_facts.new.universe _ c.requires.relations_len.0 c.requires.relations_len.1 c.read_facts.ensures _ _ _ _ _ c.in_err-c.was)

pub returns-in_err-t : goal.returns-in_err-t
returns-in_err-t c =
    let p = err_from_is_err_and c.from_residual-in_err-t.result c.from_residual-in_err-t.ensures.1 in
    let f = facts_in c.args.facts.now c.args.query.now c.args.relations.now c.read_facts.new.relations c.args.places.now c.read_facts.new.universe _ c.requires.relations_len.0 c.requires.relations_len.1 c.read_facts.ensures _ c.in_ok-c.was in
    rw (p.1, p.2) (query_wrong c.args.facts.now c.args.query.now c.read_facts.new.relations c.read_facts.new.universe c.in_ok-c.c f c.read_query.new.tokens c.read_query.new.words _ _ _ _ _ _ c.in_err-t.was c.read_query.ensures)

pub returns-in_err-pattern_rows : goal.returns-in_err-pattern_rows
returns-in_err-pattern_rows c =
    let p = err_from_is_err_and c.from_residual-in_err-pattern_rows.result c.from_residual-in_err-pattern_rows.ensures.1 in
    let f = facts_in c.args.facts.now c.args.query.now c.args.relations.now c.read_facts.new.relations c.args.places.now c.read_facts.new.universe _ c.requires.relations_len.0 c.requires.relations_len.1 c.read_facts.ensures _ c.in_ok-c.was in
    let g = query_right c.args.query.now c.read_query.new.tokens c.read_query.new.words _ c.read_query.ensures _ _ c.in_ok-t.was in
    let q = query_in c.args.query.now c.read_query.new.tokens c.read_query.new.words _ c.read_query.ensures _ _ c.in_ok-t.was (omega (arith, c.requires.tokens_len)) (omega (arith, c.requires.tokens_len)) in
    rw (p.1, p.2) (with_room c.args.facts.now c.args.query.now c.read_query.new.tokens c.read_query.new.words _ _ _ _ c.in_ok-t.t c.in_ok-t.m (omega (arith, g.few)) (omega (arith, g.few, g.paid)) (patterns_wrong c.args.facts.now c.args.query.now c.read_facts.new.relations c.read_facts.new.universe c.in_ok-c.c f _ _ _ _ q _ c.pattern_rows.ensures _ _ _ _ _ c.in_err-pattern_rows.was))

pub returns-in_err-r : goal.returns-in_err-r
returns-in_err-r c =
    let p = err_from_is_err_and c.from_residual-in_err-r.result c.from_residual-in_err-r.ensures.1 in
    let f = facts_in c.args.facts.now c.args.query.now c.args.relations.now c.read_facts.new.relations c.args.places.now c.read_facts.new.universe _ c.requires.relations_len.0 c.requires.relations_len.1 c.read_facts.ensures _ c.in_ok-c.was in
    let g = query_right c.args.query.now c.read_query.new.tokens c.read_query.new.words _ c.read_query.ensures _ _ c.in_ok-t.was in
    let q = query_in c.args.query.now c.read_query.new.tokens c.read_query.new.words _ c.read_query.ensures _ _ c.in_ok-t.was (omega (arith, c.requires.tokens_len)) (omega (arith, c.requires.tokens_len)) in
    let w = patterns_right c.args.facts.now c.args.query.now c.read_facts.new.relations c.read_facts.new.universe c.in_ok-c.c f _ _ _ _ q _ c.pattern_rows.ensures c.in_ok-pattern_rows.was in
    rw (p.1, p.2) (with_room c.args.facts.now c.args.query.now c.read_query.new.tokens c.read_query.new.words _ _ _ _ c.in_ok-t.t c.in_ok-t.m (omega (arith, g.few)) (omega (arith, g.few, g.paid)) (names_wrong c.args.facts.now c.args.query.now c.read_facts.new.relations c.read_facts.new.universe c.in_ok-c.c f _ _ _ _ w _ _ _ _ _ _ c.in_err-r.was c.resolve.ensures.kinds))

pub returns-in_err-program_rows : goal.returns-in_err-program_rows
returns-in_err-program_rows c =
    let p = err_from_is_err_and c.from_residual-in_err-program_rows.result c.from_residual-in_err-program_rows.ensures.1 in
    let f = facts_in c.args.facts.now c.args.query.now c.args.relations.now c.read_facts.new.relations c.args.places.now c.read_facts.new.universe _ c.requires.relations_len.0 c.requires.relations_len.1 c.read_facts.ensures _ c.in_ok-c.was in
    let g = query_right c.args.query.now c.read_query.new.tokens c.read_query.new.words _ c.read_query.ensures _ _ c.in_ok-t.was in
    let q = query_in c.args.query.now c.read_query.new.tokens c.read_query.new.words _ c.read_query.ensures _ _ c.in_ok-t.was (omega (arith, c.requires.tokens_len)) (omega (arith, c.requires.tokens_len)) in
    let w = patterns_right c.args.facts.now c.args.query.now c.read_facts.new.relations c.read_facts.new.universe c.in_ok-c.c f _ _ _ _ q _ c.pattern_rows.ensures c.in_ok-pattern_rows.was in
    let k = names_right c.args.facts.now c.args.query.now c.read_facts.new.relations c.read_facts.new.universe c.in_ok-c.c f _ _ _ _ w c.resolve.new.ids c.resolve.new.known c.resolve.new.relations _ _ c.in_ok-r.was c.resolve.ensures.kinds (omega (arith, c.resolve.auto.relations, c.read_facts.auto.relations, c.requires.relations_len)) c.resolve.ensures.numbers (omega (arith, f.read.1.room, f.sixteen)) in
    rw (p.1, p.2) (with_room c.args.facts.now c.args.query.now c.read_query.new.tokens c.read_query.new.words _ _ _ _ c.in_ok-t.t c.in_ok-t.m (omega (arith, g.few)) (omega (arith, g.few, g.paid)) (rows_wrong c.args.facts.now c.args.query.now c.read_facts.new.relations c.read_facts.new.universe c.in_ok-c.c f _ _ _ _ w c.resolve.new.ids c.resolve.new.known c.resolve.new.relations c.in_ok-r.r k.kinds k.names _ _ _ c.in_err-program_rows.was c.program_rows.ensures))

pub returns-in_err-u : goal.returns-in_err-u
returns-in_err-u c =
    let p = err_from_is_err_and c.from_residual-in_err-u.result c.from_residual-in_err-u.ensures.1 in
    let f = facts_in c.args.facts.now c.args.query.now c.args.relations.now c.read_facts.new.relations c.args.places.now c.read_facts.new.universe _ c.requires.relations_len.0 c.requires.relations_len.1 c.read_facts.ensures _ c.in_ok-c.was in
    let g = query_right c.args.query.now c.read_query.new.tokens c.read_query.new.words _ c.read_query.ensures _ _ c.in_ok-t.was in
    let q = query_in c.args.query.now c.read_query.new.tokens c.read_query.new.words _ c.read_query.ensures _ _ c.in_ok-t.was (omega (arith, c.requires.tokens_len)) (omega (arith, c.requires.tokens_len)) in
    let w = patterns_right c.args.facts.now c.args.query.now c.read_facts.new.relations c.read_facts.new.universe c.in_ok-c.c f _ _ _ _ q _ c.pattern_rows.ensures c.in_ok-pattern_rows.was in
    let k = names_right c.args.facts.now c.args.query.now c.read_facts.new.relations c.read_facts.new.universe c.in_ok-c.c f _ _ _ _ w c.resolve.new.ids c.resolve.new.known c.resolve.new.relations _ _ c.in_ok-r.was c.resolve.ensures.kinds (omega (arith, c.resolve.auto.relations, c.read_facts.auto.relations, c.requires.relations_len)) c.resolve.ensures.numbers (omega (arith, f.read.1.room, f.sixteen)) in
    let right = rows_right c.args.facts.now c.args.query.now c.read_facts.new.relations c.read_facts.new.universe c.in_ok-c.c f _ _ _ _ w c.resolve.new.ids c.resolve.new.known c.resolve.new.relations c.in_ok-r.r k.kinds k.names _ c.in_ok-program_rows.was c.program_rows.ensures in
    let full = no_room_left c.map_err.result c.enter_strings.result c.map_err.ensures.cases _ c.in_err-u.was in
    rw (p.1, p.2, full.2) (with_room c.args.facts.now c.args.query.now c.read_query.new.tokens c.read_query.new.words _ _ _ _ c.in_ok-t.t c.in_ok-t.m (omega (arith, g.few)) (omega (arith, g.few, g.paid)) (strings_full c.args.facts.now c.args.query.now c.read_facts.new.relations c.read_facts.new.universe c.in_ok-c.c f _ _ _ _ w c.resolve.new.ids c.resolve.new.known c.resolve.new.relations c.in_ok-r.r k.kinds k.names right _ full.0 _ full.1 (c.enter_strings.ensures _ _ q.parsed)))

pub returns : goal.returns
returns c =
    let f = facts_in c.args.facts.now c.args.query.now c.args.relations.now c.read_facts.new.relations c.args.places.now c.read_facts.new.universe _ c.requires.relations_len.0 c.requires.relations_len.1 c.read_facts.ensures _ c.in_ok-c.was in
    let g = query_right c.args.query.now c.read_query.new.tokens c.read_query.new.words _ c.read_query.ensures _ _ c.in_ok-t.was in
    let q = query_in c.args.query.now c.read_query.new.tokens c.read_query.new.words _ c.read_query.ensures _ _ c.in_ok-t.was (omega (arith, c.requires.tokens_len)) (omega (arith, c.requires.tokens_len)) in
    let w = patterns_right c.args.facts.now c.args.query.now c.read_facts.new.relations c.read_facts.new.universe c.in_ok-c.c f _ _ _ _ q _ c.pattern_rows.ensures c.in_ok-pattern_rows.was in
    let k = names_right c.args.facts.now c.args.query.now c.read_facts.new.relations c.read_facts.new.universe c.in_ok-c.c f _ _ _ _ w c.resolve.new.ids c.resolve.new.known c.resolve.new.relations _ _ c.in_ok-r.was c.resolve.ensures.kinds (omega (arith, c.resolve.auto.relations, c.read_facts.auto.relations, c.requires.relations_len)) c.resolve.ensures.numbers (omega (arith, f.read.1.room, f.sixteen)) in
    let right = rows_right c.args.facts.now c.args.query.now c.read_facts.new.relations c.read_facts.new.universe c.in_ok-c.c f _ _ _ _ w c.resolve.new.ids c.resolve.new.known c.resolve.new.relations c.in_ok-r.r k.kinds k.names _ c.in_ok-program_rows.was c.program_rows.ensures in
    let in-room = room_left c.map_err.result c.enter_strings.result c.map_err.ensures.cases _ c.in_ok-u.was in
    let few : length (take c.in_ok-t.t c.read_query.new.tokens) ≡ c.in_ok-t.t = length-take-le _ _ (omega (arith, g.few)) in
    let paid : length (take c.in_ok-t.m c.read_query.new.words) ≡ c.in_ok-t.m = length-take-le _ _ (omega (arith, g.few, g.paid)) in
    rw (← few, ← paid) (with_room c.args.facts.now c.args.query.now c.read_query.new.tokens c.read_query.new.words _ _ _ _ c.in_ok-t.t c.in_ok-t.m (omega (arith, g.few)) (omega (arith, g.few, g.paid)) (strings_in c.args.facts.now c.args.query.now c.read_facts.new.relations c.read_facts.new.universe c.in_ok-c.c f _ _ _ _ w c.resolve.new.ids c.resolve.new.known c.resolve.new.relations c.in_ok-r.r k.kinds k.names right _ _ _ in-room (c.enter_strings.ensures _ _ q.parsed) (omega arith)))
