use mathlib.Core.Path.{◌∙◌, ap}
use native.Mathlib.Omega.{arith}
use Rattle.std.proofs.lemmas.Result.{err_from_is_err_and}
use Rattle.parts.proofs.HeldLaws.{held_length}
use Rattle.universe.proofs.Entering.{entering_start, entering_next, entering_full, entering_end}
use Rattle.universe.proofs.enter_strings.Goals as goal

pub loop-w-init : goal.loop-w-init
loop-w-init c = entering_start c.args.facts.now c.args.query.now c.args.tokens.now c.args.words.now c.args.places.now c.args.n (omega (arith, c.requires))

pub enter_string-requires : goal.enter_string-requires
enter_string-requires c = omega (arith, c.loop-w.invariant.held.room, held_length c.loop-w.invariant.held)

pub returns-in_err-count : goal.returns-in_err-count
returns-in_err-count c = let l = c.loop-w in
    let p = err_from_is_err_and c.from_residual.result c.from_residual.ensures.1 in
    rw (p.1, p.2) (entering_full c.args.facts.now c.args.query.now c.args.tokens.now c.args.words.now c.args.places.now c.args.n l.places l.count l.w-index l.invariant c.loop-w-test.true _ _ _ c.in_err-count.was c.enter_string.ensures c.requires.1)

pub loop-w-preserved : goal.loop-w-preserved
loop-w-preserved c = let l = c.loop-w in
    entering_next c.args.facts.now c.args.query.now c.args.tokens.now c.args.words.now c.args.places.now c.args.n l.places l.count l.w-index l.invariant c.loop-w-test.true _ _ _ c.in_ok-count.was c.enter_string.ensures

pub returns : goal.returns
returns c = let l = c.loop-w in entering_end c.args.facts.now c.args.query.now c.args.tokens.now c.args.words.now c.args.places.now c.args.n l.places l.count l.w-index l.invariant c.loop-w-test.false c.requires.1
