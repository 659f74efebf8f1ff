use mathlib.Core.Path.{◌≡◌, sym, ap, ◌∙◌}
use Prim.Native.Nat.{◌<◌, ◌≤◌}
use lib.ListN.{length, get_or}
use native.Mathlib.Omega.{arith}
use Rattle.std.proofs.Common.{rules}
use Rattle.std.proofs.lemmas.Option.{gets}
use Rattle.texts.specs.Classes.{is_of}
use Rattle.texts.proofs.RunLaws.{run_step, run_stop, run_out}
use Rattle.texts.proofs.run_end.Goals as goal

pub returns-then-not-of_class-clause-value : goal.returns-then-not-of_class-clause-value
returns-then-not-of_class-clause-value c =
    let l : c.loop-b.i < length c.args.s.now = grind (rules, gets) in
    let b : get_or c.args.s.now c.loop-b.i 0 ≡ c.in-Some.field-0.now = grind (rules, gets) in
    sym (c.loop-b.invariant.2 ∙ run_stop _ _ c.loop-b.i l (ap (is_of c.args.k) b ∙ sym c.of_class.ensures ∙ c.if-not-of_class.true))

pub loop-b-preserved : goal.loop-b-preserved
loop-b-preserved c =
    let l : c.loop-b.i < length c.args.s.now = grind (rules, gets) in
    let b : get_or c.args.s.now c.loop-b.i 0 ≡ c.in-Some.field-0.now = grind (rules, gets) in
    (omega (arith, c.loop-b.invariant.0), omega (arith, l), c.loop-b.invariant.2 ∙ run_step _ _ c.loop-b.i l (ap (is_of c.args.k) b ∙ sym c.of_class.ensures ∙ c.if-not-of_class.false))

pub returns-clause-value : goal.returns-clause-value
returns-clause-value c =
    let l : length c.args.s.now ≤ c.loop-b.i = grind (rules, gets) in
    sym (c.loop-b.invariant.2 ∙ run_out _ _ c.loop-b.i l)
