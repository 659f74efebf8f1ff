use mathlib.Core.List.{[], ◌∷◌}
use native.Mathlib.Omega.{arith}
use lib.ListN.{take}
use Rattle.lines.specs.Lines.{texts, line_of}
use Rattle.unions.proofs.Laying.{laid_measured, laid_past, laid_put}
use Rattle.unions.proofs.lay_line.Goals as goal

pub returns-then-out-p : goal.returns-then-out-p
returns-then-out-p c = let s = c.line_size.ensures in
    record { value = laid_past s.value c.if-out-p.true; within = omega (arith, s.within) }

pub returns-then-write : goal.returns-then-write
returns-then-write c = let s = c.line_size.ensures in
    let a = c.args in
    let x = line_of (texts a.facts.now a.query.now a.places.now) (a.name.now ∷ []) (take a.n a.t) in
    record { value = laid_put {x = x} s.value c.if-write.true c.put_labelled.ensures; within = omega (arith, s.within) }

pub returns : goal.returns
returns c = let s = c.line_size.ensures in
    record { value = laid_measured s.value c.if-write.false; within = omega (arith, s.within) }
