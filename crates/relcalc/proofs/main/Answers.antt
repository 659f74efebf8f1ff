use mathlib.Core.Path.{sym}
use native.Mathlib.Omega.{arith}
use lib.Seq.{length-take-le}
use Rattle.relcalc.proofs.main.Goals as goal

pub slice_bounds-calculate-end : goal.slice_bounds-calculate-end
slice_bounds-calculate-end c = sym (length-take-le _ _ (omega (arith, c.read_file-f.ensures)))

pub slice_bounds-calculate-end-2 : goal.slice_bounds-calculate-end-2
slice_bounds-calculate-end-2 c = sym (length-take-le _ _ (omega (arith, c.read_file-q.ensures)))

pub slice_bounds-write_all-end : goal.slice_bounds-write_all-end
slice_bounds-write_all-end c = sym (length-take-le _ _ c.calculate-p.ensures.output_within)

pub slice_bounds-write_all-end-2 : goal.slice_bounds-write_all-end-2
slice_bounds-write_all-end-2 c = sym (length-take-le _ _ c.calculate-p.ensures.line_within)
