use native.Mathlib.Omega.{arith}
use lib.ListN.{get_or}
use Rattle.matching.specs.Bytes.{fits}
use Rattle.matching.proofs.MoveLaws.{word_none, word_next, fitting_end}
use Rattle.matching.proofs.fitting.Goals as goal

pub loop-i-init : goal.loop-i-init
loop-i-init c = word_none _

pub loop-i-preserved : goal.loop-i-preserved
loop-i-preserved c = word_next (λ j. fits c.args.t.now c.args.complement (get_or c.args.e.now j 0)) c.loop-i.i c.loop-i.r c.put_bit-r.result c.fits.result (omega (arith, c.requires)) c.loop-i.invariant c.fits.ensures c.put_bit-r.ensures

pub returns : goal.returns
returns c = fitting_end c.args.e.now c.args.t.now c.args.complement c.loop-i.i c.loop-i.r (omega arith) c.loop-i.invariant
