use Rattle.matching.proofs.MoveLaws.{fits_complement, fits_plain}
use Rattle.matching.proofs.fits.Goals as goal

pub returns-then-complement : goal.returns-then-complement
returns-then-complement c = fits_complement c.args.t.now c.args.complement c.args.b c.held.result c.if-complement.true c.held.ensures

pub returns : goal.returns
returns c = fits_plain c.args.t.now c.args.complement c.args.b c.held-2.result c.if-complement.false c.held-2.ensures
