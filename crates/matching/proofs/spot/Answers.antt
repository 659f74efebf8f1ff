use mathlib.Core.Path.{ap, ◌∙◌}
use mathlib.Core.Bool.{Bool, cond}
use Rattle.bits.specs.Bits.{with_bit}
use Rattle.matching.specs.Bytes.{spot}
use Rattle.matching.proofs.spot.Goals as goal

pub returns : goal.returns
unfolding spot
returns c = c.put_bit.ensures ∙ ap (λ (b : Bool). cond b (with_bit 0 c.args.k) 0) c.test_bit.ensures
