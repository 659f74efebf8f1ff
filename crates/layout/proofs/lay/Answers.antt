use mathlib.Core.Path.{refl, ◌∙◌}
use native.Mathlib.Omega.{arith}
use Rattle.layout.proofs.SizeLaws.{laid_out}
use Rattle.layout.proofs.lay.Goals as goal

pub returns : goal.returns
returns c = let t = c.lay_tables-from in let k = c.lay_closures-scratch in laid_out c.args.u c.args.relations.now _ t.result k.result _ c.largest.result t.ensures.value (λ i l. k.ensures.before i (omega (arith, c.requires)) ∙ t.ensures.firsts i l) k.ensures.value k.ensures.firsts c.largest.ensures.value refl
