use Prim.Native.Nat.{ℕ}
use mathlib.Core.Path.{refl, ap, ◌∙◌}
use Rattle.definition.specs.Limits.{FACT_BYTES}
use Rattle.parts.specs.Entries.{index}
use Rattle.loading.proofs.OneFact.{in_byte_order}
use Rattle.counting.proofs.Entering.{number_is}
use Rattle.counting.proofs.fact_number.Goals as goal

pub returns : goal.returns
returns c = let a = c.args in
    let k = c.index_of-k.ensures.value ∙ ap (λ (v : ℕ). index a.facts.now a.query.now v a.relations.now) c.packed.ensures in
    λ w g i. number_is a.facts.now a.query.now a.relations.now a.places.now w g a.a FACT_BYTES a.f c.requires.3 i _ _ _ _ k refl (c.fact_tuple-t.ensures (in_byte_order a.facts.now a.query.now a.relations.now a.places.now w g)) c.tuple_number-i.ensures.0
