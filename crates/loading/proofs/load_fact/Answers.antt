use Prim.Native.Nat.{ℕ}
use mathlib.Core.Path.{ap, ◌∙◌}
use Rattle.definition.specs.Limits.{FACT_BYTES}
use Rattle.parts.specs.Entries.{index}
use Rattle.loading.proofs.OneFact.{known_stated, in_byte_order}
use Rattle.loading.proofs.Steps.{loaded_one}
use Rattle.loading.proofs.load_fact.Goals as goal

pub returns : goal.returns
returns c = let a = c.args in
    let k = c.index_of-k.ensures.value ∙ ap (λ (v : ℕ). index a.facts.now a.query.now v a.relations.now) c.packed.ensures in
    let t = c.fact_tuple-t.ensures in
    let l = c.load_at.ensures in record { value = λ w r gs h. loaded_one a.facts.now a.query.now a.relations.now a.places.now a.firsts.now a.u w r a.a FACT_BYTES a.f c.requires.1 gs a.store.now h _ _ _ k (t (in_byte_order a.facts.now a.query.now a.relations.now a.places.now w (known_stated a.facts.now a.query.now a.relations.now a.places.now w r.known))) l.value; size = l.size }
