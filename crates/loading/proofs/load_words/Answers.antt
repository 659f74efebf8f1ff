use mathlib.Core.Path.{refl, subst, ◌∙◌}
use mathlib.Core.List.{List}
use native.Mathlib.Omega.{arith}
use Rattle.definition.specs.Facts.{Fact}
use Rattle.facts.proofs.TakeLaws.{all_wider}
use Rattle.loading.specs.Given.{Loaded}
use Rattle.loading.proofs.Steps.{loaded_none, loaded_all}
use Rattle.loading.proofs.load_words.Goals as goal

pub loop-a-init : goal.loop-a-init
loop-a-init c = let a = c.args in
    (refl, λ w r e. loaded_none a.facts.now a.query.now a.relations.now a.places.now a.firsts.now a.u w r _ e)

pub load_fact-requires : goal.load_fact-requires
load_fact-requires c =
    let h = c.in-Some.ensures in
    let p = c.requires in
    (omega (arith, h.3, p), all_wider _ _ _ (omega (arith, p)) h.4)

pub loop-a-preserved : goal.loop-a-preserved
loop-a-preserved c =
    let L = c.loop-a in
    let h = c.in-Some.ensures in
    let f = c.load_fact.ensures in
    (f.size ∙ L.invariant.0, λ w r e. f.value w r _ (subst (λ (gs : List Fact). Loaded w gs L.words) h.0 (L.invariant.1 w r e)))

pub returns : goal.returns
returns c = let L = c.loop-a in
    record { value = λ w r e. loaded_all w L.words (subst (λ (gs : List Fact). Loaded w gs L.words) c.in_default.ensures (L.invariant.1 w r e)); size = L.invariant.0 }
