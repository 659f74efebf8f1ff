use Prim.Native.Nat.{ℕ, ◌%◌}
use mathlib.Core.Path.{refl, ap, subst, ◌∙◌}
use mathlib.Core.List.{List}
use native.Mathlib.Omega.{arith}
use lib.ListN.{length, get_or}
use Rattle.lines.specs.Lines.{texts}
use Rattle.lines.proofs.Lengths.{text_within}
use Rattle.unions.specs.Union.{Laid, number_lines}
use Rattle.unions.proofs.Laying.{laid_length, laid_none, laid_then}
use Rattle.unions.proofs.LineLists.{numbered_at, relations_next, relations_end}
use Rattle.unions.proofs.lay_all.Goals as goal

pub loop-v-init : goal.loop-v-init
loop-v-init c = (omega arith, refl, λ r o z. z)

pub lay_relation-p-requires : goal.lay_relation-p-requires
lay_relation-p-requires c = let a = c.args in
    let L = c.loop-v in
    let v = get_or a.some.now L.v-index 0 in (
      omega arith,
      c.requires.0,
      omega (arith, ap length c.text_of-name.ensures, text_within a.facts.now a.query.now v),
      c.requires.2,
      omega (arith, c.requires.1, L.invariant.0),
      numbered_at a.facts.now a.query.now a.relations.now (length a.places.now) a.numbers.now a.some.now c.requires.3 L.v-index (omega arith) _ c.index_of-k.ensures.value,
    )

pub loop-v-preserved : goal.loop-v-preserved
loop-v-preserved c = let a = c.args in
    let L = c.loop-v in
    let l = c.lay_relation-p in
    let name = c.text_of-name.result.now in
    let k = c.index_of-k.result in
    let T = texts a.facts.now a.query.now a.places.now in
    let x = number_lines T name k (get_or a.some.now L.v-index 0 % 4) a.numbers.now in (
      omega (arith, c.requires.2, L.invariant.0, l.ensures.within),
      laid_length {x = x} l.ensures.value ∙ L.invariant.1,
      λ r o z. L.invariant.2 r o
          (subst (λ (t : List ℕ). Laid a.write L.out L.p t r o)
          (relations_next T a.relations.now a.numbers.now a.some.now L.v-index (omega arith) name k c.text_of-name.ensures c.index_of-k.ensures.value) (laid_then {x = x} l.ensures.value z)),
    )

pub shape_of-out : goal.shape_of-out
shape_of-out c = c.loop-v.invariant.1

pub returns : goal.returns
returns c = let a = c.args in
    let L = c.loop-v in
    let T = texts a.facts.now a.query.now a.places.now in
    L.invariant.2 L.p L.out (subst (λ (t : List ℕ). Laid a.write L.out L.p t L.p L.out) (relations_end T a.relations.now a.numbers.now a.some.now L.v-index (omega arith)) laid_none)
