use Prim.Native.Nat.{ℕ}
use mathlib.Core.Path.{refl, subst, ◌∙◌}
use mathlib.Core.List.{List, [], ◌∷◌}
use native.Mathlib.Omega.{arith}
use lib.ListN.{get_or}
use Rattle.lines.specs.Lines.{texts}
use Rattle.unions.specs.Union.{Laid, number_lines}
use Rattle.unions.proofs.Laying.{laid_length, laid_none, laid_then}
use Rattle.numbers.proofs.SetLaws.{in_at}
use Rattle.unions.proofs.LineLists.{numbers_next, numbers_end}
use Rattle.unions.proofs.lay_relation.Goals as goal

pub loop-x-init : goal.loop-x-init
loop-x-init c = (omega arith, refl, λ r o z. z)

pub lay_number-p-requires : goal.lay_number-p-requires
lay_number-p-requires c = let L = c.loop-x in
    (c.requires.0, c.requires.1, c.requires.2, omega (arith, c.requires.3, c.requires.4, L.invariant.0), c.requires.5 _ (in_at c.args.numbers.now L.x-index (omega arith)))

pub loop-x-preserved : goal.loop-x-preserved
loop-x-preserved c = let a = c.args in
    let L = c.loop-x in
    let l = c.lay_number-p in
    let T = texts a.facts.now a.query.now a.places.now in
    let x = number_lines T a.name.now a.k a.n (get_or a.numbers.now L.x-index 0 ∷ []) in (
      omega (arith, L.invariant.0, l.ensures.within),
      laid_length {x = x} l.ensures.value ∙ L.invariant.1,
      λ r o z. L.invariant.2 r o
          (subst (λ (t : List ℕ). Laid a.write L.out L.p t r o) (numbers_next T a.name.now a.k a.n a.numbers.now L.x-index (omega arith)) (laid_then {x = x} l.ensures.value z)),
    )

pub shape_of-out : goal.shape_of-out
shape_of-out c = c.loop-x.invariant.1

pub returns : goal.returns
returns c = let a = c.args in
    let L = c.loop-x in
    let T = texts a.facts.now a.query.now a.places.now in record { value = L.invariant.2 L.p L.out (subst (λ (t : List ℕ). Laid a.write L.out L.p t L.p L.out) (numbers_end T a.name.now a.k a.n a.numbers.now L.x-index (omega arith)) laid_none); within = omega (arith, L.invariant.0) }
