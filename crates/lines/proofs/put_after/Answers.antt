use Prim.Native.Nat.{ℕ}
use mathlib.Core.Path.{refl, ◌∙◌, subst}
use mathlib.Core.List.{List}
use native.Mathlib.Omega.{arith}
use mir.Syntax.{w8}
use borrow.Kind.Array.{good_length, e_int}
use Rattle.lines.specs.Put.{Put}
use Rattle.lines.specs.Lines.{texts}
use Rattle.lines.proofs.Puts.{put_length, put_within, put_none, put_then}
use Rattle.lines.proofs.LineLaws.{after_cons, after_none}
use Rattle.lines.proofs.put_after.Goals as goal

pub loop-k-init : goal.loop-k-init
loop-k-init c = (omega arith, refl, λ r o z. z)

pub put_shown-p-requires : goal.put_shown-p-requires
put_shown-p-requires c = put_within c.put-q.ensures

pub loop-k-preserved : goal.loop-k-preserved
loop-k-preserved c = let a = c.args in
    let L = c.loop-k in
    let T = texts a.facts.now a.query.now a.places.now in
    let l = good_length (e_int w8) 4 a.t _ c.well_formed.1.1.1.1.1.0 in
    let q = put_then c.put-q.ensures c.put_shown-p.ensures in (
      put_within q,
      put_length q ∙ L.invariant.1,
      λ r o z. L.invariant.2 r o
          (subst (λ (x : List ℕ). Put a.write L.out L.p x r o) (after_cons T a.n L.k a.t (omega arith) (omega arith)) (put_then q z)),
    )

pub returns : goal.returns
returns c = let a = c.args in
    let L = c.loop-k in
    let T = texts a.facts.now a.query.now a.places.now in
    L.invariant.2 L.p L.out
    (subst (λ (x : List ℕ). Put a.write L.out L.p x L.p L.out) (after_none T a.n L.k a.t (omega arith)) (put_none L.invariant.0))
