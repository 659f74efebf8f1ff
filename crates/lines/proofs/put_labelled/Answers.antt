use Prim.Native.Nat.{ℕ}
use mathlib.Core.Path.{ap, ◌∙◌, subst}
use mathlib.Core.List.{List, [], ◌∷◌, ◌++◌}
use native.Mathlib.Omega.{arith}
use lib.ListN.{take}
use Rattle.definition.specs.Text.{gather}
use Rattle.tuples.proofs.Turns.{rest_all}
use Rattle.lines.specs.Put.{Put}
use Rattle.lines.specs.Lines.{texts, after}
use Rattle.lines.proofs.Puts.{put_within, put_then}
use Rattle.lines.proofs.LineLaws.{line_label}
use Rattle.lines.proofs.put_labelled.Goals as goal

pub put_after-q-requires : goal.put_after-q-requires
put_after-q-requires c = (c.requires.0, omega arith, put_within c.put_text-p.ensures)

pub returns : goal.returns
returns c = let a = c.args in
    let T = texts a.facts.now a.query.now a.places.now in
    let l = a.label.now in
    subst (λ (x : List ℕ). Put a.write a.out.now a.at x c.put.result c.put.new.out)
    (ap (λ (s : List ℕ). (l ++ gather (after T) s) ++ (10 ∷ [])) (rest_all a.n a.t) ∙ line_label T l (take a.n a.t))
    (put_then (put_then c.put_text-p.ensures c.put_after-q.ensures) c.put.ensures)
