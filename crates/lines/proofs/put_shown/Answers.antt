use Prim.Native.Nat.{ℕ}
use mathlib.Core.Path.{subst}
use mathlib.Core.List.{List}
use Rattle.lines.specs.Put.{Put}
use Rattle.lines.specs.Lines.{texts}
use Rattle.lines.proofs.Puts.{put_within, put_then}
use Rattle.lines.proofs.LineLaws.{shown_quoted, shown_bare}
use Rattle.lines.proofs.put_shown.Goals as goal

pub put_text-q-requires : goal.put_text-q-requires
put_text-q-requires c = put_within c.put-p.ensures

pub returns-then-place_at-eq1 : goal.returns-then-place_at-eq1
returns-then-place_at-eq1 c = let a = c.args in
    let T = texts a.facts.now a.query.now a.places.now in
    subst (λ (x : List ℕ). Put a.write a.out.now a.at x c.put.result c.put.new.out)
    (shown_quoted T a.a _ _ c.place_at.ensures c.element-text.ensures c.if-place_at-eq1.true)
    (put_then (put_then c.put-p.ensures c.put_text-q.ensures) c.put.ensures)

pub returns : goal.returns
returns c = let a = c.args in
    let T = texts a.facts.now a.query.now a.places.now in
    subst (λ (x : List ℕ). Put a.write a.out.now a.at x c.put_text.result c.put_text.new.out)
    (shown_bare T a.a _ _ c.place_at.ensures c.element-text.ensures c.if-place_at-eq1.false)
    c.put_text.ensures
