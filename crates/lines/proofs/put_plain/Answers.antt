use Prim.Native.Nat.{ℕ, ◌-◌, ◌<◌}
use mathlib.Core.Path.{◌≡◌, sym, ap, ◌∙◌, subst}
use mathlib.Core.List.{List, []}
use native.Mathlib.Omega.{arith}
use lib.ListN.{get_or, take, drop}
use mir.Syntax.{w8}
use borrow.Kind.Array.{good_length, e_int}
use Rattle.tuples.proofs.Turns.{rest_cons, rest_all}
use Rattle.lines.specs.Put.{Put}
use Rattle.lines.specs.Lines.{texts, line_of}
use Rattle.lines.proofs.Puts.{put_within, put_then}
use Rattle.lines.proofs.LineLaws.{line_bare, line_empty}
use Rattle.lines.proofs.put_plain.Goals as goal

pub returns-then-n-eq0 : goal.returns-then-n-eq0
returns-then-n-eq0 c = let a = c.args in
    let T = texts a.facts.now a.query.now a.places.now in
    subst (λ (x : List ℕ). Put a.write a.out.now a.at x c.put.result c.put.new.out)
    (line_empty T ∙ ap (λ (k : ℕ). line_of T [] (take k a.t)) (sym c.if-n-eq0.true))
    c.put.ensures

pub put_after-q-requires : goal.put_after-q-requires
put_after-q-requires c = let some : (c.args.n ≡ 0 → ⊥) = c.if-n-eq0.false in
    (c.requires.0, omega arith, put_within c.put_shown-p.ensures)

pub returns : goal.returns
returns c = let a = c.args in
    let T = texts a.facts.now a.query.now a.places.now in
    let long = good_length (e_int w8) 4 a.t _ c.well_formed.1.1.1.1.1.0 in
    let some : (a.n ≡ 0 → ⊥) = c.if-n-eq0.false in
    let h : 0 < a.n = omega arith in
    subst (λ (x : List ℕ). Put a.write a.out.now a.at x c.put-2.result c.put-2.new.out)
    (line_bare T (get_or a.t 0 0) (take (a.n - 1) (drop 1 a.t))
    ∙ ap (line_of T []) (sym (rest_cons a.n 0 a.t h (omega arith)) ∙ rest_all a.n a.t))
    (put_then (put_then c.put_shown-p.ensures c.put_after-q.ensures) c.put-2.ensures)
