use Prim.Native.Nat.{ℕ}
use mathlib.Core.Path.{ap, subst, ◌∙◌}
use mathlib.Core.List.{List, [], ◌∷◌}
use native.Mathlib.Omega.{arith}
use Rattle.lines.specs.Lines.{texts, line_of}
use Rattle.unions.specs.Union.{Laid}
use Rattle.unions.proofs.Laying.{laid_none}
use Rattle.unions.proofs.LineLists.{number_line, no_line}
use Rattle.unions.proofs.lay_number.Goals as goal

pub returns-then-x-k : goal.returns-then-x-k
returns-then-x-k c = let a = c.args in
    let T = texts a.facts.now a.query.now a.places.now in
    record { value = subst (λ (t : List ℕ). Laid a.write a.out.now a.p t a.p a.out.now) (no_line T a.name.now a.k a.n a.x c.if-x-k.true) laid_none; within = omega arith }

pub tuple_of-t-requires : goal.tuple_of-t-requires
tuple_of-t-requires c = (c.requires.0, c.requires.4 c.if-x-k.false)

pub returns : goal.returns
returns c = let a = c.args in
    let T = texts a.facts.now a.query.now a.places.now in
    let l = c.lay_line in record {
      value = subst (λ (t : List ℕ). Laid a.write a.out.now a.p t l.result l.new.out)
          (ap (line_of T (a.name.now ∷ [])) c.tuple_of-t.ensures ∙ number_line T a.name.now a.k a.n a.x c.if-x-k.false) l.ensures.value;
      within = l.ensures.within;
    }
