use Prim.Native.Nat.{ℕ}
use mathlib.Core.Path.{sym, subst}
use mathlib.Core.List.{List}
use native.Mathlib.Nat.{min-le_left}
use native.Mathlib.Omega.{arith}
use lib.ListN.{length, length-take}
use lib.Seq.{length-take-le}
use Rattle.definition.specs.Join.{of_text, right, within_room}
use Rattle.definition.specs.Calls.{join_meets}
use Rattle.lines.specs.Lines.{texts}
use Rattle.unions.specs.Union.{sorted, all_lines, AllNumbered}
use Rattle.unions.proofs.write_lines.Goals as goal

pub slice_bounds-write_some-end : goal.slice_bounds-write_some-end
slice_bounds-write_some-end c = sym (length-take-le c.sort_names-m.result _ (omega (arith, c.sort_names-m.ensures.within, c.requires.0)))

pub write_some-requires : goal.write_some-requires
write_some-requires c = let a = c.args in
    let f = c.sort_names-m in (
      c.requires.1,
      omega (arith, c.requires.0, f.ensures.within, length-take f.result f.new.words, min-le_left f.result (length f.new.words)),
      c.requires.2,
      subst (AllNumbered a.facts.now a.query.now a.relations.now (length a.places.now) a.numbers.now) {x = sorted a.facts.now a.query.now a.relations.now} (sym f.ensures.value) c.requires.3,
    )

pub returns : goal.returns
returns c = let a = c.args in
    let w = c.write_some in
    subst (λ (vs : List ℕ). join_meets (of_text 0 (within_room (length a.output.now) (all_lines (texts a.facts.now a.query.now a.places.now) a.relations.now a.numbers.now vs)) right) a.output.now w.result w.new.output) {y = sorted a.facts.now a.query.now a.relations.now} c.sort_names-m.ensures.value w.ensures
