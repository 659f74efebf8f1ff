use mathlib.Core.Path.{sym, ◌∙◌}
use borrow.Author.Tests.{eq-eqb}
use Rattle.prints_test.proofs.prints.Goals as goal

pub expect-requires : goal.expect-requires
expect-requires c = let p = c.print-r in
    eq-eqb p.result c.args.end (p.ensures.end ∙ sym c.requires.end)

pub expect-requires-2 : goal.expect-requires-2
expect-requires-2 c = c.same.ensures.1 (c.print-r.ensures.bytes ∙ sym c.requires.bytes)
