use mathlib.Core.Path.{sym, ap, ◌∙◌}
use lib.ListN.{set}
use Rattle.statements.specs.Blocks.{no_name, no_in, headed}
use Rattle.statements.proofs.heading.Goals as goal

pub returns-then-kind_at-ne47 : goal.returns-then-kind_at-ne47
returns-then-kind_at-ne47 c = no_name (λ e. c.if-kind_at-ne47.true (c.kind_at.ensures ∙ e))

pub returns-then-kind_at-ne25 : goal.returns-then-kind_at-ne25
returns-then-kind_at-ne25 c = no_in (sym c.kind_at.ensures ∙ c.if-kind_at-ne47.false) (λ e. c.if-kind_at-ne25.true (c.kind_at-2.ensures ∙ e))

pub returns : goal.returns
returns c = headed (sym c.kind_at.ensures ∙ c.if-kind_at-ne47.false) (sym c.kind_at-2.ensures ∙ c.if-kind_at-ne25.false) (ap (set c.args.words.now c.args.n) c.pack.ensures)
