use mathlib.Core.Path.{sym, ap, ◌∙◌}
use Rattle.definition.specs.Text.{Text, same}
use Rattle.facts.specs.Words.{fact_at}
use Rattle.parts.specs.Entries.{position}
use Rattle.chain.proofs.Rows.{fact_other_name, line_other_arity, line_adds}
use borrow.Author.Tests.{not-true, not-false}
use Rattle.chain.proofs.add_fact.Goals as goal

pub returns-then-not-same : goal.returns-then-not-same
returns-then-not-same c = let a = c.args in
    fact_other_name a.facts.now a.universe.now a.name.now a.rows.now (fact_at a.facts.now a.a a.f) (ap (same a.name.now) (sym c.part.ensures) ∙ sym c.same.ensures ∙ not-true _ c.if-not-same.true-raw)

pub returns-then-f-ne2 : goal.returns-then-f-ne2
returns-then-f-ne2 c = let a = c.args in
    line_other_arity a.facts.now a.universe.now a.name.now a.rows.now a.a a.f c.requires.2.arity c.if-f-ne2.true

pub returns : goal.returns
returns c = let a = c.args in
    c.add_pair.ensures
    ∙ line_adds a.facts.now a.universe.now a.name.now a.rows.now a.a a.f _ _ (ap (same a.name.now) (sym c.part.ensures) ∙ sym c.same.ensures ∙ not-false _ c.if-not-same.false-raw) c.requires.2.arity c.if-f-ne2.false
    (c.position_of-x.ensures.value ∙ ap (λ (t : Text). position a.facts.now a.facts.now t a.universe.now) c.value_of.ensures)
    (c.position_of-y.ensures.value ∙ ap (λ (t : Text). position a.facts.now a.facts.now t a.universe.now) c.value_of-2.ensures)
