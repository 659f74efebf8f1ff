use mathlib.Core.Path.{sym, ◌∙◌}
use Rattle.statements.specs.Blocks.{a_name, an_if, a_while, a_for, a_brace, a_print}
use Rattle.statements.proofs.begins.Goals as goal

pub returns-in-2 : goal.returns-in-2
returns-in-2 c = a_brace (sym c.kind_at.ensures ∙ c.in-2.is)

pub returns-in-23 : goal.returns-in-23
returns-in-23 c = a_for (sym c.kind_at.ensures ∙ c.in-23.is)

pub returns-in-24 : goal.returns-in-24
returns-in-24 c = an_if (sym c.kind_at.ensures ∙ c.in-24.is)

pub returns-in-30 : goal.returns-in-30
returns-in-30 c = a_print (sym c.kind_at.ensures ∙ c.in-30.is)

pub returns-in-38 : goal.returns-in-38
returns-in-38 c = a_while (sym c.kind_at.ensures ∙ c.in-38.is)

pub returns-in-47 : goal.returns-in-47
returns-in-47 c = a_name (sym c.kind_at.ensures ∙ c.in-47.is)

pub returns-in_default : goal.returns-in_default
returns-in_default c = record { no_name = λ e. c.in_default.in_default-own.rest.1 (c.kind_at.ensures ∙ e); no_if = λ e. c.in_default.in_default-own.rest.0.0.0.1 (c.kind_at.ensures ∙ e); no_while = λ e. c.in_default.in_default-own.rest.0.1 (c.kind_at.ensures ∙ e); no_for = λ e. c.in_default.in_default-own.rest.0.0.0.0.1 (c.kind_at.ensures ∙ e); no_brace = λ e. c.in_default.in_default-own.rest.0.0.0.0.0.1 (c.kind_at.ensures ∙ e); no_print = λ e. c.in_default.in_default-own.rest.0.0.1 (c.kind_at.ensures ∙ e) }
