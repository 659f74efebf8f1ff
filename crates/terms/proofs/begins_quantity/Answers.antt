use mathlib.Core.Path.{sym, ◌∙◌}
use Rattle.terms.specs.Terms.{a_count, a_literal, a_large_literal}
use Rattle.terms.proofs.begins_quantity.Goals as goal

pub returns-in-50 : goal.returns-in-50
returns-in-50 c = a_count (sym c.kind_at.ensures ∙ c.in-50.is)

pub returns-in-53 : goal.returns-in-53
returns-in-53 c = a_literal (sym c.kind_at.ensures ∙ c.in-53.is)

pub returns-in-54 : goal.returns-in-54
returns-in-54 c = a_large_literal (sym c.kind_at.ensures ∙ c.in-54.is)

pub returns-in_default : goal.returns-in_default
returns-in_default c = record { no_count = λ e. c.in_default.in_default-own.rest.0.0.1 (c.kind_at.ensures ∙ e); no_literal = λ e. c.in_default.in_default-own.rest.0.1 (c.kind_at.ensures ∙ e); no_large_literal = λ e. c.in_default.in_default-own.rest.1 (c.kind_at.ensures ∙ e) }
