use native.Mathlib.Nat.{zero-add}
use mathlib.Core.Path.{sym, ◌∙◌}
use native.Mathlib.Omega.{arith}
use Rattle.facts.proofs.LineLaws.{role_end, role_comment, role_blank, role_fact}
use Rattle.facts.proofs.read_line.Goals as goal

pub returns-then-starts_with : goal.returns-then-starts_with
returns-then-starts_with c = record { value = role_end _ (sym c.if-starts_with.true ∙ c.starts_with.ensures); within = tt }

pub returns-then-starts_with-2 : goal.returns-then-starts_with-2
returns-then-starts_with-2 c = record { value = role_comment _ (sym c.if-starts_with.false ∙ c.starts_with.ensures) (sym c.if-starts_with-2.true ∙ c.starts_with-2.ensures); within = tt }

pub returns-then-run_end-l : goal.returns-then-run_end-l
returns-then-run_end-l c = record { value = role_blank _ (sym c.if-starts_with.false ∙ c.starts_with.ensures) (sym (c.run_end.ensures.value ∙ zero-add _) ∙ c.if-run_end-l.true); within = tt }

pub returns : goal.returns
returns c = record { value = λ i. c.read_fact.ensures.value i ∙ role_fact _ (sym c.if-starts_with.false ∙ c.starts_with.ensures) (sym c.if-starts_with-2.false ∙ c.starts_with-2.ensures) (omega (arith, c.run_end.ensures.value, c.run_end.ensures.within, c.if-run_end-l.false)) i; within = c.read_fact.ensures.within }
