use Rattle.terms.proofs.AtomLaws.{true_here, false_here, sign_here, no_name_leaf, no_atom}
use native.Mathlib.Omega.{arith}
use mathlib.Core.Logic.{inl, inr, ⊎_elim}
use mathlib.Core.Path.{sym, ◌∙◌}
use Rattle.terms.proofs.atom.Goals as goal

pub sign_between-requires : goal.sign_between-requires
sign_between-requires c = let h = no_name_leaf _ c.args.p (⊎_elim (λ e. inl (sym c.kind_at.ensures ∙ e)) (λ e. inr (sym c.kind_at.ensures ∙ e)) c.in-14.is) in ((h.0, λ e f. h.1 e), c.requires.1)

pub truth-requires : goal.truth-requires
truth-requires c = (true_here (sym c.kind_at.ensures ∙ c.in-39.is), c.requires.1)

pub truth-requires-in-40 : goal.truth-requires-in-40
truth-requires-in-40 c = (false_here (sym c.kind_at.ensures ∙ c.in-40.is), c.requires.1)

pub sign_before-requires : goal.sign_before-requires
sign_before-requires c = (sign_here _ _ c.kind_at.ensures (omega arith) c.in-41-to-46.in_default-own.rest.0.0.0.1 c.in-41-to-46.in_default-own.rest.0.0.1 (omega arith), c.requires.1)

pub returns-in_default : goal.returns-in_default
returns-in_default c = no_atom _ _ _ _ (omega arith) c.requires.0 (λ e. c.in_default.in_default-own.rest.0.0.0.0.1 (inl (c.kind_at.ensures ∙ e))) (λ e. omega (arith, c.kind_at.ensures)) (λ e. omega (arith, c.kind_at.ensures)) (λ l h. omega (arith, c.kind_at.ensures)) (λ e. omega (arith, c.kind_at.ensures)) (λ e. omega (arith, c.kind_at.ensures)) (λ e. omega (arith, c.kind_at.ensures))

pub returns-in_default-2 : goal.returns-in_default-2
returns-in_default-2 c = no_atom _ _ _ _ (omega arith) c.requires.0 (λ e. omega (arith, c.kind_at.ensures)) (λ e. omega (arith, c.kind_at.ensures)) (λ e. omega (arith, c.kind_at.ensures)) (λ l h. omega (arith, c.kind_at.ensures)) (λ e. c.in_default.in_default-own.rest.0.1 (c.kind_at.ensures ∙ e)) (λ e. c.in_default.in_default-own.rest.0.0.0.0.1 (inr (c.kind_at.ensures ∙ e))) (λ e. c.in_default.in_default-own.rest.1 (c.kind_at.ensures ∙ e))
