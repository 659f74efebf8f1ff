use native.Mathlib.Omega.{arith}
use mathlib.Core.Path.{sym, ◌∙◌}
use Rattle.expressions.proofs.QuantityLaws.{literal_reads, literal_large, no_literal_here}
use Rattle.terms.proofs.TokenLaws.{kind_within}
use Rattle.expressions.proofs.literal.Goals as goal

pub bounds-words-n : goal.bounds-words-n
bounds-words-n c = let l = kind_within c.args.tokens.now c.args.p (omega (arith, c.kind_at.ensures, c.in-53.is)) in omega arith

pub returns-in-53 : goal.returns-in-53
returns-in-53 c = literal_reads _ _ _ _ (sym c.kind_at.ensures ∙ c.in-53.is) c.pack.ensures

pub returns-in-54 : goal.returns-in-54
returns-in-54 c = literal_large _ _ _ _ (sym c.kind_at.ensures ∙ c.in-54.is)

pub returns-in_default : goal.returns-in_default
returns-in_default c = no_literal_here _ _ _ _ (omega arith) (record { no_count = c.requires.0; no_literal = λ e. c.in_default.in_default-own.rest.0.1 (c.kind_at.ensures ∙ e); no_large_literal = λ e. c.in_default.in_default-own.rest.1 (c.kind_at.ensures ∙ e) })
