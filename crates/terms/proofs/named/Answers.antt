use native.Mathlib.Omega.{arith}
use mathlib.Core.Path.{◌∙◌}
use Rattle.terms.proofs.LeafLaws.{leaf_positive, a_name_leaf}
use Rattle.terms.proofs.named.Goals as goal

pub sign_between-requires : goal.sign_between-requires
sign_between-requires c = ((leaf_positive _ _ 3 (omega arith) (a_name_leaf c.requires.0), λ e f. c.if-kind_at-eq0.false (c.kind_at.ensures ∙ f)), c.requires.1)
