use Rattle.std.specs.Prelude.{Ok}
use Prim.Native.Nat.{◌+◌, ◌*◌, ◌-◌}
use mathlib.Core.List.{List}
use lib.ListN.{length}
use Rattle.expressions.proofs.OperatorLaws.{Linked, or_chain, and_chain, left}
use Rattle.expressions.proofs.QuantityLaws.{sum_chain}
use Prim.Native.Nat.{ℕ}
use Rattle.expressions.proofs.+applied_comparison_conjunction_disjunction_figures_group_implication_negation_primary_quantifier_quantity_relations_sum_summand.Given as goal

abbrev pub decreases-applied : goal.decreases-applied
decreases-applied l = 8 * (length l.tokens.now - l.p)

abbrev pub decreases-comparison : goal.decreases-comparison
decreases-comparison l = 8 * (length l.tokens.now - l.p) + 7

abbrev pub decreases-conjunction : goal.decreases-conjunction
decreases-conjunction l = 8 * (length l.tokens.now - l.p) + 3

abbrev pub decreases-disjunction : goal.decreases-disjunction
decreases-disjunction l = 8 * (length l.tokens.now - l.p) + 4

abbrev pub decreases-figures : goal.decreases-figures
decreases-figures l = 8 * (length l.tokens.now - l.p) + 6

abbrev pub decreases-group : goal.decreases-group
decreases-group l = 8 * (length l.tokens.now - l.p)

abbrev pub decreases-implication : goal.decreases-implication
decreases-implication l = 8 * (length l.tokens.now - l.p) + 5

abbrev pub decreases-negation : goal.decreases-negation
decreases-negation l = 8 * (length l.tokens.now - l.p) + 2

abbrev pub decreases-primary : goal.decreases-primary
decreases-primary l = 8 * (length l.tokens.now - l.p) + 1

abbrev pub decreases-quantifier : goal.decreases-quantifier
decreases-quantifier l = 8 * (length l.tokens.now - l.p)

abbrev pub decreases-quantity : goal.decreases-quantity
decreases-quantity l = 8 * (length l.tokens.now - l.p) + 5

abbrev pub decreases-relations : goal.decreases-relations
decreases-relations l = 8 * (length l.tokens.now - l.p) + 6

abbrev pub decreases-sum : goal.decreases-sum
decreases-sum l = 8 * (length l.tokens.now - l.p) + 4

abbrev pub decreases-summand : goal.decreases-summand
decreases-summand l = 8 * (length l.tokens.now - l.p) + 3

abbrev pub invariant-conjunction-loop-words : goal.invariant-conjunction-loop-words
invariant-conjunction-loop-words l = (A : List ℕ) → Linked and_chain 0 l.tokens l.p l.n l.d A l.initial.words 0 (Ok (l.initial.q, l.initial.m)) → Linked and_chain 0 l.tokens l.p l.n l.d A l.words 0 (Ok (l.q, l.m))

abbrev pub decreases-conjunction-loop-words : goal.decreases-conjunction-loop-words
decreases-conjunction-loop-words l = length l.tokens - l.q

abbrev pub invariant-disjunction-loop-words : goal.invariant-disjunction-loop-words
invariant-disjunction-loop-words l = (A : List ℕ) → Linked or_chain 0 l.tokens l.p l.n l.d A l.initial.words 0 (Ok (l.initial.q, l.initial.m)) → Linked or_chain 0 l.tokens l.p l.n l.d A l.words 0 (Ok (l.q, l.m))

abbrev pub decreases-disjunction-loop-words : goal.decreases-disjunction-loop-words
decreases-disjunction-loop-words l = length l.tokens - l.q

abbrev pub invariant-sum-loop-p : goal.invariant-sum-loop-p
invariant-sum-loop-p l = (A : List ℕ) → Linked sum_chain 8 l.tokens l.p l.n l.d A l.initial.words l.initial.k (Ok (l.initial.q, l.initial.m)) → Linked sum_chain 8 l.tokens l.p l.n l.d A l.words l.k (Ok (l.q, l.m))

abbrev pub decreases-sum-loop-p : goal.decreases-sum-loop-p
decreases-sum-loop-p l = length l.tokens - l.q
