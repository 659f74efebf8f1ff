use borrow.Author.Rules.{rules}
use Prim.Native.Nat.{ℕ}
use mathlib.Core.Path.{sym, ap, ◌∙◌}
use mathlib.Core.List.{List}
use native.Mathlib.Omega.{arith}
use lib.ListN.{replicate}
use lib.Seq.{length-take-le}
use Rattle.counting.specs.Tallies.{tallied}
use Rattle.numbers.specs.Sets.{none}
use Rattle.loading.proofs.OneFact.{known_stated}
use Rattle.counting.proofs.FactCounts.{counted_all}
use Rattle.counting.proofs.Entering.{all_entered}
use Rattle.counting.proofs.count_facts.Goals as goal

pub enter_facts-n-requires : goal.enter_facts-n-requires
enter_facts-n-requires c = let p = c.requires in (p.0, p.1, p.2, omega arith, none)

pub slice_bounds-tally-end : goal.slice_bounds-tally-end
slice_bounds-tally-end c = sym (length-take-le _ _ (search rules))

pub returns : goal.returns
returns c = let a = c.args in
    λ w g.
    let s = known_stated a.facts.now a.query.now a.relations.now a.places.now w g in
    c.tally.ensures ∙ ap (λ (xs : List ℕ). tallied xs (replicate 16 0)) (all_entered a.facts.now a.query.now a.relations.now a.places.now w g (c.enter_facts-n.ensures.value w s)) ∙ counted_all w s.sound
