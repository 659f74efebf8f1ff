use mathlib.Core.Path.{◌≡◌, refl, sym, ap, subst}
use mathlib.Core.List.{◌++◌}
use Prim.Native.Nat.{ℕ, ◌≤◌}
use native.Mathlib.Nat.{le_trans, min-le_left}
use native.Mathlib.Omega.{arith}
use lib.ListN.{length, take, length-take}
use lib.Seq.{length-take-le}
use Rattle.definition.specs.Text.{Text}
use Rattle.definition.specs.Limits.{document_01}
use Rattle.definition.specs.Calls.{join_meets}
use Rattle.definition.specs.Join.{as_accepted, of_text, right, within_room}
use Rattle.definition.proofs.JoinCalls.{both_meet}
use Rattle.facts.specs.Reading.{all_facts}
use Rattle.counting.specs.FactNumbers.{number_set}
use Rattle.join.specs.United.{one, union}
use Rattle.join.proofs.UnionLaws.{stated, few_relations, few_elements, first_short, second_short}
use Rattle.join.proofs.UnionText.{numbered_there, text_there}
use Rattle.join.proofs.write_union.Goals as goal

pub enter_both-n-requires : goal.enter_both-n-requires
enter_both-n-requires c = let a = c.args in
    (first_short a.first.now a.second.now a.relations.now a.universe.now c.requires, second_short a.first.now a.second.now a.relations.now a.universe.now c.requires, few_relations a.first.now a.second.now a.relations.now a.universe.now c.requires, few_elements a.first.now a.second.now a.relations.now a.universe.now c.requires, refl)

pub slice_bounds-write_lines-end : goal.slice_bounds-write_lines-end
slice_bounds-write_lines-end c = sym (length-take-le _ _ (omega (arith, c.enter_both-n.ensures.within)))

pub write_lines-requires : goal.write_lines-requires
write_lines-requires c =
    let set_is : take c.enter_both-n.result c.enter_both-n.new.words ≡ number_set (as_accepted (union c.args.first.now c.args.second.now c.args.relations.now c.args.universe.now)) (all_facts c.args.first.now ++ all_facts c.args.second.now) = let a = c.args in
    c.enter_both-n.ensures.value (as_accepted (union a.first.now a.second.now a.relations.now a.universe.now)) (stated a.first.now a.second.now a.relations.now a.universe.now c.requires) (λ g i. i) in
    let a = c.args in
    let e = c.enter_both-n in
    let r = e.ensures.lists.0 in
    let u = e.ensures.lists.1 in
    (omega (arith, ap length r, few_relations a.first.now a.second.now a.relations.now a.universe.now c.requires), omega (arith, ap length u, few_elements a.first.now a.second.now a.relations.now a.universe.now c.requires), subst (λ (k : ℕ). k ≤ 32768) (sym (length-take e.result e.new.words)) (le_trans (min-le_left e.result _) e.ensures.within), numbered_there a.first.now a.second.now a.relations.now a.universe.now c.requires _ _ _ r u (set_is))

pub returns : goal.returns
returns c =
    let set_is : take c.enter_both-n.result c.enter_both-n.new.words ≡ number_set (as_accepted (union c.args.first.now c.args.second.now c.args.relations.now c.args.universe.now)) (all_facts c.args.first.now ++ all_facts c.args.second.now) = let a = c.args in
    c.enter_both-n.ensures.value (as_accepted (union a.first.now a.second.now a.relations.now a.universe.now)) (stated a.first.now a.second.now a.relations.now a.universe.now c.requires) (λ g i. i) in
    let a = c.args in
    let e = c.enter_both-n in
    let l = c.write_lines in
    both_meet document_01 a.first.now a.second.now a.output.now (one a.first.now a.second.now) c.requires.read_one (union a.first.now a.second.now a.relations.now a.universe.now) c.requires.read_both _ _
    (subst (λ (t : Text). join_meets (of_text 0 (within_room (length a.output.now) t) right) a.output.now l.result l.new.output) (text_there a.first.now a.second.now a.relations.now a.universe.now c.requires _ _ _ e.ensures.lists.0 e.ensures.lists.1 (set_is)) l.ensures)
