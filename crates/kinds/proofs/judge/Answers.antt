use Rattle.kinds.specs.Walk.{rule_of}
use borrow.Author.Tests.{eq-eqb, ne_eqb}
use Rattle.kinds.proofs.judge.Goals as goal

pub returns-then-role-eq1 : goal.returns-then-role-eq1
unfolding rule_of
returns-then-role-eq1 c = simp (eq-eqb _ _ c.if-role-eq1.true) c.relation_rule.ensures

pub returns-then-role-eq2 : goal.returns-then-role-eq2
unfolding rule_of
returns-then-role-eq2 c = simp (ne_eqb _ _ c.if-role-eq1.false, eq-eqb _ _ c.if-role-eq2.true) c.attribute_rule.ensures

pub returns-then-k-eq3 : goal.returns-then-k-eq3
unfolding rule_of
returns-then-k-eq3 c = simp (ne_eqb _ _ c.if-role-eq1.false, ne_eqb _ _ c.if-role-eq2.false, eq-eqb _ _ c.if-role-eq3.true, eq-eqb _ _ c.if-k-eq3.true)

pub returns-then-role-eq3 : goal.returns-then-role-eq3
unfolding rule_of
returns-then-role-eq3 c = simp (ne_eqb _ _ c.if-role-eq1.false, ne_eqb _ _ c.if-role-eq2.false, eq-eqb _ _ c.if-role-eq3.true, ne_eqb _ _ c.if-k-eq3.false) c.attribute_rule-then-role-eq3.ensures

pub returns-then-role-eq4 : goal.returns-then-role-eq4
unfolding rule_of
returns-then-role-eq4 c = simp (ne_eqb _ _ c.if-role-eq1.false, ne_eqb _ _ c.if-role-eq2.false, ne_eqb _ _ c.if-role-eq3.false, eq-eqb _ _ c.if-role-eq4.true) c.turn_rule.ensures

pub returns-then-role-eq5 : goal.returns-then-role-eq5
unfolding rule_of
returns-then-role-eq5 c = simp (ne_eqb _ _ c.if-role-eq1.false, ne_eqb _ _ c.if-role-eq2.false, ne_eqb _ _ c.if-role-eq3.false, ne_eqb _ _ c.if-role-eq4.false, eq-eqb _ _ c.if-role-eq5.true) c.bind_rule.ensures

pub returns-then-role-eq6 : goal.returns-then-role-eq6
unfolding rule_of
returns-then-role-eq6 c = simp (ne_eqb _ _ c.if-role-eq1.false, ne_eqb _ _ c.if-role-eq2.false, ne_eqb _ _ c.if-role-eq3.false, ne_eqb _ _ c.if-role-eq4.false, ne_eqb _ _ c.if-role-eq5.false, eq-eqb _ _ c.if-role-eq6.true) c.turn_rule-then-role-eq6.ensures

pub returns : goal.returns
unfolding rule_of
returns c = simp (ne_eqb _ _ c.if-role-eq1.false, ne_eqb _ _ c.if-role-eq2.false, ne_eqb _ _ c.if-role-eq3.false, ne_eqb _ _ c.if-role-eq4.false, ne_eqb _ _ c.if-role-eq5.false, ne_eqb _ _ c.if-role-eq6.false) c.turn_rule-2.ensures
