use native.Mathlib.Omega.{arith}
use Rattle.patterns.proofs.EndLaws.{count_short, count_wrong, count_right, clash}
use Rattle.patterns.proofs.count_end.Goals as goal

pub returns-then-len-lt4 : goal.returns-then-len-lt4
returns-then-len-lt4 c = λ p. count_short c.args.s.now c.args.at p (omega arith)

pub returns-then-len-at : goal.returns-then-len-at
returns-then-len-at c = λ p. count_short c.args.s.now c.args.at p (omega (arith, c.if-len-at.true))

pub returns-then-m-lt48 : goal.returns-then-m-lt48
returns-then-m-lt48 c = λ p. count_wrong c.args.s.now c.args.at p (omega (arith, c.if-len-at.false, c.if-len-lt4.false)) (λ a b d e f. clash _ _ a c.if-m-lt48.true)

pub returns-then-n-m : goal.returns-then-n-m
returns-then-n-m c = λ p. count_wrong c.args.s.now c.args.at p (omega (arith, c.if-len-at.false, c.if-len-lt4.false)) (λ a b d e f. clash _ _ b c.if-n-m.true)

pub returns-then-n-gt56 : goal.returns-then-n-gt56
returns-then-n-gt56 c = λ p. count_wrong c.args.s.now c.args.at p (omega (arith, c.if-len-at.false, c.if-len-lt4.false)) (λ a b d e f. clash _ _ d c.if-n-gt56.true)

pub returns-then-s-at-ne44 : goal.returns-then-s-at-ne44
returns-then-s-at-ne44 c = λ p. count_wrong c.args.s.now c.args.at p (omega (arith, c.if-len-at.false, c.if-len-lt4.false)) (λ a b d e f. c.if-s-at-ne44.true e)

pub returns-then-s-at-ne125 : goal.returns-then-s-at-ne125
returns-then-s-at-ne125 c = λ p. count_wrong c.args.s.now c.args.at p (omega (arith, c.if-len-at.false, c.if-len-lt4.false)) (λ a b d e f. c.if-s-at-ne125.true f)

pub returns : goal.returns
returns c = λ p. count_right c.args.s.now c.args.at p (omega (arith, c.if-len-at.false, c.if-len-lt4.false)) c.if-m-lt48.false c.if-n-m.false c.if-n-gt56.false c.if-s-at-ne44.false c.if-s-at-ne125.false
