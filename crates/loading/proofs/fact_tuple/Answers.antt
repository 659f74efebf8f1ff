use native.Mathlib.Omega.{arith}
use Rattle.loading.specs.Given.{element_number}
use Rattle.loading.proofs.Tuples.{numbers_of}
use Rattle.loading.proofs.fact_tuple.Goals as goal

pub returns-then-n-eq0 : goal.returns-then-n-eq0
returns-then-n-eq0 c = let a = c.args in
    λ s. numbers_of (element_number a.facts.now a.query.now a.places.now a.a) a.f c.requires.1.arity 0 0 0 (λ l. absurd (omega arith)) (λ l. absurd (omega arith)) (λ l. absurd (omega arith))

pub returns-then-n-eq1 : goal.returns-then-n-eq1
returns-then-n-eq1 c = let a = c.args in
    λ s. numbers_of (element_number a.facts.now a.query.now a.places.now a.a) a.f c.requires.1.arity _ 0 0 (λ l. c.element_number-first.ensures s) (λ l. absurd (omega arith)) (λ l. absurd (omega arith))

pub returns-then-n-eq2 : goal.returns-then-n-eq2
returns-then-n-eq2 c = let a = c.args in
    λ s. numbers_of (element_number a.facts.now a.query.now a.places.now a.a) a.f c.requires.1.arity _ _ 0 (λ l. c.element_number-first.ensures s) (λ l. c.element_number-second.ensures s) (λ l. absurd (omega arith))

pub returns : goal.returns
returns c = let a = c.args in
    λ s. numbers_of (element_number a.facts.now a.query.now a.places.now a.a) a.f c.requires.1.arity _ _ _ (λ l. c.element_number-first.ensures s) (λ l. c.element_number-second.ensures s) (λ l. c.element_number-third.ensures s)
