use mathlib.Core.Path.{refl}
use borrow.Author.Tests.{ne_eqb}
use Rattle.words.specs.Parts.{ends}
use Rattle.rows.proofs.ends.Goals as goal

pub returns-in-6 : goal.returns-in-6
unfolding ends
returns-in-6 c = rw c.in-6.is refl

pub returns-in-7 : goal.returns-in-7
unfolding ends
returns-in-7 c = rw c.in-7.is refl

pub returns-in-33 : goal.returns-in-33
unfolding ends
returns-in-33 c = rw c.in-33.is refl

pub returns-in-34 : goal.returns-in-34
unfolding ends
returns-in-34 c = rw c.in-34.is refl

pub returns-in-35 : goal.returns-in-35
unfolding ends
returns-in-35 c = rw c.in-35.is refl

pub returns-in-36 : goal.returns-in-36
unfolding ends
returns-in-36 c = rw c.in-36.is refl

pub returns-in-37 : goal.returns-in-37
unfolding ends
returns-in-37 c = rw c.in-37.is refl

pub returns-in_default : goal.returns-in_default
unfolding ends
returns-in_default c = let z = c.in_default.in_default-own.rest in
    simp (ne_eqb _ _ z.0.0.0.0.0.0.1, ne_eqb _ _ z.0.0.0.0.0.1, ne_eqb _ _ z.0.0.0.0.1, ne_eqb _ _ z.0.0.0.1, ne_eqb _ _ z.0.0.1, ne_eqb _ _ z.0.1, ne_eqb _ _ z.1)
