use mathlib.Core.Path.{◌≡◌, refl}
use native.Mathlib.Omega.{arith}
use Rattle.facts.proofs.with_item.Goals as goal

pub returns-in-0 : goal.returns-in-0
returns-in-0 c = let h : c.args.f.arity ≡ 0 = omega arith in
    record { name = refl; arity = refl; items = rw h; within = λ n w v. record { name = w.name; name_end = w.name_end; arity = omega arith; first = v; second = w.second; third = w.third } }

pub returns-in-1 : goal.returns-in-1
returns-in-1 c = let h : c.args.f.arity ≡ 1 = omega arith in
    record { name = refl; arity = refl; items = rw h; within = λ n w v. record { name = w.name; name_end = w.name_end; arity = omega arith; first = w.first; second = v; third = w.third } }

pub returns-in_default : goal.returns-in_default
returns-in_default c = let h : c.args.f.arity ≡ 2 = omega arith in
    record { name = refl; arity = refl; items = rw h; within = λ n w v. record { name = w.name; name_end = w.name_end; arity = omega arith; first = w.first; second = w.second; third = v } }
