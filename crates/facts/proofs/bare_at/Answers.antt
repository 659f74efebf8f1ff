use mathlib.Core.Path.{◌≡◌}
use lib.ListN.{get_or}
use native.Mathlib.Omega.{arith}
use Rattle.std.proofs.Common.{rules}
use Rattle.std.proofs.lemmas.Option.{gets}
use Rattle.facts.proofs.WordLaws.{bare_long_at, bare_quote_at, bare_good_at}
use Rattle.facts.proofs.bare_at.Goals as goal

pub returns-then-e-b-gt32-clause-value : goal.returns-then-e-b-gt32-clause-value
returns-then-e-b-gt32-clause-value c = bare_long_at _ _ _ c.requires.b_in_bounds c.requires.fact c.run_end-e.ensures.value (omega (arith, c.if-e-b-gt32.true))

pub returns-then-eq-clause-value : goal.returns-then-eq-clause-value
returns-then-eq-clause-value c = let h : get_or c.args.l.now c.run_end-e.result 0 ≡ 34 = grind (rules, gets) in bare_quote_at _ _ _ c.requires.b_in_bounds c.requires.fact c.run_end-e.ensures.value h

pub returns-clause-value : goal.returns-clause-value
returns-clause-value c = let h : get_or c.args.l.now c.run_end-e.result 0 ≡ 34 → ⊥ = grind (rules, gets) in bare_good_at _ _ _ c.requires.b_in_bounds c.requires.fact c.run_end-e.ensures.value (omega (arith, c.if-e-b-gt32.false)) h
