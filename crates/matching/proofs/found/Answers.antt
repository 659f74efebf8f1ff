use mathlib.Core.Path.{refl, subst}
use native.Mathlib.Omega.{arith}
use Prim.Native.Nat.{ℕ, ◌+◌, ◌*◌}
use lib.ListN.{length, get_or}
use Rattle.definition.specs.Pattern.{branches, phrase}
use Rattle.matching.specs.Images.{Leads, itself}
use Rattle.matching.proofs.MatchLaws.{the_match}
use Rattle.matching.proofs.found.Goals as goal

pub returns : goal.returns
returns c = the_match c.args.element.now c.args.pattern.now (4 * (length c.args.pattern.now + 1)) (get_or c.branches_rows.new.rows 0 0) c.requires.2 refl
    (subst (λ (w : ℕ). Leads (phrase (4 * (length c.args.pattern.now + 1)) branches c.args.pattern.now) c.args.element.now itself w (get_or c.branches_rows.new.rows 0 0)) c.all.ensures (c.branches_rows.ensures.each 0 (omega arith)))
