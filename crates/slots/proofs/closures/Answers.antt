use Rattle.std.proofs.Common.{rules, ◌≡◌, count_by}
use mathlib.Core.Path.{sym, ◌∙◌}
use lib.Dec.{eqb}
use Rattle.words.specs.Fields.{kind_of, CLOSURE}
use Rattle.slots.proofs.Arrays.{closures_counted}
use Rattle.slots.proofs.closures.Goals as goal

pub returns : goal.returns
returns c = let e : c.count.result ≡ count_by (λ w. eqb (kind_of w) CLOSURE) c.args.part.now = search rules in
    e ∙ sym (closures_counted c.args.part.now)
