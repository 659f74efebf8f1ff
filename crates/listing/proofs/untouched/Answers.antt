use mathlib.Core.Path.{◌≡◌, sym, ◌∙◌}
use lib.Dec.{eqb}
use Rattle.std.proofs.Common.{rules, count_by}
use Rattle.listing.proofs.Counts.{kept_counted}
use Rattle.listing.proofs.untouched.Goals as goal

pub returns : goal.returns
returns c = let e : c.count.result ≡ count_by (λ x. eqb x 255) c.args.buffer.now = search rules in e ∙ sym (kept_counted c.args.buffer.now)
