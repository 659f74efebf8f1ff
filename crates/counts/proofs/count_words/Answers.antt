use Rattle.std.proofs.Common.{◌≡◌, ◌∙◌, map, sum, rules}
use Rattle.std.specs.Int.Count.{ones}
use Rattle.counts.proofs.Ones.{sum_ones}
use Rattle.counts.proofs.count_words.Goals as goal

pub returns : goal.returns
returns c =
    let total : c.sum.result ≡ sum (map ones c.args.words.now) = search rules in
    total ∙ sum_ones c.args.words.now
