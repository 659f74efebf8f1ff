use borrow.Author.Rules.{rules}
use Rattle.definition.specs.Tables.{closure}
use Rattle.closure.proofs.close.Goals as goal

pub returns : goal.returns
unfolding closure
returns c = search rules
