use mathlib.Core.Path.{ap, ◌∙◌}
use native.Mathlib.Omega.{arith}
use Rattle.definition.specs.Text.{needs_quotes}
use Rattle.facts.proofs.UseLaws.{tag_is, tag_small}
use Rattle.universe.proofs.StringWords.{string_number}
use Rattle.universe.proofs.string_word.Goals as goal

pub overflow_add-result-3 : goal.overflow_add-result-3
overflow_add-result-3 c = let q = c.needs_quotes-tag.result in omega (arith, tag_is q, tag_small q)

pub returns : goal.returns
returns c = let a = c.args in
    string_number a.query.now a.t _ _ _ (omega (arith, c.place-start.ensures)) c.text_length-n.ensures (c.needs_quotes-tag.ensures ∙ ap needs_quotes c.part.ensures)
