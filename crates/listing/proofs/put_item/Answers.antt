use mathlib.Core.Path.{subst}
use mathlib.Core.Bool.{true}
use Rattle.definition.specs.Text.{Text}
use Rattle.lines.specs.Put.{Put}
use Rattle.listing.proofs.Listing.{token_fields, word_fields}
use Rattle.listing.proofs.put_item.Goals as goal

pub returns-in-Token : goal.returns-in-Token
returns-in-Token c = let p = c.put_fields in
    let a = c.args in
    subst (λ (x : Text). Put true a.out.now a.at x p.result p.new.out)
    (token_fields a.w c.in-Token.is c.kind-k.ensures c.place-p.ensures c.text_start-s.ensures c.text_length-n.ensures)
    p.ensures

pub returns-in-Word : goal.returns-in-Word
returns-in-Word c = let p = c.put_fields-in-Word in
    let a = c.args in
    subst (λ (x : Text). Put true a.out.now a.at x p.result p.new.out) (word_fields a.w c.in-Word.is) p.ensures
