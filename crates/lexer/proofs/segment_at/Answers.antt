use mathlib.Core.Path.{sym, ◌∙◌}
use Rattle.lexer.proofs.Pieces.{separator, letter, digit, quote, mark}
use Rattle.lexer.proofs.segment_at.Goals as goal

pub returns-then-separates : goal.returns-then-separates
returns-then-separates c = record { value = separator c.args.text.now c.args.at c.requires (sym c.separates.ensures ∙ c.if-separates.true); small = tt }

pub returns-then-is_letter : goal.returns-then-is_letter
returns-then-is_letter c = let black = sym c.separates.ensures ∙ c.if-separates.false in
    let begins = sym c.is_letter.ensures ∙ c.if-is_letter.true in
    record { value = c.word_at.ensures.value ∙ letter c.args.text.now c.args.at c.requires black c.if-x-eq47.false begins; small = c.word_at.ensures.small }

pub returns-then-of_class : goal.returns-then-of_class
returns-then-of_class c = let black = sym c.separates.ensures ∙ c.if-separates.false in
    let other = sym c.is_letter.ensures ∙ c.if-is_letter.false in
    let begins = sym c.of_class.ensures ∙ c.if-of_class.true in
    record { value = c.digits_at.ensures.value ∙ digit c.args.text.now c.args.at c.requires black c.if-x-eq47.false other begins; small = c.digits_at.ensures.small }

pub returns-then-x-eq34 : goal.returns-then-x-eq34
returns-then-x-eq34 c = let black = sym c.separates.ensures ∙ c.if-separates.false in
    let other = sym c.is_letter.ensures ∙ c.if-is_letter.false in
    let none = sym c.of_class.ensures ∙ c.if-of_class.false in
    record { value = c.string_at.ensures.value ∙ quote c.args.text.now c.args.at c.requires black c.if-x-eq47.false other none c.if-x-eq34.true; small = c.string_at.ensures.small }

pub returns : goal.returns
returns c = let black = sym c.separates.ensures ∙ c.if-separates.false in
    let other = sym c.is_letter.ensures ∙ c.if-is_letter.false in
    let none = sym c.of_class.ensures ∙ c.if-of_class.false in
    record { value = c.mark_at.ensures.value ∙ mark c.args.text.now c.args.at c.requires black c.if-x-eq47.false other none c.if-x-eq34.false; small = c.mark_at.ensures.small }
