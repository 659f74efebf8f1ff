use native.Mathlib.Omega.{arith}
use mathlib.Core.Path.{sym, ◌∙◌}
use Rattle.simple.proofs.ItemLaws.{name_word, string_word, endl_item}
use Rattle.simple.proofs.item.Goals as goal

pub word_item-requires : goal.word_item-requires
word_item-requires c = (name_word (sym c.kind_at.ensures ∙ c.in-47.is), c.requires)

pub word_item-requires-in-48 : goal.word_item-requires-in-48
word_item-requires-in-48 c = (string_word (sym c.kind_at.ensures ∙ c.in-48.is), c.requires)

pub other_item-requires : goal.other_item-requires
other_item-requires c = (record { no_name = λ e. c.in_default.in_default-own.rest.0.1 (c.kind_at.ensures ∙ e); no_string = λ e. c.in_default.in_default-own.rest.1 (c.kind_at.ensures ∙ e); no_label = λ e. c.in_default.in_default-own.rest.0.0.0.1 (c.kind_at.ensures ∙ e); no_endl = λ e. c.in_default.in_default-own.rest.0.0.1 (c.kind_at.ensures ∙ e) }, c.requires)

pub returns-in-18 : goal.returns-in-18
returns-in-18 c = endl_item _ _ _ _ c.args.words.now (omega arith) (sym c.kind_at.ensures ∙ c.in-18.is) c.pack.ensures
