use native.Mathlib.Omega.{arith}
use mathlib.Core.Path.{sym, ◌∙◌}
use Prim.Native.Nat.{◌+◌}
use lib.ListN.{length-set}
use Rattle.simple.proofs.ItemLaws.{item_room, label_missing, label_open, label_item}
use Rattle.terms.proofs.TokenLaws.{kind_within}
use Rattle.words.specs.Fields.{ROWS}
use Rattle.simple.proofs.labelled.Goals as goal

pub returns-then-w-eq0 : goal.returns-then-w-eq0
returns-then-w-eq0 c = label_missing _ _ _ _ _ (omega arith) c.requires.0 (sym c.leaf_at-w.ensures ∙ c.if-w-eq0.true)

pub returns-then-kind_at-ne5 : goal.returns-then-kind_at-ne5
returns-then-kind_at-ne5 c = label_open _ _ _ _ _ (omega arith) c.requires.0 (λ e. c.if-w-eq0.false (c.leaf_at-w.ensures ∙ e)) (λ e. c.if-kind_at-ne5.true (c.kind_at.ensures ∙ e))

pub comparison-a-requires : goal.comparison-a-requires
comparison-a-requires c = let l = kind_within c.args.tokens.now (c.args.p + 2) (omega (arith, c.kind_at.ensures)) in simp length-set (omega arith)

pub close_item-requires : goal.close_item-requires
close_item-requires c = item_room ROWS c.comparison-a.ensures (omega arith) (omega arith) (omega arith) (omega arith) (omega (arith, c.comparison-a.auto.words, length-set c.args.words.now c.args.n c.leaf_at-w.result))

pub shape_of-words : goal.shape_of-words
shape_of-words c = c.close_item.auto.words ∙ c.comparison-a.auto.words ∙ length-set c.args.words.now c.args.n c.leaf_at-w.result

pub returns : goal.returns
returns c = label_item _ _ _ _ _ (omega arith) c.requires.0 (λ e. c.if-w-eq0.false (c.leaf_at-w.ensures ∙ e)) (sym c.kind_at.ensures ∙ c.if-kind_at-ne5.false) c.leaf_at-w.ensures c.comparison-a.ensures c.close_item.ensures
