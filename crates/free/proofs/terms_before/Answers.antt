use Rattle.free.proofs.Frame.{terms_start, terms_yes, terms_no}
use Rattle.free.specs.Words.{at}
use mathlib.Core.Path.{◌∙◌}
use Prim.Native.Nat.{◌-◌}
use native.Mathlib.Omega.{arith}
use Rattle.free.proofs.terms_before.Goals as goal

pub returns-then-k-s : goal.returns-then-k-s
returns-then-k-s c = (terms_start (at c.args.words.now) (at c.args.fr.now) _ _ c.if-k-s.true, omega arith)

pub returns-then-is_leaf : goal.returns-then-is_leaf
returns-then-is_leaf c = (c.word_at-then-is_leaf.ensures ∙ terms_yes (at c.args.words.now) (at c.args.fr.now) _ _ _ _ c.if-k-s.false c.word_at.ensures c.is_leaf.ensures c.if-is_leaf.true, omega (arith, c.word_at-then-is_leaf.ensures, c.requires (c.args.k - 1)))

pub returns : goal.returns
returns c = (terms_no (at c.args.words.now) (at c.args.fr.now) _ _ _ _ c.if-k-s.false c.word_at.ensures c.is_leaf.ensures c.if-is_leaf.false, omega arith)
