use mathlib.Core.Path.{sym}
use lib.Seq.{set_out}
use Rattle.lexer.proofs.put.Goals as goal

pub returns-else-i-words : goal.returns-else-i-words
returns-else-i-words c = let a = c.args in sym (set_out a.words.now a.i a.word c.if-i-words.false)
