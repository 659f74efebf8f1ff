use mathlib.Core.Path.{◌∙◌}
use lib.ListN.{drop}
use Rattle.lexer.proofs.Pieces.{mark_bytes}
use Rattle.lexer.proofs.mark_at.Goals as goal

pub returns : goal.returns
returns c = let a = c.args in record {
  value = c.mark_of.ensures.piece (drop a.at a.text.now)
      ∙ rw (c.byte_at.ensures, c.byte_at-2.ensures) (mark_bytes a.text.now a.at c.requires);
  small = c.mark_of.ensures.small;
}
