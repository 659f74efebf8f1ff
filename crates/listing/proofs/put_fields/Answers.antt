use mathlib.Core.Path.{subst}
use mathlib.Core.Bool.{true}
use Rattle.definition.specs.Text.{Text}
use Rattle.lines.specs.Put.{Put}
use Rattle.lines.proofs.Puts.{put_then}
use Rattle.listing.proofs.Listing.{fields_parts}
use Rattle.listing.proofs.put_fields.Goals as goal

pub returns : goal.returns
returns c = let a = c.args in
    subst (λ (x : Text). Put true a.out.now a.at x c.put_number.result c.put_number.new.out) (fields_parts a.a a.b a.c a.d)
    (put_then (put_then (put_then (put_then c.put-p.ensures c.put_number-q.ensures) c.put_number-s.ensures) c.put_number-t.ensures) c.put_number.ensures)
