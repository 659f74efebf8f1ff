use mathlib.Core.Path.{subst}
use mathlib.Core.Bool.{true}
use Rattle.definition.specs.Text.{Text}
use Rattle.lines.specs.Put.{Put}
use Rattle.lines.proofs.Puts.{put_none}
use Rattle.listing.proofs.Listing.{byte_none, byte_some}
use Rattle.listing.proofs.put_byte.Goals as goal

pub returns-then-x-eq255 : goal.returns-then-x-eq255
returns-then-x-eq255 c = subst (λ (x : Text). Put true c.args.out.now c.args.at x c.args.at c.args.out.now) (byte_none c.args.x c.if-x-eq255.true) (put_none c.requires)

pub returns : goal.returns
returns c = let p = c.put_number in
    let a = c.args in
    subst (λ (x : Text). Put true a.out.now a.at x p.result p.new.out) (byte_some a.x c.if-x-eq255.false) p.ensures
