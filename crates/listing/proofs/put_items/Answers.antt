use Prim.Native.Nat.{ℕ}
use mathlib.Core.Path.{ap, subst, ◌∙◌}
use mathlib.Core.Bool.{true}
use mathlib.Core.List.{List}
use lib.ListN.{take}
use lib.Seq.{take_all}
use Rattle.std.proofs.lemmas.List.{take_min}
use Rattle.definition.specs.Text.{gather}
use Rattle.lines.specs.Put.{Put}
use Rattle.listing.specs.Listed.{item_text}
use Rattle.listing.proofs.Listing.{put_start, put_next}
use Rattle.listing.proofs.put_items.Goals as goal

pub loop-w-init : goal.loop-w-init
loop-w-init c = put_start (item_text c.args.item) (take c.min.result c.args.words.now) c.requires

pub loop-w-preserved : goal.loop-w-preserved
loop-w-preserved c = let L = c.loop-w in put_next (item_text c.args.item) _ L.w-index c.loop-w-test.true L.invariant c.put_item-p.ensures

pub returns : goal.returns
returns c = let L = c.loop-w in
    let a = c.args in
    subst (λ (l : List ℕ). Put true a.out.now a.at (gather (item_text a.item) l) L.p L.out)
    (take_all L.w-index (take c.min.result a.words.now) c.loop-w-test.false ∙ ap (λ (k : ℕ). take k a.words.now) c.min.ensures ∙ take_min a.n a.words.now) L.invariant
