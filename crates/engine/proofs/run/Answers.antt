use mathlib.Core.Path.{sym}
use native.Mathlib.Omega.{arith}
use lib.Seq.{length-take-le}
use Rattle.coding.proofs.Passing.{zeros_below}
use Rattle.engine.proofs.Begins.{held, not_held, refused_so}
use borrow.Author.Rules.{rules}
use Rattle.engine.proofs.run.Goals as goal

pub read-requires : goal.read-requires
read-requires c = record { relations_len = search rules; small = zeros_below 2048 4096 (omega arith) }

pub slice_bounds-relations-end : goal.slice_bounds-relations-end
slice_bounds-relations-end c = let t = held _ _ _ _ _ c.read.ensures _ c.in-Ok.is in t.fits.relations_inside

pub slice_bounds-with_texts-end : goal.slice_bounds-with_texts-end
slice_bounds-with_texts-end c = let t = held _ _ _ _ _ c.read.ensures _ c.in-Ok.is in sym (length-take-le _ _ t.fits.relations_inside)

pub slice_bounds-places-end : goal.slice_bounds-places-end
slice_bounds-places-end c = let t = held _ _ _ _ _ c.read.ensures _ c.in-Ok.is in t.fits.places_inside

pub slice_bounds-with_texts-end-in-Ok : goal.slice_bounds-with_texts-end-in-Ok
slice_bounds-with_texts-end-in-Ok c = let t = held _ _ _ _ _ c.read.ensures _ c.in-Ok.is in sym (length-take-le _ _ t.fits.places_inside)

pub slice_bounds-low-end : goal.slice_bounds-low-end
slice_bounds-low-end c = let t = held _ _ _ _ _ c.read.ensures _ c.in-Ok.is in t.fits.words_inside

pub slice_bounds-with_texts-end-in-Ok-2 : goal.slice_bounds-with_texts-end-in-Ok-2
slice_bounds-with_texts-end-in-Ok-2 c = let t = held _ _ _ _ _ c.read.ensures _ c.in-Ok.is in sym (length-take-le _ _ t.fits.words_inside)

pub with_texts-requires : goal.with_texts-requires
with_texts-requires c = let t = held _ _ _ _ _ c.read.ensures _ c.in-Ok.is in (t.fits.given.few_relations, t.fits.given.few_places, t.fits.given.short)

pub returns-in-Err : goal.returns-in-Err
returns-in-Err c =
    let h = refused_so c.args.facts.now c.args.query.now c.args.budget c.args.store.now c.args.output.now _ (not_held _ _ _ _ _ c.read.ensures _ c.in-Err.is) _ c.not_run.ensures in
    record { run_meets = h.0; counts_meet = h.1 }

pub returns-in-Ok : goal.returns-in-Ok
returns-in-Ok c =
    let h = let t = held _ _ _ _ _ c.read.ensures _ c.in-Ok.is in c.with_texts.ensures t.w t.fits.given in
    record { run_meets = h.0; counts_meet = h.1 }
