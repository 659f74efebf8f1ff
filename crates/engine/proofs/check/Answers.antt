use mathlib.Core.Path.{sym}
use native.Mathlib.Omega.{arith}
use lib.Seq.{length-take-le}
use Rattle.coding.proofs.Passing.{zeros_below}
use Rattle.engine.proofs.Begins.{held, not_held}
use borrow.Author.Rules.{rules}
use Rattle.engine.proofs.check.Goals as goal

pub read-requires : goal.read-requires
read-requires c = record { relations_len = search rules; small = zeros_below 2048 4096 (omega arith) }

pub slice_bounds-relations-end : goal.slice_bounds-relations-end
slice_bounds-relations-end c = let t = held _ _ _ _ _ c.read.ensures _ c.in-Ok.is in t.fits.relations_inside

pub slice_bounds-passed-end : goal.slice_bounds-passed-end
slice_bounds-passed-end c = let t = held _ _ _ _ _ c.read.ensures _ c.in-Ok.is in sym (length-take-le _ _ t.fits.relations_inside)

pub slice_bounds-places-end : goal.slice_bounds-places-end
slice_bounds-places-end c = let t = held _ _ _ _ _ c.read.ensures _ c.in-Ok.is in t.fits.places_inside

pub slice_bounds-passed-end-in-Ok : goal.slice_bounds-passed-end-in-Ok
slice_bounds-passed-end-in-Ok c = let t = held _ _ _ _ _ c.read.ensures _ c.in-Ok.is in sym (length-take-le _ _ t.fits.places_inside)

pub passed-requires : goal.passed-requires
passed-requires c = let t = held _ _ _ _ _ c.read.ensures _ c.in-Ok.is in (t.fits.given.few_relations, t.fits.given.few_places, t.fits.given.short)

pub returns-in-Err : goal.returns-in-Err
returns-in-Err c = c.not_passed.ensures (not_held _ _ _ _ _ c.read.ensures _ c.in-Err.is)

pub returns-in-Ok : goal.returns-in-Ok
returns-in-Ok c = let t = held _ _ _ _ _ c.read.ensures _ c.in-Ok.is in c.passed.ensures t.w t.fits.given.known
