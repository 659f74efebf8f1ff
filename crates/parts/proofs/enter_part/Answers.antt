use Prim.Native.Nat.{ℕ}
use mathlib.Core.Path.{sym, ap, subst, ◌∙◌}
use mathlib.Core.List.{List}
use lib.Seq.{length-take-le}
use Rattle.parts.specs.Entries.{in_front, count_in}
use Rattle.parts.specs.Places.{PlaceWithin}
use Rattle.parts.proofs.enter_part.Goals as goal

pub slice_bounds-place_of-end-2 : goal.slice_bounds-place_of-end-2
slice_bounds-place_of-end-2 c = sym (length-take-le _ _ c.requires)

pub enter_at-requires : goal.enter_at-requires
enter_at-requires c = (c.requires, subst (λ (k : ℕ). PlaceWithin k c.place_of-place.result) (length-take-le c.args.n c.args.words.now c.requires) c.place_of-place.ensures.within)

pub returns : goal.returns
returns c = let w = c.args.words.now in
    let e = sym c.place_of-place.ensures.value in
    let g = c.enter_at.ensures in
    record { value = g.value ∙ ap (λ (es : List ℕ). count_in es w) e; words = g.words ∙ ap (λ (es : List ℕ). in_front es w) e }
