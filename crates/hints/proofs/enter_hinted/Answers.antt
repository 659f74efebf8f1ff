use Prim.Native.Nat.{ℕ}
use mathlib.Core.Path.{sym, ap, subst, ◌∙◌}
use mathlib.Core.List.{List}
use lib.Seq.{length-take-le}
use Rattle.parts.specs.Entries.{in_front, count_in}
use Rattle.parts.specs.Places.{PlaceWithin}
use Rattle.hints.proofs.enter_hinted.Goals as goal

pub slice_bounds-hinted_place-end-2 : goal.slice_bounds-hinted_place-end-2
slice_bounds-hinted_place-end-2 c = sym (length-take-le _ _ c.requires.0)

pub enter_at-requires : goal.enter_at-requires
enter_at-requires c = (c.requires.0, subst (λ (k : ℕ). PlaceWithin k c.hinted_place-place.result) (length-take-le c.args.n c.args.words.now c.requires.0) c.hinted_place-place.ensures.within)

pub returns : goal.returns
returns c = let w = c.args.words.now in
    let e = sym c.hinted_place-place.ensures.value in
    let g = c.enter_at.ensures in
    record { value = g.value ∙ ap (λ (es : List ℕ). count_in es w) e; words = g.words ∙ ap (λ (es : List ℕ). in_front es w) e }
