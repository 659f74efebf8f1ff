use mathlib.Core.Path.{refl, sym}
use native.Mathlib.Omega.{arith}
use lib.Seq.{length-take-le}
use Rattle.std.proofs.lemmas.Result.{err_from_is_err_and}
use Rattle.acceptance.proofs.Answers.{taken, not_taken}
use Rattle.engine.specs.Given.{prepared, refuses}
use Rattle.engine.proofs.Begins.{few_sized, fits_so}
use borrow.Author.Rules.{rules}
use Rattle.engine.proofs.read.Goals as goal

pub accept-requires : goal.accept-requires
accept-requires c = record { relations_len = (search rules, search rules); tokens_len = (refl, refl); ids_len = (refl, (refl, search rules)); small = c.requires.small }

pub slice_bounds-tokens-end : goal.slice_bounds-tokens-end
slice_bounds-tokens-end c = let t = taken _ _ _ _ _ _ _ _ c.accept.ensures _ c.in_ok-s.was in t.sized.tokens_inside

pub slice_bounds-translate-end : goal.slice_bounds-translate-end
slice_bounds-translate-end c = let t = taken _ _ _ _ _ _ _ _ c.accept.ensures _ c.in_ok-s.was in sym (length-take-le _ _ t.sized.tokens_inside)

pub slice_bounds-words-end : goal.slice_bounds-words-end
slice_bounds-words-end c = let t = taken _ _ _ _ _ _ _ _ c.accept.ensures _ c.in_ok-s.was in t.sized.words_inside

pub slice_bounds-translate-end-2 : goal.slice_bounds-translate-end-2
slice_bounds-translate-end-2 c = let t = taken _ _ _ _ _ _ _ _ c.accept.ensures _ c.in_ok-s.was in sym (length-take-le _ _ t.sized.words_inside)

pub slice_bounds-translate-end-5 : goal.slice_bounds-translate-end-5
slice_bounds-translate-end-5 c = let t = taken _ _ _ _ _ _ _ _ c.accept.ensures _ c.in_ok-s.was in t.sized.places_inside

pub slice_bounds-translate-end-6 : goal.slice_bounds-translate-end-6
slice_bounds-translate-end-6 c = let t = taken _ _ _ _ _ _ _ _ c.accept.ensures _ c.in_ok-s.was in sym (length-take-le _ _ t.sized.places_inside)

pub overflow_cast-s : goal.overflow_cast-s
overflow_cast-s c = let t = taken _ _ _ _ _ _ _ _ c.accept.ensures _ c.in_ok-s.was in omega (arith, (few_sized _ _ _ _ _ _ _ _ _ t.w t.sized).0)

pub translate-requires : goal.translate-requires
translate-requires c = let t = taken _ _ _ _ _ _ _ _ c.accept.ensures _ c.in_ok-s.was in (t.sized.reading.few_tokens, t.sized.reading.few_words, omega (arith, c.requires.relations_len))

pub returns-in_err-s : goal.returns-in_err-s
returns-in_err-s c = let p = err_from_is_err_and c.from_residual.result c.from_residual.ensures.1 in
    rw (p.1, p.2) (refuses (not_taken _ _ _ _ _ _ _ _ c.accept.ensures _ c.in_err-s.was))

pub returns : goal.returns
returns c = let t = taken _ _ _ _ _ _ _ _ c.accept.ensures _ c.in_ok-s.was in
    prepared t.w
    (fits_so _ _ _ _ _ _ _ _ _ t.w t.sized _ refl _ (omega (arith, (few_sized _ _ _ _ _ _ _ _ _ t.w t.sized).1, c.requires.relations_len)) c.translate.ensures)
