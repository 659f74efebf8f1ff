-- The universe has at most as many elements as the limit says.
use mathlib.Core.Path.{◌≡◌, subst}
use mathlib.Core.List.{List, [], ◌∷◌}
use Prim.Native.Nat.{◌≤◌}
use native.Mathlib.Omega.{arith}
use lib.Dec.{ltb}
use lib.ListN.{length}
use borrow.Author.Tests.{ltb-false}
use Rattle.definition.specs.Text.{Text}
use Rattle.definition.specs.Limits.{Limits}
use Rattle.definition.specs.Answer.{ok, refuse_if}
use Rattle.definition.specs.Facts.{Element, Facts, insert, use_elements, read_facts}
use Rattle.definition.proofs.AcceptLaws.{then_ok, was_ok, not_refused, ok_injective, facts_hold, parts}
use Rattle.definition.specs.Accept.{Accepted, accept}
use Rattle.definition.specs.Names.{left_strings}

pub elements_few : (limits : Limits) (es : List Element) (us vs : List Text) → use_elements limits es us ≡ ok vs → length us ≤ limits.elements → length vs ≤ limits.elements
unfolding use_elements
elements_few limits [] us vs e h = subst (λ (l : List Text). length l ≤ limits.elements) (ok_injective e) h
elements_few limits (x ∷ es) us vs e h =
    let over = ltb limits.elements (length (insert x.value us)) in
    let go_on = use_elements limits es (insert x.value us) in
    elements_few limits es (insert x.value us) vs (then_ok (refuse_if over 7 x.at) go_on vs e) (ltb-false limits.elements (length (insert x.value us)) (not_refused over 7 x.at (was_ok (refuse_if over 7 x.at) go_on vs e)))

pub facts_few : (limits : Limits) (xs : Text) (f : Facts) → read_facts limits xs ≡ ok f → length f.universe ≤ limits.elements
facts_few limits = facts_hold limits (λ u. length u.universe ≤ limits.elements) (λ l f s t p a h. elements_few limits f.elements s.universe t.universe a.universe h) (omega arith)

pub universe_few : (limits : Limits) (facts query : Text) (w : Accepted) → accept limits facts query ≡ ok w → length w.universe ≤ limits.elements
universe_few limits facts query w e =
    let h = parts limits facts query w e in
    elements_few limits (left_strings w.program) h.facts_read.universe w.universe h.collected (facts_few limits facts h.facts_read h.read)
