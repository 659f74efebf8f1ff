-- What a line is, test by test.
use Prim.Native.Nat.{ℕ, ◌<◌, ◌≤◌}
use mathlib.Core.Path.{◌≡◌, refl, sym, ◌∙◌}
use mathlib.Core.List.{[], ◌∷◌}
use mathlib.Core.Bool.{Bool, true, false, ◌||◌}
use native.Mathlib.Omega.{arith}
use lib.Dec.{leb}
use lib.ListN.{length, take, length-take}
use borrow.Author.Tests.{leb-true, leb-false}
use Rattle.definition.specs.Text.{Text, span, starts, is_blank, is_name}
use Rattle.definition.specs.Limits.{WORD_BYTES}
use Rattle.definition.specs.Answer.{refused}
use Rattle.definition.specs.Facts.{is_inside, fact}
use Rattle.texts.proofs.RunLaws.{span_within, all_span, not_all_span}
use Rattle.texts.proofs.NameLaws.{name_long}
use Rattle.facts.specs.Lines.{line_at, end, skip, says, says_elements, role}

-- the name and the elements
module _ (l : Text) (n : ℕ) (h : n ≡ span is_inside l) where
  pub fact_unnamed : is_name (take n l) ≡ false → (i : ℕ) → says (refused 3 i) ≡ says (fact (line_at l i))
  unfolding fact
  fact_unnamed e i = rw (← h, e)

  pub fact_named : is_name (take n l) ≡ true → (i : ℕ) → says_elements l i n ≡ says (fact (line_at l i))
  unfolding fact says_elements
  fact_named e i = rw (← h, e)

  pub name_short : is_name (take n l) ≡ true → n ≤ WORD_BYTES
  name_short e = go (leb n WORD_BYTES) refl
    where
      go : (b : Bool) → leb n WORD_BYTES ≡ b → n ≤ WORD_BYTES
      go true f = leb-true n WORD_BYTES f
      go false f =
          let g : 32 < length (take n l) = rw length-take (omega (arith, leb-false n WORD_BYTES f, span_within is_inside l)) in
          let z : ◌≡◌ {A = Bool} true false = sym e ∙ name_long (take n l) g in
          let y : ◌≡◌ {A = ℕ} 0 1 = cc in absurd (omega arith)

or_true : (b : Bool) → b || true ≡ true
or_true true = refl
or_true false = refl

module _ (l : Text) where
  pub role_end : true ≡ starts (46 ∷ []) l → (i : ℕ) → end ≡ role (line_at l i)
  unfolding role
  role_end e i = rw (← e)

  module _ (d : false ≡ starts (46 ∷ []) l) where
    pub role_comment : true ≡ starts (35 ∷ []) l → (i : ℕ) → skip ≡ role (line_at l i)
    unfolding role
    role_comment e i = rw (← d, ← e)

    pub role_blank : span is_blank l ≡ length l → (i : ℕ) → skip ≡ role (line_at l i)
    unfolding role
    role_blank e i = rw (← d, all_span is_blank l e, or_true)

    pub role_fact : false ≡ starts (35 ∷ []) l → span is_blank l < length l → (i : ℕ) → says (fact (line_at l i)) ≡ role (line_at l i)
    unfolding role
    role_fact e h i = rw (← d, ← e, not_all_span is_blank l h)
