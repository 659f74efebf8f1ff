-- A result that the element call's contract fixes, by what is owed of the element.
use Prim.Native.Nat.{ℕ}
use mathlib.Core.Path.{◌≡◌, ap, ◌∙◌}
use Rattle.definition.specs.Text.{Text}
use Rattle.definition.specs.Limits.{document_01}
use Rattle.definition.specs.Calls.{Part, part_text, element}
use Rattle.element.specs.Addresses.{address}
use Rattle.element_test.specs.Worked.{part, Is}

module _ {facts query value : Text} {n text offset : ℕ} (h : Is facts query n text offset value) where
  -- its bytes, as a part of the text and as a value
  pub part_is : {r : Text} → r ≡ part_text facts query (element document_01 facts query n) → r ≡ part_text facts query (part text offset value)
  part_is e = e ∙ ap (part_text facts query) h.place

  pub value_is : {r : Text} → r ≡ part_text facts query (element document_01 facts query n) → r ≡ value
  value_is e = part_is e ∙ h.bytes

  -- its address
  pub address_is : (f q : ℕ × ℕ) {r : ℕ × ℕ} → r ≡ address f q (element document_01 facts query n) → r ≡ address f q (part text offset value)
  address_is f q e = e ∙ ap (address f q) h.place

  -- the number of its text
  pub text_is : (element document_01 facts query n).text ≡ text
  text_is = ap (λ (p : Part). p.text) h.place
