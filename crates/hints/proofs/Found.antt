-- A part whose text is the same stands at its place, since the parts are in byte order.
use Prim.Native.Nat.{ℕ, ◌<◌}
use mathlib.Core.Path.{◌≡◌, sym, ap, ◌∙◌}
use mathlib.Core.Bool.{true}
use mathlib.Core.List.{List}
use lib.ListN.{length, get_or}
use Rattle.definition.specs.Text.{Text, same}
use Rattle.definition.specs.Facts.{Ascending}
use Rattle.texts.specs.Orders.{order}
use Rattle.std.specs.declared.cmp.Ordering.TheVariants.{Equal}
use Rattle.parts.specs.Packed.{text_of}
use Rattle.parts.specs.Entries.{enter, texts_of}
use Rattle.parts.specs.Places.{entered_at}
use Rattle.std.specs.Prelude.{Ok}
use Rattle.parts.proofs.EntryLaws.{sorted_found}

in_order : (s t : Text) → same s t ≡ true → order s t ≡ Equal
unfolding order
in_order s t e = rw e

pub found_at : (facts query : Text) (v : ℕ) (ws : List ℕ) (k : ℕ) (t : Text) → t ≡ text_of facts query v → Ascending (texts_of facts query ws) → k < length ws
    → same t (text_of facts query (get_or ws k 0)) ≡ true → enter facts query v ws ≡ entered_at v ws (Ok k)
found_at facts query v ws k t e a h s = sorted_found facts query v ws k a h (in_order (text_of facts query v) (text_of facts query (get_or ws k 0)) (ap (λ (x : Text). same x (text_of facts query (get_or ws k 0))) (sym e) ∙ s))
