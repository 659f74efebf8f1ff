-- What makes a text a name, test by test.
use Prim.Native.Nat.{◌+◌, ◌<◌, ◌≤◌}
use mathlib.Core.Path.{◌≡◌, refl}
use mathlib.Core.List.{[], ◌∷◌}
use mathlib.Core.Bool.{Bool, true, false, ◌&&◌}
use native.Mathlib.Omega.{arith}
use lib.ListN.{length, get_or, drop}
use borrow.Author.Tests.{le-leb, lt-leb}
use Rattle.definition.specs.Text.{Text, ascii, span, same, member, reserved, is_letter, is_part, is_name}
use Rattle.texts.proofs.RunLaws.{all_span, not_all_span}

no_and : (b : Bool) → b && false ≡ false
no_and true = refl
no_and false = refl

pub name_empty : (w : Text) → length w ≡ 0 → is_name w ≡ false
unfolding is_name
name_empty [] h = refl
name_empty (x ∷ xs) h = absurd (omega arith)

pub name_long : (w : Text) → 32 < length w → is_name w ≡ false
unfolding is_name
name_long [] h = refl
name_long (x ∷ xs) h = rw (lt-leb (length xs) 31 (omega arith)) (simp no_and)

pub name_first : (w : Text) → is_letter (get_or w 0 0) ≡ false → is_name w ≡ false
unfolding is_name
name_first [] e = refl
name_first (x ∷ xs) e = rw e

pub name_part : (w : Text) → 1 + span is_part (drop 1 w) < length w → is_name w ≡ false
unfolding is_name
name_part [] h = refl
name_part (x ∷ xs) h = rw (not_all_span is_part xs (omega arith)) (simp no_and)

pub name_any : (w : Text) → same w (ascii "_") ≡ true → is_name w ≡ false
unfolding is_name
name_any [] e = refl
name_any (x ∷ xs) e = rw e (simp no_and)

pub name_reserved : (w : Text) → member w reserved ≡ true → is_name w ≡ false
unfolding is_name
name_reserved [] e = refl
name_reserved (x ∷ xs) e = rw e (simp no_and)

pub name_good : (w : Text) → 0 < length w → length w ≤ 32 → is_letter (get_or w 0 0) ≡ true → length w ≤ 1 + span is_part (drop 1 w)
    → 1 + span is_part (drop 1 w) ≤ length w → same w (ascii "_") ≡ false → member w reserved ≡ false → is_name w ≡ true
unfolding is_name
name_good [] h g l p q u m = absurd (omega arith)
name_good (x ∷ xs) h g l p q u m = rw (l, all_span is_part xs (omega arith), le-leb (length xs) 31 (omega arith), u, m)

-- the tests, for the goals of the function
pub ruleset tests = (name_empty, name_long, name_first, name_part, name_any, name_reserved, name_good)
