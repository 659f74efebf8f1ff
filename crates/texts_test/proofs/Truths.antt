-- Two equal truth values compare as equal.
use mathlib.Core.Path.{◌≡◌, refl, subst}
use mathlib.Core.Bool.{Bool, true, false, beq}

itself : (a : Bool) → beq a a ≡ true
itself true = refl
itself false = refl

pub equal : {a b : Bool} → a ≡ b → beq a b ≡ true
equal {a} {b} e = subst (λ (t : Bool). beq a t ≡ true) e (itself a)
