-- The operand bytes of a statement's names: a loop variable's by the depth of its FOR, an attribute's by its slot.
use Prim.Native.Nat.{ℕ, suc, ◌+◌, ◌-◌, ◌<◌, ◌≤◌}
use mathlib.Core.Path.{◌≡◌, refl, sym, ◌∙◌}
use mathlib.Core.Bool.{Bool, true, false, cond, ◌||◌}
use mathlib.Core.List.{List, [], ◌∷◌}
use native.Mathlib.Omega.{arith}
use borrow.Author.Tests.{lt-ltb, le-ltb, eq-eqb}
use lib.ListN.{length}
use Rattle.definition.specs.Text.{Text, same, member, some_of}
use Rattle.definition.proofs.BoolLaws.{is_true, contradiction}
use Rattle.definition.proofs.MeaningLaws.{same_equal, same_sym}
use Rattle.eval.specs.Nodes.{slot, variable, operand}
use Rattle.free.proofs.Slotted as Slotted
use Rattle.free.proofs.Slotted.{pos_le, pos_some, pos_same}
use Rattle.code.specs.Statements.{depth_in, Named}

-- a loop variable's FOR stands inside fewer FORs than are open
pub depth_less : (x : Text) (scope : List Text) → member x scope ≡ true → depth_in x scope < length scope
unfolding depth_in member some_of
depth_less x [] h = contradiction false h refl
depth_less x (y ∷ ys) h = rw (same_sym y x) (go (same x y) h (depth_less x ys))
  where
    go : (b : Bool) → b || member x ys ≡ true → (member x ys ≡ true → depth_in x ys < length ys) → cond b (length ys) (depth_in x ys) < suc (length ys)
    go true e more = omega arith
    go false e more = omega (arith, more e)

module _ (scope names : List Text) where
  unfoldable pub byte_of : Text → ℕ
  byte_of x = cond (member x scope) (72 + depth_in x scope) (cond (member x names) (63 + Slotted.slot names x) 255)

  pub byte_scope : (x : Text) → member x scope ≡ true → byte_of x ≡ 72 + depth_in x scope
  unfolding byte_of
  byte_scope x e = rw e refl

  pub byte_name : (x : Text) → member x scope ≡ false → member x names ≡ true → byte_of x ≡ 63 + Slotted.slot names x
  unfolding byte_of
  byte_name x e f = rw (e, f) refl

  module _ (shallow : length scope ≤ 32) (short : length names ≤ 4) where
    slot_some : (x : Text) → member x names ≡ true → (0 < Slotted.slot names x) × (Slotted.slot names x ≤ 4)
    slot_some x e = (pos_some x names 0 e, omega (arith, pos_le x names 0))

    -- a byte that is a slot is that of an attribute
    slotted : (x : Text) (i : ℕ) → operand (byte_of x) ≡ slot i → (member x names ≡ true) × (Slotted.slot names x ≡ suc i)
    unfolding byte_of
    slotted x i e = go (member x scope) (member x names) refl refl e
      where
        go : (b c : Bool) → member x scope ≡ b → member x names ≡ c → operand (cond b (72 + depth_in x scope) (cond c (63 + Slotted.slot names x) 255)) ≡ slot i
            → (c ≡ true) × (Slotted.slot names x ≡ suc i)
        go true c f g e =
            let h : 72 + depth_in x scope < 104 = omega (arith, depth_less x scope f) in
            let o : operand (72 + depth_in x scope) ≡ variable (72 + depth_in x scope - 72) = rw (le-ltb (72 + depth_in x scope) 64 (omega arith), le-ltb (72 + depth_in x scope) 72 (omega arith), lt-ltb (72 + depth_in x scope) 104 h) refl in
            absurd (let z : ◌≡◌ {A = ℕ} 0 1 = cc in omega arith)
        go false true f g e =
            let (l, h) = slot_some x g in
            let o : operand (63 + Slotted.slot names x) ≡ slot (63 + Slotted.slot names x - 64) = rw (le-ltb (63 + Slotted.slot names x) 64 (omega arith), lt-ltb (63 + Slotted.slot names x) 72 (omega arith)) refl in
            let z : 63 + Slotted.slot names x - 64 ≡ i = cc in
            (refl, omega (arith, z, l))
        go false false f g e = absurd (let z : ◌≡◌ {A = ℕ} 0 1 = cc in omega arith)

    same_slot : (x y : Text) (i : ℕ) → operand (byte_of x) ≡ slot i → operand (byte_of y) ≡ slot i → x ≡ y
    same_slot x y i e f =
        let (a, b) = slotted x i e in
        let (c, d) = slotted y i f in
        same_equal x y (pos_same x y names 0 a ∙ eq-eqb (Slotted.slot names x) (Slotted.slot names y) (b ∙ sym d))

    pub named : Named scope byte_of
    named = record {
      naming = record { apart = same_slot; depths = λ v t. open_byte v (is_true (member v scope) t) };
      depths = λ v t. byte_scope v (is_true (member v scope) t);
    }
      where
        open_byte : (v : Text) → member v scope ≡ true → operand (byte_of v) ≡ variable (byte_of v - 72)
        open_byte v m =
            let e = byte_scope v m in
            let h : byte_of v < 104 = omega (arith, depth_less v scope m, e) in
            rw (le-ltb (byte_of v) 64 (omega (arith, e)), le-ltb (byte_of v) 72 (omega (arith, e)), lt-ltb (byte_of v) 104 h) refl

    pub name_range : (x : Text) → member x scope ≡ false → member x names ≡ true → (64 ≤ byte_of x) × (byte_of x < 68)
    name_range x e f = let (l, h) = slot_some x f in let b = byte_name x e f in (omega (arith, b, l), omega (arith, b, h))

    pub scope_range : (x : Text) → member x scope ≡ true → (72 ≤ byte_of x) × (byte_of x < 104)
    scope_range x e = let b = byte_scope x e in let h = depth_less x scope e in (omega (arith, b), omega (arith, b, h))
