-- Bytes put one after the other.
use Prim.Native.Nat.{ℕ, ◌+◌, ◌-◌, ◌<◌, ◌≤◌, min}
use mathlib.Core.Path.{◌≡◌, refl, sym, ap, ap₂, subst, ◌∙◌}
use mathlib.Core.Bool.{Bool, true, false, cond}
use mathlib.Core.List.{List, [], ◌∷◌, ◌++◌}
use mathlib.Core.Logic.{◌⊎◌, inl, inr, ⊎_elim}
use native.Mathlib.Nat.{add-zero, min-eq_left, min-eq_right, min-le_left, min-le_right}
use native.Mathlib.Omega.{arith}
use borrow.Author.Tests.{leb-true, leb-false, le-leb, lt-leb}
use lib.Dec.{leb}
use lib.ListN.{length, get_or, set, take, drop, length-append, take-append-drop}
use lib.Seq.{sets, length-sets, set_out, length-take-le, take_all}
use Rattle.tuples.proofs.Stores.{sets_append, sets_more, sets_out}
use Rattle.lines.specs.Put.{Put, Printed}

pub le_or_lt : (a b : ℕ) → (a ≤ b) ⊎ (b < a)
le_or_lt a b = go (leb a b) refl
  where
    go : (t : Bool) → leb a b ≡ t → (a ≤ b) ⊎ (b < a)
    go true e = inl (leb-true a b e)
    go false e = inr (leb-false a b e)

module _ {w : Bool} {out : List ℕ} {at : ℕ} {x : List ℕ} {r : ℕ} {out₁ : List ℕ} (p : Put w out at x r out₁) where
  pub put_length : length out₁ ≡ length out
  put_length = ap length p.bytes ∙ go w
    where
      go : (b : Bool) → length (cond b (sets out at x) out) ≡ length out
      go true = length-sets out at x
      go false = refl

  pub put_within : r ≤ length out₁ + 1
  put_within = omega (arith, p.end, min-le_right (at + length x) (length out + 1), put_length)

-- nothing
pub put_none : {w : Bool} {out : List ℕ} {at : ℕ} → at ≤ length out + 1 → Put w out at [] at out
put_none {w} {out} {at} h = record { end = sym (ap (λ (k : ℕ). min k (length out + 1)) (add-zero at) ∙ min-eq_left h); bytes = go w }
  where
    go : (b : Bool) → out ≡ cond b out out
    go true = refl
    go false = refl

-- one byte: inside, and past the end
pub put_in : (w : Bool) (out : List ℕ) (at b : ℕ) → at < length out → Put w out at (b ∷ []) (at + 1) (cond w (set out at b) out)
put_in w out at b h = record { end = sym (min-eq_left (omega arith)); bytes = refl }

pub put_past : (w : Bool) (out : List ℕ) (at b : ℕ) → length out ≤ at → Put w out at (b ∷ []) (length out + 1) out
put_past w out at b h = record { end = sym (min-eq_right (omega arith)); bytes = go w }
  where
    go : (t : Bool) → out ≡ cond t (set out at b) out
    go true = sym (set_out out at b h)
    go false = refl

-- a text
pub put_written : (w : Bool) (out : List ℕ) (at : ℕ) (x : List ℕ) (r : ℕ) (out₁ : List ℕ) → w ≡ true → r ≡ min (at + length x) (length out + 1) → out₁ ≡ sets out at x → Put w out at x r out₁
put_written w out at x r out₁ h e f = record { end = e; bytes = f ∙ ap (λ (b : Bool). cond b (sets out at x) out) (sym h) }

-- a text copied up to place p
module _ (out o s : List ℕ) (at p : ℕ) (l : at ≤ p) (e : o ≡ sets out at (take (p - at) s)) where
  there : at + (p - at) ≡ p
  there = omega arith

  pub copy_more : p < at + length s → set o p (get_or s (p - at) 0) ≡ sets out at (take (p + 1 - at) s)
  copy_more h =
      ap₂ (λ (k : List ℕ) (i : ℕ). set k i (get_or s (p - at) 0)) e (sym there)
      ∙ sets_more out at s (p - at) 0 (omega arith)
      ∙ ap (λ (i : ℕ). sets out at (take i s)) next
    where
      next : p - at + 1 ≡ p + 1 - at
      next = omega arith

  pub copy_all : min (at + length s) (length out) ≤ p → o ≡ sets out at s
  copy_all h = ⊎_elim (λ k. e ∙ ap (sets out at) (take_all (p - at) s k)) (λ k. e ∙ cut k) (le_or_lt (length s) (p - at))
    where
      past : p - at < length s → length out ≤ p
      past k = ⊎_elim (λ m. absurd (low m k)) (λ m. subst (λ (i : ℕ). i ≤ p) (min-eq_right (omega arith)) h) (le_or_lt (at + length s) (length out))
        where
          low : at + length s ≤ length out → p - at < length s → ⊥
          low m k = omega (arith, subst (λ (i : ℕ). i ≤ p) (min-eq_left m) h)

      cut : p - at < length s → sets out at (take (p - at) s) ≡ sets out at s
      cut k =
          sym (sets_out (drop (p - at) s) (sets out at (take (p - at) s)) (at + length (take (p - at) s)) (omega (arith, past k, length-sets out at (take (p - at) s), length-take-le (p - at) s (omega arith))))
          ∙ sets_append (take (p - at) s) (drop (p - at) s) out at
          ∙ ap (sets out at) (take-append-drop (p - at) s)

-- clipped places add up
clip_add : (a b c r s : ℕ) → r ≡ min a c → s ≡ min (r + b) c → s ≡ min (a + b) c
clip_add a b c r s e f = ⊎_elim (λ h. f ∙ ap (λ (k : ℕ). min (k + b) c) (e ∙ min-eq_left h)) (λ h. f ∙ ap (λ (k : ℕ). min (k + b) c) (e ∙ min-eq_right (omega arith)) ∙ min-eq_right (omega arith) ∙ sym (min-eq_right (omega arith))) (le_or_lt a c)

-- a run from a clipped place
sets_clip : (out x y : List ℕ) (at r : ℕ) → r ≡ min (at + length x) (length out + 1) → sets (sets out at x) r y ≡ sets out at (x ++ y)
sets_clip out x y at r e =
    ⊎_elim
    (λ h. ap (λ (k : ℕ). sets (sets out at x) k y) (e ∙ min-eq_left h) ∙ sets_append x y out at)
    (λ h.
    let big : r ≡ length out + 1 = e ∙ min-eq_right (omega arith) in
    sets_out y (sets out at x) r (omega (arith, length-sets out at x))
    ∙ sym (sets_out y (sets out at x) (at + length x) (omega (arith, length-sets out at x)))
    ∙ sets_append x y out at)
    (le_or_lt (at + length x) (length out + 1))

-- x, and then y
pub put_then : {w : Bool} {out : List ℕ} {at : ℕ} {x : List ℕ} {r : ℕ} {out₁ : List ℕ} {y : List ℕ} {r₂ : ℕ} {out₂ : List ℕ}
    → Put w out at x r out₁ → Put w out₁ r y r₂ out₂ → Put w out at (x ++ y) r₂ out₂
put_then {w} {out} {at} {x} {r} {out₁} {y} {r₂} {out₂} p q =
    record {
      end =
          clip_add (at + length x) (length y) (length out + 1) r r₂ p.end (q.end ∙ ap (λ (k : ℕ). min (r + length y) (k + 1)) (put_length p))
          ∙ ap (λ (k : ℕ). min k (length out + 1)) (omega (arith, length-append x y));
      bytes = q.bytes ∙ ap (λ (l : List ℕ). cond w (sets l r y) l) p.bytes ∙ go w;
    }
  where
    go : (b : Bool) → cond b (sets (cond b (sets out at x) out) r y) (cond b (sets out at x) out) ≡ cond b (sets out at (x ++ y)) out
    go true = sets_clip out x y at r p.end
    go false = refl

-- ---- a text that is put where it fits

-- a count that does not fit, and one that does
fits_not : {w : Bool} {out : List ℕ} {at : ℕ} {x : List ℕ} {r : ℕ} {out₁ : List ℕ} → Put w out at x r out₁ → length out < r → length out < at + length x
fits_not {w} {out} {at} {x} {r} {out₁} p h = omega (arith, p.end, min-le_left (at + length x) (length out + 1))

fits_yes : {w : Bool} {out : List ℕ} {at : ℕ} {x : List ℕ} {r : ℕ} {out₁ : List ℕ} → Put w out at x r out₁ → r ≤ length out → r ≡ at + length x
fits_yes {w} {out} {at} {x} {r} {out₁} p h =
    ⊎_elim (λ l. p.end ∙ min-eq_left l) (λ l. absurd (no (p.end ∙ min-eq_right (omega arith)))) (le_or_lt (at + length x) (length out + 1))
  where
    no : r ≡ length out + 1 → ⊥
    no e = omega arith

-- by the room that is left, and by a count
pub fits_surely : (out : List ℕ) (at : ℕ) (x : List ℕ) → at ≤ length out → length x ≤ length out - at → true ≡ leb (at + length x) (length out)
fits_surely out at x h l = sym (le-leb (at + length x) (length out) (omega arith))

pub fits_measured : {w : Bool} {out : List ℕ} {at : ℕ} {x : List ℕ} {r : ℕ} {out₁ : List ℕ} → Put w out at x r out₁ → leb r (length out) ≡ leb (at + length x) (length out)
fits_measured {w} {out} {at} {x} {r} {out₁} p =
    ⊎_elim (λ h. ap (λ (k : ℕ). leb k (length out)) (fits_yes p h)) (λ h. lt-leb r (length out) h ∙ sym (lt-leb (at + length x) (length out) (fits_not p h))) (le_or_lt r (length out))

pub print_none : {out : List ℕ} {at : ℕ} {x out₁ : List ℕ} → length out < at + length x → out₁ ≡ out → Printed out at x (length out + 1) out₁
print_none {out} {at} {x} {out₁} h e =
    record {
      end = sym (min-eq_right (omega arith));
      bytes = e ∙ ap (λ (b : Bool). cond b (sets out at x) out) (sym (lt-leb (at + length x) (length out) h));
    }

pub print_all : {out : List ℕ} {at : ℕ} {x out₁ : List ℕ} {r : ℕ} {out₂ : List ℕ} → at + length x ≤ length out → out₁ ≡ out → Put true out₁ at x r out₂ → Printed out at x r out₂
print_all {out} {at} {x} {out₁} {r} {out₂} h e q =
    record {
      end = q.end ∙ ap (λ (o : List ℕ). min (at + length x) (length o + 1)) e;
      bytes = q.bytes ∙ ap (λ (o : List ℕ). sets o at x) e ∙ ap (λ (b : Bool). cond b (sets out at x) out) (sym (le-leb (at + length x) (length out) h));
    }
