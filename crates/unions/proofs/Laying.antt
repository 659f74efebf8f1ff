-- Bytes laid one after the other.
use Prim.Native.Nat.{ℕ, ◌+◌, ◌<◌}
use mathlib.Core.Path.{◌≡◌, refl, sym, ap, ◌∙◌}
use mathlib.Core.Bool.{Bool, true, false, cond}
use mathlib.Core.List.{List, [], ◌++◌}
use native.Mathlib.Nat.{add-zero}
use native.Mathlib.Omega.{arith}
use lib.ListN.{length, length-append}
use lib.Seq.{sets, length-sets}
use Rattle.tuples.proofs.Stores.{sets_append, sets_out}
use Rattle.lines.specs.Put.{Put}
use Rattle.unions.specs.Union.{Laid}

pub laid_length : {w : Bool} {out : List ℕ} {p : ℕ} {x : List ℕ} {r : ℕ} {out₁ : List ℕ} → Laid w out p x r out₁ → length out₁ ≡ length out
laid_length {w} {out} {p} {x} {r} {out₁} h = ap length h.bytes ∙ go w
  where
    go : (b : Bool) → length (cond b (sets out p x) out) ≡ length out
    go true = length-sets out p x
    go false = refl

-- nothing
pub laid_none : {w : Bool} {out : List ℕ} {p : ℕ} → Laid w out p [] p out
laid_none {w} {out} {p} = record { end = sym (add-zero p); bytes = go w }
  where
    go : (b : Bool) → out ≡ cond b out out
    go true = refl
    go false = refl

-- x, and then y
pub laid_then : {w : Bool} {out : List ℕ} {p : ℕ} {x : List ℕ} {r : ℕ} {out₁ : List ℕ} {y : List ℕ} {q : ℕ} {out₂ : List ℕ}
    → Laid w out p x r out₁ → Laid w out₁ r y q out₂ → Laid w out p (x ++ y) q out₂
laid_then {w} {out} {p} {x} {r} {out₁} {y} {q} {out₂} h g =
    record {
      end = omega (arith, h.end, g.end, length-append x y);
      bytes = g.bytes ∙ ap (λ (l : List ℕ). cond w (sets l r y) l) h.bytes ∙ go w;
    }
  where
    go : (b : Bool) → cond b (sets (cond b (sets out p x) out) r y) (cond b (sets out p x) out) ≡ cond b (sets out p (x ++ y)) out
    go true = ap (λ (k : ℕ). sets (sets out p x) k y) h.end ∙ sets_append x y out p
    go false = refl

-- a text that is only measured, that starts past the end, and that is put
module _ {w : Bool} {out : List ℕ} {p size : ℕ} {x : List ℕ} (e : size ≡ length x) where
  pub laid_measured : w ≡ false → Laid w out p x (p + size) out
  laid_measured f = record { end = ap (λ (k : ℕ). p + k) e; bytes = sym (ap (λ (b : Bool). cond b (sets out p x) out) f) }

  pub laid_past : length out < p → Laid w out p x (p + size) out
  laid_past h = record { end = ap (λ (k : ℕ). p + k) e; bytes = go w }
    where
      go : (b : Bool) → out ≡ cond b (sets out p x) out
      go true = sym (sets_out x out p (omega arith))
      go false = refl

  pub laid_put : {r : ℕ} {out₁ : List ℕ} → w ≡ true → Put true out p x r out₁ → Laid w out p x (p + size) out₁
  laid_put f h = record { end = ap (λ (k : ℕ). p + k) e; bytes = h.bytes ∙ sym (ap (λ (b : Bool). cond b (sets out p x) out) f) }
