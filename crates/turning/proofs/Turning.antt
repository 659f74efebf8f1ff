-- Words that are turned one after another.
use Prim.Native.Nat.{ℕ, suc, ◌+◌, ◌≤◌, ◌<◌}
use mathlib.Core.Path.{◌≡◌, refl, sym, ap, ap₂, ◌∙◌}
use mathlib.Core.List.{List, [], ◌∷◌, ◌++◌, map, append-nil, append_assoc, map-append}
use native.Mathlib.Numerals.{add-one}
use native.Mathlib.Omega.{arith}
use lib.ListN.{length, get_or, take, drop, set, length-map}
use lib.Seq.{length-take-le, take-length, drop-length, take-suc, drop-cons, set_at, get_or_at}
use Rattle.turning.specs.Turned.{turned}

-- the first i words are turned
pub record Turning (old words : List ℕ) (i : ℕ) : Type 0 where
  pub within : i ≤ length old
  pub is : words ≡ map turned (take i old) ++ drop i old

pub turning_none : (words : List ℕ) → Turning words words 0
turning_none words = record { within = omega arith; is = refl }

module _ (old words : List ℕ) (i : ℕ) (l : i < length old) (h : Turning old words i) where
  size : length (map turned (take i old)) ≡ i
  size = length-map (take i old) turned ∙ length-take-le i old (omega arith)

  split : words ≡ map turned (take i old) ++ get_or old i 0 ∷ drop (suc i) old
  split = h.is ∙ ap (λ (ws : List ℕ). map turned (take i old) ++ ws) (drop-cons old i 0 l)

  next : get_or words i 0 ≡ get_or old i 0
  next = ap (λ (ws : List ℕ). get_or ws i 0) split ∙ get_or_at (map turned (take i old)) (get_or old i 0) (drop (suc i) old) 0 i size

  pub turning_one : (v : ℕ) → v ≡ turned (get_or words i 0) → Turning old (set words i v) (i + 1)
  turning_one v e =
      record {
        within = omega arith;
        is =
            ap₂ (λ (ws : List ℕ) (x : ℕ). set ws i x) split (e ∙ ap turned next)
            ∙ set_at (map turned (take i old)) (get_or old i 0) (drop (suc i) old) (turned (get_or old i 0)) i size
            ∙ sym (append_assoc (map turned (take i old)) (turned (get_or old i 0) ∷ []) (drop (suc i) old))
            ∙ ap (λ (ws : List ℕ). ws ++ drop (suc i) old) (sym (map-append turned (take i old) (get_or old i 0 ∷ [])) ∙ ap (map turned) (sym (take-suc old i 0 l)))
            ∙ ap (λ (k : ℕ). map turned (take k old) ++ drop k old) (sym (add-one i));
      }

pub turning_all : (old words : List ℕ) (i : ℕ) → length old ≤ i → Turning old words i → words ≡ map turned old
turning_all old words i l h =
    let e : i ≡ length old = omega (arith, h.within) in
    h.is ∙ ap (λ (k : ℕ). map turned (take k old) ++ drop k old) e
    ∙ ap₂ (λ (x y : List ℕ). map turned x ++ y) (take-length old) (drop-length old) ∙ append-nil (map turned old)
