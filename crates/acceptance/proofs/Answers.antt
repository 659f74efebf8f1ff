-- What a caller has of the answer.
use Prim.Native.Nat.{ℕ}
use mathlib.Core.Path.{◌≡◌, subst}
use mathlib.Core.List.{List}
use native.Mathlib.Omega.{arith}
use Rattle.std.specs.Prelude.{Result, Ok, Err}
use Rattle.definition.specs.Text.{Text}
use Rattle.definition.specs.Limits.{document_01}
use Rattle.definition.specs.Answer.{refused, number, place}
use Rattle.definition.specs.Accept.{Accepted, accept}
use Rattle.definition.specs.declared.Refusal.{Refusal}
use Rattle.acceptance.specs.declared.Sizes.{Sizes}
use Rattle.acceptance.specs.Reading.{Sized, Accepts, accepts, refuses}

module _ (facts query : Text) (tokens words ids known relations places : List ℕ) where
  pub record Taken (s : Sizes) : Type 0 where
    pub w : Accepted
    pub sized : Sized facts query tokens words ids known relations places s w

  pub taken : {x : Result Sizes Refusal} → Accepts facts query tokens words ids known relations places x → (s : Sizes) → x ≡ Ok s → Taken s
  taken (accepts {s = s'} w z) s e = let same : s' ≡ s = cc in record { w = w; sized = subst (λ (v : Sizes). Sized facts query tokens words ids known relations places v w) same z }
  taken (refuses {q = q} h) s e = let z : ◌≡◌ {A = ℕ} 0 1 = cc in absurd (omega arith)

  pub not_taken : {x : Result Sizes Refusal} → Accepts facts query tokens words ids known relations places x → (q : Refusal) → x ≡ Err q → accept document_01 facts query ≡ refused (number q) (place q)
  not_taken (accepts {s = s} w z) q e = let f : ◌≡◌ {A = ℕ} 0 1 = cc in absurd (omega arith)
  not_taken (refuses {q = q'} h) q e = let same : q' ≡ q = cc in subst (λ (v : Refusal). accept document_01 facts query ≡ refused (number v) (place v)) same h
