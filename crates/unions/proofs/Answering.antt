-- What is answered of a text that was measured, and then written where it is not too long.
use Prim.Native.Nat.{ℕ, ◌≤◌, ◌<◌}
use mathlib.Core.Path.{◌≡◌, refl, sym, ap, ap₂, subst, ◌∙◌}
use mathlib.Core.Bool.{Bool, true, false, ◌||◌}
use mathlib.Core.List.{◌++◌}
use native.Mathlib.Nat.{zero-add}
use native.Mathlib.Omega.{arith}
use borrow.Author.Tests.{lt-ltb, le-ltb}
use lib.Dec.{ltb}
use lib.ListN.{length, drop}
use lib.Seq.{sets, sets-eq}
use Rattle.definition.specs.Text.{Text}
use Rattle.definition.specs.Limits.{FACT_BYTES}
use Rattle.definition.specs.Answer.{Answer, ok, refused, refuse_if, ◌>>◌}
use Rattle.definition.specs.Join.{of_text, right, wrong, within_room}
use Rattle.definition.specs.Calls.{join_meets}
use Rattle.std.specs.Prelude.{Ok, Err}
use Rattle.definition.specs.declared.Refusal.TheVariants.{ResultTooLong}
use Rattle.unions.specs.Union.{Laid}

module _ (t output out₁ : Text) (size : ℕ) (h : Laid false output 0 t size out₁) where
  is_length : size ≡ length t
  is_length = h.end ∙ zero-add (length t)

  -- by whether it is over the limit, and over the room
  room : (a b : Bool) → ltb FACT_BYTES (length t) ≡ a → ltb (length output) (length t) ≡ b → within_room (length output) t ≡ ◌>>◌ (refuse_if (a || b) 21 (length t)) (ok t)
  unfolding within_room
  room a b e f = ap₂ (λ (a b : Bool). ◌>>◌ (refuse_if (a || b) 21 (length t)) (ok t)) e f

  refuses : within_room (length output) t ≡ refused 21 (length t) → join_meets (of_text 0 (within_room (length output) t) right) output (Err (record { refusal = ResultTooLong size; text = 0 })) out₁
  refuses e =
      subst (λ (a : Answer Text). join_meets (of_text 0 a right) output (Err (record { refusal = ResultTooLong size; text = 0 })) out₁) (sym e)
      (record { answer = ap (wrong 0 21) is_length; output_stays = h.bytes })

  pub too_long : 32768 < size → join_meets (of_text 0 (within_room (length output) t) right) output (Err (record { refusal = ResultTooLong size; text = 0 })) out₁
  too_long l = refuses (room true (ltb (length output) (length t)) (lt-ltb FACT_BYTES (length t) (omega (arith, l, is_length))) refl)

  pub output_short : size ≤ 32768 → length out₁ < size → join_meets (of_text 0 (within_room (length output) t) right) output (Err (record { refusal = ResultTooLong size; text = 0 })) out₁
  output_short k l =
      refuses
      (room false true (le-ltb FACT_BYTES (length t) (omega (arith, k, is_length)))
      (lt-ltb (length output) (length t) (omega (arith, l, is_length, ap length h.bytes))))

  pub all_written : {end : ℕ} {out₂ : Text} → size ≤ 32768 → size ≤ length out₁ → Laid true out₁ 0 t end out₂ → join_meets (of_text 0 (within_room (length output) t) right) output (Ok size) out₂
  all_written {end} {out₂} k l g =
      subst (λ (a : Answer Text). join_meets (of_text 0 a right) output (Ok size) out₂)
      (sym (room false false (le-ltb FACT_BYTES (length t) (omega (arith, k, is_length))) (le-ltb (length output) (length t) fits)))
      (record { answer = ap right is_length; written = g.bytes ∙ ap (λ (o : Text). sets o 0 t) h.bytes ∙ front })
    where
      fits : length t ≤ length output
      fits = omega (arith, l, is_length, ap length h.bytes)

      front : sets output 0 t ≡ t ++ drop (length t) output
      front = sets-eq t output 0 (omega (arith, fits)) ∙ ap (λ (i : ℕ). t ++ drop i output) (zero-add (length t))
