-- How the code of the join meets its contract: a text is refused, or the union's text is written or too long.
use Prim.Native.Nat.{ℕ}
use mathlib.Core.Path.{◌≡◌, refl, sym, subst}
use lib.ListN.{length}
use Rattle.definition.specs.Text.{Text}
use Rattle.definition.specs.Limits.{Limits}
use Rattle.definition.specs.Answer.{ok, refused, number, place}
use Rattle.definition.specs.Facts.{Facts, read_facts}
use Rattle.definition.specs.Join.{Told, of_text, right, of_first, read_second, union_text, within_room, join}
use Rattle.definition.specs.Calls.{join_meets, JoinMeets}
use Rattle.definition.specs.declared.Refusal.{Refusal}
use Rattle.std.specs.Prelude.{Result, Err}
use Rattle.definition.specs.declared.RefusedJoin.{RefusedJoin}
use Rattle.definition.proofs.JoinSame.{join_reads}

module _ (limits : Limits) (first second output : Text) where
  -- "Refusals of the first text come before those of the second"
  pub first_refused : (q : Refusal) → read_facts limits first ≡ refused (number q) (place q) → JoinMeets limits first second output (Err (record { refusal = q; text = 1 })) output
  unfolding join
  first_refused q e = record { meets = rw e (record { answer = refl; output_stays = refl }) }

  module _ (f : Facts) (read : read_facts limits first ≡ ok f) where
    pub second_refused : (q : Refusal) → read_second limits (of_first f) second ≡ refused (number q) (place q) → JoinMeets limits first second output (Err (record { refusal = q; text = 2 })) output
    unfolding join
    second_refused q e = record { meets = rw (read, e) (record { answer = refl; output_stays = refl }) }

    -- row 21, or the union's text
    pub both_meet : (u : Facts) → read_second limits (of_first f) second ≡ ok u → (r : Result ℕ RefusedJoin) (output' : Text)
        → join_meets (of_text 0 (within_room (length output) (union_text u)) right) output r output' → JoinMeets limits first second output r output'
    both_meet u read_both r output' h =
        record { meets = subst (λ (t : Told Text). join_meets t output r output') (sym (join_reads limits first second (length output) f u read read_both)) h }
