-- A closure seen from its end: what the turns that are left make of a table, and the chains that they add, however many turns went before.
use Prim.Native.Nat.{ℕ, zero, suc, ◌+◌, ◌<◌, ◌≤◌}
use mathlib.Core.Path.{◌≡◌, refl, sym, ap, ◌∙◌, subst⁻¹}
use mathlib.Core.Bool.{Bool, ◌||◌, ◌&&◌}
use mathlib.Core.List.{List, [], ◌∷◌}
use native.Mathlib.Nat.{add-zero, zero-add, add-suc, suc-add}
use native.Mathlib.Omega.{arith}
use native.Mathlib.Numerals.{add-one}
use lib.ListN.{length}
use Rattle.definition.specs.Text.{from}
use Rattle.definition.specs.Tables.{joins, through, through_all, closure}
use Rattle.definition.proofs.TableLaws.{holds_table}
use Rattle.definition.proofs.Chains.{via}
use Rattle.definition.proofs.ClosureLaws.{pairs}
use Rattle.closure.specs.Rows.{Rows}
use Rattle.closure.proofs.Laws.{rows_table, table_rows}

-- ws is what the turns before k have made of a table whose closure is all
pub record Closing (u : ℕ) (all : List ℕ) (k : ℕ) (ws : List ℕ) : Type 0 where
  pub long : length ws ≡ u
  pub rows : Rows u ws
  pub left : (n : ℕ) → k + n ≡ u → through_all u (from n k) ws ≡ all

pub closing_none : (ws : List ℕ) → Rows (length ws) ws → Closing (length ws) (closure (length ws) ws) 0 ws
unfolding closure
closing_none ws r = record { long = refl; rows = r; left = λ n e. ap (λ (m : ℕ). through_all (length ws) (from m 0) ws) (omega arith) }

pub closing_more : (u k : ℕ) (all ws next : List ℕ) → Closing u all k ws → next ≡ through (length ws) k ws → Closing u all (k + 1) next
unfolding through through_all from
closing_more u k all ws next c e =
    subst⁻¹ (λ (l : List ℕ). Closing u all (k + 1) l) (e ∙ ap (λ (n : ℕ). through n k ws) c.long)
    (record {
      long = rows_table u (joins u k ws);
      rows = table_rows u (joins u k ws);
      left = λ n h. ap (λ (j : ℕ). through_all u (from n j) (through u k ws)) (add-one k) ∙ c.left (suc n) (omega arith);
    })

pub closing_all : (u k : ℕ) (all ws : List ℕ) → Closing u all k ws → k ≡ u → ws ≡ all
unfolding through_all from
closing_all u k all ws c e = c.left 0 (omega arith)

module _ (u : ℕ) where
  through_pairs : (k : ℕ) (ws : List ℕ) (a b : ℕ) → a < u → b < u → pairs u (through u k ws) a b ≡ pairs u ws a b || (pairs u ws a k && pairs u ws k b)
  unfolding through joins
  through_pairs k ws a b h l = holds_table u (a ∷ b ∷ []) (joins u k ws) (h, (l, tt))

  -- after the elements below k the table holds the chains whose inner elements are below k; n more make it k + n
  pub walk : (r : ℕ → ℕ → Bool) (n k : ℕ) (ws : List ℕ) → k + n ≤ u
      → ((a b : ℕ) → a < u → b < u → pairs u ws a b ≡ via k r a b)
      → (a b : ℕ) → a < u → b < u → pairs u (through_all u (from n k) ws) a b ≡ via (k + n) r a b
  unfolding through_all from via
  walk r zero k ws h e a b p q = e a b p q ∙ ap (λ m. via m r a b) (sym (add-zero k))
  walk r (suc n) k ws h e a b p q =
      walk r n (suc k) (through u k ws) (omega arith) next a b p q ∙ ap (λ m. via m r a b) (suc-add k n ∙ sym (add-suc k n))
    where
      next : (a b : ℕ) → a < u → b < u → pairs u (through u k ws) a b ≡ via (suc k) r a b
      next a b p q = through_pairs k ws a b p q ∙ rw (e a b p q, e a k p (omega arith), e k b (omega arith) q)

  pub closure_via : (ws : List ℕ) (a b : ℕ) → a < u → b < u → pairs u (closure u ws) a b ≡ via u (pairs u ws) a b
  unfolding closure via
  closure_via ws a b p q = walk (pairs u ws) u 0 ws (omega arith) (λ a b p q. refl) a b p q ∙ ap (λ m. via m (pairs u ws) a b) (zero-add u)
