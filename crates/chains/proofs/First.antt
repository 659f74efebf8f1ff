-- Whatever leads to b stands on the levels: so a level is met no later than a chain is long, and the way down comes first among the chains as long.
use Prim.Native.Nat.{ℕ, suc, ◌<◌, ◌≤◌}
use mathlib.Core.Path.{◌≡◌, refl, sym, ap, subst, ◌∙◌}
use mathlib.Core.Bool.{Bool}
use mathlib.Core.List.{List, [], ◌∷◌}
use native.Mathlib.Omega.{arith}
use native.Mathlib.Decide.{dec_lt}
use lib.Bits.{bit_and}
use lib.Dec.{T, eqb→eq}
use lib.ListN.{length, get_or}
use Rattle.definition.specs.Text.{earlier}
use Rattle.definition.specs.Tables.{bit}
use Rattle.definition.specs.Calls.{IsChain}
use Rattle.definition.proofs.BoolLaws.{and_both}
use Rattle.definition.proofs.OrderLaws.{Lex, at_once, after, lex_earlier}
use Rattle.definition.proofs.ChainSearch.{leads, leads_parts, chain_led}
use Rattle.bits.proofs.Laws.{bit_of_and}
use Rattle.chains.specs.Levels.{meets, level, next, way}
use Rattle.chains.proofs.Least.{least_first}
use Rattle.chains.proofs.Ways.{row_below, meets_at, level_first, level_joins}

-- a list that begins with no larger a number, and goes on first where it begins with the same
head_first : (c y : ℕ) (w : ℕ → List ℕ) (l : List ℕ) → c ≤ y → ((l ≡ w y → ⊥) → Lex ◌<◌ (w y) l) → (y ∷ l ≡ c ∷ w c → ⊥) → Lex ◌<◌ (c ∷ w c) (y ∷ l)
head_first c y w l h f n = go (dec_lt c y)
  where
    go : Dec (c < y) → Lex ◌<◌ (c ∷ w c) (y ∷ l)
    go (yes k) = at_once k
    go (no k) =
        let e : y ≡ c = omega arith in
        after (sym e) (subst (λ (z : ℕ). Lex ◌<◌ (w z) l) e (f (λ q. n (ap (λ (z : ℕ). z ∷ l) e ∙ ap (λ (v : List ℕ). c ∷ v) (q ∙ ap w e)))))

module _ (rows : List ℕ) (b : ℕ) (few : length rows ≤ 64) (inside : b < length rows) where
  abbrev pair : ℕ → ℕ → Bool
  pair x y = bit (get_or rows x 0) y

  -- an element is in the level of as many pairs as lead from it to b
  on_level : (x : ℕ) (l : List ℕ) → T (leads pair b x l) → T (bit (level rows b (length l)) x)
  unfolding leads
  on_level x [] t = subst (λ (y : ℕ). T (bit (level rows b 0) y)) (sym (eqb→eq x b t)) (level_first rows b few inside)
  on_level x (y ∷ l) t =
      let (s, d) = leads_parts pair b x y l t in
      level_joins rows b few inside (length l) x (row_below rows x y s) (meets_at (get_or rows x 0) (level rows b (length l)) y s (on_level y l d))

  -- so a chain meets a level: that of the numbers behind its second
  pub chain_meets_level : (a : ℕ) (c : List ℕ) → IsChain pair a b c → (k : ℕ) × (length c ≡ suc (suc k)) × T (meets (get_or rows a 0) (level rows b k))
  chain_meets_level a c h = let w = chain_led pair b a c h in at w.rest w.whole w.some w.led
    where
      at : (l : List ℕ) → c ≡ a ∷ l → 1 ≤ length l → T (leads pair b a l) → (k : ℕ) × (length c ≡ suc (suc k)) × T (meets (get_or rows a 0) (level rows b k))
      at [] e n t = absurd (omega arith)
      at (y ∷ l) e n t = let (s, d) = leads_parts pair b a y l t in (length l, ap length e, meets_at (get_or rows a 0) (level rows b (length l)) y s (on_level y l d))

  -- the next number of a way is the least that x has a pair with in its level
  next_least : (x y k : ℕ) → T (pair x y) → T (bit (level rows b k) y) → next rows (level rows b k) x ≤ y
  unfolding next
  next_least x y k t s =
      let in_both : T (bit (bit_and (get_or rows x 0) (level rows b k)) y) = subst T (sym (bit_of_and (get_or rows x 0) (level rows b k) y)) (and_both (pair x y) (bit (level rows b k) y) t s) in
      least_first 64 0 (bit (bit_and (get_or rows x 0) (level rows b k))) y (omega arith) in_both

  -- so of all numbers that lead as far to b the way comes first
  way_first : (x : ℕ) (l : List ℕ) → T (leads pair b x l) → (l ≡ way rows (level rows b) (length l) x → ⊥) → Lex ◌<◌ (way rows (level rows b) (length l) x) l
  unfolding way
  way_first x [] t n = absurd (n refl)
  way_first x (y ∷ l) t n =
      let (s, d) = leads_parts pair b x y l t in
      head_first (next rows (level rows b (length l)) x) y (way rows (level rows b) (length l)) l (next_least x y (length l) s (on_level y l d)) (way_first y l d) n

  -- and with a before it, of the chains that are as long
  pub chain_first : (a d : ℕ) (c : List ℕ) → IsChain pair a b c → length c ≡ suc d → (c ≡ a ∷ way rows (level rows b) d a → ⊥) → T (earlier (a ∷ way rows (level rows b) d a) c)
  chain_first a d c h e n =
      let w = chain_led pair b a c h in
      let m : length w.rest ≡ d = (let q = ap length w.whole in omega arith) in
      let f = subst (λ (k : ℕ). (w.rest ≡ way rows (level rows b) k a → ⊥) → Lex ◌<◌ (way rows (level rows b) k a) w.rest) m (way_first a w.rest w.led) in
      subst (λ (v : List ℕ). T (earlier (a ∷ way rows (level rows b) d a) v)) (sym w.whole) (lex_earlier (after refl (f (λ q. n (w.whole ∙ ap (λ (v : List ℕ). a ∷ v) q)))))
