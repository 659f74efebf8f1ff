-- The search's answer: where the closure holds the pair the way is the first chain, and else no level is met.
use Prim.Native.Nat.{ℕ, suc, ◌+◌, ◌-◌, ◌<◌, ◌≤◌}
use mathlib.Core.Path.{◌≡◌, refl, sym, ap, ap₂, subst, ◌∙◌}
use mathlib.Core.Bool.{Bool, true, false, not}
use mathlib.Core.List.{List, [], ◌∷◌, ◌++◌}
use native.Mathlib.Omega.{arith}
use lib.Dec.{T}
use lib.ListN.{length, get_or, drop}
use Rattle.definition.specs.Text.{Text, earlier}
use Rattle.definition.specs.Answer.{ok, refuse_if, ◌>>◌}
use Rattle.definition.specs.Facts.{Facts}
use Rattle.definition.specs.Tables.{bit, holds, table, closure}
use Rattle.definition.specs.Calls.{IsChain, FirstChain, is_pair, chain_exists, chain_meets}
use Rattle.std.specs.Prelude.{Result, Ok, Err}
use Rattle.definition.specs.declared.Refusal.{Refusal}
use Rattle.definition.specs.declared.Refusal.TheVariants.{NoChain}
use Rattle.definition.proofs.BoolLaws.{is_true}
use Rattle.definition.proofs.ClosureLaws.{closure_chains}
use Rattle.definition.proofs.ChainLaws.{pair_below, chain_found, chain_joins}
use Rattle.definition.proofs.ChainLength.{chain_length}
use Rattle.definition.proofs.TableLaws.{holds_table}
use Rattle.closure.proofs.Laws.{pair_bit, rows_table, table_rows}
use Rattle.chains.specs.Levels.{least, meets, level, Near, way}
use Rattle.chains.specs.Search.{searched, Searched}
use Rattle.chains.proofs.Least.{least_passes, least_fails, least_first, least_same}
use Rattle.chains.proofs.Ways.{true_is, bit_within, row_below, length_way, way_same, down_chain}
use Rattle.chains.proofs.First.{chain_meets_level, chain_first}

-- a chain by another test of the same pairs
pub chain_same : (r q : ℕ → ℕ → Bool) → ((x y : ℕ) → T (r x y) → T (q x y)) → (a b : ℕ) (c : List ℕ) → IsChain r a b c → IsChain q a b c
chain_same r q f a b c h = record { two = h.two; first = h.first; last = h.last; pairs = λ i l. f (get_or c i 0) (get_or c (suc i) 0) (h.pairs i l); once = h.once }

pub first_same : (r q : ℕ → ℕ → Bool) → ((x y : ℕ) → T (r x y) → T (q x y)) → ((x y : ℕ) → T (q x y) → T (r x y)) → (a b : ℕ) (c : List ℕ) → FirstChain r a b c → FirstChain q a b c
first_same r q f g a b c h =
    record { is_chain = chain_same r q f a b c h.is_chain; fewest = λ d k. h.fewest d (chain_same q r g a b d k); earliest = λ d k l n. h.earliest d (chain_same q r g a b d k) l n }

module _ (rows : List ℕ) (a b : ℕ) (few : length rows ≤ 64) (first : a < length rows) (last : b < length rows) where
  abbrev u : ℕ
  u = length rows

  abbrev pair : ℕ → ℕ → Bool
  pair x y = holds u rows (x ∷ y ∷ [])

  abbrev bits : ℕ → ℕ → Bool
  bits x y = bit (get_or rows x 0) y

  is_bit : (x y : ℕ) → T (pair x y) → T (bits x y)
  is_bit x y t = subst T (pair_bit u rows x y) t

  of_bit : (x y : ℕ) → T (bits x y) → T (pair x y)
  of_bit x y t = subst T (sym (pair_bit u rows x y)) t

  below : (x y : ℕ) → T (pair x y) → x < u
  below x y t = row_below rows x y (is_bit x y t)

  -- a level that a's row meets
  abbrev met : ℕ → Bool
  met k = meets (get_or rows a 0) (level rows b k)

  -- the first level met is no further than a chain is long
  least_met : (c : List ℕ) → IsChain bits a b c → suc (suc (least 64 0 met)) ≤ length c
  least_met c h = let (k, l, m) = chain_meets_level rows b few last a c h in let n = least_first 64 0 met k (omega arith) m in omega arith

  -- where the closure holds the pair, one of the 64 levels is met
  joined_met : T (holds u (closure u rows) (a ∷ b ∷ [])) → least 64 0 met < 64
  joined_met t =
      let (c, h) = chain_found pair ((closure_chains u rows a b first last).0 t) in
      let n = chain_length pair u below a b c h in
      let m = least_met c (chain_same pair bits is_bit a b c h) in
      omega arith

  -- where a level is met, the way down from the first such is the first chain
  module _ (d : ℕ) (is-first : d ≡ least 64 0 met) (Near-by : d < 64) where
    abbrev whole : List ℕ
    whole = a ∷ way rows (level rows b) (suc d) a

    length_whole : length whole ≡ suc (suc d)
    length_whole = ap suc (length_way rows (level rows b) (suc d) a)

    met_chain : IsChain bits a b whole
    met_chain =
        down_chain rows b few last d a
        (record {
          meets_it = subst (λ (k : ℕ). T (met k)) (sym is-first) (true_is (met (least 64 0 met)) (least_passes 64 0 met (omega arith)));
          not_before = λ j l. subst (λ (t : Bool). T (not t)) (sym (least_fails 64 0 met j (omega arith) (omega arith))) tt;
        })

    met_fewest : (c : List ℕ) → IsChain bits a b c → length whole ≤ length c
    met_fewest c h = let m = least_met c h in let w = length_whole in omega arith

    met_earliest : (c : List ℕ) → IsChain bits a b c → length c ≡ length whole → (c ≡ whole → ⊥) → T (earlier whole c)
    met_earliest c h l n = chain_first rows b few last a (suc d) c h (l ∙ length_whole) n

    met_first : FirstChain pair a b whole
    met_first = first_same bits pair of_bit is_bit a b whole (record { is_chain = met_chain; fewest = met_fewest; earliest = met_earliest })

  chain_held : (c : List ℕ) → IsChain pair a b c → T (holds u (closure u rows) (a ∷ b ∷ []))
  chain_held c h = (closure_chains u rows a b first last).1 (chain_joins pair u below a b c h)

  module _ (near : List ℕ) (levels : Near rows b near) (d row : ℕ) (is_row : row ≡ get_or rows a 0) (distance : d ≡ least 64 0 (λ k. meets row (get_or near k 0))) (buffer : List ℕ) where
    is_least : d ≡ least 64 0 met
    is_least = distance ∙ least_same 64 0 (λ k. meets row (get_or near k 0)) met (λ k h l. ap (λ (x : ℕ). meets x (get_or near k 0)) is_row ∙ ap (meets (get_or rows a 0)) (levels.at k (omega arith)))

    pub search_found : d < 64 → (buffer' : List ℕ) → buffer' ≡ (a ∷ way rows (λ k. get_or near k 0) (d + 1) a) ++ drop (suc (d + 1)) buffer → Searched rows a b buffer (Ok (d + 2)) buffer'
    search_found h buffer' e =
        let s : d + 1 ≡ suc d = omega arith in
        let chain : List ℕ = whole d is_least h in
        let right : FirstChain pair a b chain = met_first d is_least h in
        let l = length_whole d is_least h in
        let n : d + 2 ≡ length chain = omega arith in
        let n' : suc (d + 1) ≡ length chain = omega arith in
        let w : way rows (λ k. get_or near k 0) (d + 1) a ≡ way rows (level rows b) (suc d) a =
        ap (λ (k : ℕ). way rows (λ j. get_or near j 0) k a) s
        ∙ way_same rows (λ k. get_or near k 0) (level rows b) (suc d) a (λ k m. levels.at k (omega arith)) in
        record {
          meets =
              subst (λ (t : Bool). searched t rows a b buffer (Ok (d + 2)) buffer') (sym (is_true (holds u (closure u rows) (a ∷ b ∷ [])) (chain_held chain right.is_chain)))
              (record { chain = chain; right = right; answer = ap ok n; written = e ∙ ap (λ (v : List ℕ). (a ∷ v) ++ drop (suc (d + 1)) buffer) w ∙ ap (λ (k : ℕ). chain ++ drop k buffer) n' });
        }

    pub search_none : 64 ≤ d → Searched rows a b buffer (Err NoChain) buffer
    search_none h =
        record {
          meets =
              subst (λ (t : Bool). searched t rows a b buffer (Err NoChain) buffer) (sym none)
              (record { answer = refl; stays = refl });
        }
      where
        go : (t : Bool) → holds u (closure u rows) (a ∷ b ∷ []) ≡ t → t ≡ false
        go true e = let l = joined_met (true_is (holds u (closure u rows) (a ∷ b ∷ [])) e) in let m = is_least in absurd (omega arith)
        go false e = refl

        none : holds u (closure u rows) (a ∷ b ∷ []) ≡ false
        none = go (holds u (closure u rows) (a ∷ b ∷ [])) refl

-- ---- where the rows are the pairs of a name, the answer is the chain call's

module _ (f : Facts) (r : Text) (rows : List ℕ) (is-table : rows ≡ table (length f.universe) 2 (λ p. is_pair f r (get_or p 0 0) (get_or p 1 0))) where
  abbrev test : List ℕ → Bool
  test p = is_pair f r (get_or p 0 0) (get_or p 1 0)

  size : length rows ≡ length f.universe
  size = ap length is-table ∙ rows_table (length f.universe) test

  is_fact : (x y : ℕ) → T (holds (length rows) rows (x ∷ y ∷ [])) → T (is_pair f r x y)
  is_fact x y t =
      let n = length f.universe in
      let s : T (holds n (table n 2 test) (x ∷ y ∷ [])) = subst T (ap₂ (λ (m : ℕ) (ws : List ℕ). holds m ws (x ∷ y ∷ [])) size is-table) t in
      let q : T (bit (get_or (table n 2 test) x 0) y) = subst T (pair_bit n (table n 2 test) x y) s in
      let h = row_below (table n 2 test) x y q in
      let k = rows_table n test in
      let l : y < n = bit_within n (get_or (table n 2 test) x 0) y ((table_rows n test).narrow x) q in
      subst T (holds_table n (x ∷ y ∷ []) test (omega arith, (l, tt))) s

  of_fact : (x y : ℕ) → T (is_pair f r x y) → T (holds (length rows) rows (x ∷ y ∷ []))
  of_fact x y t =
      let n = length f.universe in
      let (h, l) = pair_below f r x y t in
      subst T (sym (ap₂ (λ (m : ℕ) (ws : List ℕ). holds m ws (x ∷ y ∷ [])) size is-table ∙ holds_table n (x ∷ y ∷ []) test (h, (l, tt)))) t

  same_answer : (a b : ℕ) → holds (length rows) (closure (length rows) rows) (a ∷ b ∷ []) ≡ chain_exists f r a b
  unfolding chain_exists
  same_answer a b = ap₂ (λ (m : ℕ) (ws : List ℕ). holds m (closure m ws) (a ∷ b ∷ [])) size is-table

  -- the end of the definition's chain-asked: row 17, or the facts and the two numbers
  pub search_meets : (a b : ℕ) (buffer : List ℕ) (c : Result ℕ Refusal) (buffer' : List ℕ) → Searched rows a b buffer c buffer'
      → chain_meets (do refuse_if (not (chain_exists f r a b)) 17 0; ok (record { facts = f; from = a; to = b })) r buffer c buffer'
  search_meets a b buffer c buffer' s = go (chain_exists f r a b) (subst (λ (t : Bool). searched t rows a b buffer c buffer') (same_answer a b) s.meets)
    where
      go : (t : Bool) → searched t rows a b buffer c buffer' → chain_meets (do refuse_if (not t) 17 0; ok (record { facts = f; from = a; to = b })) r buffer c buffer'
      go true w = record { chain = w.chain; right = first_same (λ x y. holds (length rows) rows (x ∷ y ∷ [])) (is_pair f r) is_fact of_fact a b w.chain w.right; answer = w.answer; written = w.written }
      go false w = w
