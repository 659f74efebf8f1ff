-- One node worked, row by row, is the definition's; so are the nodes worked one after another.
use Prim.Native.Nat.{ℕ, zero, suc, ◌+◌, ◌^◌, ◌<◌, ◌≤◌}
use mathlib.Core.Path.{◌≡◌, refl, sym, ap, ap₂, ◌∙◌, subst, subst⁻¹}
use mathlib.Core.Bool.{Bool, true, false, ◌||◌, ◌&&◌, cond}
use mathlib.Core.List.{List, [], ◌∷◌, map}
use native.Mathlib.Nat.{le_of_suc-le-suc, not-suc-le-zero, mul-zero, mul-one, zero-add, add-zero, suc-add, add-suc}
use native.Mathlib.Omega.{arith}
use native.Mathlib.Decide.{dec_lt}
use native.Mathlib.Numerals.{add-one}
use lib.ListN.{length, get_or, length-map, get_or-map, get_or-eq_default}
use lib.Seq.{ext_get_or}
use lib.Bits.{bit_or, or_lt}
use lib.Pow.{pow_pos}
use lib.Dec.{T, ltb, ltb→lt}
use Rattle.definition.specs.Text.{gather, from, below, all_of}
use Rattle.definition.specs.Tables.{Tuple, bit, word, holds, holds_from, table, table_words, joins, through, through_all}
use Rattle.definition.proofs.BoolLaws.{and_left, and_right}
use Rattle.definition.proofs.TableLaws.{length_table}
use Rattle.definition.proofs.ClosureLaws.{node_more, worked_chains}
use Rattle.bits.proofs.Laws.{bit_of_or, bit_none, word_ext, word_lt}
use Rattle.closure.specs.Rows.{Rows, join_word}
use Rattle.closure.specs.Worked.{Worked}

-- ---- a binary table's rows

row_from : (g : ℕ → ℕ) (n a i : ℕ) → i < n → get_or (gather (λ a. g a ∷ []) (from n a)) i 0 ≡ g (a + i)
unfolding gather from
row_from g zero a i h = absurd (not-suc-le-zero h)
row_from g (suc n) a zero h = ap g (sym (add-zero a))
row_from g (suc n) a (suc i) h = row_from g n (suc a) i (le_of_suc-le-suc h) ∙ ap g (suc-add a i ∙ sym (add-suc a i))

-- row a of a table of pairs
pub row_table : (u : ℕ) (f : Tuple → Bool) (a : ℕ) → a < u → get_or (table u 2 f) a 0 ≡ word u 0 (λ b. f (a ∷ b ∷ []))
unfolding table
row_table u f a h = row_from (λ a. word u 0 (λ b. f (a ∷ b ∷ []))) u 0 a h ∙ ap (λ k. word u 0 (λ b. f (k ∷ b ∷ []))) (zero-add a)

pub rows_table : (u : ℕ) (f : Tuple → Bool) → length (table u 2 f) ≡ u
unfolding table_words
rows_table u f = length_table u 2 f ∙ mul-one u

-- the pair (a, b) is bit b of word a
pub pair_bit : (u : ℕ) (ws : List ℕ) (a b : ℕ) → holds u ws (a ∷ b ∷ []) ≡ bit (get_or ws a 0) b
unfolding holds holds_from
pair_bit u ws a b = ap (λ k. bit (get_or ws k 0) b) (rw (mul-zero, zero-add))

pub table_rows : (u : ℕ) (f : Tuple → Bool) → Rows u (table u 2 f)
table_rows u f = record { narrow = λ x. go x (dec_lt x u) }
  where
    go : (x : ℕ) → Dec (x < u) → get_or (table u 2 f) x 0 < 2 ^ u
    go x (yes h) = rw (row_table u f x h) (word_lt u 0 (λ b. f (x ∷ b ∷ [])))
    go x (no h) = rw (get_or-eq_default (table u 2 f) 0 {n = x} (omega (arith, rows_table u f))) (pow_pos u)

-- words that are below 2 ^ u by a test
pub narrow_rows : (u : ℕ) (ws : List ℕ) → T (all_of (λ w. ltb w (2 ^ u)) ws) → Rows u ws
unfolding all_of
narrow_rows u ws t = record { narrow = go ws t }
  where
    go : (ws : List ℕ) → T (all_of (λ w. ltb w (2 ^ u)) ws) → (x : ℕ) → get_or ws x 0 < 2 ^ u
    go [] t x = pow_pos u
    go (w ∷ ws) t zero = ltb→lt w (2 ^ u) (and_left (ltb w (2 ^ u)) (all_of (λ w. ltb w (2 ^ u)) ws) t)
    go (w ∷ ws) t (suc x) = go ws (and_right (ltb w (2 ^ u)) (all_of (λ w. ltb w (2 ^ u)) ws) t) x

-- words that are a table's rows
pub table_of_rows : (u : ℕ) (f : Tuple → Bool) (ws : List ℕ) → length ws ≡ u → ((a : ℕ) → a < u → get_or ws a 0 ≡ word u 0 (λ b. f (a ∷ b ∷ []))) → ws ≡ table u 2 f
table_of_rows u f ws e h =
    ext_get_or 0 ws (table u 2 f) (e ∙ sym (rows_table u f)) (λ a l. let m : a < u = omega arith in h a m ∙ sym (row_table u f a m))

-- ---- one node

join_bool : (a b c : Bool) → cond a (b || c) b ≡ b || (a && c)
join_bool true b c = refl
join_bool false true c = refl
join_bool false false c = refl

cond_bit : (a : Bool) (v w y : ℕ) → bit (cond a v w) y ≡ cond a (bit v y) (bit w y)
cond_bit true v w y = refl
cond_bit false v w y = refl

bit_join : (row k w y : ℕ) → bit (join_word row k w) y ≡ bit w y || (bit w k && bit row y)
unfolding join_word
bit_join row k w y =
    cond_bit (bit w k) (bit_or w row) w y ∙ ap (λ (b : Bool). cond (bit w k) b (bit w y)) (bit_of_or w row y)
    ∙ join_bool (bit w k) (bit w y) (bit row y)

join_lt : (u row k w : ℕ) → row < 2 ^ u → w < 2 ^ u → join_word row k w < 2 ^ u
unfolding join_word
join_lt u row k w h l = go (bit w k)
  where
    go : (b : Bool) → cond b (bit_or w row) w < 2 ^ u
    go true = or_lt u w row l h
    go false = l

join_zero : (row k : ℕ) → join_word row k 0 ≡ 0
unfolding join_word
join_zero row k = ap (λ (b : Bool). cond b (bit_or 0 row) 0) (bit_none k)

row_joined : (ws : List ℕ) (k x : ℕ) → get_or (map (join_word (get_or ws k 0) k) ws) x 0 ≡ join_word (get_or ws k 0) k (get_or ws x 0)
row_joined ws k x =
    let f : ℕ → ℕ = join_word (get_or ws k 0) k in
    ap (get_or (map f ws) x) (sym (join_zero (get_or ws k 0) k)) ∙ get_or-map f ws x 0

-- row k joined to each row that has bit k
pub joined_through : (ws : List ℕ) (k : ℕ) → Rows (length ws) ws → map (join_word (get_or ws k 0) k) ws ≡ through (length ws) k ws
unfolding through joins
joined_through ws k r =
    ext_get_or 0 (map f ws) (table u 2 (joins u k ws)) (length-map ws f ∙ sym (rows_table u (joins u k ws))) (λ x l. row x (subst (λ n. x < n) (length-map ws f) l))
  where
    u : ℕ
    u = length ws

    f : ℕ → ℕ
    f = join_word (get_or ws k 0) k

    row : (x : ℕ) → x < u → get_or (map f ws) x 0 ≡ get_or (table u 2 (joins u k ws)) x 0
    row x l =
        row_joined ws k x
        ∙ word_ext u (f (get_or ws x 0)) (λ b. joins u k ws (x ∷ b ∷ [])) (join_lt u (get_or ws k 0) k (get_or ws x 0) (r.narrow k) (r.narrow x))
        (λ b m. bit_join (get_or ws k 0) k (get_or ws x 0) b
        ∙ sym (ap₂ ◌||◌ (pair_bit u ws x b) (ap₂ ◌&&◌ (pair_bit u ws x k) (pair_bit u ws k b))))
        ∙ sym (row_table u (joins u k ws) x l)

-- ---- one node after another

-- the definition's law as the claim
holds_exactly : (start : List ℕ) (k : ℕ) (ws : List ℕ) → k ≤ length start → ws ≡ through_all (length start) (below k) start → Worked start k ws
holds_exactly start k ws h e = record { table = e; exactly = λ a b p q. rw e (worked_chains (length start) start k a b h p q) }

pub worked_none : (start : List ℕ) → Worked start 0 start
unfolding through_all from
worked_none start = holds_exactly start 0 start (omega arith) refl

pub worked_length : (start : List ℕ) (k : ℕ) (ws : List ℕ) → Worked start k ws → length ws ≡ length start
unfolding through_all from through
worked_length start zero ws w = ap length w.table
worked_length start (suc k) ws w = ap length (w.table ∙ node_more u k start) ∙ rows_table u (joins u k (through_all u (below k) start))
  where
    u : ℕ
    u = length start

pub worked_more : (start : List ℕ) (k : ℕ) (ws next : List ℕ) → k < length ws → Worked start k ws → next ≡ through (length ws) k ws → Worked start (k + 1) next
worked_more start k ws next h w e =
    let l = worked_length start k ws w in
    holds_exactly start (k + 1) next (omega (arith, l))
    (e ∙ ap₂ (λ (n : ℕ) (v : List ℕ). through n k v) l w.table ∙ sym (node_more u k start) ∙ ap (λ (j : ℕ). through_all u (below j) start) (sym (add-one k)))
  where
    u : ℕ
    u = length start

-- what a node leaves is rows again
pub rows_through : (k : ℕ) (ws next : List ℕ) → next ≡ through (length ws) k ws → Rows (length next) next
unfolding through
rows_through k ws next e =
    let t = table_rows u (joins u k ws) in
    subst⁻¹ (λ (l : List ℕ). Rows (length l) l) e (subst⁻¹ (λ (n : ℕ). Rows n (table u 2 (joins u k ws))) (rows_table u (joins u k ws)) t)
  where
    u : ℕ
    u = length ws
