-- The closures of a statement, filled in ascending order, stand in their tables.
use Prim.Native.Nat.{ℕ, zero, suc, ◌+◌, ◌*◌, ◌%◌, ◌<◌, ◌≤◌}
use mathlib.Core.Path.{◌≡◌, refl, sym, ap, ap₂, subst, ◌∙◌}
use mathlib.Core.Bool.{Bool, true, false, cond}
use mathlib.Core.List.{List, [], ◌∷◌, ◌++◌, map, append_assoc}
use native.Mathlib.Nat.{le_refl, mul-le-mul_right, add-zero, zero-add, add-suc, suc-add, suc-mul}
use native.Mathlib.Omega.{arith}
use lib.Dec.{T}
use lib.ListN.{length, get_or, set, replicate, take, drop, length-append, get_or-append}
use lib.Seq.{sets, sets-eq, length-sets, length-take-le, take_at, take-take, get_or-append-add, get_or-drop, get_or-take, set_comm}
use Rattle.definition.specs.Text.{Text, member, some_of, all_of}
use Rattle.definition.specs.Syntax.{Expression, atom, truth, falsity, compare, matching, negation, conjunction, disjunction, implication, equivalence, exists, for_all, closure_of, compare_relations, literal, count_of, sum_of, ratio_of, compare_figures}
use Rattle.definition.specs.Names.{free, closures}
use Rattle.definition.specs.Tables.{Tuple, bit, holds, table, closure}
use Rattle.definition.specs.Accept.{Accepted, elements}
use Rattle.definition.specs.Meaning.{Tables, Environment, bind, bind_all, mean, nowhere}
use Rattle.definition.specs.Meaning as Definition
use Rattle.definition.proofs.MeaningLaws.{member_first}
use Rattle.bits.proofs.Laws.{word_same}
use Rattle.closure.proofs.Laws.{row_table, rows_table, table_of_rows}
use Rattle.words.specs.Fields.{kind_of}
use Rattle.words.specs.Raw.{size}
use Rattle.eval.specs.Nodes.{slot, operand, node_at, child_at, a_of, b_of}
use Rattle.eval.specs.Meaning.{world, closure_at, meaning}
use Rattle.eval.proofs.Operands.{holds_pair}
use Rattle.eval.proofs.Trees.{child_below}
use Rattle.closures.specs.Filling.{fill_word, fill_words}
use Rattle.closures.proofs.Parts.{closure_length}
use Rattle.closures.proofs.Fills.{fill_other, fill_here}
use Rattle.meaning.specs.Lowered.{root, closure_count, Naming, Lowered}
use Rattle.meaning.specs.Ready.{Loops, Fits, Tabled, Closes, Held}
use Rattle.meaning.proofs.Fit.{fits_bind, rest_in}
use Rattle.definition.proofs.DistinctLaws.{Distinct, distinct_head}
use Rattle.meaning.proofs.Distinct.{free_distinct}
use Rattle.meaning.proofs.Decoded.{root_last}
use Rattle.meaning.proofs.Means.{means}

neither : (b : Bool) → ◌≡◌ {A = ℕ} (cond b 11 12) 21 → ⊥
neither true e = omega arith
neither false e = omega arith

same_in : (x y : Text) → x ≡ y → T (member x (y ∷ []))
same_in x y e = rw e (member_first y [])

-- a part written into a list
module _ (l : List ℕ) (o : ℕ) (b : List ℕ) (fits : o + length b ≤ length l) where
  written : sets l o b ≡ take o l ++ (b ++ drop (o + length b) l)
  written = sets-eq b l o fits ∙ append_assoc (take o l) b (drop (o + length b) l)

  before : length (take o l) ≡ o
  before = length-take-le o l (omega arith)

  sets_front : take o (sets l o b) ≡ take o l
  sets_front = ap (take o) written ∙ take_at (take o l) (b ++ drop (o + length b) l) o before

  sets_at : (i : ℕ) → i < length b → get_or (sets l o b) (o + i) 0 ≡ get_or b i 0
  sets_at i h =
      ap₂ (λ (xs : List ℕ) (n : ℕ). get_or xs (n + i) 0) written (sym before)
      ∙ get_or-append-add (take o l) (b ++ drop (o + length b) l) i 0 ∙ get_or-append b (drop (o + length b) l) 0 i h

pub shorter : (a b : ℕ) (s t : List ℕ) → a ≤ b → take b t ≡ take b s → take a t ≡ take a s
shorter a b s t h e = sym (take-take a b t h) ∙ ap (take a) e ∙ take-take a b s h

table_same : (u : ℕ) (f g : Tuple → Bool) → ((a b : ℕ) → a < u → b < u → f (a ∷ b ∷ []) ≡ g (a ∷ b ∷ [])) → table u 2 f ≡ table u 2 g
table_same u f g h =
    table_of_rows u g (table u 2 f) (rows_table u f) (λ a l. row_table u f a l ∙ word_same u (λ b. f (a ∷ b ∷ [])) (λ b. g (a ∷ b ∷ [])) (λ b k. h a b l k))

module _ (firsts vs : List ℕ) (u : ℕ) (low : List ℕ) where
  abbrev pub fill : ℕ → ℕ → List ℕ → List ℕ
  fill m n s = fill_words firsts vs u low m n s

  abbrev pub kind : ℕ → ℕ
  kind k = kind_of (get_or low k 0)

  pub fill_split : (m k n : ℕ) (s : List ℕ) → fill (m + k) n s ≡ fill k (n + m) (fill m n s)
  unfolding fill_words
  fill_split zero k n s = rw (zero-add, add-zero) refl
  fill_split (suc m) k n s = rw (suc-add) (fill_split m k (suc n) (fill_word firsts vs u low n s) ∙ ap (λ (i : ℕ). fill k i (fill m (suc n) (fill_word firsts vs u low n s))) (suc-add n m ∙ sym (add-suc n m)))

  pub fill_quiet : (m n : ℕ) (s : List ℕ) → ((i : ℕ) → i < m → kind (n + i) ≡ 21 → ⊥) → fill m n s ≡ s
  unfolding fill_words
  fill_quiet zero n s h = refl
  fill_quiet (suc m) n s h =
      let first : fill_word firsts vs u low n s ≡ s = sym (fill_other firsts vs u low n s (get_or low n 0) refl (λ e. h 0 (omega arith) (ap kind (add-zero n) ∙ e))) in
      ap (fill m (suc n)) first ∙ fill_quiet m (suc n) s (λ i l e. h (suc i) (omega arith) (ap kind (add-suc n i ∙ sym (suc-add n i)) ∙ e))

  -- the last of the words
  fill_last : (m n : ℕ) (s : List ℕ) → fill (m + 1) n s ≡ fill_word firsts vs u low (n + m) (fill m n s)
  unfolding fill_words
  fill_last m n s = fill_split m 1 n s

  pub fill_over : (m n : ℕ) (s : List ℕ) → (kind (n + m) ≡ 21 → ⊥) → fill (m + 1) n s ≡ fill m n s
  fill_over m n s h = fill_last m n s ∙ sym (fill_other firsts vs u low (n + m) (fill m n s) (get_or low (n + m) 0) refl h)

  -- words that are no closures, the last of them of kind K
  quiet : (m n : ℕ) (s : List ℕ) (k : ℕ) {K : ℕ} → k ≡ m + 1 → ((i : ℕ) → i < m → kind (n + i) ≡ 21 → ⊥) → kind (n + m) ≡ K → (K ≡ 21 → ⊥) → fill k n s ≡ s
  quiet m n s k e h q d = ap (λ (j : ℕ). fill j n s) e ∙ fill_over m n s (λ r. d (sym q ∙ r)) ∙ fill_quiet m n s h

  -- a pattern's term and halves
  halves : (n : ℕ) → ((i : ℕ) → i < 1 → kind (n + i) ≡ 21 → ⊥) → kind (n + 1) ≡ 23 → kind (n + 2) ≡ 23 → (i : ℕ) → i < 3 → kind (n + i) ≡ 21 → ⊥
  halves n l a b zero h e = l 0 (omega arith) e
  halves n l a b (suc zero) h e = omega arith
  halves n l a b (suc (suc zero)) h e = omega arith
  halves n l a b (suc (suc (suc i))) h e = absurd (omega arith)

module _ (w : Accepted) (β : Text → ℕ) (loops : List Text) (vs : List ℕ) (naming : Naming β loops) (low : List ℕ) (ts : Tables) (firsts : List ℕ) where
  abbrev pub u : ℕ
  u = elements w

  abbrev pub Low : Expression → ℕ → ℕ → Type 0
  Low = Lowered w β loops low

  abbrev pub Kept : List ℕ → Expression → ℕ → Type 0
  Kept s = Held w β loops vs ts s firsts

  -- two attributes, each at its slot
  pair_fits : (xs : List Text) (i j a b : ℕ) (env : Environment) → map (λ x. operand (β x)) xs ≡ slot i ∷ slot j ∷ [] → Distinct xs → a < u → b < u → Loops w β loops vs env
      → Fits w β loops vs xs (bind_all xs (a ∷ b ∷ []) env) (set (set (replicate 8 0) i a) j b)
  unfolding bind_all
  pair_fits [] i j a b env e d ha hb l = let z : ◌≡◌ {A = ℕ} 0 1 = cc in absurd (omega arith)
  pair_fits (x ∷ []) i j a b env e d ha hb l = let z : ◌≡◌ {A = ℕ} 0 1 = cc in absurd (omega arith)
  pair_fits (x ∷ y ∷ z ∷ xs) i j a b env e d ha hb l = let z : ◌≡◌ {A = ℕ} 0 1 = cc in absurd (omega arith)
  pair_fits (x ∷ y ∷ []) i j a b env e d ha hb l =
      let ox : operand (β x) ≡ slot i = cc in
      let oy : operand (β y) ≡ slot j = cc in
      let apart : member x (y ∷ []) ≡ false = distinct_head d in
      let none : Fits w β loops vs [] env (replicate 8 0) = record { long = refl; value = λ z m. absurd (unfold member some_of in m); within = λ z m. absurd (unfold member some_of in m); variables = l } in
      let one : Fits w β loops vs (y ∷ []) (bind y b env) (set (replicate 8 0) j b) = fits_bind w β loops vs naming y j b oy hb (λ z m n. rest_in y z [] m n) none in
      let both : Fits w β loops vs (x ∷ y ∷ []) (bind x a (bind y b env)) (set (set (replicate 8 0) j b) i a) = fits_bind w β loops vs naming x i a ox ha (λ z m n. rest_in x z (y ∷ []) m n) one in
      subst (Fits w β loops vs (x ∷ y ∷ []) (bind x a (bind y b env)))
      (set_comm (replicate 8 0) j i b a (λ q. subst T apart (same_in x y (naming.apart x y i ox (oy ∙ ap slot q))))) both

  module _ (base : ℕ) (places : (c : ℕ) → c < 16 → get_or firsts (16 + c) 0 ≡ base + c * u) where
    -- the words of the first c closures and of what stands before them
    abbrev pub end : ℕ → ℕ
    end c = base + c * u

    pub end_less : (c d b : ℕ) → c ≤ d → end d ≤ b → end c ≤ b
    end_less c d b h l = omega (arith, mul-le-mul_right u h)

    end_suc : (c : ℕ) → end (suc c) ≡ end c + u
    end_suc c = rw suc-mul (omega arith)

    -- a pair of a closure that is written before b
    pair_kept : (s t : List ℕ) (c b x y : ℕ) → c < 16 → end (suc c) ≤ b → take b t ≡ take b s → x < u
        → holds u (closure_at (world t firsts vs u) c) (x ∷ y ∷ []) ≡ holds u (closure_at (world s firsts vs u) c) (x ∷ y ∷ [])
    pair_kept s t c b x y h l e hx =
        let o : ℕ = get_or firsts (16 + c) 0 in
        let i : o + x < b = omega (arith, places c h, end_suc c) in
        sym (holds_pair u (drop o t) x y)
        ∙ ap (λ (v : ℕ). bit v y) (get_or-drop o t x 0 ∙ sym (get_or-take b t (o + x) 0 i) ∙ ap (λ (r : List ℕ). get_or r (o + x) 0) e ∙ get_or-take b s (o + x) 0 i ∙ sym (get_or-drop o s x 0))
        ∙ holds_pair u (drop o s) x y

    closes_kept : (s t : List ℕ) (c b : ℕ) (e : Expression) → c < 16 → end (suc c) ≤ b → take b t ≡ take b s → Closes w β loops vs ts s firsts c e → Closes w β loops vs ts t firsts c e
    closes_kept s t c b e h l q k = record { pairs = λ env v x y hx hy. pair_kept s t c b x y h l q hx ∙ k.pairs env v x y hx hy }

    -- the closures of the first and of the second of two expressions
    abbrev end_of : Expression → Expression → ℕ → ℕ
    end_of x y c = end (c + length (closures x ++ closures y))

    first_end : (x y : Expression) (c b : ℕ) → end_of x y c ≤ b → end (c + closure_count x) ≤ b
    first_end x y c b h = end_less (c + closure_count x) (c + length (closures x ++ closures y)) b (omega (arith, length-append (closures x) (closures y))) h

    second_end : (x y : Expression) (c b : ℕ) → end_of x y c ≤ b → end (c + closure_count x + closure_count y) ≤ b
    second_end x y c b h = end_less (c + closure_count x + closure_count y) (c + length (closures x ++ closures y)) b (omega (arith, length-append (closures x) (closures y))) h

    pub held_kept : (e : Expression) (n c : ℕ) (s t : List ℕ) (b : ℕ) → Low e n c → end (c + closure_count e) ≤ b → take b t ≡ take b s → Kept s e c → Kept t e c
    unfolding Lowered Held closures
    held_kept (atom r ps) n c s t b l h q k = tt
    held_kept (truth ps) n c s t b l h q k = tt
    held_kept (falsity ps) n c s t b l h q k = tt
    held_kept (compare g x y) n c s t b l h q k = tt
    held_kept (matching x y) n c s t b l h q k = tt
    held_kept (negation e) n c s t b l h q k = held_kept e n c s t b l.0 h q k
    held_kept (conjunction x y) n c s t b l h q k =
        (held_kept x n c s t b l.0 (first_end x y c b h) q k.0, held_kept y (n + size x) (c + closure_count x) s t b l.1.0 (second_end x y c b h) q k.1)
    held_kept (disjunction x y) n c s t b l h q k =
        (held_kept x n c s t b l.0 (first_end x y c b h) q k.0, held_kept y (n + size x) (c + closure_count x) s t b l.1.0 (second_end x y c b h) q k.1)
    held_kept (implication x y) n c s t b l h q k =
        (held_kept x n c s t b l.0 (first_end x y c b h) q k.0, held_kept y (n + size x) (c + closure_count x) s t b l.1.0 (second_end x y c b h) q k.1)
    held_kept (equivalence x y) n c s t b l h q k =
        (held_kept x n c s t b l.0 (first_end x y c b h) q k.0, held_kept y (n + size x) (c + closure_count x) s t b l.1.0 (second_end x y c b h) q k.1)
    held_kept (exists x e) n c s t b l h q k = held_kept e (n + 1) c s t b l.1.0 h q k
    held_kept (for_all x e) n c s t b l h q k = held_kept e (n + 1) c s t b l.1.0 h q k
    held_kept (closure_of e) n c s t b l h q k = (
      held_kept e n c s t b l.0 (end_less (c + closure_count e) (c + suc (closure_count e)) b (omega arith) h) q k.0,
      closes_kept s t (c + closure_count e) b e l.1.few (end_less (suc (c + closure_count e)) (c + suc (closure_count e)) b (omega arith) h) q k.1,
    )
    held_kept (compare_relations g x y) n c s t b l h q k =
        (held_kept x n c s t b l.0 (first_end x y c b h) q k.0, held_kept y (n + size x) (c + closure_count x) s t b l.1.0 (second_end x y c b h) q k.1)
    held_kept (literal x) n c s t b l h q k = tt
    held_kept (count_of e) n c s t b l h q k = held_kept e n c s t b l.0 h q k
    held_kept (sum_of x y) n c s t b l h q k =
        (held_kept x n c s t b l.0 (first_end x y c b h) q k.0, held_kept y (n + size x) (c + closure_count x) s t b l.1.0 (second_end x y c b h) q k.1)
    held_kept (ratio_of x y) n c s t b l h q k =
        (held_kept x n c s t b l.0 (first_end x y c b h) q k.0, held_kept y (n + size x) (c + closure_count x) s t b l.1.0 (second_end x y c b h) q k.1)
    held_kept (compare_figures g x y) n c s t b l h q k =
        (held_kept x n c s t b l.0 (first_end x y c b h) q k.0, held_kept y (n + size x) (c + closure_count x) s t b l.1.0 (second_end x y c b h) q k.1)

    module _ (p : List ℕ) (tables : (s : List ℕ) → take base s ≡ p → Tabled w β loops vs ts s firsts) where
      -- the store t after the closures of e are filled in s: the words before them stay
      pub record Filled (s t : List ℕ) (e : Expression) (c : ℕ) : Type 0 where
        pub long : length t ≡ length s
        pub front : take (end c) t ≡ take (end c) s
        pub held : Kept t e c

      -- where its closures are filled, its node means what it means, if at least the words before b are lent
      held_means : (e : Expression) (n c : ℕ) (t : List ℕ) (b : ℕ) (env : Environment) (σ : List ℕ) → Low e n c → Kept t e c → take base t ≡ p → end (c + closure_count e) ≤ b
          → Fits w β loops vs (free w.variables e) env σ → meaning (world (take b t) firsts vs u) (node_at low (root e n)) σ ≡ mean w ts env e
      held_means e n c t b env σ l h q k f =
          means w β loops vs naming low ts (take b t) firsts (tables (take b t) (take-take base b t (omega arith) ∙ q)) e n c env σ l
          (held_kept e n c t (take b t) b l k (take-take b b t (le_refl b)) h) f

      -- one closure more, in the table after those of what it encloses
      closes : (e : Expression) (n c : ℕ) (s : List ℕ) → Low (closure_of e) n c → end 16 ≤ length s → take base s ≡ p → Kept s e c
          → Filled s (fill_word firsts vs u low (n + size e) s) (closure_of e) c
      unfolding Lowered Held closures
      closes e n c s l room q k =
          let d = c + closure_count e in
          let o = end d in
          let i = n + size e in
          let x = get_or low i 0 in
          let C = l.1 in
          let node = node_at low (root e n) in
          let X = a_of x % 8 in
          let Y = b_of x % 8 in
          let fits : o + u ≤ length s = omega (arith, end_suc d, mul-le-mul_right u C.few) in
          let f : Tuple → Bool = λ t. meaning (world (take o s) firsts vs u) node (set (set (replicate 8 0) X (get_or t 0 0)) Y (get_or t 1 0)) in
          let block = closure u (table u 2 f) in
          let wide : length block ≡ u = closure_length u (table u 2 f) (rows_table u f) in
          let room' : o + length block ≤ length s = rw wide fits in
          let front : take o (sets s o block) ≡ take o s = sets_front s o block room' in
          let here : sets s o block ≡ fill_word firsts vs u low i s =
          fill_here firsts vs u low i s x o node refl C.one.kind (sym (ap (λ (j : ℕ). get_or firsts (16 + j) 0) C.number ∙ places d C.few))
          (child_below low i (root e n) (root_last e n) ∙ ap (child_at low i) (sym C.one.child)) fits in
          let inside : (env : Environment) → Loops w β loops vs env → table u 2 f ≡ table u 2 (λ t. mean w ts (bind_all (free w.variables e) t env) e) =
          λ env v. table_same u f (λ t. mean w ts (bind_all (free w.variables e) t env) e)
          (λ a b ha hb.
          held_means e n c s o (bind_all (free w.variables e) (a ∷ b ∷ []) env) (set (set (replicate 8 0) X a) Y b) l.0 k q (le_refl o)
          (pair_fits (free w.variables e) X Y a b env C.slots (free_distinct w.variables e) ha hb v)) in
          subst (λ (r : List ℕ). Filled s r (closure_of e) c) here
          (record {
            long = length-sets s o block;
            front = shorter (end c) o s (sets s o block) (end_less c d o (omega arith) (le_refl o)) front;
            held = (
              held_kept e n c s (sets s o block) o l.0 (le_refl o) front k,
              record {
                pairs = λ env v a b ha hb.
                    sym (holds_pair u (drop (get_or firsts (16 + d) 0) (sets s o block)) a b)
                    ∙ ap (λ (j : ℕ). bit j b) (get_or-drop (get_or firsts (16 + d) 0) (sets s o block) a 0 ∙ ap (λ (j : ℕ). get_or (sets s o block) (j + a) 0) (places d C.few) ∙ sets_at s o block room' a (rw wide ha))
                    ∙ holds_pair u block a b ∙ ap (λ (tb : List ℕ). holds u (closure u tb) (a ∷ b ∷ [])) (inside env v);
              },
            );
          })

      both : (a b : Expression) (n c : ℕ) (s t r : List ℕ) → Low a n c → Filled s t a c → Filled t r b (c + closure_count a)
          → (length r ≡ length s) × ((take (end c) r ≡ take (end c) s) × (Kept r a c × Kept r b (c + closure_count a)))
      both a b n c s t r l f g = (
        g.long ∙ f.long,
        (
          shorter (end c) (end (c + closure_count a)) t r (end_less c (c + closure_count a) (end (c + closure_count a)) (omega arith) (le_refl (end (c + closure_count a)))) g.front ∙ f.front,
          (held_kept a n c t r (end (c + closure_count a)) l (le_refl (end (c + closure_count a))) g.front f.held, g.held),
        ),
      )

      same_store : (e : Expression) (c : ℕ) (s t : List ℕ) → t ≡ s → Kept s e c → Filled s t e c
      same_store e c s t q k = subst (λ (r : List ℕ). Filled s r e c) (sym q) (record { long = refl; front = refl; held = k })

      moved : (e e' : Expression) (c : ℕ) (s t r : List ℕ) → t ≡ r → (Kept r e c → Kept r e' c) → Filled s r e c → Filled s t e' c
      moved e e' c s t r q g f = subst (λ (x : List ℕ). Filled s x e' c) (sym q) (record { long = f.long; front = f.front; held = g f.held })

      abbrev fill_of : Expression → ℕ → List ℕ → List ℕ
      fill_of e n s = fill_words firsts vs u low (size e) n s

      joined : (x y e : Expression) (n c : ℕ) (s : List ℕ) {K : ℕ} → ((r : List ℕ) → Kept r x c × Kept r y (c + closure_count x) → Kept r e c) → Low x n c
          → kind_of (get_or low (n + size x + size y) 0) ≡ K → (K ≡ 21 → ⊥) → Filled s (fill_of x n s) x c → Filled (fill_of x n s) (fill_of y (n + size x) (fill_of x n s)) y (c + closure_count x)
          → Filled s (fill_words firsts vs u low (size x + size y + 1) n s) e c
      joined x y e n c s g l q d f h =
          let r = fill_of y (n + size x) (fill_of x n s) in
          let b = both x y n c s (fill_of x n s) r l f h in
          let i : n + (size x + size y) ≡ n + size x + size y = omega arith in
          let t : fill_words firsts vs u low (size x + size y + 1) n s ≡ r =
          fill_over firsts vs u low (size x + size y) n s (λ z. d (sym q ∙ ap (λ (j : ℕ). kind_of (get_or low j 0)) (sym i) ∙ z)) ∙ fill_split firsts vs u low (size x) (size y) n s in
          subst (λ (v : List ℕ). Filled s v e c) (sym t) (record { long = b.0; front = b.1.0; held = g r b.1.1 })

      pub room_after : (e : Expression) (c : ℕ) (s t : List ℕ) → Filled s t e c → end 16 ≤ length s → end 16 ≤ length t
      room_after e c s t f h = rw f.long h

      pub base_after : (e : Expression) (c : ℕ) (s t : List ℕ) → Filled s t e c → take base s ≡ p → take base t ≡ p
      base_after e c s t f q = shorter base (end c) s t (omega arith) f.front ∙ q

      quantified : (e e' : Expression) (n c : ℕ) (s : List ℕ) {K : ℕ} → ((r : List ℕ) → Kept r e c → Kept r e' c) → ((i : ℕ) → i < 1 → kind_of (get_or low (n + i) 0) ≡ 21 → ⊥)
          → kind_of (get_or low (n + 1 + size e) 0) ≡ K → (K ≡ 21 → ⊥) → Filled s (fill_of e (n + 1) s) e c → Filled s (fill_words firsts vs u low (size e + 2) n s) e' c
      quantified e e' n c s g l q d f =
          let i : size e + 2 ≡ 1 + (size e + 1) = omega arith in
          moved e e' c s (fill_words firsts vs u low (size e + 2) n s) (fill_of e (n + 1) s)
          (ap (λ (j : ℕ). fill_words firsts vs u low j n s) i ∙ fill_split firsts vs u low 1 (size e + 1) n s
          ∙ ap (fill_words firsts vs u low (size e + 1) (n + 1)) (fill_quiet firsts vs u low 1 n s l)
          ∙ fill_over firsts vs u low (size e) (n + 1) s (λ z. d (sym q ∙ z)))
          (g (fill_of e (n + 1) s)) f

      -- THE LAW: the closures of an expression stand in their tables once its words are filled in order
      pub filled : (e : Expression) (n c : ℕ) (s : List ℕ) → Low e n c → end 16 ≤ length s → take base s ≡ p → Filled s (fill_words firsts vs u low (size e) n s) e c
      unfolding Lowered Held size
      filled (atom r ps) n c s l room q = same_store (atom r ps) c s _ (quiet firsts vs u low (length ps + 1) n s (length ps + 2) (omega arith) l.0 l.1.kind (λ z. absurd (omega arith))) tt
      filled (truth ps) n c s l room q = same_store (truth ps) c s _ (quiet firsts vs u low (length ps) n s (length ps + 1) refl l.0 l.1.kind (neither (all_of (λ x. some_of (λ a. true) (Definition.choices w nowhere x)) ps))) tt
      filled (falsity ps) n c s l room q = same_store (falsity ps) c s _ (quiet firsts vs u low (length ps) n s (length ps + 1) refl l.0 l.1 (λ z. absurd (omega arith))) tt
      filled (compare g x y) n c s l room q = same_store (compare g x y) c s _ (quiet firsts vs u low 2 n s 3 refl l.0 l.1.kind (λ z. absurd (omega arith))) tt
      filled (matching x y) n c s l room q =
          same_store (matching x y) c s _ (quiet firsts vs u low 3 n s 4 refl (halves firsts vs u low n l.0 l.1.0.kind l.1.1.0.kind) l.1.1.1.kind (λ z. absurd (omega arith))) tt
      filled (negation e) n c s l room q =
          moved e (negation e) c s (fill_words firsts vs u low (size e + 1) n s) (fill_of e n s) (fill_over firsts vs u low (size e) n s (λ z. let k = l.1.kind in absurd (omega arith))) (λ k. k) (filled e n c s l.0 room q)
      filled (conjunction x y) n c s l room q =
          let f = filled x n c s l.0 room q in
          joined x y (conjunction x y) n c s (λ r k. k) l.0 l.1.1.kind (λ z. absurd (omega arith)) f
          (filled y (n + size x) (c + closure_count x) (fill_of x n s) l.1.0 (room_after x c s (fill_of x n s) f room) (base_after x c s (fill_of x n s) f q))
      filled (disjunction x y) n c s l room q =
          let f = filled x n c s l.0 room q in
          joined x y (disjunction x y) n c s (λ r k. k) l.0 l.1.1.kind (λ z. absurd (omega arith)) f
          (filled y (n + size x) (c + closure_count x) (fill_of x n s) l.1.0 (room_after x c s (fill_of x n s) f room) (base_after x c s (fill_of x n s) f q))
      filled (implication x y) n c s l room q =
          let f = filled x n c s l.0 room q in
          joined x y (implication x y) n c s (λ r k. k) l.0 l.1.1.kind (λ z. absurd (omega arith)) f
          (filled y (n + size x) (c + closure_count x) (fill_of x n s) l.1.0 (room_after x c s (fill_of x n s) f room) (base_after x c s (fill_of x n s) f q))
      filled (equivalence x y) n c s l room q =
          let f = filled x n c s l.0 room q in
          joined x y (equivalence x y) n c s (λ r k. k) l.0 l.1.1.kind (λ z. absurd (omega arith)) f
          (filled y (n + size x) (c + closure_count x) (fill_of x n s) l.1.0 (room_after x c s (fill_of x n s) f room) (base_after x c s (fill_of x n s) f q))
      filled (exists x e) n c s l room q = quantified e (exists x e) n c s (λ r k. k) l.0 l.1.1.kind (λ z. absurd (omega arith)) (filled e (n + 1) c s l.1.0 room q)
      filled (for_all x e) n c s l room q = quantified e (for_all x e) n c s (λ r k. k) l.0 l.1.1.kind (λ z. absurd (omega arith)) (filled e (n + 1) c s l.1.0 room q)
      filled (closure_of e) n c s l room q =
          let f = filled e n c s l.0 room q in
          let t = fill_of e n s in
          let g = closes e n c t l (room_after e c s t f room) (base_after e c s t f q) f.held in
          subst (λ (r : List ℕ). Filled s r (closure_of e) c) (sym (fill_last firsts vs u low (size e) n s)) (record { long = g.long ∙ f.long; front = g.front ∙ f.front; held = g.held })
      filled (compare_relations g x y) n c s l room q =
          let f = filled x n c s l.0 room q in
          joined x y (compare_relations g x y) n c s (λ r k. k) l.0 l.1.1.two.kind (λ z. absurd (omega arith)) f
          (filled y (n + size x) (c + closure_count x) (fill_of x n s) l.1.0 (room_after x c s (fill_of x n s) f room) (base_after x c s (fill_of x n s) f q))
      filled (literal x) n c s l room q = same_store (literal x) c s _ (quiet firsts vs u low 0 n s 1 refl (λ i z. absurd (omega arith)) (ap (kind firsts vs u low) (add-zero n) ∙ l.kind) (λ z. absurd (omega arith))) tt
      filled (count_of e) n c s l room q =
          moved e (count_of e) c s (fill_words firsts vs u low (size e + 1) n s) (fill_of e n s) (fill_over firsts vs u low (size e) n s (λ z. let k = l.1.one.kind in absurd (omega arith))) (λ k. k) (filled e n c s l.0 room q)
      filled (sum_of x y) n c s l room q =
          let f = filled x n c s l.0 room q in
          joined x y (sum_of x y) n c s (λ r k. k) l.0 l.1.1.kind (λ z. absurd (omega arith)) f
          (filled y (n + size x) (c + closure_count x) (fill_of x n s) l.1.0 (room_after x c s (fill_of x n s) f room) (base_after x c s (fill_of x n s) f q))
      filled (ratio_of x y) n c s l room q =
          let f = filled x n c s l.0 room q in
          joined x y (ratio_of x y) n c s (λ r k. k) l.0 l.1.1.kind (λ z. absurd (omega arith)) f
          (filled y (n + size x) (c + closure_count x) (fill_of x n s) l.1.0 (room_after x c s (fill_of x n s) f room) (base_after x c s (fill_of x n s) f q))
      filled (compare_figures g x y) n c s l room q =
          let f = filled x n c s l.0 room q in
          joined x y (compare_figures g x y) n c s (λ r k. k) l.0 l.1.1.0.two.kind (λ z. absurd (omega arith)) f
          (filled y (n + size x) (c + closure_count x) (fill_of x n s) l.1.0 (room_after x c s (fill_of x n s) f room) (base_after x c s (fill_of x n s) f q))
