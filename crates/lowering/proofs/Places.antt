-- The fields of the lowered word at a place whose raw word is known.
use Prim.Native.Nat.{ℕ, zero, suc, ◌+◌, ◌*◌, ◌-◌, ◌/◌, ◌%◌, min, ◌<◌, ◌≤◌}
use mathlib.Core.Path.{◌≡◌, refl, ap, ◌∙◌}
use mathlib.Core.Bool.{Bool, true, false, ◌||◌, cond}
use mathlib.Core.List.{List, [], ◌∷◌}
use native.Mathlib.Omega.{arith}
use borrow.Author.Tests.{lt-ltb, le-ltb, eq-eqb, ne_eqb, eqb-true, eqb-false, le-leb}
use lib.Dec.{eqb}
use lib.ListN.{length, get_or}
use Rattle.definition.specs.Syntax.{Term, name, string, anything, Expression}
use Rattle.definition.specs.Names.{closures}
use Rattle.definition.proofs.BoolLaws.{contradiction}
use Rattle.words.specs.Fields.{word, kind_of, p_of, q_of, CLOSURE, TERM, ANYTHING, STRING, TRUTH, FALSITY}
use Rattle.words.specs.Raw.{number, leaf, size, flat}
use Rattle.words.proofs.FieldLaws.{kind_word, p_word, q_word, r_word}
use Rattle.words.proofs.Sizes.{length_flat}
use Rattle.eval.specs.Nodes.{a_of, b_of, c_of, d_of, n_of, operands_of, half_of}
use Rattle.intern.specs.Entries.{start_of}
use Rattle.digits.specs.Packed.{count}
use Rattle.slots.specs.Slots.{one_closure, closure_count}
use Rattle.slots.proofs.ClosureCount.{count_expression}
use Rattle.words.specs.Standing.{Has}
use Rattle.lowering.specs.Lowering.{at, TokenValues, lowered, slot_of, slots_of, mask, label_place, depth_of, term_byte, operands_at, all_stand, closure_field, comparison_field, range_field, kind_field, node_p, p_field, quantity_field, expression_field, operand_field, count_field, closures_before, lower_word, lower_at, Filled}
use Rattle.lowering.proofs.Words.{kind_lowered, p_lowered, q_lowered, operands_lowered, half_lowered, a_lowered, b_lowered, c_lowered, d_lowered, n_lowered, kind_small, p_small, operand_small, count_field_small}

-- closures counted over words that stand from n on
module _ (words : List ℕ) (lo : ℕ) where
  pub closures_has : (ws : List ℕ) (n : ℕ) → lo ≤ n → Has words n ws → closures_before (at words) lo (n + length ws) ≡ closures_before (at words) lo n + closure_count ws
  unfolding closures_before closure_count Has
  closures_has [] n l h = let e : n + 0 ≡ n = omega arith in rw e (omega arith)
  closures_has (x ∷ ws) n l h =
      let e : n + suc (length ws) ≡ n + 1 + length ws = omega arith in
      let s : n + 1 ≡ suc n = omega arith in
      let f : closures_before (at words) lo (n + 1) ≡ closures_before (at words) lo n + one_closure x = rw (s, le-leb lo n l, h.0) refl in
      rw e (closures_has ws (n + 1) (omega arith) h.1 ∙ omega (arith, f))

  pub closures_flat : (e : Expression) (n : ℕ) → lo ≤ n → Has words n (flat e n) → closures_before (at words) lo (n + size e) ≡ closures_before (at words) lo n + length (closures e)
  closures_flat e n l h =
      let c = closures_has (flat e n) n l h in
      rw (length_flat e n, count_expression e n) at c

  pub closures_more : (m k : ℕ) → closures_before (at words) lo k ≤ closures_before (at words) lo (m + k)
  unfolding closures_before
  closures_more zero k = let e : 0 + k ≡ k = omega arith in rw e (omega arith)
  closures_more (suc m) k = let e : suc m + k ≡ suc (m + k) = omega arith in rw e (omega (arith, closures_more m k))

-- a kind whose words have more in the four bytes than a target or child
abbrev pub has_more : ℕ → Bool
has_more k =
    eqb k 6 || (eqb k 10 || (eqb k 13 || (eqb k 21 || (eqb k 22 || (eqb k 23 || (eqb k 24 || (eqb k 25 || (eqb k 28 || (eqb k 30 || (eqb k 33 || eqb k 44))))))))))

is_none : (k j : ℕ) → has_more j ≡ true → has_more k ≡ false → eqb k j ≡ false
is_none k j t f = go (eqb k j) refl
  where
    go : (b : Bool) → eqb k j ≡ b → b ≡ false
    go true e = contradiction (has_more k) (ap has_more (eqb-true k j e) ∙ t) f
    go false e = refl

module _ (words codes tokens fr : List ℕ) (H : TokenValues) (u lo hi : ℕ) (old low : List ℕ) (filled : Filled (lower_at (at words) (at codes) (at tokens) (at fr) H u lo) lo hi old low) where
  module _ (k K p q r : ℕ) (hK : K < 256) (hp : p < 65536) (hq : q < 65536) (l : lo ≤ k) (h : k < hi) (e : get_or words k 0 ≡ word K p q r) where
    abbrev kk : ℕ
    kk = kind_field (at words) (at codes) u (get_or words k 0)

    abbrev pp : ℕ
    pp = p_field (at words) (at codes) (at tokens) (get_or words k 0)

    abbrev oo : ℕ
    oo = operand_field (at words) (at codes) (at tokens) (at fr) H (closures_before (at words) lo k) k (get_or words k 0)

    abbrev nn : ℕ
    nn = count_field (at words) (at codes) (at fr) k (get_or words k 0)

    cell : get_or low k 0 ≡ lowered kk pp oo nn
    unfolding lower_at lower_word
    cell = filled.inside k l h

    ks : kk < 256
    ks = kind_small (at words) (at codes) (at tokens) (at fr) u (get_or words k 0)

    ps : pp < 65536
    ps = p_small (at words) (at codes) (at tokens) (at fr) u (get_or words k 0)

    os : oo < 4294967296
    os = operand_small (at words) (at codes) (at tokens) (at fr) u H (closures_before (at words) lo k) k (get_or words k 0)

    ns : nn < 256
    ns = count_field_small (at words) (at codes) (at tokens) (at fr) u k (get_or words k 0)

    kind_cell : kind_of (get_or low k 0) ≡ kk
    kind_cell = rw cell (kind_lowered kk pp oo nn ks ps os ns)

    p_cell : p_of (get_or low k 0) ≡ pp
    p_cell = rw cell (p_lowered kk pp oo nn ks ps os ns)

    operands_cell : operands_of (get_or low k 0) ≡ oo + nn * 4294967296
    operands_cell = rw cell (operands_lowered kk pp oo nn ks ps os ns)

    half_cell : half_of (get_or low k 0) ≡ oo
    half_cell = rw cell (half_lowered kk pp oo nn ks ps os ns)

    q_cell : q_of (get_or low k 0) ≡ oo % 65536
    q_cell = rw cell (q_lowered kk pp oo nn ks ps os ns)

    a_cell : a_of (get_or low k 0) ≡ oo % 256
    a_cell = rw cell (a_lowered kk pp oo nn ks ps os ns)

    b_cell : b_of (get_or low k 0) ≡ oo / 256 % 256
    b_cell = rw cell (b_lowered kk pp oo nn ks ps os ns)

    c_cell : c_of (get_or low k 0) ≡ oo / 65536 % 256
    c_cell = rw cell (c_lowered kk pp oo nn ks ps os ns)

    d_cell : d_of (get_or low k 0) ≡ oo / 16777216
    d_cell = rw cell (d_lowered kk pp oo nn ks ps os ns)

    n_cell : n_of (get_or low k 0) ≡ nn
    n_cell = rw cell (n_lowered kk pp oo nn ks ps os ns)

    -- the kind is that of the raw word, but for TRUE
    pub kind_at : (K ≡ 11 → ⊥) → kind_of (get_or low k 0) ≡ K
    unfolding kind_field
    kind_at n = kind_cell ∙ rw (e, kind_word K p q r hK, ne_eqb K 11 n) refl

    pub truth_at : K ≡ 11 → kind_of (get_or low k 0) ≡ cond (all_stand (at words) (at codes) u q p) TRUTH FALSITY
    unfolding kind_field
    truth_at z = kind_cell ∙ rw (e, kind_word K p q r hK, p_word K p q r hK hp, q_word K p q r hK hp hq, z) refl

    -- an operator has the places of its operands
    pub plain_p : 14 ≤ K → K < 30 → (K ≡ 19 → ⊥) → (K ≡ 20 → ⊥) → (K ≡ 23 → ⊥) → p_of (get_or low k 0) ≡ p
    unfolding p_field node_p
    plain_p a b x y v =
        p_cell
        ∙ rw (e, kind_word K p q r hK, p_word K p q r hK hp, le-ltb K 4 (omega arith), le-ltb K 8 (omega arith), ne_eqb K 9 (λ z. omega arith), lt-ltb K 42 (omega arith), ne_eqb K 10 (λ z. omega arith), ne_eqb K 33 (λ z. omega arith), ne_eqb K 13 (λ z. omega arith), ne_eqb K 23 v, ne_eqb K 19 x, ne_eqb K 20 y, ne_eqb K 30 (λ z. omega arith)) refl

    plain_o : has_more K ≡ false → oo ≡ q
    unfolding operand_field expression_field quantity_field
    plain_o h =
        rw (e, kind_word K p q r hK, q_word K p q r hK hp hq, is_none K 6 refl h, is_none K 10 refl h, is_none K 13 refl h, is_none K 21 refl h, is_none K 22 refl h, is_none K 23 refl h, is_none K 24 refl h, is_none K 25 refl h, is_none K 28 refl h, is_none K 30 refl h, is_none K 33 refl h, is_none K 44 refl h) refl

    pub plain_q : has_more K ≡ false → q_of (get_or low k 0) ≡ q
    plain_q n = let m : q % 65536 ≡ q = omega arith in q_cell ∙ rw (plain_o n) m

    -- a quantifier has its attribute's slot
    pub quantifier_p : 19 ≤ K → K < 21 → p_of (get_or low k 0) ≡ term_byte (at codes) (get_or words p 0) % 8
    unfolding p_field node_p
    quantifier_p a b = p_cell ∙ go K a b (e ∙ refl) hK
      where
        go : (J : ℕ) → 19 ≤ J → J < 21 → get_or words k 0 ≡ word J p q r → J < 256 → pp ≡ term_byte (at codes) (get_or words p 0) % 8
        go J x y f hJ =
            rw (f, kind_word J p q r hJ, p_word J p q r hJ hp, le-ltb J 4 (omega arith), le-ltb J 8 (omega arith), ne_eqb J 9 (λ z. omega arith), lt-ltb J 42 (omega arith), ne_eqb J 10 (λ z. omega arith), ne_eqb J 33 (λ z. omega arith), ne_eqb J 13 (λ z. omega arith), ne_eqb J 23 (λ z. omega arith), ne_eqb J 30 (λ z. omega arith))
            (last (eqb J 19) refl)
          where
            last : (t : Bool) → eqb J 19 ≡ t → cond t (term_byte (at codes) (get_or words p 0) % 8) (cond (eqb J 20) (term_byte (at codes) (get_or words p 0) % 8) p) ≡ term_byte (at codes) (get_or words p 0) % 8
            last true g = refl
            last false g = let z : J ≡ 19 → ⊥ = eqb-false J 19 g in rw (eq-eqb J 20 (omega arith)) refl

    -- an atom has its relation's code, its operands and their number
    pub atom_p : K ≡ 10 → p_of (get_or low k 0) ≡ get_or codes (p_of (get_or words p 0)) 0 % 65536
    unfolding p_field node_p
    atom_p z = p_cell ∙ rw (e, kind_word K p q r hK, p_word K p q r hK hp, z) refl

    pub atom_n : K ≡ 10 → n_of (get_or low k 0) ≡ q % 256
    unfolding count_field
    atom_n z = n_cell ∙ rw (e, kind_word K p q r hK, q_word K p q r hK hp hq, z) refl

    atom_o : K ≡ 10 → oo ≡ operands_at (at words) (at codes) (p + 1)
    unfolding operand_field expression_field
    atom_o z = rw (e, kind_word K p q r hK, p_word K p q r hK hp, z) refl

    pub atom_operands : K ≡ 10 → operands_of (get_or low k 0) ≡ operands_at (at words) (at codes) (p + 1) + nn * 4294967296
    atom_operands z = operands_cell ∙ rw (atom_o z) refl

    -- an order has its sign and two operands
    pub order_p : K ≡ 13 → p_of (get_or low k 0) ≡ q
    unfolding p_field node_p
    order_p z = p_cell ∙ rw (e, kind_word K p q r hK, q_word K p q r hK hp hq, z) refl

    order_o : K ≡ 13 → oo ≡ operands_at (at words) (at codes) p
    unfolding operand_field expression_field
    order_o z = rw (e, kind_word K p q r hK, p_word K p q r hK hp, z) refl

    pub order_a : K ≡ 13 → a_of (get_or low k 0) ≡ operands_at (at words) (at codes) p % 256
    order_a z = a_cell ∙ rw (order_o z) refl

    pub order_b : K ≡ 13 → b_of (get_or low k 0) ≡ operands_at (at words) (at codes) p / 256 % 256
    order_b z = b_cell ∙ rw (order_o z) refl

    -- a half has its first element, its set and its operand
    module _ (z : K ≡ 23) where
      pub half_p : p_of (get_or low k 0) ≡ q
      unfolding p_field node_p
      half_p = p_cell ∙ rw (e, kind_word K p q r hK, q_word K p q r hK hp hq, z) refl

      half_o : oo ≡ H.half p q % 4294967296
      unfolding operand_field expression_field
      half_o = rw (e, kind_word K p q r hK, p_word K p q r hK hp, q_word K p q r hK hp hq, z) refl

      pub half_set : half_of (get_or low k 0) ≡ H.half p q % 4294967296
      half_set = half_cell ∙ half_o

      pub half_n : r < 65536 → n_of (get_or low k 0) ≡ term_byte (at codes) (get_or words r 0)
      unfolding count_field
      half_n hr = n_cell ∙ rw (e, kind_word K p q r hK, r_word K p q r hK hp hq hr, z) refl

    -- a closure has its slots and its number
    closure_o : K ≡ 21 → oo ≡ closure_field (get_or fr p 0) (closures_before (at words) lo k)
    unfolding operand_field expression_field
    closure_o z = rw (e, kind_word K p q r hK, p_word K p q r hK hp, z) refl

    module _ (z : K ≡ 21) where
      pub closure_a : a_of (get_or low k 0) ≡ slot_of (get_or fr p 0 % 8)
      closure_a = a_cell ∙ rw (closure_o z) (omega arith)

      pub closure_b : b_of (get_or low k 0) ≡ slot_of (get_or fr p 0 / 8 % 8)
      closure_b = b_cell ∙ rw (closure_o z) (omega arith)

      pub closure_c : closures_before (at words) lo k < 256 → c_of (get_or low k 0) ≡ closures_before (at words) lo k
      closure_c s = c_cell ∙ rw (closure_o z) (omega arith)

    -- a comparison has its second child, its sign and its mask, a count its mask, a comparison of quantities its second child and its sign
    module _ (a b : ℕ) (o : oo ≡ comparison_field q r a b) (hr : r < 256) where
      field_q : q_of (get_or low k 0) ≡ q
      field_q = q_cell ∙ rw o (omega arith)

      field_c : c_of (get_or low k 0) ≡ r
      field_c = c_cell ∙ rw o (omega arith)

      field_d : d_of (get_or low k 0) ≡ mask a b
      field_d = d_cell ∙ rw o (omega arith)

    module _ (z : K ≡ 22) (hr : r < 256) where
      comparison_o : oo ≡ comparison_field q r (get_or fr p 0) (get_or fr q 0)
      unfolding operand_field expression_field quantity_field
      comparison_o = rw (e, kind_word K p q r hK, p_word K p q r hK hp, q_word K p q r hK hp hq, r_word K p q r hK hp hq (omega arith), z) refl

      pub comparison_q : q_of (get_or low k 0) ≡ q
      comparison_q = field_q (get_or fr p 0) (get_or fr q 0) comparison_o hr

      pub comparison_c : c_of (get_or low k 0) ≡ r
      comparison_c = field_c (get_or fr p 0) (get_or fr q 0) comparison_o hr

      pub comparison_d : d_of (get_or low k 0) ≡ mask (get_or fr p 0) (get_or fr q 0)
      comparison_d = field_d (get_or fr p 0) (get_or fr q 0) comparison_o hr

    module _ (z : K ≡ 24) (hr : r < 256) where
      count_o : oo ≡ comparison_field q r (get_or fr p 0) 0
      unfolding operand_field expression_field quantity_field
      count_o = rw (e, kind_word K p q r hK, p_word K p q r hK hp, q_word K p q r hK hp hq, r_word K p q r hK hp hq (omega arith), z) refl

      pub count_d : d_of (get_or low k 0) ≡ mask (get_or fr p 0) 0
      count_d = field_d (get_or fr p 0) 0 count_o hr

    module _ (z : K ≡ 28) (hr : r < 256) where
      figures_o : oo ≡ comparison_field q r 0 0
      unfolding operand_field expression_field quantity_field
      figures_o = rw (e, kind_word K p q r hK, q_word K p q r hK hp hq, r_word K p q r hK hp hq (omega arith), z) refl

      pub figures_q : q_of (get_or low k 0) ≡ q
      figures_q = field_q 0 0 figures_o hr

      pub figures_c : c_of (get_or low k 0) ≡ r
      figures_c = field_c 0 0 figures_o hr

    -- a literal has its value
    pub literal_half : K ≡ 25 → half_of (get_or low k 0) ≡ min (H.number p) 1000000
    unfolding operand_field expression_field quantity_field
    literal_half z = half_cell ∙ rw (e, kind_word K p q r hK, p_word K p q r hK hp, z) refl

    -- an item of an expression has the place after its label's and its columns
    pub rows_p : K ≡ 30 → p_of (get_or low k 0) ≡ label_place p q
    unfolding p_field node_p
    rows_p z = p_cell ∙ rw (e, kind_word K p q r hK, p_word K p q r hK hp, q_word K p q r hK hp hq, z) refl

    pub rows_n : K ≡ 30 → n_of (get_or low k 0) ≡ count (get_or fr (k - 1) 0)
    unfolding count_field
    rows_n z = n_cell ∙ rw (e, kind_word K p q r hK, z) refl

    rows_o : K ≡ 30 → oo ≡ slots_of (get_or fr (k - 1) 0)
    unfolding operand_field
    rows_o z = rw (e, kind_word K p q r hK, z) refl

    pub rows_a : K ≡ 30 → a_of (get_or low k 0) ≡ slots_of (get_or fr (k - 1) 0) % 256
    rows_a z = a_cell ∙ rw (rows_o z) refl

    pub rows_b : K ≡ 30 → b_of (get_or low k 0) ≡ slots_of (get_or fr (k - 1) 0) / 256 % 256
    rows_b z = b_cell ∙ rw (rows_o z) refl

    pub rows_c : K ≡ 30 → c_of (get_or low k 0) ≡ slots_of (get_or fr (k - 1) 0) / 65536 % 256
    rows_c z = c_cell ∙ rw (rows_o z) refl

    pub rows_d : K ≡ 30 → d_of (get_or low k 0) ≡ slots_of (get_or fr (k - 1) 0) / 16777216
    rows_d z = d_cell ∙ rw (rows_o z) refl

    -- what is printed by itself: the depth of a loop variable's FOR, a string's place and length
    pub variable_p : K ≡ 4 → p_of (get_or low k 0) ≡ depth_of (get_or codes p 0)
    unfolding p_field
    variable_p z = p_cell ∙ rw (e, kind_word K p q r hK, p_word K p q r hK hp, z) refl

    pub string_p : K ≡ 44 → p_of (get_or low k 0) ≡ start_of (get_or tokens p 0) % 65536
    unfolding p_field
    string_p z = p_cell ∙ rw (e, kind_word K p q r hK, p_word K p q r hK hp, z) refl

    string_o : K ≡ 44 → oo ≡ get_or tokens p 0 / 64 % 64
    unfolding operand_field
    string_o z = rw (e, kind_word K p q r hK, p_word K p q r hK hp, z) refl

    pub string_q : K ≡ 44 → q_of (get_or low k 0) ≡ get_or tokens p 0 / 64 % 64
    string_q z = q_cell ∙ rw (string_o z) (omega arith)

    -- a PRINT has its first word's place
    pub print_p : K ≡ 37 → p_of (get_or low k 0) ≡ p
    unfolding p_field node_p
    print_p z = p_cell ∙ rw (e, kind_word K p q r hK, p_word K p q r hK hp, z) refl

    -- a FOR has its depth, its target and the slot of its one free attribute
    pub loop_p : 6 ≤ K → K < 8 → p_of (get_or low k 0) ≡ depth_of (get_or codes p 0)
    unfolding p_field
    loop_p a b = p_cell ∙ rw (e, kind_word K p q r hK, p_word K p q r hK hp, le-ltb K 4 (omega arith), lt-ltb K 8 (omega arith)) refl

    range_o : K ≡ 6 → oo ≡ range_field q (get_or fr (k - 1) 0)
    unfolding operand_field
    range_o z = rw (e, kind_word K p q r hK, q_word K p q r hK hp hq, z) refl

    pub range_q : K ≡ 6 → q_of (get_or low k 0) ≡ q
    range_q z = q_cell ∙ rw (range_o z) (omega arith)

    pub range_c : K ≡ 6 → c_of (get_or low k 0) ≡ slot_of (get_or fr (k - 1) 0 % 8)
    range_c z = c_cell ∙ rw (range_o z) (omega arith)

    -- an assignment has its relation's code, its columns and their number
    pub assign_p : K ≡ 33 → p_of (get_or low k 0) ≡ get_or codes (p_of (get_or words p 0)) 0 % 65536
    unfolding p_field node_p
    assign_p z = p_cell ∙ rw (e, kind_word K p q r hK, p_word K p q r hK hp, z) refl

    pub assign_n : K ≡ 33 → n_of (get_or low k 0) ≡ q % 256
    unfolding count_field
    assign_n z = n_cell ∙ rw (e, kind_word K p q r hK, q_word K p q r hK hp hq, z) refl

    assign_o : K ≡ 33 → oo ≡ operands_at (at words) (at codes) (p + 1)
    unfolding operand_field
    assign_o z = rw (e, kind_word K p q r hK, p_word K p q r hK hp, z) refl

    module _ (z : K ≡ 33) where
      pub assign_a : a_of (get_or low k 0) ≡ operands_at (at words) (at codes) (p + 1) % 256
      assign_a = a_cell ∙ rw (assign_o z) refl

      pub assign_b : b_of (get_or low k 0) ≡ operands_at (at words) (at codes) (p + 1) / 256 % 256
      assign_b = b_cell ∙ rw (assign_o z) refl

      pub assign_c : c_of (get_or low k 0) ≡ operands_at (at words) (at codes) (p + 1) / 65536 % 256
      assign_c = c_cell ∙ rw (assign_o z) refl

      pub assign_d : d_of (get_or low k 0) ≡ operands_at (at words) (at codes) (p + 1) / 16777216
      assign_d = d_cell ∙ rw (assign_o z) refl

  -- names and strings are no closures
  pub kind_field_at : (k : ℕ) → lo ≤ k → k < hi → kind_of (get_or low k 0) ≡ kind_field (at words) (at codes) u (get_or words k 0)
  unfolding lower_at lower_word
  kind_field_at k l h =
      rw (filled.inside k l h)
      (kind_lowered _ _ _ _ (kind_small (at words) (at codes) (at tokens) (at fr) u (get_or words k 0)) (p_small (at words) (at codes) (at tokens) (at fr) u (get_or words k 0))
      (operand_small (at words) (at codes) (at tokens) (at fr) u H (closures_before (at words) lo k) k (get_or words k 0)) (count_field_small (at words) (at codes) (at tokens) (at fr) u k (get_or words k 0)))

  pub kind_only : (k K p q r : ℕ) → lo ≤ k → k < hi → get_or words k 0 ≡ word K p q r → K < 256 → (K ≡ 11 → ⊥) → kind_of (get_or low k 0) ≡ K
  unfolding kind_field
  kind_only k K p q r l h e hK n = kind_field_at k l h ∙ rw (e, kind_word K p q r hK, ne_eqb K 11 n) refl

  pub leaf_closure : (k : ℕ) (t : Term) → lo ≤ k → k < hi → get_or words k 0 ≡ leaf TERM t → kind_of (get_or low k 0) ≡ CLOSURE → ⊥
  leaf_closure k (name t) l h e z =
      let f : kind_of (get_or low k 0) ≡ TERM = kind_only k TERM (number t) 0 0 l h e (omega arith) (λ z. omega arith) in omega (arith, f, z)
  leaf_closure k (string t) l h e z =
      let f : kind_of (get_or low k 0) ≡ STRING + TERM = kind_only k (STRING + TERM) (number t) 0 0 l h e (omega arith) (λ z. omega arith) in omega (arith, f, z)
  leaf_closure k anything l h e z =
      let f : kind_of (get_or low k 0) ≡ ANYTHING = kind_only k ANYTHING 0 0 0 l h e (omega arith) (λ z. omega arith) in omega (arith, f, z)
