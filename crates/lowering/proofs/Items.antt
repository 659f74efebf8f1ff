-- The lowered words of a PRINT's items are what printing asks for.
use Prim.Native.Nat.{ℕ, ◌+◌, ◌*◌, ◌-◌, ◌/◌, ◌%◌, ◌<◌, ◌≤◌}
use mathlib.Core.Path.{◌≡◌, refl, ap, ap₂, ◌∙◌, subst}
use mathlib.Core.Bool.{Bool, true, false, cond}
use mathlib.Core.List.{List, [], ◌∷◌, ◌++◌, map}
use native.Mathlib.Omega.{arith}
use borrow.Author.Tests.{ne_eqb, eqb-true, eqb-false}
use lib.Dec.{eqb}
use lib.ListN.{length, get_or}
use Rattle.definition.specs.Text.{Text}
use Rattle.definition.specs.Syntax.{Term, name, string, anything, Expression, atom, truth, falsity, compare, matching, negation, conjunction, disjunction, implication, equivalence, exists, for_all, closure_of, compare_relations, literal, count_of, sum_of, ratio_of, compare_figures}
use Rattle.words.specs.Fields.{word, kind_of, p_of, q_of, RELATION_NAME, ATTRIBUTE, TERM, ANYTHING, ATOM, TRUTH, FALSITY, ORDER, NEGATION, CONJUNCTION, DISJUNCTION, IMPLICATION, EQUIVALENCE, EXISTS, FOR_ALL, CLOSURE, COMPARISON, MATCH, COUNT, LITERAL, SUM, RATIO, FIGURES, ROWS, SAY, LINE_END, AMOUNT, STRING}
use Rattle.words.specs.Raw.{number, sign_number, leaves, size, flat}
use Rattle.words.proofs.FieldLaws.{kind_word, byte_a, byte_b, byte_c, byte_d}
use Rattle.digits.specs.Lists.{pack}
use Rattle.digits.proofs.Listing.{Within, Listed, few}
use Rattle.eval.specs.Nodes.{a_of, b_of, c_of, d_of, n_of}
use Rattle.words.specs.Standing.{Has}
use Rattle.prints.specs.Items.{columns_of}
use Rattle.prints.specs.Lowered.{is_item}
use Rattle.lowering.specs.Lowering.{at, TokenValues, four_bytes, slot_of, slots_of, all_stand, kind_field, lower_at, Filled}
use Rattle.lowering.proofs.Places.{kind_field_at}

-- the columns of up to four attributes
module _ (a b c d f : ℕ) (ha : a < 8) (hb : b < 8) (hc : c < 8) (hd : d < 8) (e : f ≡ a + 8 * (b + 8 * (c + 8 * (d + 8 * 0)))) where
  digit_a : f % 8 ≡ a
  digit_a = omega arith

  digit_b : f / 8 % 8 ≡ b
  digit_b = let q : f / 8 ≡ b + 8 * (c + 8 * d) = omega arith in let r : (b + 8 * (c + 8 * d)) % 8 ≡ b = omega arith in rw q r

  digit_c : f / 64 % 8 ≡ c
  digit_c = let q : f / 64 ≡ c + 8 * d = omega arith in let r : (c + 8 * d) % 8 ≡ c = omega arith in rw q r

  digit_d : f / 512 % 8 ≡ d
  digit_d = let q : f / 512 ≡ d = omega arith in let r : d % 8 ≡ d = omega arith in rw q r

  slots_four : slots_of f ≡ four_bytes (slot_of a) (slot_of b) (slot_of c) (slot_of d)
  unfolding slots_of
  slots_four = rw (digit_a, digit_b, digit_c, digit_d) refl

column : (b : ℕ) → 0 < b - 63 → b - 63 ≤ 4 → 64 + (b - 63 - 1) % 8 ≡ b
column b h k = omega arith

module _ (β : Text → ℕ) (x f : ℕ) (ea : a_of x ≡ slots_of f % 256) (eb : b_of x ≡ slots_of f / 256 % 256) (ec : c_of x ≡ slots_of f / 65536 % 256) (ed : d_of x ≡ slots_of f / 16777216) where
  abbrev digits : List Text → List ℕ
  digits xs = map (λ y. β y - 63) xs

  -- the four columns of a word, by four digits
  module _ (a b c d : ℕ) (ha : a < 8) (hb : b < 8) (hc : c < 8) (hd : d < 8) (e : f ≡ a + 8 * (b + 8 * (c + 8 * (d + 8 * 0)))) where
    col_a : a_of x ≡ a - 1
    col_a = ea ∙ rw (slots_four a b c d f ha hb hc hd e) (byte_a (a - 1) (b - 1) (c - 1) (d - 1) (omega arith))

    col_b : b_of x ≡ b - 1
    col_b = eb ∙ rw (slots_four a b c d f ha hb hc hd e) (byte_b (a - 1) (b - 1) (c - 1) (d - 1) (omega arith) (omega arith))

    col_c : c_of x ≡ c - 1
    col_c = ec ∙ rw (slots_four a b c d f ha hb hc hd e) (byte_c (a - 1) (b - 1) (c - 1) (d - 1) (omega arith) (omega arith) (omega arith))

    col_d : d_of x ≡ d - 1
    col_d = ed ∙ rw (slots_four a b c d f ha hb hc hd e) (byte_d (a - 1) (b - 1) (c - 1) (d - 1) (omega arith) (omega arith) (omega arith))

  pub item_columns : (xs : List Text) → Listed 4 (digits xs) → f ≡ pack (digits xs) → n_of x ≡ length xs → columns_of x ≡ map β xs
  unfolding pack Within
  item_columns [] l v n = rw n refl
  item_columns (y ∷ []) l v n =
      let h = l.within in
      rw (n, col_a (β y - 63) 0 0 0 (omega (arith, h.1)) (omega arith) (omega arith) (omega arith) v) (ap (λ (i : ℕ). i ∷ []) (column (β y) h.0 h.1))
  item_columns (y ∷ z ∷ []) l v n =
      let h = l.within in
      let ha : β y - 63 < 8 = omega (arith, h.1) in
      let hb : β z - 63 < 8 = omega (arith, h.2.1) in
      rw (n, col_a (β y - 63) (β z - 63) 0 0 ha hb (omega arith) (omega arith) v, col_b (β y - 63) (β z - 63) 0 0 ha hb (omega arith) (omega arith) v)
      (ap₂ (λ (i j : ℕ). i ∷ j ∷ []) (column (β y) h.0 h.1) (column (β z) h.2.0 h.2.1))
  item_columns (y ∷ z ∷ s ∷ []) l v n =
      let h = l.within in
      let ha : β y - 63 < 8 = omega (arith, h.1) in
      let hb : β z - 63 < 8 = omega (arith, h.2.1) in
      let hc : β s - 63 < 8 = omega (arith, h.2.2.1) in
      rw (n, col_a (β y - 63) (β z - 63) (β s - 63) 0 ha hb hc (omega arith) v, col_b (β y - 63) (β z - 63) (β s - 63) 0 ha hb hc (omega arith) v, col_c (β y - 63) (β z - 63) (β s - 63) 0 ha hb hc (omega arith) v)
      (ap₂ (λ (i : ℕ) (r : List ℕ). i ∷ r) (column (β y) h.0 h.1) (ap₂ (λ (i j : ℕ). i ∷ j ∷ []) (column (β z) h.2.0 h.2.1) (column (β s) h.2.2.0 h.2.2.1)))
  item_columns (y ∷ z ∷ s ∷ t ∷ []) l v n =
      let h = l.within in
      let ha : β y - 63 < 8 = omega (arith, h.1) in
      let hb : β z - 63 < 8 = omega (arith, h.2.1) in
      let hc : β s - 63 < 8 = omega (arith, h.2.2.1) in
      let hd : β t - 63 < 8 = omega (arith, h.2.2.2.1) in
      rw (n, col_a (β y - 63) (β z - 63) (β s - 63) (β t - 63) ha hb hc hd v, col_b (β y - 63) (β z - 63) (β s - 63) (β t - 63) ha hb hc hd v, col_c (β y - 63) (β z - 63) (β s - 63) (β t - 63) ha hb hc hd v, col_d (β y - 63) (β z - 63) (β s - 63) (β t - 63) ha hb hc hd v)
      (ap₂ (λ (p q : List ℕ). p ++ q) (ap₂ (λ (i j : ℕ). i ∷ j ∷ []) (column (β y) h.0 h.1) (column (β z) h.2.0 h.2.1))
      (ap₂ (λ (i j : ℕ). i ∷ j ∷ []) (column (β s) h.2.2.0 h.2.2.1) (column (β t) h.2.2.2.0 h.2.2.2.1)))
  item_columns (y ∷ z ∷ s ∷ t ∷ r ∷ xs) l v n = absurd (omega (arith, few 4 (digits (y ∷ z ∷ s ∷ t ∷ r ∷ xs)) l.once l.within))

-- words that print nothing
unfoldable pub Quiet : List ℕ → Type 0
Quiet [] = Unit {0}
Quiet (x ∷ xs) = (is_item (kind_of x) ≡ false) × Quiet xs

quiet_append : (xs ys : List ℕ) → Quiet xs → Quiet ys → Quiet (xs ++ ys)
unfolding Quiet
quiet_append [] ys a b = b
quiet_append (x ∷ xs) ys a b = (a.0, quiet_append xs ys a.1 b)

quiet_word : (k p q r : ℕ) → k < 256 → (k ≡ ROWS → ⊥) → (k ≡ SAY → ⊥) → (k ≡ LINE_END → ⊥) → (k ≡ AMOUNT → ⊥) → is_item (kind_of (word k p q r)) ≡ false
quiet_word k p q r h a b c d = rw (kind_word k p q r h, ne_eqb k ROWS a, ne_eqb k SAY b, ne_eqb k LINE_END c, ne_eqb k AMOUNT d) refl

quiet_one : (k p q r : ℕ) → k < 29 → Quiet (word k p q r ∷ [])
unfolding Quiet
quiet_one k p q r h = (quiet_word k p q r (omega arith) (λ e. omega arith) (λ e. omega arith) (λ e. omega arith) (λ e. omega arith), tt)

quiet_first : (k p q r : ℕ) (ws : List ℕ) → k < 29 → Quiet ws → Quiet (word k p q r ∷ ws)
unfolding Quiet
quiet_first k p q r ws h a = (quiet_word k p q r (omega arith) (λ e. omega arith) (λ e. omega arith) (λ e. omega arith) (λ e. omega arith), a)

pub quiet_leaves : (k : ℕ) (ps : List Term) → k < 8 → Quiet (leaves k ps)
unfolding Quiet leaves
quiet_leaves k [] h = tt
quiet_leaves k (name t ∷ ps) h = (quiet_word k (number t) 0 0 (omega arith) (λ e. omega arith) (λ e. omega arith) (λ e. omega arith) (λ e. omega arith), quiet_leaves k ps h)
quiet_leaves k (string t ∷ ps) h = (quiet_word (STRING + k) (number t) 0 0 (omega arith) (λ e. omega arith) (λ e. omega arith) (λ e. omega arith) (λ e. omega arith), quiet_leaves k ps h)
quiet_leaves k (anything ∷ ps) h = (quiet_word ANYTHING 0 0 0 (omega arith) (λ e. omega arith) (λ e. omega arith) (λ e. omega arith) (λ e. omega arith), quiet_leaves k ps h)

quiet_two : (xs ys : List ℕ) (k p q r : ℕ) → k < 29 → Quiet xs → Quiet ys → Quiet (xs ++ (ys ++ (word k p q r ∷ [])))
quiet_two xs ys k p q r h a b = quiet_append xs _ a (quiet_append ys _ b (quiet_one k p q r h))

pub quiet_flat : (e : Expression) (n : ℕ) → Quiet (flat e n)
unfolding flat
quiet_flat (atom r ps) n = quiet_first RELATION_NAME _ _ 0 _ (omega arith) (quiet_append (leaves TERM ps) _ (quiet_leaves TERM ps (omega arith)) (quiet_one ATOM _ _ 0 (omega arith)))
quiet_flat (truth ps) n = quiet_append (leaves TERM ps) _ (quiet_leaves TERM ps (omega arith)) (quiet_one TRUTH _ _ 0 (omega arith))
quiet_flat (falsity ps) n = quiet_append (leaves TERM ps) _ (quiet_leaves TERM ps (omega arith)) (quiet_one FALSITY _ _ 0 (omega arith))
quiet_flat (compare g p q) n = unfold leaves in quiet_append (leaves TERM (p ∷ q ∷ [])) _ (quiet_leaves TERM (p ∷ q ∷ []) (omega arith)) (quiet_one ORDER _ _ 0 (omega arith))
quiet_flat (matching s p) n =
    unfold leaves in
    quiet_append (leaves TERM (p ∷ [])) _ (quiet_leaves TERM (p ∷ []) (omega arith))
    (quiet_first MATCH (number s) 0 n _ (omega arith) (quiet_first MATCH (number s) 32 n _ (omega arith) (quiet_one DISJUNCTION _ _ 0 (omega arith))))
quiet_flat (negation e) n = quiet_append (flat e n) _ (quiet_flat e n) (quiet_one NEGATION _ 0 0 (omega arith))
quiet_flat (conjunction a b) n = quiet_two _ _ CONJUNCTION _ _ 0 (omega arith) (quiet_flat a n) (quiet_flat b (n + size a))
quiet_flat (disjunction a b) n = quiet_two _ _ DISJUNCTION _ _ 0 (omega arith) (quiet_flat a n) (quiet_flat b (n + size a))
quiet_flat (implication a b) n = quiet_two _ _ IMPLICATION _ _ 0 (omega arith) (quiet_flat a n) (quiet_flat b (n + size a))
quiet_flat (equivalence a b) n = quiet_two _ _ EQUIVALENCE _ _ 0 (omega arith) (quiet_flat a n) (quiet_flat b (n + size a))
quiet_flat (exists x e) n = quiet_first ATTRIBUTE _ 0 0 _ (omega arith) (quiet_append (flat e (n + 1)) _ (quiet_flat e (n + 1)) (quiet_one EXISTS _ _ 0 (omega arith)))
quiet_flat (for_all x e) n = quiet_first ATTRIBUTE _ 0 0 _ (omega arith) (quiet_append (flat e (n + 1)) _ (quiet_flat e (n + 1)) (quiet_one FOR_ALL _ _ 0 (omega arith)))
quiet_flat (closure_of e) n = quiet_append (flat e n) _ (quiet_flat e n) (quiet_one CLOSURE _ 0 0 (omega arith))
quiet_flat (compare_relations g a b) n = quiet_two _ _ COMPARISON _ _ (sign_number g) (omega arith) (quiet_flat a n) (quiet_flat b (n + size a))
quiet_flat (literal t) n = quiet_one LITERAL _ 0 0 (omega arith)
quiet_flat (count_of e) n = quiet_append (flat e n) _ (quiet_flat e n) (quiet_one COUNT _ 0 0 (omega arith))
quiet_flat (sum_of a b) n = quiet_two _ _ SUM _ _ 0 (omega arith) (quiet_flat a n) (quiet_flat b (n + size a))
quiet_flat (ratio_of a b) n = quiet_two _ _ RATIO _ _ 0 (omega arith) (quiet_flat a n) (quiet_flat b (n + size a))
quiet_flat (compare_figures g a b) n = quiet_two _ _ FIGURES _ _ (sign_number g) (omega arith) (quiet_flat a n) (quiet_flat b (n + size a))

-- lowered, they still print nothing
module _ (words codes tokens fr : List ℕ) (H : TokenValues) (u lo hi : ℕ) (old low : List ℕ) (filled : Filled (lower_at (at words) (at codes) (at tokens) (at fr) H u lo) lo hi old low) where
  still_quiet : (j : ℕ) → lo ≤ j → j < hi → is_item (kind_of (get_or words j 0)) ≡ false → is_item (kind_of (get_or low j 0)) ≡ false
  unfolding kind_field
  still_quiet j l h e = rw (kind_field_at words codes tokens fr H u lo hi old low filled j l h) (go (eqb (kind_of (get_or words j 0)) 11) (all_stand (at words) (at codes) u (q_of (get_or words j 0)) (p_of (get_or words j 0))))
    where
      go : (a b : Bool) → is_item (cond a (cond b TRUTH FALSITY) (kind_of (get_or words j 0))) ≡ false
      go true true = refl
      go true false = refl
      go false b = e

  pub passed : (ws : List ℕ) (n : ℕ) → lo ≤ n → n + length ws ≤ hi → Has words n ws → Quiet ws → (j : ℕ) → n ≤ j → j < n + length ws → is_item (kind_of (get_or low j 0)) ≡ false
  unfolding Quiet Has
  passed [] n l h x q j a b = absurd (omega arith)
  passed (y ∷ ws) n l h x q j a b = go (eqb n j) refl (λ z. passed ws (n + 1) (omega arith) (omega arith) x.1 q.1 j z (omega arith))
    where
      go : (t : Bool) → eqb n j ≡ t → (n + 1 ≤ j → is_item (kind_of (get_or low j 0)) ≡ false) → is_item (kind_of (get_or low j 0)) ≡ false
      go true e rest =
          let z : n ≡ j = eqb-true n j e in
          subst (λ (i : ℕ). is_item (kind_of (get_or low i 0)) ≡ false) z (still_quiet n l (omega arith) (rw x.0 q.0))
      go false e rest = let z : n ≡ j → ⊥ = eqb-false n j e in rest (omega arith)
