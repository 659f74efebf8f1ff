-- The lowered words of a PRINT are what printing asks for.
use Prim.Native.Nat.{ℕ, suc, ◌+◌, ◌-◌, ◌%◌, ◌<◌, ◌≤◌}
use mathlib.Core.Path.{◌≡◌, refl, sym, ap, ◌∙◌}
use mathlib.Core.Bool.{Bool, true, false}
use mathlib.Core.List.{List, [], ◌∷◌, map}
use native.Mathlib.Omega.{arith}
use borrow.Author.Tests.{ltb-true, ltb-false}
use lib.Dec.{ltb}
use lib.ListN.{length, get_or}
use Rattle.definition.specs.Text.{Text}
use Rattle.definition.specs.Token.{Token}
use Rattle.definition.specs.Syntax.{Term, name, string, anything, Expression, Item, rows, line_end, amount}
use Rattle.definition.specs.Syntax as Syntax
use Rattle.definition.specs.Names.{free}
use Rattle.definition.specs.Accept.{Accepted, elements}
use Rattle.words.specs.Fields.{word, kind_of, p_of, WORD, ROWS, SAY, LINE_END, AMOUNT, STRING, PRINT}
use Rattle.words.specs.Raw.{number, leaf, leaves, size, flat, size_item, flat_item, size_items, flat_items}
use Rattle.words.proofs.Sizes.{length_leaves, length_flat, length_item}
use Rattle.intern.specs.Entries.{start_of, text_at}
use Rattle.digits.specs.Lists.{pack}
use Rattle.digits.specs.Packed.{count}
use Rattle.digits.proofs.Packing.{count_law}
use Rattle.free.specs.Words.{is_leaf}
use Rattle.words.specs.Standing.{Has}
use Rattle.words.proofs.Places.{has_append, has_one}
use Rattle.prints.specs.Lowered.{is_item, item_closures, Leaf, by_variable, by_string, Label, no_label, one_label, RowsLowered, ItemLowered, lowered_rows, lowered_word, lowered_end, lowered_amount, ItemsLowered, none, more, PrintLowered}
use Rattle.lowering.specs.Lowering.{at, TokenValues, label_place, lower_at, Filled}
use Rattle.lowering.specs.Agreement.{Scoped, ScopedWord, ScopedLabel, ScopedItem, ScopedItems, FreeAt, Agrees, Spelled, Valued}
use Rattle.lowering.proofs.Filling.{none_before}
use Rattle.lowering.proofs.Terms.{slot_byte}
use Rattle.lowering.proofs.Places.{kind_only, kind_at, rows_p, rows_n, rows_a, rows_b, rows_c, rows_d, variable_p, string_p, string_q, print_p}
use Rattle.lowering.proofs.Expressions.{before, name_before, closures_then, lowered_expression}
use Rattle.lowering.proofs.Items.{item_columns, quiet_leaves, quiet_flat, passed}

length_map : (f : Text → ℕ) (xs : List Text) → length (map f xs) ≡ length xs
length_map f [] = refl
length_map f (x ∷ xs) = ap suc (length_map f xs)

no_word : is_leaf WORD ≡ false
unfolding is_leaf
no_word = refl

no_string : is_leaf (STRING + WORD) ≡ false
unfolding is_leaf
no_string = refl

no_item : (is_leaf ROWS ≡ false) × (is_leaf SAY ≡ false) × (is_leaf LINE_END ≡ false) × (is_leaf AMOUNT ≡ false)
unfolding is_leaf
no_item = (refl, refl, refl, refl)

module _ (w : Accepted) (ts : List Token) (loops : List Text) (In : Text → Bool) (β : Text → ℕ) (Clear : ℕ → Type 0) (words codes tokens fr : List ℕ) (H : TokenValues) (lo hi : ℕ)
    (G : Agrees w ts loops In β Clear words codes fr lo hi) (M : Valued w ts H) (query : Text) (S : Spelled ts query tokens) (old low : List ℕ)
    (filled : Filled (lower_at (at words) (at codes) (at tokens) (at fr) H (elements w) lo) lo hi old low) where
  abbrev count_to : ℕ → ℕ
  count_to n = before w ts loops In β Clear words codes tokens fr H lo hi G M old low filled n

  -- a loop variable or a string by itself
  word_leaf : (k : ℕ) (p : Term) → ScopedWord w ts loops In p → lo ≤ k → k < hi → get_or words k 0 ≡ leaf WORD p → Leaf w β loops low query p (get_or low k 0)
  unfolding text_at
  word_leaf k (name t) o l h e =
      let s : number t < 65536 = omega (arith, o.0.inside, G.few_tokens) in
      let m : (β t.text - 72) % 65536 ≡ β t.text - 72 = omega (arith, (G.depths t.text o.1).1) in
      by_variable o.1 (kind_at words codes tokens fr H (elements w) lo hi old low filled k WORD (number t) 0 0 (omega arith) s (omega arith) l h e (λ z. omega arith))
      (variable_p words codes tokens fr H (elements w) lo hi old low filled k WORD (number t) 0 0 (omega arith) s (omega arith) l h e refl ∙ rw (G.variables t o.0 o.1) m)
  word_leaf k (string t) o l h e =
      let s : number t < 65536 = omega (arith, o.inside, G.few_tokens) in
      let m : start_of (get_or tokens (number t) 0) % 65536 ≡ start_of (get_or tokens (number t) 0) = omega (arith, S.near t o) in
      by_string {t = t} (kind_at words codes tokens fr H (elements w) lo hi old low filled k (STRING + WORD) (number t) 0 0 (omega arith) s (omega arith) l h e (λ z. omega arith))
      (rw (string_q words codes tokens fr H (elements w) lo hi old low filled k (STRING + WORD) (number t) 0 0 (omega arith) s (omega arith) l h e refl, string_p words codes tokens fr H (elements w) lo hi old low filled k (STRING + WORD) (number t) 0 0 (omega arith) s (omega arith) l h e refl, m) (S.text t o))
  word_leaf k anything o l h e = absurd o

  -- after such a word no term stands before, and no more closures
  after_word : (k : ℕ) (p : Term) → ScopedWord w ts loops In p → lo ≤ k → k < hi → get_or words k 0 ≡ leaf WORD p → Clear (k + 1) × (count_to (k + 1) ≡ count_to k)
  after_word k (name t) o l h e = (
    G.others k WORD (number t) 0 0 l h (omega arith) no_word e,
    name_before w ts loops In β Clear words codes tokens fr H lo hi G M old low filled k WORD (number t) 0 0 l e (omega arith) (λ z. omega arith),
  )
  after_word k (string t) o l h e = (
    G.others k (STRING + WORD) (number t) 0 0 l h (omega arith) no_string e,
    name_before w ts loops In β Clear words codes tokens fr H lo hi G M old low filled k (STRING + WORD) (number t) 0 0 l e (omega arith) (λ z. omega arith),
  )
  after_word k anything o l h e = absurd o

  -- the words after a label
  pub record Labelled (ps : List Term) (n : ℕ) : Type 0 where
    pub clear : Clear (n + length ps)
    pub counted : count_to (n + length ps) ≡ count_to n
    pub label : (x : ℕ) → p_of x ≡ label_place n (length ps) → Label w β loops low query ps n x

  labelled : (ps : List Term) (n : ℕ) → ScopedLabel w ts loops In ps → lo ≤ n → n + length ps < hi → Clear n → Has words n (leaves WORD ps) → Labelled ps n
  unfolding leaves Has
  labelled [] n o l h cl x = let e : n + 0 ≡ n = omega arith in record { clear = rw e cl; counted = rw e refl; label = λ y z. no_label z }
  labelled (p ∷ []) n o l h cl x =
      let a = after_word n p o l (omega arith) x.0 in
      let m : (n + 1) % 65536 ≡ n + 1 = omega (arith, G.few_words) in
      record { clear = a.0; counted = a.1; label = λ y z. one_label (z ∙ m) (word_leaf n p o l (omega arith) x.0) }
  labelled (p ∷ q ∷ ps) n o l h cl x = absurd o

  -- an expression's item
  pub record Parts (ps : List Term) (e : Expression) (n : ℕ) : Type 0 where
    pub first : Has words n (leaves WORD ps)
    pub inner : Has words (n + length ps) (flat e (n + length ps))
    pub root : get_or words (n + length ps + size e) 0 ≡ word ROWS n (length ps) 0

  item_parts : (ps : List Term) (e : Expression) (n : ℕ) → Has words n (flat_item (rows ps e) n) → Parts ps e n
  unfolding flat_item
  item_parts ps e n x =
      let t = has_append words n (leaves WORD ps) _ x in
      let s = has_one words (n + length ps) _ e (rw (length_leaves WORD ps) at t.1) in
      record { first = t.0; inner = s.inner; root = s.root }

  rows_lowered : (ps : List Term) (e : Expression) (n c k : ℕ) → k ≡ n + length ps + size e → c ≡ count_to n → Scoped w ts loops In e → lo ≤ n → k < hi → Parts ps e n → Labelled ps n
      → FreeAt w ts loops In β Clear words codes fr lo hi e (n + length ps) → RowsLowered w β loops low query ps e n c k
  rows_lowered ps e n c k ek ec o l h P L A =
      let s : n < 65536 = omega (arith, G.few_words) in
      let t : length ps < 65536 = omega (arith, G.few_words) in
      let r : get_or words k 0 ≡ word ROWS n (length ps) 0 = rw ek P.root in
      let j : k - 1 ≡ n + length ps + size e - 1 = omega arith in
      let v : get_or fr (k - 1) 0 ≡ pack (map (λ y. β y - 63) (free w.variables e)) = rw j A.value in
      record {
        kind = kind_at words codes tokens fr H (elements w) lo hi old low filled k ROWS n (length ps) 0 (omega arith) s t (omega arith) h r (λ z. omega arith);
        label = L.label (get_or low k 0) (rows_p words codes tokens fr H (elements w) lo hi old low filled k ROWS n (length ps) 0 (omega arith) s t (omega arith) h r refl);
        columns = item_columns β (get_or low k 0) (get_or fr (k - 1) 0)
            (rows_a words codes tokens fr H (elements w) lo hi old low filled k ROWS n (length ps) 0 (omega arith) s t (omega arith) h r refl)
            (rows_b words codes tokens fr H (elements w) lo hi old low filled k ROWS n (length ps) 0 (omega arith) s t (omega arith) h r refl)
            (rows_c words codes tokens fr H (elements w) lo hi old low filled k ROWS n (length ps) 0 (omega arith) s t (omega arith) h r refl)
            (rows_d words codes tokens fr H (elements w) lo hi old low filled k ROWS n (length ps) 0 (omega arith) s t (omega arith) h r refl)
            (free w.variables e) A.listed v
            (rows_n words codes tokens fr H (elements w) lo hi old low filled k ROWS n (length ps) 0 (omega arith) s t (omega arith) h r refl
            ∙ ap count v ∙ count_law _ A.listed ∙ length_map (λ y. β y - 63) (free w.variables e));
        slots = λ x m. slot_byte (β x) (G.slots x (A.inside x m)).0 (omega (arith, (G.slots x (A.inside x m)).1));
        words = lowered_expression w ts loops In β Clear words codes tokens fr H lo hi G M old low filled e (n + length ps) c (ec ∙ sym L.counted) o (omega arith) (omega arith) L.clear P.inner;
      }

  passed_rows : (ps : List Term) (e : Expression) (n : ℕ) → lo ≤ n → n + (length ps + size e) < hi → Parts ps e n → (j : ℕ) → n ≤ j → j < n + (length ps + size e) → is_item (kind_of (get_or low j 0)) ≡ false
  passed_rows ps e n l h P j a b = go (ltb j (n + length ps)) refl
    where
      m : length (leaves WORD ps) ≡ length ps
      m = length_leaves WORD ps

      f : length (flat e (n + length ps)) ≡ size e
      f = length_flat e (n + length ps)

      go : (t : Bool) → ltb j (n + length ps) ≡ t → is_item (kind_of (get_or low j 0)) ≡ false
      go true z =
          let y = ltb-true j (n + length ps) z in
          passed words codes tokens fr H (elements w) lo hi old low filled (leaves WORD ps) n l (omega (arith, m)) P.first (quiet_leaves WORD ps (omega arith)) j a (omega (arith, m, y))
      go false z =
          let y = ltb-false j (n + length ps) z in
          passed words codes tokens fr H (elements w) lo hi old low filled (flat e (n + length ps)) (n + length ps) (omega arith) (omega (arith, f)) P.inner (quiet_flat e (n + length ps)) j y (omega (arith, f, b))

  free_rows : (ps : List Term) (e : Expression) (n : ℕ) → Scoped w ts loops In e → lo ≤ n → n + length ps + size e < hi → Parts ps e n → Labelled ps n → FreeAt w ts loops In β Clear words codes fr lo hi e (n + length ps)
  free_rows ps e n o l h P L = G.frees e (n + length ps) o (omega arith) (omega arith) L.clear P.inner

  lowered_item : (i : Item) (n c : ℕ) → c ≡ count_to n → ScopedItem w ts loops In i → lo ≤ n → n + size_item i ≤ hi → Clear n → Has words n (flat_item i n) → ItemLowered w β loops low query i n c
  unfolding size_item flat_item ScopedItem Has
  lowered_item (rows ps e) n c ec o l h cl x =
      let P = item_parts ps e n x in
      let L = labelled ps n o.0 l (omega arith) cl P.first in
      lowered_rows (passed_rows ps e n l (omega arith) P)
      (rows_lowered ps e n c (n + (length ps + size e)) (omega arith) ec o.1 l (omega arith) P L (free_rows ps e n o.1 l (omega arith) P L))
  lowered_item (Syntax.word p) n c ec o l h cl x =
      lowered_word (word_leaf n p o l (omega arith) x.0) (kind_only words codes tokens fr H (elements w) lo hi old low filled (n + 1) SAY n 0 0 (omega arith) (omega arith) x.1.0 (omega arith) (λ z. omega arith))
  lowered_item line_end n c ec o l h cl x = lowered_end (kind_only words codes tokens fr H (elements w) lo hi old low filled n LINE_END 0 0 0 l (omega arith) x.0 (omega arith) (λ z. omega arith))
  lowered_item (amount e) n c ec o l h cl x =
      let t = has_one words n _ e x in
      let f = length_flat e n in
      let p : (j : ℕ) → n ≤ j → j < n + size e → is_item (kind_of (get_or low j 0)) ≡ false
      = λ j a b. passed words codes tokens fr H (elements w) lo hi old low filled (flat e n) n l (omega (arith, f)) t.inner (quiet_flat e n) j a (omega (arith, f)) in
      lowered_amount p
      (record {
        kind = kind_only words codes tokens fr H (elements w) lo hi old low filled (n + size e) AMOUNT n 0 0 (omega arith) (omega arith) t.root (omega arith) (λ z. omega arith);
        small = o.0;
        words = lowered_expression w ts loops In β Clear words codes tokens fr H lo hi G M old low filled e n c ec o.1 l (omega arith) cl t.inner;
      })

  -- the words after an item
  pub record Next (i : Item) (n c : ℕ) : Type 0 where
    pub clear : Clear (n + size_item i)
    pub counted : c + item_closures i ≡ count_to (n + size_item i)

  next_item : (i : Item) (n c : ℕ) → c ≡ count_to n → ScopedItem w ts loops In i → lo ≤ n → n + size_item i ≤ hi → Clear n → Has words n (flat_item i n) → Next i n c
  unfolding size_item flat_item ScopedItem Has
  next_item (rows ps e) n c ec o l h cl x =
      let P = item_parts ps e n x in
      let L = labelled ps n o.0 l (omega arith) cl P.first in
      let k = n + length ps + size e in
      let z : n + (length ps + (size e + 1)) ≡ k + 1 = omega arith in
      let a = closures_then w ts loops In β Clear words codes tokens fr H lo hi G M old low filled e (n + length ps) c (ec ∙ sym L.counted) (omega arith) P.inner in
      let b = name_before w ts loops In β Clear words codes tokens fr H lo hi G M old low filled k ROWS n (length ps) 0 (omega arith) P.root (omega arith) (λ y. omega arith) in
      record { clear = rw z (G.others k ROWS n (length ps) 0 (omega arith) (omega arith) (omega arith) no_item.0 P.root); counted = rw z (a ∙ sym b) }
  next_item (Syntax.word p) n c ec o l h cl x =
      let z : n + 2 ≡ n + 1 + 1 = omega arith in
      let a = after_word n p o l (omega arith) x.0 in
      let b = name_before w ts loops In β Clear words codes tokens fr H lo hi G M old low filled (n + 1) SAY n 0 0 (omega arith) x.1.0 (omega arith) (λ y. omega arith) in
      let s : c + 0 ≡ c = omega arith in
      record { clear = rw z (G.others (n + 1) SAY n 0 0 (omega arith) (omega arith) (omega arith) no_item.1 x.1.0); counted = rw (z, s) (ec ∙ sym a.1 ∙ sym b) }
  next_item line_end n c ec o l h cl x =
      let s : c + 0 ≡ c = omega arith in
      record {
        clear = G.others n LINE_END 0 0 0 l (omega arith) (omega arith) no_item.2 x.0;
        counted = rw s (ec ∙ sym (name_before w ts loops In β Clear words codes tokens fr H lo hi G M old low filled n LINE_END 0 0 0 l x.0 (omega arith) (λ y. omega arith)));
      }
  next_item (amount e) n c ec o l h cl x =
      let t = has_one words n _ e x in
      let k = n + size e in
      let z : n + (size e + 1) ≡ k + 1 = omega arith in
      let a = closures_then w ts loops In β Clear words codes tokens fr H lo hi G M old low filled e n c ec l t.inner in
      let b = name_before w ts loops In β Clear words codes tokens fr H lo hi G M old low filled k AMOUNT n 0 0 (omega arith) t.root (omega arith) (λ y. omega arith) in
      record { clear = rw z (G.others k AMOUNT n 0 0 (omega arith) (omega arith) (omega arith) no_item.3 t.root); counted = rw z (a ∙ sym b) }

  lowered_items : (is : List Item) (n c : ℕ) → c ≡ count_to n → ScopedItems w ts loops In is → lo ≤ n → n + size_items is ≤ hi → Clear n → Has words n (flat_items is n) → ItemsLowered w β loops low query is n c
  unfolding size_items flat_items ScopedItems
  lowered_items [] n c ec o l h cl x = none
  lowered_items (i ∷ is) n c ec o l h cl x =
      let t = has_append words n (flat_item i n) _ x in
      let y : Has words (n + size_item i) (flat_items is (n + size_item i)) = rw (length_item i n) at t.1 in
      let N = next_item i n c ec o.0 l (omega arith) cl t.0 in
      more (lowered_item i n c ec o.0 l (omega arith) cl t.0) (lowered_items is (n + size_item i) (c + item_closures i) N.counted o.1 (omega arith) (omega arith) N.clear y)

  -- a PRINT whose words begin the part
  pub lowered_print : (i : ℕ) (is : List Item) → i < 65536 → ScopedItems w ts loops In is → lo + size_items is < hi → Clear lo → Has words lo (flat_items is lo) → get_or words (lo + size_items is) 0 ≡ word PRINT lo 0 i
      → PrintLowered w β loops low query is (lo + size_items is)
  lowered_print i is hi₀ o h cl x e =
      let s : lo < 65536 = omega (arith, G.few_words) in
      let p = print_p words codes tokens fr H (elements w) lo hi old low filled (lo + size_items is) PRINT lo 0 i (omega arith) s (omega arith) (omega arith) h e refl in
      record {
        items = rw p (lowered_items is lo 0 (sym (none_before (at words) lo lo (omega arith))) o (omega arith) (omega arith) cl x);
        place = rw p refl;
      }
