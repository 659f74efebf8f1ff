-- The lowered words of an expression are what evaluation asks for.
use Prim.Native.Nat.{ℕ, zero, suc, ◌+◌, ◌*◌, ◌-◌, ◌/◌, ◌%◌, min, ◌<◌, ◌≤◌}
use mathlib.Core.Path.{◌≡◌, refl, sym, ap, ap₂, ◌∙◌, subst}
use mathlib.Core.Bool.{Bool, true, false, ◌||◌}
use mathlib.Core.List.{List, [], ◌∷◌, map, append-nil}
use mathlib.Core.Logic.{⊎_elim}
use native.Mathlib.Nat.{min-eq_left}
use native.Mathlib.Omega.{arith}
use borrow.Author.Tests.{ne_eqb, le-leb}
use lib.Dec.{T}
use lib.ListN.{length, get_or}
use Rattle.definition.specs.Text.{Text, same, member, some_of, keep}
use Rattle.definition.specs.Limits.{LARGEST_LITERAL}
use Rattle.definition.specs.Token.{Token, Sign, equal, unequal, less, at_most, greater, at_least, value}
use Rattle.definition.specs.Syntax.{Term, Expression, atom, truth, falsity, compare, matching, negation, conjunction, disjunction, implication, equivalence, exists, for_all, closure_of, compare_relations, literal, count_of, sum_of, ratio_of, compare_figures}
use Rattle.definition.specs.Names.{free, join, closures}
use Rattle.definition.specs.Accept.{Accepted, elements}
use Rattle.definition.proofs.BoolLaws.{or_cases}
use Rattle.definition.proofs.RelationLaws.{place_of}
use Rattle.words.specs.Fields.{word, kind_of, p_of, RELATION_NAME, ATTRIBUTE, TERM, ATOM, TRUTH, FALSITY, ORDER, NEGATION, CONJUNCTION, DISJUNCTION, IMPLICATION, EQUIVALENCE, EXISTS, FOR_ALL, CLOSURE, COMPARISON, MATCH, COUNT, LITERAL, SUM, RATIO, FIGURES}
use Rattle.words.specs.Raw.{number, sign_number, leaf, leaves, size, over, flat}
use Rattle.words.specs.Tokens.{OwnName, OwnString, OwnLiteral}
use Rattle.words.proofs.FieldLaws.{kind_word, p_word, byte_a, byte_b}
use Rattle.words.proofs.Sizes.{length_leaves, size_pos}
use Rattle.digits.specs.Lists.{pack}
use Rattle.digits.proofs.Listing.{Once, Within, Listed}
use Rattle.eval.specs.Nodes.{operand, slot, d_of}
use Rattle.eval.specs.Nodes as Nodes
use Rattle.slots.specs.Slots.{one_closure}
use Rattle.free.specs.Words.{is_leaf}
use Rattle.words.specs.Standing.{Has}
use Rattle.words.proofs.Places.{has_append, Two, has_two, One, has_one}
use Rattle.meaning.specs.Lowered.{root, closure_count, Lowered}
use Rattle.meaning.specs.Lowered as Lowered
use Rattle.lowering.specs.Lowering.{at, TokenValues, slot_of, mask, term_byte, operands_at, closures_before, lower_at, Filled}
use Rattle.lowering.specs.Agreement.{Known, Scoped, ScopedTerm, ScopedTerms, FreeAt, Agrees, Valued}
use Rattle.lowering.proofs.Words.{term_small}
use Rattle.lowering.proofs.Terms.{slot_byte, attribute_byte, leaf_stands, terms_may, terms_stand}
use Rattle.lowering.proofs.Masks.{some_join, mask_bit}
use Rattle.lowering.proofs.Places.{closures_flat, closures_more, has_more, kind_at, truth_at, plain_p, plain_q, quantifier_p, atom_p, atom_n, atom_operands, order_p, order_a, order_b, half_p, half_set, half_n, closure_a, closure_b, closure_c, comparison_q, comparison_c, comparison_d, count_d, figures_q, figures_c, literal_half, kind_only, leaf_closure}

sign_small : (g : Sign) → sign_number g < 6
sign_small equal = omega arith
sign_small unequal = omega arith
sign_small less = omega arith
sign_small at_most = omega arith
sign_small greater = omega arith
sign_small at_least = omega arith

no_term : is_leaf ATTRIBUTE ≡ false
unfolding is_leaf
no_term = refl

digit_first : (a b f : ℕ) → a ≤ 4 → f ≡ a + 8 * (b + 8 * 0) → f % 8 ≡ a
digit_first a b f h e = omega arith

digit_second : (a b f : ℕ) → a ≤ 4 → b ≤ 4 → f ≡ a + 8 * (b + 8 * 0) → f / 8 % 8 ≡ b
digit_second a b f h k e =
    let q : f / 8 ≡ b = omega arith in
    let m : b % 8 ≡ b = omega arith in
    rw q m

slot_digit : (b : ℕ) → 0 < b - 63 → b - 63 ≤ 4 → b - 64 ≡ (b - 63 - 1) % 8
slot_digit b h k = omega arith

member_join : (x : Text) (xs ys : List Text) → member x (join xs ys) ≡ member x xs || member x ys
unfolding member
member_join x xs ys = some_join (same x) xs ys

join_none : (xs : List Text) → join xs [] ≡ xs
unfolding join keep
join_none xs = append-nil xs

none_listed : Listed 4 []
none_listed = record { within = unfold Within in tt; once = unfold Once in tt }

module _ (w : Accepted) (ts : List Token) (loops : List Text) (In : Text → Bool) (β : Text → ℕ) (Clear : ℕ → Type 0) (words codes tokens fr : List ℕ) (H : TokenValues) (lo hi : ℕ)
    (G : Agrees w ts loops In β Clear words codes fr lo hi) (M : Valued w ts H) (old low : List ℕ)
    (filled : Filled (lower_at (at words) (at codes) (at tokens) (at fr) H (elements w) lo) lo hi old low) where
  abbrev pub before : ℕ → ℕ
  before n = closures_before (at words) lo n

  -- terms are no closures
  no_closures : (ps : List Term) (n : ℕ) → lo ≤ n → n + length ps ≤ hi → Has words n (leaves TERM ps) → Lowered.Leaves w β loops low n (length ps)
  unfolding leaves Has
  no_closures [] n l h x i k = absurd (omega arith)
  no_closures (p ∷ ps) n l h x zero k =
      let e : n + 0 ≡ n = omega arith in
      rw e (leaf_closure words codes tokens fr H (elements w) lo hi old low filled n p l (omega arith) x.0)
  no_closures (p ∷ ps) n l h x (suc i) k =
      let e : n + suc i ≡ n + 1 + i = omega arith in
      rw e (no_closures ps (n + 1) (omega arith) (omega arith) x.1 i (omega arith))

  -- one word before others
  name_first : (n K p q m : ℕ) → K < 11 → lo ≤ n → n < hi → get_or words n 0 ≡ word K p q 0 → Lowered.Leaves w β loops low (n + 1) m → Lowered.Leaves w β loops low n (m + 1)
  name_first n K p q m hK l h e rest zero k z =
      let a : n + 0 ≡ n = omega arith in
      let f = kind_only words codes tokens fr H (elements w) lo hi old low filled n K p q 0 l h e (omega arith) (λ y. omega arith) in
      let g : kind_of (get_or low n 0) ≡ CLOSURE = rw a at z in
      omega (arith, f, g)
  name_first n K p q m hK l h e rest (suc i) k z =
      let a : n + suc i ≡ n + 1 + i = omega arith in
      rest i (omega arith) (rw a at z)

  nothing : (n : ℕ) → Lowered.Leaves w β loops low n 0
  nothing n i k = absurd (omega arith)

  one_term : (n : ℕ) (p : Term) → get_or words n 0 ≡ leaf TERM p → Has words n (leaves TERM (p ∷ []))
  unfolding leaves Has
  one_term n p a = (a, tt)

  two_terms : (n : ℕ) (p q : Term) → get_or words n 0 ≡ leaf TERM p → get_or words (n + 1) 0 ≡ leaf TERM q → Has words n (leaves TERM (p ∷ q ∷ []))
  unfolding leaves Has
  two_terms n p q a b = (a, (b, tt))

  -- an atom's word at k, whose relation's name stands at n and whose terms stand from n + 1 on
  atom_word : (r : Token) (ps : List Term) (n k : ℕ) → k ≡ n + 1 + length ps → lo ≤ n → k < hi → Known w ts loops In r ps → ScopedTerms w ts loops In ps
      → get_or words n 0 ≡ word RELATION_NAME (number r) (length ps) 0 → Has words (n + 1) (leaves TERM ps) → get_or words k 0 ≡ word ATOM n (length ps) 0 → Lowered.Atom w β loops low k r ps
  atom_word r ps n k ek l h K o x y e =
      let hn : n < 65536 = omega (arith, G.few_words) in
      let hm : length ps < 65536 = omega (arith, K.short) in
      let hk : lo ≤ k = omega arith in
      let c = G.relations r K.own K.known in
      let d : p_of (get_or words n 0) ≡ number r = rw x (p_word RELATION_NAME (number r) (length ps) 0 (omega arith) (omega (arith, K.own.inside, G.few_tokens))) in
      let m : place_of r.text w.relations % 65536 ≡ place_of r.text w.relations = omega (arith, K.known, G.few_relations) in
      let v : length ps % 256 ≡ length ps = omega (arith, K.short) in
      record {
        kind = kind_at words codes tokens fr H (elements w) lo hi old low filled k ATOM n (length ps) 0 (omega arith) hn hm hk h e (λ z. omega arith);
        number = atom_p words codes tokens fr H (elements w) lo hi old low filled k ATOM n (length ps) 0 (omega arith) hn hm hk h e refl ∙ rw (d, c) m;
        known = K.known;
        arity = K.arity;
        short = K.short;
        count = atom_n words codes tokens fr H (elements w) lo hi old low filled k ATOM n (length ps) 0 (omega arith) hn hm hk h e refl ∙ v;
        terms = rw (atom_operands words codes tokens fr H (elements w) lo hi old low filled k ATOM n (length ps) 0 (omega arith) hn hm hk h e refl)
            (terms_stand w ts loops In β Clear words codes fr lo hi G ps (n + 1) _ K.short o y);
      }

  order_word : (g : Sign) (p q : Term) (n : ℕ) → lo ≤ n → n + 2 < hi → ScopedTerm w ts loops In p → ScopedTerm w ts loops In q → get_or words n 0 ≡ leaf TERM p → get_or words (n + 1) 0 ≡ leaf TERM q
      → get_or words (n + 2) 0 ≡ word ORDER n (sign_number g) 0 → Lowered.Order w β loops low (n + 2) g p q
  unfolding operands_at
  order_word g p q n l h op oq x y e =
      let s : n < 65536 = omega (arith, G.few_words) in
      let t : sign_number g < 65536 = omega (arith, sign_small g) in
      let small = term_small (at words) (at codes) (at tokens) (at fr) 0 in
      record {
        kind = kind_at words codes tokens fr H (elements w) lo hi old low filled (n + 2) ORDER n (sign_number g) 0 (omega arith) s t (omega arith) h e (λ z. omega arith);
        sign = order_p words codes tokens fr H (elements w) lo hi old low filled (n + 2) ORDER n (sign_number g) 0 (omega arith) s t (omega arith) h e refl;
        left = rw (order_a words codes tokens fr H (elements w) lo hi old low filled (n + 2) ORDER n (sign_number g) 0 (omega arith) s t (omega arith) h e refl, byte_a (term_byte (at codes) (get_or words n 0)) (term_byte (at codes) (get_or words (n + 1) 0)) (term_byte (at codes) (get_or words (n + 2) 0)) (term_byte (at codes) (get_or words (n + 3) 0)) (small (get_or words n 0)))
            (leaf_stands w ts loops In β Clear words codes fr lo hi G n p op x);
        right = rw (order_b words codes tokens fr H (elements w) lo hi old low filled (n + 2) ORDER n (sign_number g) 0 (omega arith) s t (omega arith) h e refl, byte_b (term_byte (at codes) (get_or words n 0)) (term_byte (at codes) (get_or words (n + 1) 0)) (term_byte (at codes) (get_or words (n + 2) 0)) (term_byte (at codes) (get_or words (n + 3) 0)) (small (get_or words n 0)) (small (get_or words (n + 1) 0)))
            (leaf_stands w ts loops In β Clear words codes fr lo hi G (n + 1) q oq y);
      }

  -- a half's word at k, whose term stands at n
  half_word : (s : Token) (p : Term) (n k b : ℕ) → b < 65536 → n < k → lo ≤ n → k < hi → OwnString ts s → ScopedTerm w ts loops In p → get_or words n 0 ≡ leaf TERM p → get_or words k 0 ≡ word MATCH (number s) b n
      → Lowered.Half w β loops low k b s p
  half_word s p n k b hb ln l h os op x e =
      let hn : n < 65536 = omega (arith, G.few_words) in
      let hs : number s < 65536 = omega (arith, os.inside, G.few_tokens) in
      record {
        kind = kind_at words codes tokens fr H (elements w) lo hi old low filled k MATCH (number s) b n (omega arith) hs hb (omega arith) h e (λ z. omega arith);
        first = half_p words codes tokens fr H (elements w) lo hi old low filled k MATCH (number s) b n (omega arith) hs hb (omega arith) h e refl;
        set = λ i j m. rw (half_set words codes tokens fr H (elements w) lo hi old low filled k MATCH (number s) b n (omega arith) hs hb (omega arith) h e refl) (M.set s os b i j m);
        few = G.few_elements;
        term = rw (half_n words codes tokens fr H (elements w) lo hi old low filled k MATCH (number s) b n (omega arith) hs hb (omega arith) h e refl hn) (leaf_stands w ts loops In β Clear words codes fr lo hi G n p op x);
      }

  -- closures before a place: a name is none, and a closure is the last of at most sixteen
  pub name_before : (n K p q r : ℕ) → lo ≤ n → get_or words n 0 ≡ word K p q r → K < 256 → (K ≡ CLOSURE → ⊥) → before (n + 1) ≡ before n
  unfolding closures_before one_closure
  name_before n K p q r l e hK z =
      let s : n + 1 ≡ suc n = omega arith in
      rw (s, le-leb lo n l, e, kind_word K p q r hK, ne_eqb K CLOSURE z) (omega arith)

  few_before : (k p : ℕ) → lo ≤ k → k < hi → get_or words k 0 ≡ word CLOSURE p 0 0 → before k < 16
  unfolding closures_before one_closure
  few_before k p l h e =
      let s : before (suc k) ≡ before k + 1 = rw (le-leb lo k l, e, kind_word CLOSURE p 0 0 (omega arith)) refl in
      let d : hi - suc k + suc k ≡ hi = omega arith in
      let m : before (suc k) ≤ before hi = rw d at (closures_more words lo (hi - suc k) (suc k)) in
      omega (arith, s, m, G.few_closures)

  -- an operator's word
  module _ (n k p q : ℕ) (hp : p < k) (l : lo ≤ k) (h : k < hi) where
    one_word : (K : ℕ) → 14 ≤ K → K < 30 → (K ≡ 19 → ⊥) → (K ≡ 20 → ⊥) → (K ≡ 23 → ⊥) → get_or words k 0 ≡ word K p 0 0 → Lowered.One w β loops low k K p
    one_word K a b x y v e =
        let s : p < 65536 = omega (arith, G.few_words) in
        record {
          kind = kind_at words codes tokens fr H (elements w) lo hi old low filled k K p 0 0 (omega arith) s (omega arith) l h e (λ z. omega arith);
          child = plain_p words codes tokens fr H (elements w) lo hi old low filled k K p 0 0 (omega arith) s (omega arith) l h e a b x y v;
        }

    two_word : (K : ℕ) → 15 ≤ K → K < 30 → (K ≡ 19 → ⊥) → (K ≡ 20 → ⊥) → (K ≡ 23 → ⊥) → has_more K ≡ false → q < k → get_or words k 0 ≡ word K p q 0 → Lowered.Two w β loops low k K p q
    two_word K a b x y v m lq e =
        let s : p < 65536 = omega (arith, G.few_words) in
        let t : q < 65536 = omega (arith, G.few_words) in
        record {
          kind = kind_at words codes tokens fr H (elements w) lo hi old low filled k K p q 0 (omega arith) s t l h e (λ z. omega arith);
          first = plain_p words codes tokens fr H (elements w) lo hi old low filled k K p q 0 (omega arith) s t l h e (omega arith) b x y v;
          second = plain_q words codes tokens fr H (elements w) lo hi old low filled k K p q 0 (omega arith) s t l h e m;
        }

    quantifier_word : (K : ℕ) (x : Token) → 19 ≤ K → K < 21 → has_more K ≡ false → q < k → OwnName ts x → In x.text ≡ true → get_or words p 0 ≡ word ATTRIBUTE (number x) 0 0 → get_or words k 0 ≡ word K p q 0 → Lowered.Quantifier w β loops low k K q x
    quantifier_word K x a b f lq o i v e =
        let s : p < 65536 = omega (arith, G.few_words) in
        let t : q < 65536 = omega (arith, G.few_words) in
        let y = attribute_byte w ts loops In β Clear words codes fr lo hi G p ATTRIBUTE x (omega arith) (λ z. omega arith) o i v in
        let c = quantifier_p words codes tokens fr H (elements w) lo hi old low filled k K p q 0 (omega arith) s t l h e a b in
        let g = G.slots x.text i in
        let m : β x.text - 64 ≡ β x.text % 8 % 8 = omega (arith, g.0, g.1) in
        record {
          kind = kind_at words codes tokens fr H (elements w) lo hi old low filled k K p q 0 (omega arith) s t l h e (λ z. omega arith);
          place = slot_byte (β x.text) g.0 (omega (arith, g.1)) ∙ ap slot m ∙ rw (c, y) refl;
          child = plain_q words codes tokens fr H (elements w) lo hi old low filled k K p q 0 (omega arith) s t l h e f;
        }

  -- the slots of two attributes
  two_slots : (xs : List Text) (f : ℕ) → length xs ≡ 2 → Listed 4 (map (λ x. β x - 63) xs) → f ≡ pack (map (λ x. β x - 63) xs)
      → map (λ x. operand (β x)) xs ≡ slot (slot_of (f % 8) % 8) ∷ slot (slot_of (f / 8 % 8) % 8) ∷ []
  unfolding pack Within
  two_slots [] f e g v = absurd (omega arith)
  two_slots (x ∷ []) f e g v = absurd (omega arith)
  two_slots (x ∷ y ∷ []) f e g v =
      let h = g.within in
      let a : β x - 64 ≡ (f % 8 - 1) % 8 = rw (digit_first (β x - 63) (β y - 63) f h.1 v) (slot_digit (β x) h.0 h.1) in
      let b : β y - 64 ≡ (f / 8 % 8 - 1) % 8 = rw (digit_second (β x - 63) (β y - 63) f h.1 h.2.1 v) (slot_digit (β y) h.2.0 h.2.1) in
      ap₂ (λ (p q : Nodes.Operand). p ∷ q ∷ []) (slot_byte (β x) (omega (arith, h.0)) (omega (arith, h.1)) ∙ ap slot a)
      (slot_byte (β y) (omega (arith, h.2.0)) (omega (arith, h.2.1)) ∙ ap slot b)
  two_slots (x ∷ y ∷ z ∷ xs) f e g v = absurd (omega arith)

  -- the closures before what follows an expression
  pub closures_then : (a : Expression) (n c : ℕ) → c ≡ before n → lo ≤ n → Has words n (flat a n) → c + closure_count a ≡ before (n + size a)
  closures_then a n c ec l x = omega (arith, ec, closures_flat words lo a n l x)

  abbrev Holds : Expression → Type 0
  Holds e = (n c : ℕ) → c ≡ before n → Scoped w ts loops In e → lo ≤ n → n + size e ≤ hi → Clear n → Has words n (flat e n) → Lowered w β loops low e n c

  pair_case : (K : ℕ) (a b : Expression) (n c : ℕ) → c ≡ before n → Scoped w ts loops In a → Scoped w ts loops In b → lo ≤ n → n + size a + size b < hi → Clear n → 15 ≤ K → K < 30 → (K ≡ 19 → ⊥) → (K ≡ 20 → ⊥) → (K ≡ 23 → ⊥) → has_more K ≡ false
      → Two words n (over K (n + size a) (n + size a + size b) 0) a b → Holds a → Holds b
      → Lowered w β loops low a n c × (Lowered w β loops low b (n + size a) (c + closure_count a) × Lowered.Two w β loops low (n + size a + size b) K (root a n) (root b (n + size a)))
  pair_case K a b n c ec oa ob l h cl x y p q r m t ha hb =
      let A = G.frees a n oa l (omega arith) cl t.left in (
        ha n c ec oa l (omega arith) cl t.left,
        (
          hb (n + size a) (c + closure_count a) (closures_then a n c ec l t.left) ob (omega arith) (omega arith) A.ended t.right,
          two_word n (n + size a + size b) (root a n) (root b (n + size a)) (omega (arith, size_pos a)) (omega arith) h K x y p q r m (omega (arith, size_pos b)) t.root,
        ),
      )

  quantifier_case : (K : ℕ) (y : Token) (a : Expression) (n c : ℕ) → c ≡ before n → OwnName ts y → In y.text ≡ true → Scoped w ts loops In a → lo ≤ n → n + 1 + size a < hi → 19 ≤ K → K < 21 → has_more K ≡ false
      → get_or words n 0 ≡ word ATTRIBUTE (number y) 0 0 → One words (n + 1) (word K n (n + size a) 0) a → Holds a
      → Lowered.Leaves w β loops low n 1 × (Lowered w β loops low a (n + 1) c × Lowered.Quantifier w β loops low (n + 1 + size a) K (root a (n + 1)) y)
  quantifier_case K y a n c ec oy iy o l h p q f v t ha =
      let m : n + 1 + size a - 1 ≡ n + size a = omega arith in
      let s : before (n + 1) ≡ before n = name_before n ATTRIBUTE (number y) 0 0 l v (omega arith) (λ z. omega arith) in (
        name_first n ATTRIBUTE (number y) 0 0 (omega arith) l (omega arith) v (nothing (n + 1)),
        (
          ha (n + 1) c (ec ∙ sym s) o (omega arith) (omega arith) (G.others n ATTRIBUTE (number y) 0 0 l (omega arith) (omega arith) no_term v) t.inner,
          rw m (quantifier_word n (n + 1 + size a) n (n + size a) (omega arith) (omega arith) h K y p q f (omega arith) oy iy v t.root),
        ),
      )

  closure_word : (a : Expression) (n c : ℕ) → c ≡ before n → length (free w.variables a) ≡ 2 → lo ≤ n → n + size a < hi → Has words n (flat a n)
      → FreeAt w ts loops In β Clear words codes fr lo hi a n → get_or words (n + size a) 0 ≡ word CLOSURE (n + size a - 1) 0 0 → Lowered.Closure w β loops low (n + size a) (root a n) (c + closure_count a) a
  closure_word a n c ec two l h x A e =
      let k = n + size a in
      let s : n + size a - 1 < 65536 = omega (arith, G.few_words) in
      let b : c + closure_count a ≡ before k = closures_then a n c ec l x in
      let f : before k < 16 = few_before k (n + size a - 1) (omega arith) h e in
      record {
        one = one_word n k (root a n) 0 (omega (arith, size_pos a)) (omega arith) h CLOSURE (omega arith) (omega arith) (λ z. omega arith) (λ z. omega arith) (λ z. omega arith) e;
        slots = rw (closure_a words codes tokens fr H (elements w) lo hi old low filled k CLOSURE (n + size a - 1) 0 0 (omega arith) s (omega arith) (omega arith) h e refl, closure_b words codes tokens fr H (elements w) lo hi old low filled k CLOSURE (n + size a - 1) 0 0 (omega arith) s (omega arith) (omega arith) h e refl)
            (two_slots (free w.variables a) (get_or fr (n + size a - 1) 0) two A.listed A.value);
        number = closure_c words codes tokens fr H (elements w) lo hi old low filled k CLOSURE (n + size a - 1) 0 0 (omega arith) s (omega arith) (omega arith) h e refl (omega arith) ∙ sym b;
        few = omega (arith, b, f);
      }

  -- the mask of the free attributes of two expressions
  masked : (k : ℕ) (xs ys : List Text) → d_of (get_or low k 0) ≡ mask (pack (map (λ x. β x - 63) xs)) (pack (map (λ x. β x - 63) ys)) → Listed 4 (map (λ x. β x - 63) xs) → Listed 4 (map (λ x. β x - 63) ys)
      → ((x : Text) → T (member x xs) → In x ≡ true) → ((x : Text) → T (member x ys) → In x ≡ true) → Lowered.Mask w β loops low k (join xs ys)
  masked k xs ys d lx ly ix iy =
      record {
        slots = λ x m.
            let i = ⊎_elim (ix x) (iy x) (or_cases (member x xs) (member x ys) (subst T (member_join x xs ys) m)) in
            slot_byte (β x) (G.slots x i).0 (omega (arith, (G.slots x i).1));
        bits = λ i j. rw d (mask_bit β xs ys lx ly i j);
      }

  comparison_word : (g : Sign) (a b : Expression) (n : ℕ) → lo ≤ n → n + size a + size b < hi → FreeAt w ts loops In β Clear words codes fr lo hi a n → FreeAt w ts loops In β Clear words codes fr lo hi b (n + size a)
      → get_or words (n + size a + size b) 0 ≡ over COMPARISON (n + size a) (n + size a + size b) (sign_number g)
      → Lowered.Comparison w β loops low (n + size a + size b) (root a n) (root b (n + size a)) g (join (free w.variables a) (free w.variables b))
  comparison_word g a b n l h A B e =
      let k = n + size a + size b in
      let s : n + size a - 1 < 65536 = omega (arith, G.few_words) in
      let t : n + size a + size b - 1 < 65536 = omega (arith, G.few_words) in
      let r : sign_number g < 256 = omega (arith, sign_small g) in
      let d = comparison_d words codes tokens fr H (elements w) lo hi old low filled k COMPARISON (n + size a - 1) (n + size a + size b - 1) (sign_number g) (omega arith) s t (omega arith) h e refl r in
      record {
        two = record {
          kind = kind_at words codes tokens fr H (elements w) lo hi old low filled k COMPARISON (n + size a - 1) (n + size a + size b - 1) (sign_number g) (omega arith) s t (omega arith) h e (λ z. omega arith);
          first = plain_p words codes tokens fr H (elements w) lo hi old low filled k COMPARISON (n + size a - 1) (n + size a + size b - 1) (sign_number g) (omega arith) s t (omega arith) h e (omega arith) (omega arith) (λ z. omega arith) (λ z. omega arith) (λ z. omega arith);
          second = comparison_q words codes tokens fr H (elements w) lo hi old low filled k COMPARISON (n + size a - 1) (n + size a + size b - 1) (sign_number g) (omega arith) s t (omega arith) h e refl r;
        };
        sign = comparison_c words codes tokens fr H (elements w) lo hi old low filled k COMPARISON (n + size a - 1) (n + size a + size b - 1) (sign_number g) (omega arith) s t (omega arith) h e refl r;
        mask = masked k (free w.variables a) (free w.variables b) (d ∙ rw (A.value, B.value) refl) A.listed B.listed A.inside B.inside;
      }

  figures_word : (g : Sign) (a b : Expression) (n : ℕ) → lo ≤ n → n + size a + size b < hi → get_or words (n + size a + size b) 0 ≡ over FIGURES (n + size a) (n + size a + size b) (sign_number g)
      → Lowered.Figures w β loops low (n + size a + size b) (root a n) (root b (n + size a)) g
  figures_word g a b n l h e =
      let k = n + size a + size b in
      let s : n + size a - 1 < 65536 = omega (arith, G.few_words) in
      let t : n + size a + size b - 1 < 65536 = omega (arith, G.few_words) in
      let r : sign_number g < 256 = omega (arith, sign_small g) in
      record {
        two = record {
          kind = kind_at words codes tokens fr H (elements w) lo hi old low filled k FIGURES (n + size a - 1) (n + size a + size b - 1) (sign_number g) (omega arith) s t (omega arith) h e (λ z. omega arith);
          first = plain_p words codes tokens fr H (elements w) lo hi old low filled k FIGURES (n + size a - 1) (n + size a + size b - 1) (sign_number g) (omega arith) s t (omega arith) h e (omega arith) (omega arith) (λ z. omega arith) (λ z. omega arith) (λ z. omega arith);
          second = figures_q words codes tokens fr H (elements w) lo hi old low filled k FIGURES (n + size a - 1) (n + size a + size b - 1) (sign_number g) (omega arith) s t (omega arith) h e refl r;
        };
        sign = figures_c words codes tokens fr H (elements w) lo hi old low filled k FIGURES (n + size a - 1) (n + size a + size b - 1) (sign_number g) (omega arith) s t (omega arith) h e refl r;
      }

  count_word : (a : Expression) (n : ℕ) → lo ≤ n → n + size a < hi → FreeAt w ts loops In β Clear words codes fr lo hi a n → get_or words (n + size a) 0 ≡ word COUNT (n + size a - 1) 0 0
      → Lowered.Count w β loops low (n + size a) (root a n) (free w.variables a)
  count_word a n l h A e =
      let k = n + size a in
      let xs = free w.variables a in
      let s : n + size a - 1 < 65536 = omega (arith, G.few_words) in
      let d = count_d words codes tokens fr H (elements w) lo hi old low filled k COUNT (n + size a - 1) 0 0 (omega arith) s (omega arith) (omega arith) h e refl (omega arith) in
      record {
        one = one_word n k (root a n) 0 (omega (arith, size_pos a)) (omega arith) h COUNT (omega arith) (omega arith) (λ z. omega arith) (λ z. omega arith) (λ z. omega arith) e;
        mask = subst (Lowered.Mask w β loops low k) (join_none xs) (masked k xs [] (d ∙ rw A.value (unfold pack in refl)) A.listed none_listed A.inside (λ x m. absurd (unfold member some_of in m)));
        few = G.few_elements;
      }

  literal_word : (t : Token) (n : ℕ) → lo ≤ n → n < hi → OwnLiteral ts t → value t.text ≤ LARGEST_LITERAL → get_or words n 0 ≡ word LITERAL (number t) 0 0 → Lowered.Literal w β loops low n t
  literal_word t n l h o small e =
      let s : number t < 65536 = omega (arith, o.inside, G.few_tokens) in
      let v : min (value t.text) 1000000 ≡ value t.text = min-eq_left (omega arith) in
      record {
        kind = kind_at words codes tokens fr H (elements w) lo hi old low filled n LITERAL (number t) 0 0 (omega arith) s (omega arith) l h e (λ z. omega arith);
        number = literal_half words codes tokens fr H (elements w) lo hi old low filled n LITERAL (number t) 0 0 (omega arith) s (omega arith) l h e refl ∙ rw (M.digits t o) v;
      }

  -- the lowered words of an expression whose words stand from n on
  pub lowered_expression : (e : Expression) (n c : ℕ) → c ≡ before n → Scoped w ts loops In e → lo ≤ n → n + size e ≤ hi → Clear n → Has words n (flat e n) → Lowered w β loops low e n c
  unfolding Lowered flat size Scoped closures Has
  lowered_expression (atom r ps) n c ec o l h cl x =
      let t = has_append words (n + 1) (leaves TERM ps) _ x.1 in
      let k : n + (length ps + 1) ≡ n + 1 + length ps = omega arith in (
        name_first n RELATION_NAME (number r) (length ps) (length ps) (omega arith) l (omega arith) x.0 (no_closures ps (n + 1) (omega arith) (omega arith) t.0),
        atom_word r ps n (n + (length ps + 1)) k l (omega arith) o.0 o.1 x.0 t.0 (rw k (rw (length_leaves TERM ps) at t.1.0)),
      )
  lowered_expression (truth ps) n c ec o l h cl x =
      let t = has_append words n (leaves TERM ps) _ x in
      let e : get_or words (n + length ps) 0 ≡ word TRUTH n (length ps) 0 = rw (length_leaves TERM ps) at t.1.0 in (
        no_closures ps n l (omega arith) t.0,
        record {
          kind = truth_at words codes tokens fr H (elements w) lo hi old low filled (n + length ps) TRUTH n (length ps) 0 (omega arith) (omega (arith, G.few_words)) (omega (arith, G.few_words)) (omega arith) (omega arith) e refl
              ∙ rw (terms_may w ts loops In β Clear words codes fr lo hi G ps n o t.0) refl;
        },
      )
  lowered_expression (falsity ps) n c ec o l h cl x =
      let t = has_append words n (leaves TERM ps) _ x in
      let e : get_or words (n + length ps) 0 ≡ word FALSITY n (length ps) 0 = rw (length_leaves TERM ps) at t.1.0 in
      (no_closures ps n l (omega arith) t.0, kind_only words codes tokens fr H (elements w) lo hi old low filled (n + length ps) FALSITY n (length ps) 0 (omega arith) (omega arith) e (omega arith) (λ z. omega arith))
  lowered_expression (compare g p q) n c ec o l h cl x =
      let i : n + 1 + 1 ≡ n + 2 = omega arith in
      let e : get_or words (n + 2) 0 ≡ word ORDER n (sign_number g) 0 = rw i at x.1.1.0 in
      (no_closures (p ∷ q ∷ []) n l (omega arith) (two_terms n p q x.0 x.1.0), order_word g p q n l (omega arith) o.0 o.1 x.0 x.1.0 e)
  lowered_expression (matching s p) n c ec o l h cl x =
      let i : n + 1 + 1 ≡ n + 2 = omega arith in
      let j : n + 1 + 1 + 1 ≡ n + 3 = omega arith in
      let r : n + 2 - 1 ≡ n + 1 = omega arith in
      let t : n + 3 - 1 ≡ n + 2 = omega arith in
      let e : get_or words (n + 2) 0 ≡ word MATCH (number s) 32 n = rw i at x.1.1.0 in
      let d : get_or words (n + 3) 0 ≡ word DISJUNCTION (n + 1) (n + 2) 0 = rw (j, r, t) at x.1.1.1.0 in (
        no_closures (p ∷ []) n l (omega arith) (one_term n p x.0),
        (
          half_word s p n (n + 1) 0 (omega arith) (omega arith) l (omega arith) o.0 o.1 x.0 x.1.0,
          (half_word s p n (n + 2) 32 (omega arith) (omega arith) l (omega arith) o.0 o.1 x.0 e, two_word n (n + 3) (n + 1) (n + 2) (omega arith) (omega arith) (omega arith) DISJUNCTION (omega arith) (omega arith) (λ z. omega arith) (λ z. omega arith) (λ z. omega arith) refl (omega arith) d),
        ),
      )
  lowered_expression (negation a) n c ec o l h cl x =
      let t = has_one words n _ a x in (
        lowered_expression a n c ec o l (omega arith) cl t.inner,
        one_word n (n + size a) (root a n) 0 (omega (arith, size_pos a)) (omega arith) (omega arith) NEGATION (omega arith) (omega arith) (λ z. omega arith) (λ z. omega arith) (λ z. omega arith) t.root,
      )
  lowered_expression (conjunction a b) n c ec o l h cl x = pair_case CONJUNCTION a b n c ec o.0 o.1 l (omega arith) cl (omega arith) (omega arith) (λ z. omega arith) (λ z. omega arith) (λ z. omega arith) refl (has_two words n _ a b x) (lowered_expression a) (lowered_expression b)
  lowered_expression (disjunction a b) n c ec o l h cl x = pair_case DISJUNCTION a b n c ec o.0 o.1 l (omega arith) cl (omega arith) (omega arith) (λ z. omega arith) (λ z. omega arith) (λ z. omega arith) refl (has_two words n _ a b x) (lowered_expression a) (lowered_expression b)
  lowered_expression (implication a b) n c ec o l h cl x = pair_case IMPLICATION a b n c ec o.0 o.1 l (omega arith) cl (omega arith) (omega arith) (λ z. omega arith) (λ z. omega arith) (λ z. omega arith) refl (has_two words n _ a b x) (lowered_expression a) (lowered_expression b)
  lowered_expression (equivalence a b) n c ec o l h cl x = pair_case EQUIVALENCE a b n c ec o.0 o.1 l (omega arith) cl (omega arith) (omega arith) (λ z. omega arith) (λ z. omega arith) (λ z. omega arith) refl (has_two words n _ a b x) (lowered_expression a) (lowered_expression b)
  lowered_expression (exists y a) n c ec o l h cl x = quantifier_case EXISTS y a n c ec o.0.0 o.0.1 o.1 l (omega arith) (omega arith) (omega arith) refl x.0 (has_one words (n + 1) _ a x.1) (lowered_expression a)
  lowered_expression (for_all y a) n c ec o l h cl x = quantifier_case FOR_ALL y a n c ec o.0.0 o.0.1 o.1 l (omega arith) (omega arith) (omega arith) refl x.0 (has_one words (n + 1) _ a x.1) (lowered_expression a)
  lowered_expression (closure_of a) n c ec o l h cl x =
      let t = has_one words n _ a x in
      (lowered_expression a n c ec o.1 l (omega arith) cl t.inner, closure_word a n c ec o.0 l (omega arith) t.inner (G.frees a n o.1 l (omega arith) cl t.inner) t.root)
  lowered_expression (compare_relations g a b) n c ec o l h cl x =
      let t = has_two words n _ a b x in
      let A = G.frees a n o.0 l (omega arith) cl t.left in
      let B = G.frees b (n + size a) o.1 (omega arith) (omega arith) A.ended t.right in (
        lowered_expression a n c ec o.0 l (omega arith) cl t.left,
        (lowered_expression b (n + size a) (c + closure_count a) (closures_then a n c ec l t.left) o.1 (omega arith) (omega arith) A.ended t.right, comparison_word g a b n l (omega arith) A B t.root),
      )
  lowered_expression (literal t) n c ec o l h cl x = literal_word t n l (omega arith) o.0 o.1 x.0
  lowered_expression (count_of a) n c ec o l h cl x =
      let t = has_one words n _ a x in
      (lowered_expression a n c ec o l (omega arith) cl t.inner, count_word a n l (omega arith) (G.frees a n o l (omega arith) cl t.inner) t.root)
  lowered_expression (sum_of a b) n c ec o l h cl x = pair_case SUM a b n c ec o.0 o.1 l (omega arith) cl (omega arith) (omega arith) (λ z. omega arith) (λ z. omega arith) (λ z. omega arith) refl (has_two words n _ a b x) (lowered_expression a) (lowered_expression b)
  lowered_expression (ratio_of a b) n c ec o l h cl x = pair_case RATIO a b n c ec o.0 o.1 l (omega arith) cl (omega arith) (omega arith) (λ z. omega arith) (λ z. omega arith) (λ z. omega arith) refl (has_two words n _ a b x) (lowered_expression a) (lowered_expression b)
  lowered_expression (compare_figures g a b) n c ec o l h cl x =
      let t = has_two words n _ a b x in
      let A = G.frees a n o.0.0 l (omega arith) cl t.left in (
        lowered_expression a n c ec o.0.0 l (omega arith) cl t.left,
        (
          lowered_expression b (n + size a) (c + closure_count a) (closures_then a n c ec l t.left) o.0.1 (omega arith) (omega arith) A.ended t.right,
          (figures_word g a b n l (omega arith) t.root, o.1),
        ),
      )
