-- The free attributes that stand at the words of a tree are the definition's.
use Prim.Native.Nat.{ℕ, suc, ◌+◌, ◌-◌, ◌<◌, ◌≤◌}
use mathlib.Core.Path.{◌≡◌, refl, sym, ap, ◌∙◌}
use mathlib.Core.Bool.{Bool, true, false, not}
use mathlib.Core.List.{List, [], ◌∷◌, ◌++◌, map}
use native.Mathlib.Omega.{arith}
use borrow.Author.Tests.{ne_eqb, lt-ltb, le-ltb, lt-leb, le-leb}
use lib.ListN.{length, get_or}
use Rattle.definition.specs.Text.{Text, same, member, keep}
use Rattle.definition.specs.Token.{Token}
use Rattle.definition.specs.Syntax.{Term, name, string, anything, Expression, atom, truth, falsity, compare, matching, negation, conjunction, disjunction, implication, equivalence, exists, for_all, closure_of, compare_relations, literal, count_of, sum_of, ratio_of, compare_figures}
use Rattle.definition.specs.Names.{term, in_expression, join, attributes, free}
use Rattle.words.specs.Fields.{word, kind_of, RELATION_NAME, ATTRIBUTE, TERM, ANYTHING, ATOM, TRUTH, FALSITY, ORDER, NEGATION, CONJUNCTION, DISJUNCTION, IMPLICATION, EQUIVALENCE, EXISTS, FOR_ALL, CLOSURE, COMPARISON, MATCH, COUNT, LITERAL, SUM, RATIO, FIGURES, STRING}
use Rattle.words.specs.Raw.{number, sign_number, leaf, leaves, size, over, flat}
use Rattle.words.specs.Tokens.{OwnName, OwnTerm, OwnTerms, OwnExpression}
use Rattle.words.proofs.FieldLaws.{kind_word, p_word, q_word}
use Rattle.words.specs.Standing.{Has}
use Rattle.words.proofs.Sizes.{length_leaves, size_pos}
use Rattle.words.proofs.Places.{has_append, has_two, has_one}
use Rattle.digits.specs.Lists.{add, adds, pack}
use Rattle.digits.specs.Packed.{joined, without}
use Rattle.digits.proofs.Listing.{Once, Within, Listed, listed_add, listed_adds, listed_remove}
use Rattle.digits.proofs.Packing.{plus_law, joined_law, without_law}
use Rattle.slots.specs.Slots.{takes}
use Rattle.slots.proofs.Texts.{nil_join}
use Rattle.free.specs.Words.{is_leaf, at, below, terms, operator, free_word, Filled}
use Rattle.free.proofs.Slotted.{pos_le, slot, AllIn, all_keep, all_join, map_remove, map_join, digit, TermsIn, Covered, covered_split, covered_terms, all_attributes, terms_slots}

pub not_leaf : (c : ℕ) → (c ≡ 3 → ⊥) → (c ≡ 43 → ⊥) → (c ≡ 9 → ⊥) → is_leaf c ≡ false
unfolding is_leaf
not_leaf c a b d = rw (ne_eqb c 3 a, ne_eqb c 43 b, ne_eqb c 9 d) refl

pub op_leaf : (c : ℕ) → 10 ≤ c → c < 43 → is_leaf c ≡ false
op_leaf c l h = not_leaf c (λ e. omega arith) (λ e. omega arith) (λ e. omega arith)

-- no digits
pub nil_listed : Listed 4 []
unfolding Once Within
nil_listed = record { once = tt; within = tt }

pub pack_nil : pack [] ≡ 0
unfolding pack
pack_nil = refl

module _ (ts : List Token) (few : length ts < 65536) (words fr : List ℕ) (s N : ℕ) (D : ℕ → ℕ) (filled : Filled words D fr s N) (small : N < 65536)
    (names : List Text) (short : length names ≤ 4) (vs : Text → Bool) (loops : (x : Text) → vs x ≡ true → member x names ≡ false)
    (named_digit : (k : ℕ) (t : Token) → takes k ≡ true → k < 256 → OwnName ts t → D (word k (number t) 0 0) ≡ slot names t.text)
    (other_digit : (k p : ℕ) → takes k ≡ false → k < 256 → D (word k p 0 0) ≡ 0) where
  abbrev pub before : ℕ → ℕ
  before n = terms (at words) (at fr) s n

  abbrev pub slots : List Text → List ℕ
  slots xs = map (slot names) xs

  abbrev pub digit_of : Term → ℕ
  digit_of p = digit names vs loops p

  n_pred : (n : ℕ) → n + 1 - 1 ≡ n
  n_pred n = omega arith

  pub after_leaf : (n : ℕ) → s ≤ n → is_leaf (kind_of (get_or words n 0)) ≡ true → before (n + 1) ≡ get_or fr n 0
  unfolding terms
  after_leaf n h e = rw (lt-leb (n + 1) s (omega arith), n_pred n, e) refl

  pub after_other : (n c p q r : ℕ) → s ≤ n → c < 256 → is_leaf c ≡ false → get_or words n 0 ≡ word c p q r → before (n + 1) ≡ 0
  unfolding terms
  after_other n c p q r h hc e w = rw (lt-leb (n + 1) s (omega arith), n_pred n, w, kind_word c p q r hc, e) refl

  pub at_start : before s ≡ 0
  unfolding terms
  at_start = rw (le-leb s s (omega arith)) refl

  leaf_kind : (n : ℕ) (p : Term) → get_or words n 0 ≡ leaf TERM p → is_leaf (kind_of (get_or words n 0)) ≡ true
  unfolding is_leaf
  leaf_kind n (name t) e = rw (e, kind_word TERM (number t) 0 0 (omega arith)) refl
  leaf_kind n (string t) e = rw (e, kind_word (STRING + TERM) (number t) 0 0 (omega arith)) refl
  leaf_kind n anything e = rw e refl

  leaf_digit : (p : Term) → OwnTerm ts p → D (leaf TERM p) ≡ digit_of p
  unfolding takes
  leaf_digit (name t) o = named_digit TERM t refl (omega arith) o
  leaf_digit (string t) o = other_digit (STRING + TERM) (number t) refl (omega arith)
  leaf_digit anything o = other_digit ANYTHING 0 refl (omega arith)

  digit_small : (p : Term) → digit_of p ≤ 4
  digit_small (name t) = omega (arith, pos_le t.text names 0)
  digit_small (string t) = omega arith
  digit_small anything = omega arith

  -- one term
  pub leaf_free : (n : ℕ) (p : Term) (ds : List ℕ) → s ≤ n → n < N → OwnTerm ts p → get_or words n 0 ≡ leaf TERM p → Listed 4 ds → before n ≡ pack ds → before (n + 1) ≡ pack (add ds (digit_of p))
  unfolding free_word
  leaf_free n p ds l h o e i t =
      after_leaf n l (leaf_kind n p e) ∙ filled n l h
      ∙ rw (leaf_kind n p e, t, e, leaf_digit p o) (plus_law ds (digit_of p) i (digit_small p))

  -- the terms of an atom
  pub terms_free : (ps : List Term) (n : ℕ) (ds : List ℕ) → s ≤ n → n + length ps ≤ N → OwnTerms ts ps → Has words n (leaves TERM ps) → Listed 4 ds → before n ≡ pack ds →
      (before (n + length ps) ≡ pack (adds ds (map digit_of ps))) × Listed 4 (adds ds (map digit_of ps))
  unfolding leaves Has OwnTerms adds
  terms_free [] n ds l h o r i t = let e : n + 0 ≡ n = omega arith in (rw e t, i)
  terms_free (p ∷ ps) n ds l h o r i t =
      let e : n + suc (length ps) ≡ n + 1 + length ps = omega arith in
      rw e (terms_free ps (n + 1) (add ds (digit_of p)) (omega arith) (omega arith) o.1 r.1 (listed_add 4 ds (digit_of p) i (digit_small p)) (leaf_free n p ds l (omega arith) o.0 r.0 i t))

  -- the word that closes an atom
  atom_free : (k c p q r : ℕ) → 10 ≤ c → c < 14 → s ≤ k → k < N → get_or words k 0 ≡ word c p q r → get_or fr k 0 ≡ before k
  unfolding free_word
  atom_free k c p q r lc hc l h e =
      filled k l h ∙ rw (e, kind_word c p q r (omega arith), op_leaf c lc (omega arith), le-ltb c 10 lc, lt-ltb c 14 hc) refl

  -- a half of the elements that match a pattern
  half_free : (k p q r : ℕ) → s ≤ k → k < N → get_or words k 0 ≡ word MATCH p q r → get_or fr k 0 ≡ before k
  unfolding free_word
  half_free k p q r l h e = filled k l h ∙ rw (e, kind_word MATCH p q r (omega arith), op_leaf MATCH (omega arith) (omega arith)) refl

  -- an operator's word
  operator_free : (k c p q r : ℕ) → 14 ≤ c → c < 43 → (c ≡ MATCH → ⊥) → s ≤ k → k < N → get_or words k 0 ≡ word c p q r → get_or fr k 0 ≡ operator (at words) D (at fr) k (word c p q r)
  unfolding free_word
  operator_free k c p q r lc hc z l h e =
      filled k l h ∙ rw (e, kind_word c p q r (omega arith), op_leaf c (omega arith) hc, le-ltb c 10 (omega arith), le-ltb c 14 lc, ne_eqb c MATCH z) refl

  -- the word of an expression with none free
  closed_free : (k c p q r : ℕ) → s ≤ k → k < N → 22 ≤ c → c < 43 → (c ≡ MATCH → ⊥) → get_or words k 0 ≡ word c p q r → get_or fr k 0 ≡ 0
  unfolding operator
  closed_free k c p q r l h lc hc z e =
      operator_free k c p q r (omega arith) hc z l h e
      ∙ rw (kind_word c p q r (omega arith), ne_eqb c 14 (λ i. omega arith), le-ltb c 19 (omega arith), le-ltb c 21 (omega arith), ne_eqb c 21 (λ i. omega arith)) refl

  below_there : (k c : ℕ) → c < k → below (at fr) k c ≡ get_or fr c 0
  unfolding below
  below_there k c h = rw (lt-ltb c k h) refl

  module _ (k c p q r : ℕ) (hp : p < 65536) (hq : q < 65536) (l : s ≤ k) (h : k < N) (e : get_or words k 0 ≡ word c p q r) where
    negation_free : c ≡ 14 → p < k → get_or fr k 0 ≡ get_or fr p 0
    unfolding operator
    negation_free z lp =
        operator_free k c p q r (omega arith) (omega arith) (λ i. omega arith) l h e
        ∙ rw (kind_word c p q r (omega arith), p_word c p q r (omega arith) hp, z) (below_there k p lp)

    closure_free : c ≡ 21 → p < k → get_or fr k 0 ≡ get_or fr p 0
    unfolding operator
    closure_free z lp =
        operator_free k c p q r (omega arith) (omega arith) (λ i. omega arith) l h e
        ∙ rw (kind_word c p q r (omega arith), p_word c p q r (omega arith) hp, z) (below_there k p lp)

    two_free : 15 ≤ c → c < 19 → p < k → q < k → get_or fr k 0 ≡ joined (get_or fr p 0) (get_or fr q 0)
    unfolding operator
    two_free lc hc lp lq =
        operator_free k c p q r (omega arith) (omega arith) (λ i. omega arith) l h e
        ∙ rw (kind_word c p q r (omega arith), p_word c p q r (omega arith) hp, q_word c p q r (omega arith) hp hq, ne_eqb c 14 (λ z. omega arith), lt-ltb c 19 hc, below_there k p lp, below_there k q lq) refl

    quantifier_free : 19 ≤ c → c < 21 → q < k → get_or fr k 0 ≡ without (get_or fr q 0) (D (get_or words p 0))
    unfolding operator
    quantifier_free lc hc lq =
        operator_free k c p q r (omega arith) (omega arith) (λ i. omega arith) l h e
        ∙ rw (kind_word c p q r (omega arith), p_word c p q r (omega arith) hp, q_word c p q r (omega arith) hp hq, ne_eqb c 14 (λ z. omega arith), le-ltb c 19 lc, lt-ltb c 21 hc, below_there k q lq) refl

  -- what is shown of a tree whose words stand from n on
  pub record Bottom (e : Expression) (n : ℕ) : Type 0 where
    pub value : get_or fr (n + size e - 1) 0 ≡ pack (slots (free vs e))
    pub listed : Listed 4 (slots (free vs e))
    pub inside : AllIn names (free vs e)
    pub ended : before (n + size e) ≡ 0

  one_has : (p : Term) (n : ℕ) → get_or words n 0 ≡ leaf TERM p → Has words n (leaves TERM (p ∷ []))
  unfolding Has leaves
  one_has p n e = (e, tt)

  nil_in : AllIn names []
  unfolding AllIn
  nil_in = tt

  -- the slots of an atom's terms
  pub atom_slots : (ps : List Term) → TermsIn names vs loops ps → adds [] (map digit_of ps) ≡ slots (attributes vs ps)
  atom_slots ps t = terms_slots names vs loops ps [] t nil_in ∙ ap slots (nil_join (attributes vs ps))

  -- an atom whose terms stand from m on and whose last word is at k
  atom_out : (e : Expression) (n m k c p q r : ℕ) (ps : List Term) → free vs e ≡ attributes vs ps → k ≡ m + length ps → k + 1 ≡ n + size e → s ≤ m → n + size e ≤ N → 10 ≤ c → c < 14 → OwnTerms ts ps →
      TermsIn names vs loops ps → Has words m (leaves TERM ps) → get_or words k 0 ≡ word c p q r → before m ≡ 0 → Bottom e n
  atom_out e n m k c p q r ps ef ek es l h lc hc o ti w x cl =
      let t = terms_free ps m [] l (omega arith) o w nil_listed (cl ∙ sym pack_nil) in
      let i : n + size e - 1 ≡ k = omega arith in
      record {
        value = rw i (atom_free k c p q r lc hc (omega arith) (omega arith) x ∙ rw (ek, ef, ← atom_slots ps ti) t.0);
        listed = rw (ef, ← atom_slots ps ti) t.1;
        inside = rw ef (all_attributes names vs loops ps ti);
        ended = rw (← es) (after_other k c p q r (omega arith) (omega arith) (op_leaf c lc (omega arith)) x);
      }

  pair_out : (e a b : Expression) (n c : ℕ) → free vs e ≡ join (free vs a) (free vs b) → size e ≡ size a + size b + 1 → s ≤ n → n + size e ≤ N → 15 ≤ c → c < 19 →
      Covered names vs loops (in_expression a ++ in_expression b) → Has words n (flat a n ++ (flat b (n + size a) ++ (over c (n + size a) (n + size a + size b) 0 ∷ []))) →
      (Covered names vs loops (in_expression a) → n + size a ≤ N → Has words n (flat a n) → Bottom a n) →
      (Covered names vs loops (in_expression b) → s ≤ n + size a → n + size a + size b ≤ N → before (n + size a) ≡ 0 → Has words (n + size a) (flat b (n + size a)) → Bottom b (n + size a)) → Bottom e n
  pair_out e a b n c ef es l h lc hc u w first second =
      let k = n + size a + size b in
      let o = has_two words n (over c (n + size a) k 0) a b w in
      let v = covered_split names vs loops (in_expression a) (in_expression b) u in
      let A = first v.0 (omega arith) o.left in
      let B = second v.1 (omega arith) (omega arith) A.ended o.right in
      let i : n + size e - 1 ≡ k = omega arith in
      let j : k + 1 ≡ n + size e = omega arith in
      let m = map_join names (free vs a) (free vs b) A.inside B.inside B.listed.once in
      record {
        value = rw i (two_free k c (n + size a - 1) (k - 1) 0 (omega arith) (omega arith) (omega arith) (omega arith) o.root lc hc (omega (arith, size_pos a)) (omega (arith, size_pos b))
            ∙ rw (A.value, B.value, ef, m) (joined_law (slots (free vs a)) (slots (free vs b)) A.listed B.listed));
        listed = rw (ef, m) (listed_adds 4 (slots (free vs a)) (slots (free vs b)) A.listed B.listed);
        inside = rw ef (all_join names (free vs a) (free vs b) A.inside B.inside);
        ended = rw (← j) (after_other k c (n + size a - 1) (k - 1) 0 (omega arith) (omega arith) (op_leaf c (omega arith) (omega arith)) o.root);
      }

  -- a pattern whose term stands at n
  matching_out : (t : Token) (p : Term) (n : ℕ) → s ≤ n → n + 4 ≤ N → OwnTerms ts (p ∷ []) → TermsIn names vs loops (p ∷ []) → before n ≡ 0 →
      get_or words n 0 ≡ leaf TERM p → get_or words (n + 1) 0 ≡ word MATCH (number t) 0 n → get_or words (n + 2) 0 ≡ word MATCH (number t) 32 n → get_or words (n + 3) 0 ≡ word DISJUNCTION (n + 1) (n + 2) 0 →
      Bottom (matching t p) n
  unfolding free size adds
  matching_out t p n l h o ti cl x y z w =
      let ds = adds [] (map digit_of (p ∷ [])) in
      let u = terms_free (p ∷ []) n [] l (omega arith) o (one_has p n x) nil_listed (cl ∙ sym pack_nil) in
      let i : n + 1 + 1 ≡ n + 2 = omega arith in
      let j : n + 3 + 1 ≡ n + 4 = omega arith in
      let k : n + 4 - 1 ≡ n + 3 = omega arith in
      let low : get_or fr (n + 1) 0 ≡ pack ds = half_free (n + 1) (number t) 0 n (omega arith) (omega arith) y ∙ u.0 in
      let none : before (n + 2) ≡ 0 = rw (← i) (after_other (n + 1) MATCH (number t) 0 n (omega arith) (omega arith) (op_leaf MATCH (omega arith) (omega arith)) y) in
      let high : get_or fr (n + 2) 0 ≡ pack [] = half_free (n + 2) (number t) 32 n (omega arith) (omega arith) z ∙ none ∙ sym pack_nil in
      record {
        value = rw k (two_free (n + 3) DISJUNCTION (n + 1) (n + 2) 0 (omega arith) (omega arith) (omega arith) (omega arith) w (omega arith) (omega arith) (omega arith) (omega arith)
            ∙ rw (low, high, ← atom_slots (p ∷ []) ti) (joined_law ds [] u.1 nil_listed));
        listed = rw (← atom_slots (p ∷ []) ti) u.1;
        inside = all_attributes names vs loops (p ∷ []) ti;
        ended = rw (← j) (after_other (n + 3) DISJUNCTION (n + 1) (n + 2) 0 (omega arith) (omega arith) (op_leaf DISJUNCTION (omega arith) (omega arith)) w);
      }

  quantifier_out : (e a : Expression) (x : Token) (n c : ℕ) → free vs e ≡ keep (λ y. not (same y x.text)) (free vs a) → size e ≡ size a + 2 → s ≤ n → n + size e ≤ N → 19 ≤ c → c < 21 → OwnName ts x →
      get_or words n 0 ≡ word ATTRIBUTE (number x) 0 0 → Has words (n + 1) (flat a (n + 1) ++ (word c n (n + size a) 0 ∷ [])) →
      (s ≤ n + 1 → n + 1 + size a ≤ N → before (n + 1) ≡ 0 → Has words (n + 1) (flat a (n + 1)) → Bottom a (n + 1)) → Bottom e n
  unfolding takes
  quantifier_out e a x n c ef es l h lc hc ox r w inner =
      let k = n + 1 + size a in
      let o = has_one words (n + 1) (word c n (n + size a) 0) a w in
      let A = inner (omega arith) (omega arith) (after_other n ATTRIBUTE (number x) 0 0 l (omega arith) (not_leaf ATTRIBUTE (λ e. omega arith) (λ e. omega arith) (λ e. omega arith)) r) o.inner in
      let i : n + size e - 1 ≡ k = omega arith in
      let j : k + 1 ≡ n + size e = omega arith in
      let m : n + 1 + size a - 1 ≡ n + size a = omega arith in
      let v : get_or fr (n + size a) 0 ≡ pack (slots (free vs a)) = rw m at A.value in
      let g : D (get_or words n 0) ≡ slot names x.text = rw r (named_digit ATTRIBUTE x refl (omega arith) ox) in
      let q = map_remove names x.text (free vs a) A.inside in
      record {
        value = rw i (quantifier_free k c n (n + size a) 0 (omega arith) (omega arith) (omega arith) (omega arith) o.root lc hc (omega arith) ∙ rw (v, g, ef, q) (without_law (slots (free vs a)) (slot names x.text) A.listed));
        listed = rw (ef, q) (listed_remove 4 (slot names x.text) (slots (free vs a)) A.listed);
        inside = rw ef (all_keep names (λ y. not (same y x.text)) (free vs a) A.inside);
        ended = rw (← j) (after_other k c n (n + size a) 0 (omega arith) (omega arith) (op_leaf c (omega arith) (omega arith)) o.root);
      }

  one_out : (e a : Expression) (n c : ℕ) → free vs e ≡ free vs a → size e ≡ size a + 1 → s ≤ n → n + size e ≤ N → 14 ≤ c → c < 43 → get_or fr (n + size a) 0 ≡ get_or fr (n + size a - 1) 0 →
      get_or words (n + size a) 0 ≡ word c (n + size a - 1) 0 0 → Bottom a n → Bottom e n
  one_out e a n c ef es l h lc hc v w A =
      let i : n + size e - 1 ≡ n + size a = omega arith in
      let j : n + size a + 1 ≡ n + size e = omega arith in
      record {
        value = rw (i, ef) (v ∙ A.value);
        listed = rw ef A.listed;
        inside = rw ef A.inside;
        ended = rw (← j) (after_other (n + size a) c (n + size a - 1) 0 0 (omega arith) (omega arith) (op_leaf c (omega arith) hc) w);
      }

  -- an expression with none free, whose own word is at k
  closed_out : (e : Expression) (n k c p q r : ℕ) → free vs e ≡ [] → n + size e ≡ k + 1 → s ≤ k → k < N → 22 ≤ c → c < 43 → (c ≡ MATCH → ⊥) → get_or words k 0 ≡ word c p q r → Bottom e n
  closed_out e n k c p q r ef es l h lc hc z w =
      let i : n + size e - 1 ≡ k = omega arith in
      record {
        value = rw (i, ef) (closed_free k c p q r l h lc hc z w ∙ sym pack_nil);
        listed = rw ef nil_listed;
        inside = rw ef nil_in;
        ended = rw es (after_other k c p q r l (omega arith) (op_leaf c (omega arith) hc) w);
      }

  -- over two operands
  over_out : (e a b : Expression) (n c g : ℕ) → free vs e ≡ [] → size e ≡ size a + size b + 1 → s ≤ n → n + size e ≤ N → 22 ≤ c → c < 43 → (c ≡ MATCH → ⊥) →
      Has words n (flat a n ++ (flat b (n + size a) ++ (over c (n + size a) (n + size a + size b) g ∷ []))) → Bottom e n
  over_out e a b n c g ef es l h lc hc z w =
      closed_out e n (n + size a + size b) c (n + size a - 1) (n + size a + size b - 1) g ef (omega arith) (omega arith) (omega arith) lc hc z (has_two words n _ a b w).root

  two_has : (p q : Term) (n : ℕ) → get_or words n 0 ≡ leaf TERM p → get_or words (n + 1) 0 ≡ leaf TERM q → Has words n (leaves TERM (p ∷ q ∷ []))
  unfolding Has leaves
  two_has p q n a b = (a, (b, tt))

  -- at the root of each tree stand its free attributes, in order of first free occurrence
  pub bottom : (e : Expression) (n : ℕ) → OwnExpression ts e → Covered names vs loops (in_expression e) → s ≤ n → n + size e ≤ N → before n ≡ 0 → Has words n (flat e n) → Bottom e n
  unfolding size flat free in_expression OwnExpression Has Covered
  bottom (atom r ps) n o c l h cl w =
      let t = has_append words (n + 1) (leaves TERM ps) _ w.1 in
      atom_out (atom r ps) n (n + 1) (n + 1 + length ps) ATOM n (length ps) 0 ps refl refl (omega arith) (omega arith) h (omega arith) (omega arith) o.1 (covered_terms names vs loops term ps refl c.1) t.0
      (rw (length_leaves TERM ps) at t.1.0) (after_other n RELATION_NAME (number r) (length ps) 0 l (omega arith) (not_leaf RELATION_NAME (λ e. omega arith) (λ e. omega arith) (λ e. omega arith)) w.0)
  bottom (truth ps) n o c l h cl w =
      let t = has_append words n (leaves TERM ps) _ w in
      atom_out (truth ps) n n (n + length ps) TRUTH n (length ps) 0 ps refl refl (omega arith) l h (omega arith) (omega arith) o (covered_terms names vs loops term ps refl c) t.0 (rw (length_leaves TERM ps) at t.1.0) cl
  bottom (falsity ps) n o c l h cl w =
      let t = has_append words n (leaves TERM ps) _ w in
      atom_out (falsity ps) n n (n + length ps) FALSITY n (length ps) 0 ps refl refl (omega arith) l h (omega arith) (omega arith) o (covered_terms names vs loops term ps refl c) t.0 (rw (length_leaves TERM ps) at t.1.0) cl
  bottom (compare g p q) n o c l h cl w =
      let i : n + 1 + 1 ≡ n + 2 = omega arith in
      atom_out (compare g p q) n n (n + 2) ORDER n (sign_number g) 0 (p ∷ q ∷ []) refl refl (omega arith) l h (omega arith) (omega arith) o (covered_terms names vs loops term (p ∷ q ∷ []) refl c) (two_has p q n w.0 w.1.0) (rw i at w.1.1.0) cl
  bottom (matching t p) n o c l h cl w =
      let i : n + 1 + 1 ≡ n + 2 = omega arith in
      let j : n + 1 + 1 + 1 ≡ n + 3 = omega arith in
      let a : n + 2 - 1 ≡ n + 1 = omega arith in
      let b : n + 3 - 1 ≡ n + 2 = omega arith in
      matching_out t p n l h o.1 (covered_terms names vs loops term (p ∷ []) refl c) cl w.0 w.1.0 (rw i at w.1.1.0) (rw (j, a, b) at w.1.1.1.0)
  bottom (negation a) n o c l h cl w =
      let t = has_one words n _ a w in
      let A = bottom a n o c l (omega arith) cl t.inner in
      one_out (negation a) a n NEGATION refl refl l h (omega arith) (omega arith)
      (negation_free (n + size a) NEGATION (n + size a - 1) 0 0 (omega arith) (omega arith) (omega arith) (omega arith) t.root refl (omega (arith, size_pos a))) t.root A
  bottom (conjunction a b) n o c l h cl w = pair_out (conjunction a b) a b n CONJUNCTION refl refl l h (omega arith) (omega arith) c w (λ u i v. bottom a n o.0 u l i cl v) (bottom b (n + size a) o.1)
  bottom (disjunction a b) n o c l h cl w = pair_out (disjunction a b) a b n DISJUNCTION refl refl l h (omega arith) (omega arith) c w (λ u i v. bottom a n o.0 u l i cl v) (bottom b (n + size a) o.1)
  bottom (implication a b) n o c l h cl w = pair_out (implication a b) a b n IMPLICATION refl refl l h (omega arith) (omega arith) c w (λ u i v. bottom a n o.0 u l i cl v) (bottom b (n + size a) o.1)
  bottom (equivalence a b) n o c l h cl w = pair_out (equivalence a b) a b n EQUIVALENCE refl refl l h (omega arith) (omega arith) c w (λ u i v. bottom a n o.0 u l i cl v) (bottom b (n + size a) o.1)
  bottom (exists x a) n o c l h cl w = quantifier_out (exists x a) a x n EXISTS refl refl l h (omega arith) (omega arith) o.0 w.0 w.1 (bottom a (n + 1) o.1 c.1)
  bottom (for_all x a) n o c l h cl w = quantifier_out (for_all x a) a x n FOR_ALL refl refl l h (omega arith) (omega arith) o.0 w.0 w.1 (bottom a (n + 1) o.1 c.1)
  bottom (closure_of a) n o c l h cl w =
      let t = has_one words n _ a w in
      let A = bottom a n o c l (omega arith) cl t.inner in
      one_out (closure_of a) a n CLOSURE refl refl l h (omega arith) (omega arith)
      (closure_free (n + size a) CLOSURE (n + size a - 1) 0 0 (omega arith) (omega arith) (omega arith) (omega arith) t.root refl (omega (arith, size_pos a))) t.root A
  bottom (compare_relations g a b) n o c l h cl w = over_out (compare_relations g a b) a b n COMPARISON (sign_number g) refl refl l h (omega arith) (omega arith) (λ i. omega arith) w
  bottom (literal t) n o c l h cl w = closed_out (literal t) n n LITERAL (number t) 0 0 refl refl l (omega arith) (omega arith) (omega arith) (λ i. omega arith) w.0
  bottom (count_of a) n o c l h cl w =
      closed_out (count_of a) n (n + size a) COUNT (n + size a - 1) 0 0 refl (omega arith) (omega arith) (omega arith) (omega arith) (omega arith) (λ i. omega arith) (has_one words n _ a w).root
  bottom (sum_of a b) n o c l h cl w = over_out (sum_of a b) a b n SUM 0 refl refl l h (omega arith) (omega arith) (λ i. omega arith) w
  bottom (ratio_of a b) n o c l h cl w = over_out (ratio_of a b) a b n RATIO 0 refl refl l h (omega arith) (omega arith) (λ i. omega arith) w
  bottom (compare_figures g a b) n o c l h cl w = over_out (compare_figures g a b) a b n FIGURES (sign_number g) refl refl l h (omega arith) (omega arith) (λ i. omega arith) w
