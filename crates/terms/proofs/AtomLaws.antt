-- Atoms: the words of each, and how the grammar reads it.
use Rattle.std.specs.Prelude.{Ok, Err}
use mathlib.Core.List.{List, [], ◌∷◌, ◌++◌}
use mathlib.Core.Logic.{◌⊎◌, ⊎_elim}
use mathlib.Core.Path.{◌≡◌, refl, ap, sym, subst, ◌∙◌}
use native.Mathlib.Omega.{arith}
use Prim.Native.Nat.{ℕ, ◌+◌, ◌-◌, ◌≤◌, ◌<◌}
use lib.ListN.{length, drop, set}
use lib.Seq.{sets}
use Rattle.definition.proofs.GrammarReads.{Rule, Reads, Fails, read!, fail!, ◌▸◌, ◌▹◌, stop!, done!, token!, no_token! }
use Rattle.definition.proofs.GrammarExpressions.{no_term!, true_rule, false_rule, sign_before_rule, not_primary, no_primary!, atom!, atom_fails!, between!, between_fails!, name_alone!, string_alone!, any_alone! }
use Rattle.definition.specs.Grammar.{Tree, Nonterminal, Primary, Terms, Term, atom, true_atom, false_atom, sign_before, sign_between}
use Rattle.definition.specs.Reader.{phrase, fixed}
use Rattle.definition.specs.Syntax.{says}
use Rattle.definition.specs.Token.{Token, token_at, Sign, sign, key, COMMA, LPAREN, RPAREN, TRUE, FALSE}
use Rattle.terms.proofs.LeafLaws.{a_term, Leaf, a_name_leaf, a_string_leaf, any_leaf, which_leaf, leaf_positive, no_term, leaf_within}
use Rattle.terms.proofs.TermsLaws.{terms_read, terms_fail}
use Rattle.terms.proofs.TokenLaws.{kind_within, key_first, key_then, name_first, string_first, sign_first, sign_code, not_key, not_name, not_string, not_sign, name_number}
use Rattle.terms.proofs.WriteLaws.{wrote_next, wrote_before, wrote_as}
use Rattle.terms.specs.declared.ParseError.{ParseError}
use Rattle.terms.specs.declared.ParseError.TheVariants.{NoProgram}
use Rattle.terms.specs.Phrases.{Answer, row_of, token_of, kind_in, seen, Meaning, Parsed, IsPrimary}
use Rattle.terms.specs.Terms.{leaf_of, leaf_in, Listed, Unlisted, IsListed, Truth, is_true, is_false, IsSign, Plain}
use Rattle.words.proofs.Sizes.{length_leaves}
use Rattle.words.specs.Fields.{word, TERM, RELATION_NAME, ATOM, TRUTH, FALSITY, ORDER}
use Rattle.words.specs.Raw.{leaf, leaves, flat, number, sign_number}
use Rattle.lexer.specs.Tokens.{sign_of}

pub refused : {x : Nonterminal} {e : Meaning x} {ws : List ℕ} {p n d : ℕ} {r : ParseError} {A B : List ℕ} → token_of r ≤ length ws → Fails d (phrase x ∷ []) (drop p (seen ws)) (row_of r) (drop (token_of r) (seen ws)) → Parsed x e ws p n d A B (Err r)
refused h f = record { bounds = h; at = λ ts i. f }

pub listed_of : {ws : List ℕ} {k p n q m : ℕ} {A A' : List ℕ} {a : Answer} → IsListed ws k p n A A' a → a ≡ Ok (q, m) → Listed ws k p n A A' q m
listed_of h e = rw e at h.is

pub unlisted_of : {ws : List ℕ} {k p n : ℕ} {r : ParseError} {A A' : List ℕ} {a : Answer} → IsListed ws k p n A A' a → a ≡ Err r → Unlisted ws k p (token_of r) (row_of r)
unlisted_of h e = rw e at h.is

-- what each atom says, as words
many_terms : (ts : List Token) (u : Tree Terms) {xs : List ℕ} → leaves TERM (says ts u) ≡ xs → length (says ts u) ≡ length xs
many_terms ts u f = sym (length_leaves TERM (says ts u)) ∙ ap length f

atom_words : (ts : List Token) (r n k : ℕ) (u : Tree Terms) (xs : List ℕ) → number (token_at ts r) ≡ r → leaves TERM (says ts u) ≡ xs → k ≡ length xs → (word RELATION_NAME r k 0 ∷ xs) ++ (word ATOM n k 0 ∷ []) ≡ flat (says ts (atom r u)) n
unfolding says flat
atom_words ts r n k u xs e f g = sym (simp (e, many_terms ts u f, f, g))

true_words : (ts : List Token) (n k : ℕ) (u : Tree Terms) (xs : List ℕ) → leaves TERM (says ts u) ≡ xs → k ≡ length xs → xs ++ (word TRUTH n k 0 ∷ []) ≡ flat (says ts (true_atom u)) n
unfolding says flat
true_words ts n k u xs f g = sym (simp (many_terms ts u f, f, g))

false_words : (ts : List Token) (n k : ℕ) (u : Tree Terms) (xs : List ℕ) → leaves TERM (says ts u) ≡ xs → k ≡ length xs → xs ++ (word FALSITY n k 0 ∷ []) ≡ flat (says ts (false_atom u)) n
unfolding says flat
false_words ts n k u xs f g = sym (simp (many_terms ts u f, f, g))

before_words : (ts : List Token) (g : Sign) (a b : Tree Term) (n x y k : ℕ) → leaf TERM (says ts a) ≡ x → leaf TERM (says ts b) ≡ y → sign_number g ≡ k → x ∷ y ∷ word ORDER n k 0 ∷ [] ≡ flat (says ts (sign_before g a b)) n
unfolding says flat
before_words ts g a b n x y k e f i = sym (simp (e, f, i))

between_words : (ts : List Token) (g : Sign) (a b : Tree Term) (n x y k : ℕ) → leaf TERM (says ts a) ≡ x → leaf TERM (says ts b) ≡ y → sign_number g ≡ k → x ∷ y ∷ word ORDER n k 0 ∷ [] ≡ flat (says ts (sign_between a g b)) n
unfolding says flat
between_words ts g a b n x y k e f i = sym (simp (e, f, i))

-- a relation's atom
module _ {ws : List ℕ} {p n : ℕ} {A A₁ : List ℕ} {a : Answer} (e : kind_in ws p ≡ 47) (f : kind_in ws (p + 1) ≡ 0) (h : IsListed ws TERM (p + 2) (n + 1) A A₁ a) where
  pub relation_fails : {r : ParseError} → a ≡ Err r → {B : List ℕ} → (d : ℕ) → d ≤ 32 → IsPrimary ws p n d A B (Err r)
  relation_fails i d l =
      let u = unlisted_of h i in
      refused u.within (rw u.ten (atom_fails! l (name_first ws p e) (key_then ws (p + 1) (p + 2) (omega arith) f (omega arith)) (terms_fail d l u.unclosed u.broken)))

  pub relation_reads : {q m w v : ℕ} → a ≡ Ok (q, m) → w ≡ word RELATION_NAME p (m - n - 1) 0 → v ≡ word ATOM n (m - n - 1) 0 → (d : ℕ) → d ≤ 32 → IsPrimary ws p n d A (set (set A₁ n w) m v) (Ok (q, m + 1))
  relation_reads {q} {m} {w} {v} i x y d l =
      let u = listed_of h i in
      let r = terms_read u.brackets in
      record {
        bounds = record { more = omega arith; paid = omega arith; within = u.within };
        at = λ ts g. record {
          tree = atom p r.tree;
          reads = atom! l (name_first ws p e) (key_then ws (p + 1) (p + 2) (omega arith) f (omega arith)) (r.reads d l);
          wrote = wrote_as (ap (λ t. (t ∷ u.words) ++ (v ∷ [])) x ∙ ap (λ t. (word RELATION_NAME p (m - n - 1) 0 ∷ u.words) ++ (t ∷ [])) y ∙ atom_words ts p n (m - n - 1) r.tree u.words (name_number g p e) (r.said ts g) (omega (arith, u.wrote.many))) (wrote_next (wrote_before u.wrote w) v);
        };
      }

-- TRUE and FALSE
record TruthLaw (t k : ℕ) : Type 0 where
  low : t < 41
  tree : Tree Terms → Tree Primary
  takes : Rule (phrase Primary) (key t) (fixed LPAREN ∷ phrase Terms ∷ fixed RPAREN ∷ []) (λ fs. tree fs.1.0)
  words : (ts : List Token) (n j : ℕ) (u : Tree Terms) (xs : List ℕ) → leaves TERM (says ts u) ≡ xs → j ≡ length xs → xs ++ (word k n j 0 ∷ []) ≡ flat (says ts (tree u)) n

truth_law : {t k : ℕ} → Truth t k → TruthLaw t k
truth_law is_true = record { low = omega arith; tree = true_atom; takes = true_rule; words = true_words }
truth_law is_false = record { low = omega arith; tree = false_atom; takes = false_rule; words = false_words }

module _ (ws : List ℕ) (p n k : ℕ) (A : List ℕ) (t : Truth (kind_in ws p) k) where
  pub truth_open : (kind_in ws (p + 1) ≡ 0 → ⊥) → {B : List ℕ} → (d : ℕ) → d ≤ 32 → IsPrimary ws p n d A B (Err (NoProgram (p + 1)))
  truth_open f d l =
      let b = truth_law t in
      let i = kind_within ws p (omega (arith, b.low)) in
      refused (omega arith) (fail! b.takes l (key_first ws p refl b.low) (stop! (no_token! (not_key ws (p + 1) f))))

  module _ {A₁ : List ℕ} {a : Answer} (f : kind_in ws (p + 1) ≡ 0) (h : IsListed ws TERM (p + 2) n A A₁ a) where
    pub truth_stops : {r : ParseError} → a ≡ Err r → {B : List ℕ} → (d : ℕ) → d ≤ 32 → IsPrimary ws p n d A B (Err r)
    truth_stops i d l =
        let b = truth_law t in
        let u = unlisted_of h i in
        refused u.within (rw u.ten (fail! b.takes l (key_first ws p refl b.low) (token! l (key_then ws (p + 1) (p + 2) (omega arith) f (omega arith)) ▹ terms_fail d l u.unclosed u.broken)))

    pub truth_reads : {q m w : ℕ} → a ≡ Ok (q, m) → w ≡ word k n (m - n) 0 → (d : ℕ) → d ≤ 32 → IsPrimary ws p n d A (set A₁ m w) (Ok (q, m + 1))
    truth_reads {q} {m} {w} i x d l =
        let b = truth_law t in
        let u = listed_of h i in
        let r = terms_read u.brackets in
        record {
          bounds = record { more = omega arith; paid = omega arith; within = u.within };
          at = λ ts g. record {
            tree = b.tree r.tree;
            reads = read! b.takes l (key_first ws p refl b.low) (token! l (key_then ws (p + 1) (p + 2) (omega arith) f (omega arith)) ▸ r.reads d l);
            wrote = wrote_as (ap (λ v. u.words ++ (v ∷ [])) x ∙ b.words ts n (m - n) r.tree u.words (r.said ts g) (omega (arith, u.wrote.many))) (wrote_next u.wrote w);
          };
        }

-- a sign before two terms
module _ (ws : List ℕ) (p n : ℕ) (A : List ℕ) (t : IsSign (kind_in ws p)) where
  sign_fails : (r d : ℕ) → r ≤ length ws → d ≤ 32 → Fails d (fixed LPAREN ∷ phrase Term ∷ fixed COMMA ∷ phrase Term ∷ fixed RPAREN ∷ []) (drop (p + 1) (seen ws)) 10 (drop r (seen ws)) → {B : List ℕ} → IsPrimary ws p n d A B (Err (NoProgram r))
  sign_fails r d i l f = refused i (fail! sign_before_rule l (sign_first ws p t.low t.high) f)

  pub before_open : (kind_in ws (p + 1) ≡ 0 → ⊥) → {B : List ℕ} → (d : ℕ) → d ≤ 32 → IsPrimary ws p n d A B (Err (NoProgram (p + 1)))
  before_open f d l = let i = kind_within ws p (omega arith) in sign_fails (p + 1) d (omega arith) l (stop! (no_token! (not_key ws (p + 1) f)))

  module _ (e : kind_in ws (p + 1) ≡ 0) where
    opened : (d : ℕ) → d ≤ 32 → Reads d (fixed LPAREN ∷ []) (drop (p + 1) (seen ws)) (tt, tt) (drop (p + 2) (seen ws))
    opened d l = token! l (key_then ws (p + 1) (p + 2) (omega arith) e (omega arith))

    pub before_first : leaf_in ws (p + 2) TERM ≡ 0 → {B : List ℕ} → (d : ℕ) → d ≤ 32 → IsPrimary ws p n d A B (Err (NoProgram (p + 2)))
    before_first f d l = let i = kind_within ws (p + 1) (omega arith) in sign_fails (p + 2) d (omega arith) l (opened d l ▹ stop! (no_term! (no_term ws (p + 2) f)))

    module _ (f : leaf_in ws (p + 2) TERM ≡ 0 → ⊥) where
      one : (d : ℕ) → d ≤ 32 → Reads d (phrase Term ∷ []) (drop (p + 2) (seen ws)) ((a_term ws (p + 2) f).tree, tt) (drop (p + 3) (seen ws))
      one d l = let i : p + 2 + 1 ≡ p + 3 = omega arith in subst (λ j. Reads d (phrase Term ∷ []) (drop (p + 2) (seen ws)) ((a_term ws (p + 2) f).tree, tt) (drop j (seen ws))) i ((a_term ws (p + 2) f).reads d l)

      pub before_comma : (kind_in ws (p + 3) ≡ COMMA → ⊥) → {B : List ℕ} → (d : ℕ) → d ≤ 32 → IsPrimary ws p n d A B (Err (NoProgram (p + 3)))
      before_comma g d l = let i = leaf_within ws (p + 2) TERM f in sign_fails (p + 3) d (omega arith) l (opened d l ▹ one d l ▹ stop! (no_token! (not_key ws (p + 3) g)))

      module _ (g : kind_in ws (p + 3) ≡ COMMA) where
        comma : (d : ℕ) → d ≤ 32 → Reads d (fixed COMMA ∷ []) (drop (p + 3) (seen ws)) (tt, tt) (drop (p + 4) (seen ws))
        comma d l = token! l (key_then ws (p + 3) (p + 4) (omega arith) g (omega arith))

        pub before_second : leaf_in ws (p + 4) TERM ≡ 0 → {B : List ℕ} → (d : ℕ) → d ≤ 32 → IsPrimary ws p n d A B (Err (NoProgram (p + 4)))
        before_second h d l = let i = kind_within ws (p + 3) (omega arith) in sign_fails (p + 4) d (omega arith) l (opened d l ▹ one d l ▹ comma d l ▹ stop! (no_term! (no_term ws (p + 4) h)))

        module _ (h : leaf_in ws (p + 4) TERM ≡ 0 → ⊥) where
          two : (d : ℕ) → d ≤ 32 → Reads d (phrase Term ∷ []) (drop (p + 4) (seen ws)) ((a_term ws (p + 4) h).tree, tt) (drop (p + 5) (seen ws))
          two d l = let i : p + 4 + 1 ≡ p + 5 = omega arith in subst (λ j. Reads d (phrase Term ∷ []) (drop (p + 4) (seen ws)) ((a_term ws (p + 4) h).tree, tt) (drop j (seen ws))) i ((a_term ws (p + 4) h).reads d l)

          pub before_closed : (kind_in ws (p + 5) ≡ RPAREN → ⊥) → {B : List ℕ} → (d : ℕ) → d ≤ 32 → IsPrimary ws p n d A B (Err (NoProgram (p + 5)))
          before_closed k d l = let i = leaf_within ws (p + 4) TERM h in sign_fails (p + 5) d (omega arith) l (opened d l ▹ one d l ▹ comma d l ▹ two d l ▹ stop! (no_token! (not_key ws (p + 5) k)))

          pub before_reads : kind_in ws (p + 5) ≡ RPAREN → {B : List ℕ} → B ≡ sets A n (leaf_in ws (p + 2) TERM ∷ leaf_in ws (p + 4) TERM ∷ word ORDER n (kind_in ws p - 41) 0 ∷ []) → (d : ℕ) → d ≤ 32 → IsPrimary ws p n d A B (Ok (p + 6, n + 3))
          before_reads k x d l =
              let i = kind_within ws (p + 5) (omega arith) in
              let j = sign_code (kind_in ws p) t.low t.high in
              record {
                bounds = record { more = omega arith; paid = omega arith; within = omega arith };
                at = λ ts o. record {
                  tree = sign_before (sign_of (kind_in ws p)) (a_term ws (p + 2) f).tree (a_term ws (p + 4) h).tree;
                  reads = read! sign_before_rule l (sign_first ws p t.low t.high) (opened d l ▸ one d l ▸ comma d l ▸ two d l ▸ token! l (key_then ws (p + 5) (p + 6) (omega arith) k (omega arith)) ▸ done!);
                  wrote = wrote_as (before_words ts (sign_of (kind_in ws p)) (a_term ws (p + 2) f).tree (a_term ws (p + 4) h).tree n (leaf_in ws (p + 2) TERM) (leaf_in ws (p + 4) TERM) (kind_in ws p - 41) ((a_term ws (p + 2) f).said ts o) ((a_term ws (p + 4) h).said ts o) (omega arith)) (record { is = x; many = refl });
                };
              }

-- a term, a sign and a term
module _ (ws : List ℕ) (p n : ℕ) (A : List ℕ) (t : leaf_in ws p TERM ≡ 0 → ⊥) (u : kind_in ws p ≡ 47 → kind_in ws (p + 1) ≡ 0 → ⊥) where
  pub between_alone : (41 ≤ kind_in ws (p + 1) → kind_in ws (p + 1) ≤ 46 → ⊥) → {B : List ℕ} → (d : ℕ) → d ≤ 32 → IsPrimary ws p n d A B (Err (NoProgram (p + 1)))
  between_alone f d l = let i = leaf_within ws p TERM t in refused (omega arith) (by (which_leaf (kind_in ws p) p TERM t))
    where
      by : Leaf (kind_in ws p) TERM → Fails d (phrase Primary ∷ []) (drop p (seen ws)) 10 (drop (p + 1) (seen ws))
      by (a_name_leaf e) = name_alone! l (name_first ws p e) (not_key ws (p + 1) (u e)) (not_sign ws (p + 1) f)
      by (a_string_leaf e) = string_alone! l (string_first ws p e) (not_sign ws (p + 1) f)
      by (any_leaf e g) = any_alone! l (key_first ws p e (omega arith)) (not_sign ws (p + 1) f)

  module _ (low : 41 ≤ kind_in ws (p + 1)) (high : kind_in ws (p + 1) ≤ 46) where
    signed : drop (p + 1) (seen ws) ≡ sign (sign_of (kind_in ws (p + 1))) ∷ drop (p + 2) (seen ws)
    signed = let i : p + 1 + 1 ≡ p + 2 = omega arith in sign_first ws (p + 1) low high ∙ ap (λ j. sign (sign_of (kind_in ws (p + 1))) ∷ drop j (seen ws)) i

    pub between_second : leaf_in ws (p + 2) TERM ≡ 0 → {B : List ℕ} → (d : ℕ) → d ≤ 32 → IsPrimary ws p n d A B (Err (NoProgram (p + 2)))
    between_second h d l = let i = kind_within ws (p + 1) (omega arith) in refused (omega arith) (between_fails! (a_term ws p t).tree l (a_term ws p t).tokens signed (no_term! (no_term ws (p + 2) h)))

    pub between_reads : (h : leaf_in ws (p + 2) TERM ≡ 0 → ⊥) → {B : List ℕ} → B ≡ sets A n (leaf_in ws p TERM ∷ leaf_in ws (p + 2) TERM ∷ word ORDER n (kind_in ws (p + 1) - 41) 0 ∷ []) → (d : ℕ) → d ≤ 32 → IsPrimary ws p n d A B (Ok (p + 3, n + 3))
    between_reads h x d l =
        let i = leaf_within ws (p + 2) TERM h in
        let j = sign_code (kind_in ws (p + 1)) low high in
        let k : p + 2 + 1 ≡ p + 3 = omega arith in
        record {
          bounds = record { more = omega arith; paid = omega arith; within = omega arith };
          at = λ ts o. record {
            tree = sign_between (a_term ws p t).tree (sign_of (kind_in ws (p + 1))) (a_term ws (p + 2) h).tree;
            reads = between! (a_term ws p t).tree l (a_term ws p t).tokens signed (subst (λ j. Reads d (phrase Term ∷ []) (drop (p + 2) (seen ws)) ((a_term ws (p + 2) h).tree, tt) (drop j (seen ws))) k ((a_term ws (p + 2) h).reads d l));
            wrote = wrote_as (between_words ts (sign_of (kind_in ws (p + 1))) (a_term ws p t).tree (a_term ws (p + 2) h).tree n (leaf_in ws p TERM) (leaf_in ws (p + 2) TERM) (kind_in ws (p + 1) - 41) ((a_term ws p t).said ts o) ((a_term ws (p + 2) h).said ts o) (omega arith)) (record { is = x; many = refl });
          };
        }

-- no atom, and nothing that opens a level
pub no_atom : (ws : List ℕ) (p n : ℕ) (A : List ℕ) → p ≤ length ws → Plain (kind_in ws p) → (kind_in ws p ≡ 14 → ⊥) → (kind_in ws p ≡ 39 → ⊥) → (kind_in ws p ≡ 40 → ⊥) → (41 ≤ kind_in ws p → kind_in ws p ≤ 46 → ⊥) → (kind_in ws p ≡ 47 → ⊥) → (kind_in ws p ≡ 48 → ⊥) → (kind_in ws p ≡ 49 → ⊥) → {B : List ℕ} → (d : ℕ) → d ≤ 32 → IsPrimary ws p n d A B (Err (NoProgram p))
no_atom ws p n A h b any tru fal sig nam str pat d l =
    refused h (no_primary! (not_primary _ (not_name ws p nam) (not_string ws p str) (not_sign ws p sig) (not_key ws p b.group) (not_key ws p b.ex) (not_key ws p b.fa) (not_key ws p b.tc) (not_key ws p b.tcfast) (not_key ws p tru) (not_key ws p fal) (not_key ws p pat) (not_key ws p any)))

pub truth_small : {t k : ℕ} → Truth t k → k < 256
truth_small is_true = omega arith
truth_small is_false = omega arith

pub true_here : {t : ℕ} → t ≡ TRUE → Truth t TRUTH
true_here e = subst (λ t. Truth t TRUTH) (sym e) is_true

pub false_here : {t : ℕ} → t ≡ FALSE → Truth t FALSITY
false_here e = subst (λ t. Truth t FALSITY) (sym e) is_false

-- "_" or a string: a term, and no name
pub no_name_leaf : (t p : ℕ) → (t ≡ 14) ⊎ (t ≡ 48) → (leaf_of t p TERM ≡ 0 → ⊥) × (t ≡ 47 → ⊥)
no_name_leaf t p = ⊎_elim (λ e. (leaf_positive t p TERM (omega arith) (any_leaf e refl), λ f. omega arith)) (λ e. (leaf_positive t p TERM (omega arith) (a_string_leaf e), λ f. omega arith))

pub sign_here : (k t : ℕ) → k ≡ t → 39 ≤ k → (k ≡ TRUE → ⊥) → (k ≡ FALSE → ⊥) → k < 47 → IsSign t
sign_here k t e a b c d = record { low = omega arith; high = omega arith }
