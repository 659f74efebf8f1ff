-- A pattern and its term: their words, and how the grammar reads them.
use Rattle.std.specs.Prelude.{Ok, Err}
use mathlib.Core.List.{List, [], ◌∷◌}
use mathlib.Core.Path.{◌≡◌, refl, sym, subst}
use native.Mathlib.Omega.{arith}
use Prim.Native.Nat.{ℕ, ◌+◌, ◌-◌, ◌≤◌}
use lib.ListN.{length, drop}
use lib.Seq.{sets}
use Rattle.definition.proofs.GrammarReads.{Reads, Fails, read!, fail!, ◌▸◌, ◌▹◌, stop!, done!, token!, no_token!, string!, no_string! }
use Rattle.definition.proofs.GrammarExpressions.{no_term!, pattern_rule}
use Rattle.definition.specs.Grammar.{Tree, Term, pattern_atom}
use Rattle.definition.specs.Reader.{phrase, fixed, any_string}
use Rattle.definition.specs.Syntax.{says}
use Rattle.definition.specs.Token.{Token, token_at, LPAREN, RPAREN}
use Rattle.terms.proofs.AtomLaws.{refused}
use Rattle.terms.proofs.LeafLaws.{a_term, no_term, leaf_within}
use Rattle.terms.proofs.TokenLaws.{kind_within, key_then, mark_first, string_then, string_number, not_key, not_string}
use Rattle.terms.proofs.WriteLaws.{wrote_as}
use Rattle.terms.specs.declared.ParseError.TheVariants.{NoProgram}
use Rattle.terms.specs.Phrases.{kind_in, seen, IsPrimary}
use Rattle.terms.specs.Terms.{leaf_in}
use Rattle.words.specs.Fields.{word, TERM, MATCH, DISJUNCTION}
use Rattle.words.specs.Raw.{leaf, flat, number}

-- what it says, as words
pattern_words : (ts : List Token) (s n x : ℕ) (a : Tree Term) → number (token_at ts s) ≡ s → leaf TERM (says ts a) ≡ x
    → x ∷ word MATCH s 0 n ∷ word MATCH s 32 n ∷ word DISJUNCTION (n + 1) (n + 2) 0 ∷ [] ≡ flat (says ts (pattern_atom s a)) n
unfolding says flat
pattern_words ts s n x a e f =
    let i : n + 2 - 1 ≡ n + 1 = omega arith in
    let j : n + 3 - 1 ≡ n + 2 = omega arith in
    sym (simp (e, f, i, j))

module _ (ws : List ℕ) (p n : ℕ) (A : List ℕ) (t : kind_in ws p ≡ 49) where
  pattern_fails : (q d : ℕ) → q ≤ length ws → d ≤ 32 → Fails d (any_string ∷ fixed LPAREN ∷ phrase Term ∷ fixed RPAREN ∷ []) (drop (p + 1) (seen ws)) 10 (drop q (seen ws)) → {B : List ℕ} → IsPrimary ws p n d A B (Err (NoProgram q))
  pattern_fails q d h l f = refused h (fail! pattern_rule l (mark_first ws p t (omega arith) (omega arith)) f)

  pub pattern_missing : (kind_in ws (p + 1) ≡ 48 → ⊥) → {B : List ℕ} → (d : ℕ) → d ≤ 32 → IsPrimary ws p n d A B (Err (NoProgram (p + 1)))
  pattern_missing f d l = let i = kind_within ws p (omega arith) in pattern_fails (p + 1) d (omega arith) l (stop! (no_string! (not_string ws (p + 1) f)))

  module _ (s : kind_in ws (p + 1) ≡ 48) where
    spelled : (d : ℕ) → d ≤ 32 → Reads d (any_string ∷ []) (drop (p + 1) (seen ws)) (p + 1, tt) (drop (p + 2) (seen ws))
    spelled d l = string! l (string_then ws (p + 1) (p + 2) (omega arith) s)

    pub pattern_open : (kind_in ws (p + 2) ≡ LPAREN → ⊥) → {B : List ℕ} → (d : ℕ) → d ≤ 32 → IsPrimary ws p n d A B (Err (NoProgram (p + 2)))
    pattern_open f d l = let i = kind_within ws (p + 1) (omega arith) in pattern_fails (p + 2) d (omega arith) l (spelled d l ▹ stop! (no_token! (not_key ws (p + 2) f)))

    module _ (e : kind_in ws (p + 2) ≡ LPAREN) where
      opened : (d : ℕ) → d ≤ 32 → Reads d (fixed LPAREN ∷ []) (drop (p + 2) (seen ws)) (tt, tt) (drop (p + 3) (seen ws))
      opened d l = token! l (key_then ws (p + 2) (p + 3) (omega arith) e (omega arith))

      pub pattern_term : leaf_in ws (p + 3) TERM ≡ 0 → {B : List ℕ} → (d : ℕ) → d ≤ 32 → IsPrimary ws p n d A B (Err (NoProgram (p + 3)))
      pattern_term f d l = let i = kind_within ws (p + 2) (omega arith) in pattern_fails (p + 3) d (omega arith) l (spelled d l ▹ opened d l ▹ stop! (no_term! (no_term ws (p + 3) f)))

      module _ (f : leaf_in ws (p + 3) TERM ≡ 0 → ⊥) where
        one : (d : ℕ) → d ≤ 32 → Reads d (phrase Term ∷ []) (drop (p + 3) (seen ws)) ((a_term ws (p + 3) f).tree, tt) (drop (p + 4) (seen ws))
        one d l = let i : p + 3 + 1 ≡ p + 4 = omega arith in subst (λ j. Reads d (phrase Term ∷ []) (drop (p + 3) (seen ws)) ((a_term ws (p + 3) f).tree, tt) (drop j (seen ws))) i ((a_term ws (p + 3) f).reads d l)

        pub pattern_closed : (kind_in ws (p + 4) ≡ RPAREN → ⊥) → {B : List ℕ} → (d : ℕ) → d ≤ 32 → IsPrimary ws p n d A B (Err (NoProgram (p + 4)))
        pattern_closed k d l = let i = leaf_within ws (p + 3) TERM f in pattern_fails (p + 4) d (omega arith) l (spelled d l ▹ opened d l ▹ one d l ▹ stop! (no_token! (not_key ws (p + 4) k)))

        pub pattern_reads : kind_in ws (p + 4) ≡ RPAREN → {B : List ℕ} → B ≡ sets A n (leaf_in ws (p + 3) TERM ∷ word MATCH (p + 1) 0 n ∷ word MATCH (p + 1) 32 n ∷ word DISJUNCTION (n + 1) (n + 2) 0 ∷ []) → (d : ℕ) → d ≤ 32 → IsPrimary ws p n d A B (Ok (p + 5, n + 4))
        pattern_reads k x d l =
            let i = kind_within ws (p + 4) (omega arith) in
            record {
              bounds = record { more = omega arith; paid = omega arith; within = omega arith };
              at = λ ts o. record {
                tree = pattern_atom (p + 1) (a_term ws (p + 3) f).tree;
                reads = read! pattern_rule l (mark_first ws p t (omega arith) (omega arith)) (spelled d l ▸ opened d l ▸ one d l ▸ token! l (key_then ws (p + 4) (p + 5) (omega arith) k (omega arith)) ▸ done!);
                wrote = wrote_as (pattern_words ts (p + 1) n (leaf_in ws (p + 3) TERM) (a_term ws (p + 3) f).tree (string_number o (p + 1) s) ((a_term ws (p + 3) f).said ts o)) (record { is = x; many = refl });
              };
            }
