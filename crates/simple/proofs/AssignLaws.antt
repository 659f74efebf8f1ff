-- Assignments: their words, and how the grammar reads them.
use Rattle.std.specs.Prelude.{Ok, Err}
use mathlib.Core.List.{List, [], ◌∷◌, ◌++◌, append_assoc}
use mathlib.Core.Path.{◌≡◌, refl, ap, sym, subst, ◌∙◌}
use native.Mathlib.Omega.{arith}
use Prim.Native.Nat.{ℕ, zero, suc, ◌+◌, ◌-◌, ◌*◌, ◌≤◌, ◌<◌}
use lib.ListN.{length, drop, set, get_or, length-set}
use Rattle.definition.proofs.GrammarReads.{Reads, Fails, read!, fail!, ◌▸◌, ◌▹◌, stop!, done!, token!, no_token! }
use Rattle.definition.proofs.GrammarStatements.{left_side_rule, becomes_rule, alone_rule, no_left_end! }
use Rattle.definition.specs.Grammar.{Nonterminal, Tree, Lefts, Expression}
use Rattle.definition.specs.Grammar as Grammar
use Rattle.definition.specs.Reader.{phrase, fixed, after_left}
use Rattle.definition.specs.Syntax.{says, end}
use Rattle.definition.specs.Token.{Token, token_at, LPAREN, BECOMES, SEMICOLON}
use Rattle.lexer.specs.Tokens.{at_of}
use Rattle.simple.proofs.LeftLaws.{ReadLefts, lefts_read, lefts_fail}
use Rattle.simple.specs.Statements.{Places, Wording, IsStated, IsStatement, terms_in, asserted, FinishSpace, FinishRoom, semicolon, no_semicolon, Finished}
use Rattle.terms.proofs.AtomLaws.{listed_of, unlisted_of}
use Rattle.terms.proofs.TokenLaws.{kind_within, key_first, key_then, name_first, name_number, place_of, not_key}
use Rattle.terms.proofs.WriteLaws.{wrote_none, wrote_then, wrote_next, wrote_before, wrote_as}
use Rattle.terms.specs.declared.ParseError.{ParseError}
use Rattle.terms.specs.declared.ParseError.TheVariants.{NoProgram}
use Rattle.terms.specs.Phrases.{Answer, row_of, token_of, kind_in, seen, Wrote, far, IsExpression}
use Rattle.terms.specs.Terms.{leaf_in, Listed, IsListed}
use Rattle.words.proofs.Sizes.{length_leaves}
use Rattle.words.specs.Fields.{word, ATTRIBUTE, TERM, RELATION_NAME, TRUTH, ASSIGN}
use Rattle.words.specs.Raw.{leaves, flat, number, flat_program}

pub unstated : {x : Nonterminal} {w : Wording x} {s : ℕ} {ws : List ℕ} {p n d : ℕ} {why : ParseError} {A B : List ℕ} → token_of why ≤ length ws → Fails d (phrase x ∷ []) (drop p (seen ws)) (row_of why) (drop (token_of why) (seen ws)) → IsStated x w s ws p n d A B (Err why)
unstated h f = record { bounds = h; at = λ ts i. f }

-- the terms once more, one at a time
terms_next : (ws : List ℕ) (p j : ℕ) → terms_in ws p j ++ (leaf_in ws (p + 2 * j) TERM ∷ []) ≡ terms_in ws p (suc j)
unfolding terms_in
terms_next ws p zero = let e : p + 2 * 0 ≡ p = omega arith in ap (λ i. leaf_in ws i TERM ∷ []) e
terms_next ws p (suc j) = let e : p + 2 * suc j ≡ p + 2 + 2 * j = omega arith in ap (λ xs. leaf_in ws p TERM ∷ xs) (ap (λ i. terms_in ws (p + 2) j ++ (leaf_in ws i TERM ∷ [])) e ∙ terms_next ws (p + 2) j)

pub record Repeated (ws : List ℕ) (p m k : ℕ) (A A' : List ℕ) (j : ℕ) : Type 0 where
  pub wrote : Wrote A m (terms_in ws p j) (m + j) A'
  pub long : length A' ≡ length A
  pub upto : j ≤ k

pub repeat_starts : {ws : List ℕ} {p m k : ℕ} {A : List ℕ} → Repeated ws p m k A A 0
unfolding terms_in
repeat_starts {m = m} {A = A} = let e : m + 0 ≡ m = omega arith in record { wrote = subst (λ i. Wrote A m [] i A) (sym e) (wrote_none A m); long = refl; upto = omega arith }

pub repeat_on : {ws : List ℕ} {p m k j w : ℕ} {A A' : List ℕ} → Repeated ws p m k A A' j → j < k → w ≡ leaf_in ws (p + 2 * j) TERM → Repeated ws p m k A (set A' (m + j) w) (j + 1)
repeat_on {ws} {p} {m} {k} {j} {w} {A} {A'} f l e =
    let i : m + j + 1 ≡ m + (j + 1) = omega arith in
    let s : suc j ≡ j + 1 = omega arith in
    record {
      wrote = subst (λ i. Wrote A m (terms_in ws p (j + 1)) i (set A' (m + j) w)) i (wrote_as (ap (λ v. terms_in ws p j ++ (v ∷ [])) e ∙ terms_next ws p j ∙ ap (terms_in ws p) s) (wrote_next f.wrote w));
      long = length-set A' (m + j) w ∙ f.long;
      upto = omega arith;
    }

-- the words of an assignment with its expression, and of the short form
assign_words : (ts : List Token) (p n k m : ℕ) (u : Tree Lefts) (e : Tree Expression) (xs : List ℕ) → number (token_at ts p) ≡ p → leaves ATTRIBUTE (says ts u) ≡ xs → k ≡ length xs → m ≡ n + 1 + k → ((word RELATION_NAME p k 0 ∷ xs) ++ flat (says ts e) m) ++ (word ASSIGN n k (token_at ts p).at ∷ []) ≡ flat_program (says ts (Grammar.assignment p u e) p end) n
unfolding says flat_program
assign_words ts p n k m u e xs a b c d =
    let l : length (says ts u) ≡ k = sym (length_leaves ATTRIBUTE (says ts u)) ∙ ap length b ∙ sym c in
    sym (simp (a, l, b, d, append_assoc) (ap (λ l. word RELATION_NAME p k 0 ∷ l) (sym (append_assoc xs (flat (says ts e) (n + 1 + k)) _))))

assert_words : (ts : List Token) (p n k m : ℕ) (u : Tree Lefts) (xs ys : List ℕ) → number (token_at ts p) ≡ p → leaves ATTRIBUTE (says ts u) ≡ xs → leaves TERM (says ts u) ≡ ys → k ≡ length xs → m ≡ n + 1 + k → (word RELATION_NAME p k 0 ∷ xs) ++ (ys ++ (word TRUTH m k 0 ∷ word ASSIGN n k (token_at ts p).at ∷ [])) ≡ flat_program (says ts (Grammar.assertion p u) p end) n
unfolding says flat_program flat
assert_words ts p n k m u xs ys a b c d e =
    let l : length (says ts u) ≡ k = sym (length_leaves ATTRIBUTE (says ts u)) ∙ ap length b ∙ sym d in
    sym (simp (a, l, b, c, e, append_assoc))

module _ (ws : List ℕ) (p n d : ℕ) (A : List ℕ) (name : kind_in ws p ≡ 47) (l : d ≤ 32) where
  inside : p < length ws
  inside = kind_within ws p (omega arith)

  pub assign_open : (kind_in ws (p + 1) ≡ LPAREN → ⊥) → {B : List ℕ} → IsStatement ws p n d A B (Err (NoProgram (p + 1)))
  assign_open e = let i = inside in unstated (omega arith) (fail! left_side_rule l (name_first ws p name) (stop! (no_token! (not_key ws (p + 1) e))))

  module _ {A₁ : List ℕ} {a : Answer} (e : kind_in ws (p + 1) ≡ LPAREN) (h : IsListed ws ATTRIBUTE (p + 2) (n + 1) A A₁ a) where
    opened : Reads d (fixed LPAREN ∷ []) (drop (p + 1) (seen ws)) (tt, tt) (drop (p + 2) (seen ws))
    opened = token! l (key_then ws (p + 1) (p + 2) (omega arith) e (omega arith))

    pub assign_unlisted : {why : ParseError} → a ≡ Err why → {B : List ℕ} → IsStatement ws p n d A B (Err why)
    assign_unlisted i =
        let u = unlisted_of h i in
        let f = lefts_fail d l u.unclosed u.broken in
        unstated u.within (rw u.ten (fail! left_side_rule l (name_first ws p name) (opened ▹ record { is = λ s g. f.is (after_left ∷ s) g })))

    module _ {q m w : ℕ} (i : a ≡ Ok (q, m)) (named : w ≡ word RELATION_NAME p (m - n - 1) 0) where
      u : Listed ws ATTRIBUTE (p + 2) (n + 1) A A₁ q m
      u = listed_of h i

      r : ReadLefts ws (p + 2) q u.words
      r = lefts_read u.brackets

      many : m - n - 1 ≡ length u.words
      many = omega (arith, u.wrote.many)

      first : Wrote A n (word RELATION_NAME p (m - n - 1) 0 ∷ u.words) m (set A₁ n w)
      first = wrote_as (ap (λ v. v ∷ u.words) named) (wrote_before u.wrote w)

      pub assign_unended : (kind_in ws q ≡ SEMICOLON → ⊥) → (kind_in ws q ≡ BECOMES → ⊥) → {B : List ℕ} → IsStatement ws p n d A B (Err (NoProgram q))
      assign_unended f g = unstated u.within (fail! left_side_rule l (name_first ws p name) (opened ▹ r.reads d l ▹ token! l r.closed ▹ stop! (no_left_end! (not_key ws q g) (not_key ws q f))))

      pub assign_alone : {B : List ℕ} {l' : ℕ} → kind_in ws q ≡ SEMICOLON → l' ≡ m + (m - n - 1) + 2 → Wrote (set A₁ n w) m (asserted ws p n m) l' B → IsStatement ws p n d A B (Ok (q + 1, l'))
      assign_alone {B} {l'} f x v =
          let o = kind_within ws q (omega arith) in
          record {
            bounds = record { more = omega (arith, u.more); ahead = omega (arith, u.more, u.far); paid = omega (arith, u.more, u.paid); within = omega arith };
            at = λ ts g. record {
              tree = Grammar.assertion p r.tree;
              reads = read! left_side_rule l (name_first ws p name) (opened ▸ r.reads d l ▸ token! l r.closed ▸ read! alone_rule l (key_first ws q f (omega arith)) done! ▸ done!);
              wrote = wrote_as (ap (λ t. (word RELATION_NAME p (m - n - 1) 0 ∷ u.words) ++ (terms_in ws (p + 2) (m - n - 1) ++ (word TRUTH m (m - n - 1) 0 ∷ word ASSIGN n (m - n - 1) t ∷ []))) (sym (place_of g p inside)) ∙ assert_words ts p n (m - n - 1) m r.tree u.words (terms_in ws (p + 2) (m - n - 1)) (name_number g p name) (r.said ts g) (r.again ts g ∙ ap (terms_in ws (p + 2)) (sym many)) many (omega (arith, u.more))) (wrote_then first v);
            };
          }

      pub assign_ends : {A₂ A₃ : List ℕ} {b t : Answer} → kind_in ws q ≡ BECOMES → IsExpression ws (q + 1) m d (set A₁ n w) A₂ b → Finished ws p n m A₂ A₃ b t → IsStatement ws p n d A A₃ t
      assign_ends {A₂} {A₃} {b} {t} f v j = by b t v j
        where
          by : (b t : Answer) → IsExpression ws (q + 1) m d (set A₁ n w) A₂ b → Finished ws p n m A₂ A₃ b t → IsStatement ws p n d A A₃ t
          by (Ok (q', l')) t v (semicolon k x) =
              let o = v.bounds in
              let o' = kind_within ws q' (omega arith) in
              record {
                bounds = record { more = omega (arith, u.more); ahead = omega (arith, u.more, u.far); paid = omega (arith, u.more, u.paid); within = omega arith };
                at = λ ts g. let c = v.at ts g in record {
                  tree = Grammar.assignment p r.tree c.tree;
                  reads = read! left_side_rule l (name_first ws p name) (opened ▸ r.reads d l ▸ token! l r.closed ▸ read! becomes_rule l (key_first ws q f (omega arith)) (c.reads ▸ token! l (key_first ws q' k (omega arith)) ▸ done!) ▸ done!);
                  wrote = subst (Wrote A n (flat_program (says ts (Grammar.assignment p r.tree c.tree) p end) n) (l' + 1)) (sym x) (wrote_as (ap (λ t. ((word RELATION_NAME p (m - n - 1) 0 ∷ u.words) ++ flat (says ts c.tree) m) ++ (word ASSIGN n (m - n - 1) t ∷ [])) (sym (place_of g p inside)) ∙ assign_words ts p n (m - n - 1) m r.tree c.tree u.words (name_number g p name) (r.said ts g) many (omega (arith, u.more))) (wrote_next (wrote_then first c.wrote) (word ASSIGN n (m - n - 1) (at_of (get_or ws p 0)))));
                };
              }
          by (Ok (q', l')) t v (no_semicolon k) = record {
            bounds = v.bounds.within;
            at = λ ts g. fail! left_side_rule l (name_first ws p name) (opened ▹ r.reads d l ▹ token! l r.closed ▹ stop! (fail! becomes_rule l (key_first ws q f (omega arith)) ((v.at ts g).reads ▹ stop! (no_token! (not_key ws q' k)))));
          }
          by (Err why) t v j = subst (IsStatement ws p n d A A₃) (sym j) (record {
            bounds = v.bounds;
            at = λ ts g. fail! left_side_rule l (name_first ws p name) (opened ▹ r.reads d l ▹ token! l r.closed ▹ stop! (fail! becomes_rule l (key_first ws q f (omega arith)) (stop! (v.at ts g))));
          })

pub repeat_ends : {ws : List ℕ} {p m k j : ℕ} {A A' : List ℕ} → Repeated ws p m k A A' j → k ≤ j → Wrote A m (terms_in ws p k) (m + k) A'
repeat_ends {ws} {p} {m} {k} {j} {A} {A'} f l = let e : j ≡ k = omega (arith, f.upto) in subst (λ i. Wrote A m (terms_in ws p i) (m + i) A') e f.wrote

-- the end of an assignment
pub finish_space : {ws : List ℕ} {M p n m q l : ℕ} {b : Answer} → FinishRoom ws M p n m b → b ≡ Ok (q, l) → FinishSpace ws M p n m l
finish_space {ws} {M} {p} {n} {m} h e = subst (FinishRoom ws M p n m) e h

pub two_wrote : {A A₁ : List ℕ} {m l w v x y : ℕ} {xs : List ℕ} → Wrote A m xs l A₁ → w ≡ x → v ≡ y → Wrote A m (xs ++ (x ∷ y ∷ [])) (l + 2) (set (set A₁ l w) (l + 1) v)
two_wrote {A} {A₁} {m} {l} {w} {v} {x} {y} {xs} f e g =
    let i : l + 1 + 1 ≡ l + 2 = omega arith in
    subst (λ i. Wrote A m (xs ++ (x ∷ y ∷ [])) i (set (set A₁ l w) (l + 1) v)) i (wrote_as (append_assoc xs (w ∷ []) (v ∷ []) ∙ ap (λ w. xs ++ (w ∷ v ∷ [])) e ∙ ap (λ v. xs ++ (x ∷ v ∷ [])) g) (wrote_next (wrote_next f w) v))

pub finish_room : {ws : List ℕ} {M p n m q d : ℕ} {A A' : List ℕ} {b : Answer} → Places ws → p < length ws → n < m → m ≤ q → IsExpression ws (q + 1) m d A A' b → length ws ≤ 2048 → length ws ≤ M → FinishRoom ws M p n m b
finish_room {ws} {M} {p} {n} {m} {q} {b = b} s i o k v hl hm = by b v.bounds
  where
    by : (b : Answer) → far ws (q + 1) m b → FinishRoom ws M p n m b
    by (Ok (q', l)) c = record { places = s; inside = i; order = o; body = omega (arith, c.more); room = omega (arith, c.paid, c.within); small = omega (arith, c.paid, c.within) }
    by (Err why) c = tt
