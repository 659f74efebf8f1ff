-- The tokens read so far, as the loop goes on.
use mathlib.Core.Path.{◌≡◌, refl, sym, ap, subst, ◌∙◌}
use mathlib.Core.Bool.{cond}
use mathlib.Core.List.{List, [], ◌∷◌, ◌++◌}
use mathlib.Core.Logic.{⊎_elim}
use Prim.Native.Nat.{ℕ, zero, suc, ◌+◌, ◌≤◌, ◌<◌}
use native.Mathlib.Nat.{not-suc-le-zero, le_of_suc-le-suc, eq-or-lt_of_le, add-zero, add-suc, suc-add}
use native.Mathlib.Omega.{arith}
use lib.Dec.{eqb}
use lib.ListN.{length, get_or, set, length-append}
use lib.Seq.{get_or-set_same, get_or-set_other}
use borrow.Author.Tests.{eq-eqb, ne_eqb}
use Rattle.definition.specs.Text.{Text}
use Rattle.definition.specs.Limits.{TOKENS}
use Rattle.definition.specs.Token.{Token, token_at, place_at, Lexed, tokens, stopped, add, lex}
use Rattle.lexer.specs.Tokens.{token_of, tokens_of, start_of, size_of}
use Rattle.lexer.specs.Scans.{after, Before}

after_add : (ts : List Token) (t : Token) (l : Lexed) → after ts (add t l) ≡ after (ts ++ (t ∷ [])) l
unfolding after
after_add [] t l = refl
after_add (u ∷ ts) t l = ap (add u) (after_add ts t l)

pub after_end : (ts : List Token) → after ts (tokens []) ≡ tokens ts
unfolding after
after_end [] = refl
after_end (t ∷ ts) = ap (add t) (after_end ts)

pub after_stop : (ts : List Token) (p : ℕ) → after ts (stopped p) ≡ stopped p
unfolding after
after_stop [] p = refl
after_stop (t ∷ ts) p = ap (add t) (after_stop ts p)

at_before : (ts us : List Token) (i : ℕ) → i < length ts → token_at (ts ++ us) i ≡ token_at ts i
at_before [] us i h = absurd (not-suc-le-zero h)
at_before (t ∷ ts) us zero h = refl
at_before (t ∷ ts) us (suc i) h = at_before ts us i (le_of_suc-le-suc h)

at_last : (ts : List Token) (t : Token) → token_at (ts ++ (t ∷ [])) (length ts) ≡ t
at_last [] t = refl
at_last (u ∷ ts) t = at_last ts t

pub place_token : (n : ℕ) (ts : List Token) (i : ℕ) → i < length ts → place_at n ts i ≡ (token_at ts i).at
place_token n [] i h = absurd (not-suc-le-zero h)
place_token n (t ∷ ts) zero h = refl
place_token n (t ∷ ts) (suc i) h = place_token n ts i (le_of_suc-le-suc h)

-- words that hold the tokens one by one hold them all
pub tokens_ext : (query : Text) (n : ℕ) (ws : List ℕ) (ts : List Token) → length ws ≡ length ts
    → ((i : ℕ) → i < length ts → token_at ts i ≡ token_of query (n + i) (get_or ws i 0)) → tokens_of query n ws ≡ ts
unfolding tokens_of
tokens_ext query n [] [] e f = refl
tokens_ext query n [] (t ∷ ts) e f = absurd (omega arith)
tokens_ext query n (w ∷ ws) [] e f = absurd (omega arith)
tokens_ext query n (w ∷ ws) (t ∷ ts) e f =
    let h : t ≡ token_of query n w = f 0 (omega arith) ∙ ap (λ (m : ℕ). token_of query m w) (add-zero n) in
    let r : tokens_of query (suc n) ws ≡ ts = tokens_ext query (suc n) ws ts (omega arith)
    (λ i l. f (suc i) (omega arith) ∙ ap (λ (m : ℕ). token_of query m (get_or ws i 0)) (add-suc n i ∙ sym (suc-add n i))) in
    cc

pub before_none : {query : Text} {words : List ℕ} → Before query words 0 0 (lex query 0 0 0)
unfolding after
before_none = record { read = []; whole = refl; many = refl; held = λ i h l. absurd (not-suc-le-zero h); inside = λ i h l. absurd (not-suc-le-zero h); next = λ h. absurd (not-suc-le-zero h) }

module _ {query : Text} {words : List ℕ} {count over : ℕ} where
  pub before_same : {rest more : Lexed} → rest ≡ more → Before query words count over rest → Before query words count over more
  before_same e b = subst (Before query words count over) e b

  -- one token more, with its word
  module _ (t : Token) (w : ℕ) (rest : Lexed) (room : TOKENS ≤ length words) (e : token_of query count w ≡ t) (f : start_of w + size_of w ≤ length query) (b : Before query words count over (add t rest)) where
    last : token_at (b.read ++ (t ∷ [])) count ≡ t
    last = subst (λ (n : ℕ). token_at (b.read ++ (t ∷ [])) n ≡ t) b.many (at_last b.read t)

    earlier : (i : ℕ) → i < count → token_at (b.read ++ (t ∷ [])) i ≡ token_at b.read i
    earlier i h = at_before b.read (t ∷ []) i (omega (arith, b.many))

    held : (i : ℕ) → i < count + 1 → i < TOKENS → token_at (b.read ++ (t ∷ [])) i ≡ token_of query i (get_or (set words count w) i 0)
    held i h l =
        ⊎_elim
        (λ (q : i ≡ count).
        let m : count < length words = omega arith in
        rw (q, get_or-set_same words count w 0 m) (last ∙ sym e))
        (λ (q : i < count).
        earlier i q ∙ b.held i q l ∙ ap (token_of query i) (sym (get_or-set_other words count i w 0 (λ z. absurd (omega arith)))))
        (eq-or-lt_of_le (omega arith))

    inside : (i : ℕ) → i < count + 1 → i < TOKENS → start_of (get_or (set words count w) i 0) + size_of (get_or (set words count w) i 0) ≤ length query
    inside i h l =
        ⊎_elim
        (λ (q : i ≡ count). let m : count < length words = omega arith in rw (q, get_or-set_same words count w 0 m) f)
        (λ (q : i < count). rw (get_or-set_other words count i w 0 (λ z. absurd (omega arith))) (b.inside i q l))
        (eq-or-lt_of_le (omega arith))

    next : TOKENS < count + 1 → (token_at (b.read ++ (t ∷ [])) TOKENS).at ≡ cond (eqb count TOKENS) t.at over
    next h =
        ⊎_elim
        (λ (q : TOKENS ≡ count). rw (eq-eqb count TOKENS (sym q)) (ap (λ (u : Token). u.at) (subst (λ (n : ℕ). token_at (b.read ++ (t ∷ [])) n ≡ t) (sym q) last)))
        (λ (q : TOKENS < count).
        rw (ne_eqb count TOKENS (λ z. absurd (omega arith))) (ap (λ (u : Token). u.at) (earlier TOKENS q) ∙ b.next q))
        (eq-or-lt_of_le (omega arith))

    pub before_token : Before query (set words count w) (count + 1) (cond (eqb count TOKENS) t.at over) rest
    before_token = record {
      read = b.read ++ (t ∷ []);
      whole = b.whole ∙ after_add b.read t rest;
      many = length-append b.read (t ∷ []) ∙ ap (λ (n : ℕ). n + 1) b.many;
      held = held;
      inside = inside;
      next = next;
    }
