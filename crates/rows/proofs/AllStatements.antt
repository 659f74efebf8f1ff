-- All statements of a program, in the order of the text.
use Prim.Native.Nat.{ℕ, ◌+◌, ◌-◌, ◌<◌, ◌≤◌}
use mathlib.Core.Path.{◌≡◌, refl, ap, ◌∙◌}
use mathlib.Core.Bool.{Bool}
use mathlib.Core.List.{List, [], ◌∷◌, ◌++◌, append_assoc}
use native.Mathlib.Omega.{arith}
use native.Mathlib.Numerals.{add-one}
use borrow.Author.Tests.{eq-eqb, ne_eqb}
use lib.ListN.{length, get_or, drop, length-append, drop_of_length-le}
use lib.Seq.{drop-cons}
use Rattle.definition.specs.Answer.{Answer, ok, refused, ◌>>◌}
use Rattle.definition.specs.Syntax.{Program, end, assign, print, test, while, for, block}
use Rattle.definition.specs.Syntax as Syntax
use Rattle.definition.specs.Names.{Use, statement_rows, program_rows}
use Rattle.definition.specs.declared.Refusal.{Refusal}
use Rattle.words.specs.Fields.{word, kind_of, RELATION_NAME, ATTRIBUTE, BIND, RANGE, NEXT, ASSIGN, TEST, JUMP, AGAIN, PRINT}
use Rattle.words.specs.Raw as Raw
use Rattle.words.specs.Raw.{leaves, size, flat, size_items, flat_items, size_program, flat_program}
use Rattle.words.specs.Standing.{Has}
use Rattle.words.specs.Tokens.{OwnProgram}
use Rattle.words.specs.Parts.{ends, Part, part, parts, owns}
use Rattle.words.specs.Parts as Parts
use Rattle.words.proofs.Sizes.{length_leaves, length_flat, length_items, length_program}
use Rattle.words.proofs.Places.{has_append, has_all, has_cut}
use Rattle.words.proofs.StatementParts.{parts_program}
use Rattle.std.specs.Prelude.{Result, Ok, Err}
use Rattle.rows.specs.Statements.{meets, Setting, vs, Stated, assigned, printed, tested, ranged, Rows, none, then, turned}

then_assoc : (x a b : Answer (Unit {0})) → ◌>>◌ (◌>>◌ x a) b ≡ ◌>>◌ x (◌>>◌ a b)
then_assoc (ok u) a b = refl
then_assoc (refused r p) a b = refl

-- on after a statement at k
abbrev pub next : Result (Unit {0}) Refusal → ℕ → Result ℕ Refusal
next (Ok done) k = Ok (k + 1)
next (Err q) k = Err q

module _ (words ids known : List ℕ) (S : Setting words ids known) where
  abbrev R : List Part → Answer (Unit {0}) → Type 0
  R = Rows words ids known S

  rows_append : {ps qs : List Part} {a b : Answer (Unit {0})} → R ps a → R qs b → R (ps ++ qs) (◌>>◌ a b)
  rows_append none q = q
  rows_append {b = b} (then {s} {k} {i} {us} {es} {right} {ps} {a} st r) q =
      rw (then_assoc (statement_rows (vs words ids known S) i us es right) a b) (then st (rows_append r q))

  program_parts : (p : Program) (n : ℕ) → OwnProgram S.ts p → n + size_program p < 65536 → Has words n (flat_program p n) → R (owns p n) (program_rows (vs words ids known S) p)
  unfolding flat_program owns program_rows OwnProgram size_program
  program_parts end n o h w = none
  program_parts (assign i r ps e k) n o h w =
      let m = n + 1 + length ps + size e in
      let xs = word RELATION_NAME (Raw.number r) (length ps) 0 ∷ (leaves ATTRIBUTE ps ++ flat e (n + 1 + length ps)) in
      let g : Has words n (xs ++ (word ASSIGN n (length ps) i ∷ flat_program k (m + 1))) = rw append_assoc w in
      let c = has_cut words n (m + 1) xs (word ASSIGN n (length ps) i) (flat_program k (m + 1)) (omega (arith, length-append (leaves ATTRIBUTE ps) (flat e (n + 1 + length ps)), length_leaves ATTRIBUTE ps, length_flat e (n + 1 + length ps))) g in
      then (assigned i r ps e o.0 o.1 o.2 o.3 refl c.0) (program_parts k (m + 1) o.4 (omega arith) c.1)
  program_parts (print i is k) n o h w =
      let m = n + size_items is in
      let c = has_cut words n (m + 1) (flat_items is n) (word PRINT n 0 i) (flat_program k (m + 1)) (omega (arith, length_items is n)) w in
      then (printed i is o.0 o.1 refl c.0) (program_parts k (m + 1) o.2 (omega arith) c.1)
  program_parts (test i e a b k) n o h w =
      let m = n + size e + 1 in
      let l = m + size_program a + 1 in
      let f = l + size_program b in
      let c = has_cut words n m (flat e n) (word TEST 0 l i) _ (omega (arith, length_flat e n)) w in
      let x = has_cut words m l (flat_program a m) (word JUMP 0 f 0) _ (omega (arith, length_program a m)) c.1 in
      let ha = has_append words m (flat_program a m) _ x.0 in
      let y = has_append words l (flat_program b l) _ x.1 in
      then (tested i l e o.0 (omega arith) o.1 refl c.0)
      (rows_append (program_parts a m o.2 (omega arith) ha.0) (rows_append (program_parts b l o.3 (omega arith) y.0) (program_parts k f o.4 (omega arith) (rw (length_program b l) at y.1))))
  program_parts (while i e a k) n o h w =
      let m = n + size e + 1 in
      let l = m + size_program a + 1 in
      let c = has_cut words n m (flat e n) (word TEST 0 l i) _ (omega (arith, length_flat e n)) w in
      let x = has_cut words m l (flat_program a m) (word AGAIN (n + size e - 1) m 0) _ (omega (arith, length_program a m)) c.1 in
      let ha = has_append words m (flat_program a m) _ x.0 in
      then (tested i l e o.0 (omega arith) o.1 refl c.0) (rows_append (program_parts a m o.2 (omega arith) ha.0) (program_parts k l o.3 (omega arith) x.1))
  program_parts (for i v e a k) n o h w =
      let m = n + 1 + size e + 1 in
      let l = m + size_program a in
      let xs = word BIND (Raw.number v) 0 0 ∷ flat e (n + 1) in
      let c = has_cut words n m xs (word RANGE (Raw.number v) l i) _ (omega (arith, length_flat e (n + 1))) w in
      let x = has_cut words m (l + 1) (flat_program a m) (word NEXT (Raw.number v) m 0) _ (omega (arith, length_program a m)) c.1 in
      let ha = has_append words m (flat_program a m) _ x.0 in
      then (ranged i l v e o.0 (omega arith) o.1 o.2 refl c.0) (rows_append (program_parts a m o.3 (omega arith) ha.0) (program_parts k (l + 1) o.4 (omega arith) x.1))
  program_parts (block a k) n o h w =
      let x = has_append words n (flat_program a n) _ w in
      rows_append (program_parts a n o.0 (omega arith) x.0) (program_parts k (n + size_program a) o.1 (omega arith) (rw (length_program a n) at x.1))

  pub all_parts : (p : Program) → OwnProgram S.ts p → words ≡ flat_program p 0 → R (parts words 0 0) (program_rows (vs words ids known S) p)
  all_parts p o e =
      let h : Has words 0 (flat_program p 0) = rw (← e) (has_all words) in
      let q : parts words 0 0 ≡ owns p 0 = ap (λ (ws : List ℕ). parts ws 0 0) e ∙ parts_program p 0 in
      rw q (program_parts p 0 o (omega (arith, S.small, ap length e, length_program p 0)) h)

  -- one word
  module _ (s k : ℕ) (hk : k < length words) (c : ℕ) (ec : c ≡ ends (kind_of (get_or words k 0))) where
    parts_at : parts (drop k words) s k ≡ Parts.turn c (part s k) (parts (drop (k + 1) words) (k + 1) (k + 1)) (parts (drop (k + 1) words) s (k + 1))
    unfolding parts
    parts_at = rw (drop-cons words k 0 hk, ec, add-one k) refl

    pub turn_none : (rest : Answer (Unit {0})) → (c ≡ 2 → ⊥) → (c ≡ 1 → ⊥) → R (parts (drop k words) s k) rest → R (parts (drop (k + 1) words) s (k + 1)) rest
    turn_none rest n m r = let q : parts (drop k words) s k ≡ parts (drop (k + 1) words) s (k + 1) = parts_at ∙ rw (ne_eqb c 2 n, ne_eqb c 1 m) refl in rw q at r

    pub turn_between : (rest : Answer (Unit {0})) → (c ≡ 2 → ⊥) → c ≡ 1 → R (parts (drop k words) s k) rest → R (parts (drop (k + 1) words) (k + 1) (k + 1)) rest
    turn_between rest n m r = let q : parts (drop k words) s k ≡ parts (drop (k + 1) words) (k + 1) (k + 1) = parts_at ∙ rw (ne_eqb c 2 n, eq-eqb c 1 m) refl in rw q at r

    -- a statement's own word: its rows come first
    ruled : (r : Result (Unit {0}) Refusal) (x rest : Answer (Unit {0})) → meets r x → R (parts (drop (k + 1) words) (k + 1) (k + 1)) rest → turned words ids known S k (◌>>◌ x rest) (next r k)
    ruled (Ok done) x rest m q = rw m q
    ruled (Err p) x rest m q = rw m refl

    inverted : (r : Result (Unit {0}) Refusal) {l : List Part} (rest : Answer (Unit {0})) → R l rest → l ≡ part s k ∷ parts (drop (k + 1) words) (k + 1) (k + 1) →
        ((i : ℕ) (us : List Use) (es : List Syntax.Expression) (right : Bool) → Stated words ids known S s k i us es right → meets r (statement_rows (vs words ids known S) i us es right)) → turned words ids known S k rest (next r k)
    inverted r rest none e f = absurd (let z : ◌≡◌ {A = ℕ} 0 1 = omega (arith, ap length e) in omega arith)
    inverted r rest (then {s = s₀} {k = k₀} {i} {us} {es} {right} {ps} {a} st q) e f =
        let eq : part s₀ k₀ ≡ part s k = cc in
        let es₀ : s₀ ≡ s = ap (λ (q : Part). q.from) eq in
        let ek₀ : k₀ ≡ k = ap (λ (q : Part). q.own) eq in
        let ep : ps ≡ parts (drop (k + 1) words) (k + 1) (k + 1) = cc in
        ruled r (statement_rows (vs words ids known S) i us es right) a (f i us es right (rw (← es₀, ← ek₀) st)) (rw ep at q)

    pub turn_own : (r : Result (Unit {0}) Refusal) (rest : Answer (Unit {0})) → c ≡ 2 → R (parts (drop k words) s k) rest →
        ((i : ℕ) (us : List Use) (es : List Syntax.Expression) (right : Bool) → Stated words ids known S s k i us es right → meets r (statement_rows (vs words ids known S) i us es right)) → turned words ids known S k rest (next r k)
    turn_own r rest e q f = inverted r rest q (parts_at ∙ rw (eq-eqb c 2 e) refl) f

  pub rows_end : (s k : ℕ) (rest : Answer (Unit {0})) → length words ≤ k → R (parts (drop k words) s k) rest → rest ≡ ok tt
  unfolding parts
  rows_end s k rest h r = ended (drop k words) (drop_of_length-le words h) r
    where
      finished : (l : List Part) (a : Answer (Unit {0})) → R l a → l ≡ [] → a ≡ ok tt
      finished l a none e = refl
      finished l a (then st q) e = absurd (let z : ◌≡◌ {A = ℕ} 0 1 = omega (arith, ap length e) in omega arith)

      ended : (ws : List ℕ) → ws ≡ [] → R (parts ws s k) rest → rest ≡ ok tt
      ended ws e r = finished (parts ws s k) rest r (rw e refl)
