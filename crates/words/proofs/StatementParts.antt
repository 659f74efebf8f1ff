-- A walk over the words finds the statements in order, each with its own words.
use Prim.Native.Nat.{ℕ, ◌+◌, ◌<◌}
use mathlib.Core.Path.{◌≡◌, refl, sym, ap, ◌∙◌}
use mathlib.Core.List.{List, [], ◌∷◌, ◌++◌, append_assoc, append-nil}
use native.Mathlib.Omega.{arith}
use borrow.Author.Tests.{ne_eqb}
use lib.ListN.{length}
use Rattle.definition.specs.Syntax.{Item, Program, end, assign, print, test, while, for, block}
use Rattle.words.specs.Fields.{word, RELATION_NAME, ATTRIBUTE, BIND, RANGE, NEXT, ASSIGN, TEST, JUMP, AGAIN, PRINT, STRING}
use Rattle.words.specs.Raw.{leaves, size, flat, size_items, flat_items, size_program, flat_program}
use Rattle.words.specs.Parts.{ends, Part, part, parts, owns}
use Rattle.words.proofs.FieldLaws.{kind_word}
use Rattle.words.proofs.EachKind.{Each, Inner, each_leaves, each_expression, each_items}
use Rattle.words.proofs.Sizes.{length_leaves, length_flat, length_items}

-- words of no statement of their own
abbrev pub quiet : ℕ → Type 0
quiet k = ends k ≡ 0

abbrev pub Quiet : List ℕ → Type 0
Quiet ws = Each quiet ws

ends_none : (k : ℕ) → (k ≡ ASSIGN → ⊥) → (k ≡ TEST → ⊥) → (k ≡ PRINT → ⊥) → (k ≡ RANGE → ⊥) → (k ≡ JUMP → ⊥) → (k ≡ AGAIN → ⊥) → (k ≡ NEXT → ⊥) → quiet k
unfolding ends
ends_none k a b c d e f g = rw (ne_eqb k ASSIGN a, ne_eqb k TEST b, ne_eqb k PRINT c, ne_eqb k RANGE d, ne_eqb k JUMP e, ne_eqb k AGAIN f, ne_eqb k NEXT g) refl

quiet_low : (k : ℕ) → k < 6 → quiet k
quiet_low k h = ends_none k (λ e. omega arith) (λ e. omega arith) (λ e. omega arith) (λ e. omega arith) (λ e. omega arith) (λ e. omega arith) (λ e. omega arith)

quiet_middle : (k : ℕ) → 7 < k → k < 33 → quiet k
quiet_middle k l h = ends_none k (λ e. omega arith) (λ e. omega arith) (λ e. omega arith) (λ e. omega arith) (λ e. omega arith) (λ e. omega arith) (λ e. omega arith)

quiet_high : (k : ℕ) → 37 < k → quiet k
quiet_high k l = ends_none k (λ e. omega arith) (λ e. omega arith) (λ e. omega arith) (λ e. omega arith) (λ e. omega arith) (λ e. omega arith) (λ e. omega arith)

pub quiet_inner : Inner quiet
quiet_inner = record { names = λ k l h. (quiet_low k (omega arith), quiet_high (STRING + k) (omega arith)); nodes = λ k l h. quiet_middle k (omega arith) (omega arith) }

pub quiet_items : (is : List Item) (n : ℕ) → Quiet (flat_items is n)
quiet_items = each_items quiet quiet_inner (λ k l h. quiet_middle k (omega arith) h)

-- the walk passes quiet words
pass : (xs ys : List ℕ) (s k m : ℕ) {os : List Part} → Quiet xs → k + length xs ≡ m → parts ys s m ≡ os → parts (xs ++ ys) s k ≡ os
unfolding parts Each
pass [] ys s k m h e f = let i : k ≡ m = omega (arith, e) in rw i f
pass (x ∷ xs) ys s k m h e f = rw h.0 (pass xs ys s (k + 1) m h.1 (omega (arith, e)) f)

pass_one : (c p q r s k : ℕ) (ws : List ℕ) {os : List Part} → c < 256 → ends c ≡ 0 → parts ws s (k + 1) ≡ os → parts (word c p q r ∷ ws) s k ≡ os
unfolding parts
pass_one c p q r s k ws h e f = rw (kind_word c p q r h, e) f

-- a statement's own word, and a word that belongs to none
ended : (c p q r s k : ℕ) (ws : List ℕ) {os : List Part} → c < 256 → ends c ≡ 2 → parts ws (k + 1) (k + 1) ≡ os → parts (word c p q r ∷ ws) s k ≡ part s k ∷ os
unfolding parts
ended c p q r s k ws h e f = rw (kind_word c p q r h, e, f) refl

between : (c p q r s k : ℕ) (ws : List ℕ) {os : List Part} → c < 256 → ends c ≡ 1 → parts ws (k + 1) (k + 1) ≡ os → parts (word c p q r ∷ ws) s k ≡ os
unfolding parts
between c p q r s k ws h e f = rw (kind_word c p q r h, e) f

-- a block, then what follows it
after_block : (xs ys : List ℕ) (k m : ℕ) (os : List Part) {qs : List Part} → parts (xs ++ ys) k k ≡ os ++ parts ys m m → parts ys m m ≡ qs → parts (xs ++ ys) k k ≡ os ++ qs
after_block xs ys k m os f e = f ∙ ap (λ (l : List Part). os ++ l) e

-- the words of a program, then others
parts_then : (p : Program) (n m : ℕ) (rest : List ℕ) → n + size_program p ≡ m → parts (flat_program p n ++ rest) n n ≡ owns p n ++ parts rest m m
unfolding flat_program owns size_program ends
parts_then end n m rest l = let i : n ≡ m = omega (arith, l) in rw i refl
parts_then (assign i r ps e k) n m rest l =
    let j = n + 1 + length ps + size e in
    simp append_assoc
    (pass_one RELATION_NAME _ _ 0 n n _ (omega arith) refl
    (pass (leaves ATTRIBUTE ps) _ n (n + 1) (n + 1 + length ps) (each_leaves quiet quiet_inner ATTRIBUTE ps (omega arith) (omega arith)) (omega (arith, length_leaves ATTRIBUTE ps))
    (pass (flat e (n + 1 + length ps)) _ n (n + 1 + length ps) j (each_expression quiet quiet_inner e _) (omega (arith, length_flat e (n + 1 + length ps)))
    (ended ASSIGN _ _ i n j _ (omega arith) refl (parts_then k (j + 1) m rest (omega (arith, l)))))))
parts_then (print i is k) n m rest l =
    simp append_assoc
    (pass (flat_items is n) _ n n (n + size_items is) (quiet_items is n) (omega (arith, length_items is n))
    (ended PRINT _ 0 i n (n + size_items is) _ (omega arith) refl (parts_then k (n + size_items is + 1) m rest (omega (arith, l)))))
parts_then (test i e a b k) n m rest l =
    let j = n + size e + 1 in
    let f = j + size_program a + 1 in
    simp append_assoc
    (pass (flat e n) _ n n (n + size e) (each_expression quiet quiet_inner e n) (omega (arith, length_flat e n))
    (ended TEST 0 f i n (n + size e) _ (omega arith) refl
    (after_block (flat_program a j) _ j (j + size_program a) (owns a j) (parts_then a j (j + size_program a) _ refl)
    (between JUMP 0 _ 0 (j + size_program a) (j + size_program a) _ (omega arith) refl
    (after_block (flat_program b f) _ f (f + size_program b) (owns b f) (parts_then b f (f + size_program b) _ refl) (parts_then k (f + size_program b) m rest (omega (arith, l))))))))
parts_then (while i e a k) n m rest l =
    let j = n + size e + 1 in
    let f = j + size_program a + 1 in
    simp append_assoc
    (pass (flat e n) _ n n (n + size e) (each_expression quiet quiet_inner e n) (omega (arith, length_flat e n))
    (ended TEST 0 f i n (n + size e) _ (omega arith) refl
    (after_block (flat_program a j) _ j (j + size_program a) (owns a j) (parts_then a j (j + size_program a) _ refl)
    (between AGAIN _ j 0 (j + size_program a) (j + size_program a) _ (omega arith) refl (parts_then k f m rest (omega (arith, l)))))))
parts_then (for i v e a k) n m rest l =
    let j = n + 1 + size e + 1 in
    let f = j + size_program a in
    simp append_assoc
    (pass_one BIND _ 0 0 n n _ (omega arith) refl
    (pass (flat e (n + 1)) _ n (n + 1) (n + 1 + size e) (each_expression quiet quiet_inner e (n + 1)) (omega (arith, length_flat e (n + 1)))
    (ended RANGE _ f i n (n + 1 + size e) _ (omega arith) refl
    (after_block (flat_program a j) _ j f (owns a j) (parts_then a j f _ refl)
    (between NEXT _ j 0 f f _ (omega arith) refl (parts_then k (f + 1) m rest (omega (arith, l))))))))
parts_then (block a k) n m rest l =
    simp append_assoc
    (after_block (flat_program a n) _ n (n + size_program a) (owns a n) (parts_then a n (n + size_program a) _ refl) (parts_then k (n + size_program a) m rest (omega (arith, l))))

-- the statements of a program's words are the program's
pub parts_program : (p : Program) (n : ℕ) → parts (flat_program p n) n n ≡ owns p n
unfolding parts
parts_program p n =
    ap (λ (l : List ℕ). parts l n n) (sym (append-nil (flat_program p n))) ∙ parts_then p n (n + size_program p) [] refl ∙ append-nil (owns p n)
