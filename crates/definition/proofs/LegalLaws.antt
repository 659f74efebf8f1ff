-- Row 2, line by line: it is met exactly where some line that is read, without the byte 13 of its end, holds an illegal byte.
use Rattle.std.specs.Prelude.{if◌then◌else◌}
use mathlib.Core.Path.{◌≡◌, refl, sym, ap, ap₂, ◌∙◌}
use mathlib.Core.Bool.{Bool, true, false, ◌&&◌, ◌||◌, not, cond, and-false}
use mathlib.Core.List.{List, [], ◌∷◌, map}
use Prim.Native.Nat.{ℕ, suc, ◌+◌}
use native.Mathlib.Omega.{arith}
use lib.Dec.{ltb, eqb, eqb→eq, leb-suc-suc}
use lib.ListN.{length, take}
use borrow.Author.Tests.{le-ltb, lt-ltb}
use Rattle.definition.specs.Text.{Text, ascii, span, starts, all_of, is_legal}
use Rattle.definition.specs.Facts.{cut, onto, without_return, bytes_read, ends_line, legal_at, legal_bytes}
use Rattle.definition.proofs.TextLaws.{no_end, cut_line}

-- the lines of a text without the bytes 13 of their ends
abbrev pub saved_lines : Text → List Text
saved_lines xs = map without_return (cut xs)

-- a dot at the beginning of a line is never the byte 13 of its end
pub dot_kept : (l : Text) → starts (ascii ".") (without_return l) ≡ starts (ascii ".") l
unfolding without_return starts
dot_kept [] = refl
dot_kept (x ∷ []) = go (eqb x 13) refl
  where
    go : (b : Bool) → eqb x 13 ≡ b → starts (46 ∷ []) (cond b [] (x ∷ [])) ≡ starts (46 ∷ []) (x ∷ [])
    go true e = rw (eqb→eq x 13 (rw e tt))
    go false e = refl
dot_kept (x ∷ y ∷ ys) = refl

-- row 2 is met
abbrev pub row_2 : Text → Bool
row_2 xs = ltb (legal_bytes xs) (length xs) && ltb (legal_bytes xs) (bytes_read (cut xs))

-- Row 2 at a line's beginning and inside a line, byte by byte.
unfoldable pub read_on : List Text → ℕ
read_on [] = 0
read_on (l ∷ ls) = suc (length l) + bytes_read ls

unfoldable pub inside : Text → Bool
inside xs = ltb (legal_bytes xs) (length xs) && ltb (legal_bytes xs) (read_on (cut xs))

onto_read : (x : ℕ) (xs : Text) → read_on (onto x (cut xs)) ≡ suc (read_on (cut xs))
unfolding read_on
onto_read x xs = rw (cut_line xs) (omega arith)

both_suc : (l n r : ℕ) → ltb (suc l) (suc n) && ltb (suc l) (suc r) ≡ ltb l n && ltb l r
both_suc l n r = ap₂ ◌&&◌ (leb-suc-suc (suc l) n) (leb-suc-suc (suc l) r)

both_zero : (n r : ℕ) → ltb 0 (suc n) && ltb 0 (suc r) ≡ true
both_zero n r = rw (lt-ltb 0 (suc n) (omega arith), lt-ltb 0 (suc r) (omega arith))

pub inside_step : (x : ℕ) (xs : Text) → inside (x ∷ xs) ≡ cond (legal_at (x ∷ xs)) (cond (eqb x 10) (row_2 xs) (inside xs)) true
unfolding inside legal_bytes cut read_on
inside_step x xs = go (legal_at (x ∷ xs)) (eqb x 10)
  where
    first_line : read_on ([] ∷ cut xs) ≡ suc (bytes_read (cut xs))
    first_line = omega arith

    go : (a b : Bool) → ltb (cond a (suc (legal_bytes xs)) 0) (suc (length xs)) && ltb (cond a (suc (legal_bytes xs)) 0) (read_on (cond b ([] ∷ cut xs) (onto x (cut xs))))
        ≡ cond a (cond b (row_2 xs) (inside xs)) true
    go true true = rw first_line (both_suc (legal_bytes xs) (length xs) (bytes_read (cut xs)))
    go true false = rw (onto_read x xs) (both_suc (legal_bytes xs) (length xs) (read_on (cut xs)))
    go false true = rw first_line (both_zero (length xs) (bytes_read (cut xs)))
    go false false = rw (onto_read x xs) (both_zero (length xs) (read_on (cut xs)))

-- a dot at a line's beginning ends what is read
dot_first : (xs : Text) → starts (ascii ".") (take (span no_end xs) xs) ≡ starts (ascii ".") xs
unfolding span starts
dot_first [] = refl
dot_first (x ∷ xs) = go (eqb x 10) refl
  where
    go : (b : Bool) → eqb x 10 ≡ b → starts (ascii ".") (take (cond (not b) (suc (span no_end xs)) 0) (x ∷ xs)) ≡ starts (ascii ".") (x ∷ xs)
    go true e = rw (eqb→eq x 10 (rw e tt))
    go false e = refl

bytes_dot : (xs : Text) → bytes_read (cut xs) ≡ cond (starts (ascii ".") xs) 0 (read_on (cut xs))
unfolding bytes_read read_on
bytes_dot xs = rw (cut_line xs, dot_first xs)

pub row_2_dot : (xs : Text) → row_2 xs ≡ not (starts (ascii ".") xs) && inside xs
unfolding inside
row_2_dot xs = rw (bytes_dot xs) (go (starts (ascii ".") xs))
  where
    go : (b : Bool) → ltb (legal_bytes xs) (length xs) && ltb (legal_bytes xs) (cond b 0 (read_on (cut xs))) ≡ not b && (ltb (legal_bytes xs) (length xs) && ltb (legal_bytes xs) (read_on (cut xs)))
    go true = rw (le-ltb (legal_bytes xs) 0 (omega arith)) (and-false (ltb (legal_bytes xs) (length xs)))
    go false = refl

-- "2 over all lines read": some line before the dot holds an illegal byte
unfoldable pub some_illegal : List Text → Bool
some_illegal [] = false
some_illegal (l ∷ ls) = let r = not (all_of is_legal l) || some_illegal ls in if starts (ascii ".") l then false else r

-- the same from inside the first line
unfoldable pub illegal_on : List Text → Bool
illegal_on [] = false
illegal_on (l ∷ ls) = not (all_of is_legal l) || some_illegal ls

-- nothing is left of the first line
abbrev at_end : List Text → Bool
at_end [] = true
at_end ([] ∷ ls) = true
at_end ((x ∷ l) ∷ ls) = false

ends_cut : (xs : Text) → ends_line xs ≡ at_end (cut xs)
unfolding cut
ends_cut [] = refl
ends_cut (x ∷ xs) = go (eqb x 10) (cut xs)
  where
    go : (b : Bool) (r : List Text) → b ≡ at_end (cond b ([] ∷ r) (onto x r))
    go true r = refl
    go false [] = refl
    go false (l ∷ ls) = refl

last_illegal : (x : ℕ) (r : Bool) → not (all_of is_legal (without_return (x ∷ []))) || r ≡ cond (is_legal x || (eqb x 13 && true)) r true
unfolding without_return all_of
last_illegal x r = go (is_legal x) (eqb x 13) refl
  where
    go : (a b : Bool) → is_legal x ≡ a → not (all_of is_legal (cond b [] (x ∷ []))) || r ≡ cond (a || (b && true)) r true
    go true true e = refl
    go false true e = refl
    go true false e = rw e
    go false false e = rw e

onto_illegal : (x : ℕ) (ls : List Text) → illegal_on (map without_return (onto x ls)) ≡ cond (is_legal x || (eqb x 13 && at_end ls)) (illegal_on (map without_return ls)) true
unfolding illegal_on some_illegal without_return all_of
onto_illegal x [] = last_illegal x false
onto_illegal x ([] ∷ ls) = last_illegal x (some_illegal (map without_return ls))
onto_illegal x ((y ∷ l) ∷ ls) = go (is_legal x) (eqb x 13) (all_of is_legal (without_return (y ∷ l))) (some_illegal (map without_return ls))
  where
    go : (a b c r : Bool) → not (a && c) || r ≡ cond (a || (b && false)) (not c || r) true
    go true b c r = refl
    go false true c r = refl
    go false false c r = refl

dot_illegal : (xs : Text) → some_illegal (saved_lines xs) ≡ not (starts (ascii ".") xs) && illegal_on (saved_lines xs)
unfolding some_illegal illegal_on
dot_illegal xs = rw (cut_line xs, dot_kept (take (span no_end xs) xs), dot_first xs) (go (starts (ascii ".") xs) _)
  where
    go : (b r : Bool) → cond b false r ≡ not b && r
    go true r = refl
    go false r = refl

inside_illegal : (xs : Text) → inside xs ≡ illegal_on (saved_lines xs)
unfolding cut inside legal_bytes illegal_on some_illegal without_return all_of is_legal
inside_illegal [] = refl
inside_illegal (x ∷ xs) = inside_step x xs ∙ go (eqb x 10) refl (inside_illegal xs)
  where
    go : (b : Bool) → eqb x 10 ≡ b → inside xs ≡ illegal_on (saved_lines xs)
        → cond (legal_at (x ∷ xs)) (cond b (row_2 xs) (inside xs)) true ≡ illegal_on (map without_return (cond b ([] ∷ cut xs) (onto x (cut xs))))
    go true e ih = rw (eqb→eq x 10 (rw e tt)) (row_2_dot xs ∙ ap (λ (b : Bool). not (starts (ascii ".") xs) && b) ih ∙ sym (dot_illegal xs))
    go false e ih = rw (ends_cut xs, ih) (sym (onto_illegal x (cut xs)))

-- row 2 is met exactly where a line that is read holds an illegal byte
pub row_2_lines : (xs : Text) → row_2 xs ≡ some_illegal (saved_lines xs)
row_2_lines xs = row_2_dot xs ∙ ap (λ (b : Bool). not (starts (ascii ".") xs) && b) (inside_illegal xs) ∙ sym (dot_illegal xs)
