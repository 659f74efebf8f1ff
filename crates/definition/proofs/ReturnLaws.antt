-- Facts saved with bytes 13 and 10 at the ends of their lines, or with byte 10 alone: the lines are the same without those bytes 13, so the
-- two texts load to the same tables and have the same run, or are refused by one row.
use Rattle.std.specs.Prelude.{if◌then◌else◌}
use mathlib.Core.Path.{◌≡◌, refl, sym, ap, ◌∙◌}
use mathlib.Core.Bool.{Bool, true, false, ◌&&◌, not, cond}
use mathlib.Core.List.{List, [], ◌∷◌, ◌++◌, map}
use Prim.Native.Nat.{ℕ, suc, ◌+◌, ◌≤◌}
use native.Mathlib.Omega.{arith}
use lib.Dec.{eqb, eqb→eq}
use lib.ListN.{length}
use borrow.Author.Tests.{le-ltb}
use Rattle.definition.specs.Text.{Text, ascii, starts, all_of, gather}
use Rattle.definition.specs.Limits.{Limits, FACT_BYTES}
use Rattle.definition.specs.Answer.{Answer, ok, refused}
use Rattle.definition.specs.Facts.{Line, cut, onto, without_return, lines, fact_lines, legal_bytes, read_facts}
use Rattle.definition.specs.Accept.{Accepted, accept}
use Rattle.definition.proofs.BoolLaws.{apart}
use Rattle.definition.proofs.ListLaws.{Each, each_none, each_one}
use Rattle.definition.proofs.AlikeLaws.{Both, both_ok, both_refused, then_both, SameFacts, SameLine, read_same, SameAccepted, same_accepted}
use Rattle.definition.proofs.AlikeRuns.{SameRun, same_run}
use Rattle.definition.proofs.LegalLaws.{saved_lines, dot_kept, row_2, some_illegal, row_2_lines}

lines_same : (ls ms : List Text) (i j : ℕ) → map without_return ls ≡ map without_return ms → Each SameLine (lines i ls) (lines j ms)
unfolding lines
lines_same [] [] i j e = each_none
lines_same [] (m ∷ ms) i j e = let z : ◌≡◌ {A = ℕ} 0 1 = cc in absurd (omega arith)
lines_same (l ∷ ls) [] i j e = let z : ◌≡◌ {A = ℕ} 0 1 = cc in absurd (omega arith)
lines_same (l ∷ ls) (m ∷ ms) i j e =
    let h : without_return l ≡ without_return m = cc in
    let t : map without_return ls ≡ map without_return ms = cc in
    let d : starts (ascii ".") l ≡ starts (ascii ".") m = sym (dot_kept l) ∙ ap (starts (ascii ".")) h ∙ dot_kept m in
    rw d (go (starts (ascii ".") m) (record { bytes = h }) (lines_same ls ms (suc (i + length l)) (suc (j + length m)) t))
  where
    go : (b : Bool) → SameLine (record { bytes = without_return l; at = i }) (record { bytes = without_return m; at = j }) → {ks ns : List Line} → Each SameLine ks ns
        → Each SameLine (cond b [] (record { bytes = without_return l; at = i } ∷ ks)) (cond b [] (record { bytes = without_return m; at = j } ∷ ns))
    go true h hs = each_none
    go false h hs = each_one h hs

-- two texts with the same lines
pub same_saved : (limits : Limits) (xs ys : Text) → saved_lines xs ≡ saved_lines ys → length xs ≤ FACT_BYTES → length ys ≤ FACT_BYTES → SameFacts (read_facts limits xs) (read_facts limits ys)
unfolding read_facts fact_lines
same_saved limits xs ys e short short' =
    let alike : row_2 xs ≡ row_2 ys = row_2_lines xs ∙ ap some_illegal e ∙ sym (row_2_lines ys) in
    rw (le-ltb FACT_BYTES (length xs) short, le-ltb FACT_BYTES (length ys) short', alike)
    (then_both (row_2 ys) 2 (legal_bytes xs) (legal_bytes ys)
    (read_same limits (lines_same (cut xs) (cut ys) 0 0 e) _ _ (record { relations = each_none; universe = refl; facts = each_none })))

-- what the check says of two texts: a run of the same tables, step by step, or a refusal by the same row
abbrev pub SameAnswer : Answer Accepted → Answer Accepted → Type 0
SameAnswer (ok w) (ok v) = SameRun w v
SameAnswer (refused r p) (refused s q) = r ≡ s
SameAnswer (ok w) (refused r p) = ⊥
SameAnswer (refused r p) (ok w) = ⊥

to_answer : {a b : Answer Accepted} → Both SameAccepted a b → SameAnswer a b
to_answer (both_ok {a = w} {b = v} h) = same_run w v h
to_answer both_refused = refl

pub same_answer : (limits : Limits) (xs ys query : Text) → saved_lines xs ≡ saved_lines ys → length xs ≤ FACT_BYTES → length ys ≤ FACT_BYTES
    → SameAnswer (accept limits xs query) (accept limits ys query)
same_answer limits xs ys query e short short' = to_answer (same_accepted limits xs ys query (same_saved limits xs ys e short short'))

-- a text without bytes 13, and the same with one before some of its bytes 10, or all, and perhaps one as the last byte
pub data SavedAs : Text → Text → Type 0 where
  saved_end : SavedAs [] []
  saved_last : SavedAs [] (13 ∷ [])
  saved_byte : {x : ℕ} {xs ys : Text} → eqb x 13 ≡ false → SavedAs xs ys → SavedAs (x ∷ xs) (x ∷ ys)
  saved_return : {xs ys : Text} → SavedAs xs ys → SavedAs (10 ∷ xs) (13 ∷ 10 ∷ ys)

not_return : (x : ℕ) (l : Text) → eqb x 13 ≡ false → without_return (x ∷ l) ≡ x ∷ without_return l
unfolding without_return
not_return x [] e = rw e
not_return x (y ∷ ys) e = refl

onto_return : (x : ℕ) (r : List Text) → eqb x 13 ≡ false → map without_return (onto x r) ≡ onto x (map without_return r)
unfolding without_return
onto_return x [] e = ap (λ (l : Text). l ∷ []) (not_return x [] e)
onto_return x (l ∷ ls) e = ap (λ (k : Text). k ∷ map without_return ls) (not_return x l e)

saved_same : {xs ys : Text} → SavedAs xs ys → saved_lines xs ≡ saved_lines ys
unfolding cut without_return
saved_same saved_end = refl
saved_same saved_last = refl
saved_same (saved_byte {x} {xs} {ys} e h) = go (eqb x 10) (saved_same h)
  where
    go : (b : Bool) → saved_lines xs ≡ saved_lines ys → map without_return (cond b ([] ∷ cut xs) (onto x (cut xs))) ≡ map without_return (cond b ([] ∷ cut ys) (onto x (cut ys)))
    go true ih = ap (λ (r : List Text). [] ∷ r) ih
    go false ih = onto_return x (cut xs) e ∙ ap (onto x) ih ∙ sym (onto_return x (cut ys) e)
saved_same (saved_return h) = ap (λ (r : List Text). [] ∷ r) (saved_same h)

-- Paper 1: "The same facts saved either way, both within the length limit, load to the same tables"
pub saved_either_way : (limits : Limits) (xs ys query : Text) → SavedAs xs ys → length xs ≤ FACT_BYTES → length ys ≤ FACT_BYTES
    → SameAnswer (accept limits xs query) (accept limits ys query)
saved_either_way limits xs ys query h short short' = same_answer limits xs ys query (saved_same h) short short'

-- a text with byte 13 before every byte 10: "A broker's export ends each line with bytes 13 and 10"
abbrev pub with_returns : Text → Text
with_returns xs = gather (λ x. if eqb x 10 then (13 ∷ 10 ∷ []) else (x ∷ [])) xs

pub all_returns : (xs : Text) → all_of (λ x. not (eqb x 13)) xs ≡ true → SavedAs xs (with_returns xs)
unfolding gather all_of
all_returns [] h = saved_end
all_returns (x ∷ xs) h = go (eqb x 10) refl (eqb x 13) refl h (λ k. all_returns xs k)
  where
    go : (b : Bool) → eqb x 10 ≡ b → (c : Bool) → eqb x 13 ≡ c → not c && all_of (λ y. not (eqb y 13)) xs ≡ true → (all_of (λ y. not (eqb y 13)) xs ≡ true → SavedAs xs (with_returns xs))
        → SavedAs (x ∷ xs) (cond b (13 ∷ 10 ∷ []) (x ∷ []) ++ with_returns xs)
    go b d true e h ih = absurd (apart (sym h))
    go true d false e h ih = rw (eqb→eq x 10 (rw d tt)) (saved_return (ih h))
    go false d false e h ih = saved_byte e (ih h)
