-- A statement's part of the words, and the tables of its closures zero again.
use Rattle.std.specs.Prelude.{ℕ, zero, suc, ◌+◌, Bool, ◌||◌, cond, List, eqb, leb, length, get_or, replicate}
use Rattle.std.proofs.lemmas.List.Edits.{sets}
use Rattle.words.specs.Fields.{kind_of, RANGE, NEXT, ASSIGN, TEST, JUMP, AGAIN, PRINT, CLOSURE}
use Rattle.eval.specs.Nodes.{c_of}

-- a statement's own word
unfoldable pub is_statement : ℕ → Bool
is_statement k = eqb k RANGE || (eqb k NEXT || (eqb k ASSIGN || (eqb k TEST || (eqb k JUMP || (eqb k AGAIN || eqb k PRINT)))))

-- the place of the first word of the statement at a place: just after the statement word before it
unfoldable pub start : List ℕ → ℕ → ℕ
start words zero = zero
start words (suc n) = let r = start words n in cond (is_statement (kind_of (get_or words n 0))) (suc n) r

module _ (firsts : List ℕ) (u : ℕ) where
  -- a CLOSURE word whose table lies in the store makes it zero; another word changes nothing
  unfoldable pub clear_word : List ℕ → ℕ → List ℕ → List ℕ
  clear_word nodes k s =
      let w = get_or nodes k 0 in
      let o = get_or firsts (16 + c_of w) 0 in
      cond (eqb (kind_of w) CLOSURE) (cond (leb (o + u) (length s)) (sets s o (replicate u 0)) s) s

  -- n words from place k on, one after another
  unfoldable pub clear_words : List ℕ → ℕ → ℕ → List ℕ → List ℕ
  clear_words nodes zero k s = s
  clear_words nodes (suc n) k s = clear_words nodes n (suc k) (clear_word nodes k s)
