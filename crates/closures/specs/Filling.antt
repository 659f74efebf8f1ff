-- The store after the tables of the closures are filled.
use Rattle.std.specs.Prelude.{ℕ, zero, suc, ◌+◌, ◌%◌, cond, List, eqb, leb, length, get_or, take}
use Rattle.std.proofs.lemmas.List.Edits.{sets}
use Rattle.words.specs.Fields.{kind_of, p_of, CLOSURE}
use Rattle.eval.specs.Nodes.{Node, a_of, b_of, c_of, child_at}
use Rattle.eval.specs.Meaning.{world, closed}

module _ (firsts vs : List ℕ) (u : ℕ) where
  -- the closure of a node at two slots in the u words from o on; the words before o are what it reads
  abbrev pub fill_at : ℕ → Node → ℕ → ℕ → List ℕ → List ℕ
  fill_at o a x y s = sets s o (closed (world (take o s) firsts vs u) a x y)

  -- a CLOSURE word whose table lies in the store fills it; another word fills nothing
  unfoldable pub fill_word : List ℕ → ℕ → List ℕ → List ℕ
  fill_word nodes k s =
      let w = get_or nodes k 0 in
      let o = get_or firsts (16 + c_of w) 0 in
      cond (eqb (kind_of w) CLOSURE) (cond (leb (o + u) (length s)) (fill_at o (child_at nodes k (p_of w)) (a_of w % 8) (b_of w % 8) s) s) s

  -- n words from place k on, one after another
  unfoldable pub fill_words : List ℕ → ℕ → ℕ → List ℕ → List ℕ
  fill_words nodes zero k s = s
  fill_words nodes (suc n) k s = fill_words nodes n (suc k) (fill_word nodes k s)
