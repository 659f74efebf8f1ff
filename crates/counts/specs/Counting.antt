-- Counts of tables' words: one relation's anew, and all of them, one table after another.
use Rattle.std.specs.Prelude.{ℕ, suc, ◌+◌, ◌&&◌, cond, List, [], ◌∷◌, leb, ltb, length, set, take, drop}
use Rattle.definition.specs.Tables.{table_words}
use Rattle.definition.proofs.CountLaws.{all_ones}
use Rattle.parts.specs.Packed.{tag_of}

-- the count of relation k becomes the ones of its table of arity n, whose words start at off; a table of more than 4 columns, one past the
-- store's end and a relation that has no count change nothing
unfoldable pub recounted : List ℕ → ℕ → ℕ → ℕ → ℕ → List ℕ → List ℕ
recounted store off u n k cs =
    cond (leb n 4 && leb (off + table_words u n) (length store) && ltb k 16) (set cs k (all_ones (take (table_words u n) (drop off store)))) cs

-- the counts of relations from number i on, by their words, whose tables stand one after another from word off on
unfoldable pub counted : List ℕ → ℕ → ℕ → ℕ → List ℕ → List ℕ → List ℕ
counted store u i off [] cs = cs
counted store u i off (r ∷ rs) cs = counted store u (suc i) (off + table_words u (tag_of r)) rs (recounted store off u (tag_of r) i cs)
