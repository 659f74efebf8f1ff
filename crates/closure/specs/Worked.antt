-- The working table of a closure.
use Rattle.std.specs.Prelude.{ℕ, ◌<◌, ◌≡◌, ◌↔◌, List, [], ◌∷◌, T, length}
use Rattle.definition.specs.Text.{below}
use Rattle.definition.specs.Tables.{holds, through_all}
use Rattle.definition.proofs.Chains.{Chain}

-- ws is the table start after the nodes below k
pub record Worked (start : List ℕ) (k : ℕ) (ws : List ℕ) : Type 0 where
  -- every word: "node by node, ascending, adding arcs through that node"
  pub table : ws ≡ through_all (length start) (below k) start
  -- "exactly the pairs joined by a chain of e pairs whose inner elements are nodes already worked": both ways; the ends a and b are any
  pub exactly : (a b : ℕ) → a < length start → b < length start
      → T (holds (length start) ws (a ∷ b ∷ [])) ↔ Chain (λ x y. holds (length start) start (x ∷ y ∷ [])) k a b
