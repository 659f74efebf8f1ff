-- The facts read again, for their tables: one fact after another.
use Rattle.std.specs.Prelude.{ℕ, ◌+◌, ◌-◌, ◌<◌, ◌≤◌, ◌≡◌, true, false, [], ◌∷◌, length, Option, Some, None}
use Rattle.definition.specs.Text.{Text, ascii, starts}
use Rattle.definition.specs.Answer.{ok}
use Rattle.facts.specs.Lines.{AllWithin, line_at, fact_of, role, says}
use Rattle.facts.specs.Words.{fact_at}
use Rattle.facts.specs.Reading.{line_facts, facts_from}
use Rattle.facts.specs.declared.LineFact.{LineFact}
use Rattle.facts.specs.declared.LineFact.TheVariants.{Has, Lacks, Last}
use Rattle.facts.specs.declared.FactLine.{FactLine}

-- what the line l gives, wherever it starts
abbrev pub FactOfLine : Text → LineFact → Type 0
FactOfLine l (Has f) = AllWithin (length l) f × ((i : ℕ) → says (ok (fact_of l i f)) ≡ role (line_at l i))
FactOfLine l Lacks = (i : ℕ) → (starts (ascii ".") l ≡ false) × (line_facts (line_at l i) ≡ [])
FactOfLine l Last = starts (ascii ".") l ≡ true

-- the facts from a place on are the next one and those from the place after its line on; the line has a byte at least, and an end
abbrev pub NextIs : Text → ℕ → Option (ℕ × FactLine × ℕ) → Type 0
NextIs facts at (Some (a, f, next)) =
    (facts_from facts at ≡ fact_at facts a f ∷ facts_from facts next) × (at ≤ a) × (a + 1 < next) × (a < length facts) × AllWithin (length facts - a) f
NextIs facts at None = facts_from facts at ≡ []
