use Prim.Native.Nat.{◌≤◌, ◌-◌}
use mathlib.Core.Path.{◌≡◌}
use lib.ListN.{length}
use Rattle.definition.specs.Limits.{ARITY}
use Rattle.facts.specs.Lines.{AllWithin}
use Rattle.facts.proofs.ElementLaws.{ReadTo}
use Rattle.facts.proofs.read_elements.Given as goal

abbrev pub invariant-loop-p : goal.invariant-loop-p
invariant-loop-p l = (l.j ≤ length l.l) × (l.f.name_len ≡ l.n) × AllWithin (length l.l) l.f × ReadTo l.l l.n l.f l.j

abbrev pub decreases-loop-p : goal.decreases-loop-p
decreases-loop-p l = ARITY - l.f.arity
